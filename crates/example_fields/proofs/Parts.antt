-- What a step of the loop does to the parts of a line.
use Rattle.std.proofs.Common.{◌≡◌, ◌≢◌, ◌∙◌, ℕ, suc, ◌+◌, ◌-◌, ◌<◌, ◌≤◌, ◌==◌, false, eq-eqb, List, [], ◌∷◌, ◌++◌, All, ap, sym, refl, map, length, drop, get_or, slice_range, arith, add-one, append-nil, append_assoc, drop-cons, length-append}
use Rattle.std.proofs.Math.ListN.{drop_of_length-le}
use Rattle.std.proofs.lemmas.List.{map-append, length-map, get_or-drop, get_or-take, take-append-drop}
use Rattle.std.proofs.lemmas.List.Elements.{All-from_get_or}
use Rattle.std.proofs.lemmas.List.Folds.{drop_split}
use Rattle.std.proofs.lemmas.List.Splits.{slice_split_at, slice_split_none, length-slice_split}
use Rattle.std.proofs.lemmas.Grind.{common_steps}
use Rattle.std.proofs.lemmas.Bool.{ne_eqb}
use Rattle.tinyvec_array.specs.ArrayVec.{items, items_len, spare}
use Rattle.tinyvec_array.specs.declared.array_vec.ArrayVec.{ArrayVec}
use Rattle.tinyvec_array.specs.declared.bound.UpTo.{UpTo}
use Rattle.example_fields.specs.declared.Field.{Field}
use Rattle.example_fields.specs.Fields.{bytes_of, parts}

-- no separator from one place up to another
abbrev pub NoneIn : ℕ → List ℕ → ℕ → ℕ → Type 0
NoneIn s line start end = (k : ℕ) → k < end → start ≤ k → get_or line k 0 ≢ s

plain : (s : ℕ) (line : List ℕ) (start end : ℕ) → end ≤ length line → NoneIn s line start end
    → All (λ byte. (byte == s) ≡ false) (slice_range line start end)
plain s line start end inside none = All-from_get_or (λ byte. (byte == s) ≡ false) _ 0 (λ k below.
    let near : k < end - start = grind (arith, common_steps) in
    rw (get_or-take (end - start) (drop start line) k 0 near, get_or-drop start line k 0) (ne_eqb _ s (none (start + k) (omega arith) (omega arith))))

-- a part ends at a separator
parts_at : (s : ℕ) (line : List ℕ) (start i : ℕ) → start ≤ i → i < length line
    → NoneIn s line start i → get_or line i 0 ≡ s
    → parts s (drop start line) ≡ slice_range line start i ∷ parts s (drop (i + 1) line)
parts_at s line start i order inside none here =
    ap (parts s) (drop_split line start i order ∙ ap (λ rest. slice_range line start i ++ rest) (drop-cons line i 0 inside))
    ∙ slice_split_at (λ byte. byte == s) (slice_range line start i) (get_or line i 0) (drop (suc i) line) (plain s line start i (omega arith) none) (eq-eqb _ _ here)
    ∙ ap (λ rest. slice_range line start i ∷ parts s rest) (rw add-one refl)

-- the last part ends with the line
parts_to_end : (s : ℕ) (line : List ℕ) (start : ℕ) → start ≤ length line → NoneIn s line start (length line)
    → parts s (drop start line) ≡ slice_range line start (length line) ∷ []
parts_to_end s line start order none =
    ap (parts s) (drop_split line start (length line) order ∙ ap (λ rest. slice_range line start (length line) ++ rest) (drop_of_length-le line (omega arith)) ∙ append-nil _)
    ∙ slice_split_none (λ byte. byte == s) (slice_range line start (length line)) (plain s line start (length line) (omega arith) none)

-- one field more
one_more : (line : List ℕ) (fields more : List Field) (field : Field) (left : List (List ℕ)) → more ≡ fields ++ field ∷ []
    → map (bytes_of line) more ++ left ≡ map (bytes_of line) fields ++ bytes_of line field ∷ left
one_more line fields more field left grown =
    ap (λ all. map (bytes_of line) all ++ left) grown ∙ ap (λ all. all ++ left) (map-append (bytes_of line) fields (field ∷ []))
    ∙ append_assoc (map (bytes_of line) fields) (bytes_of line field ∷ []) left

-- the field that ends at a separator was pushed
pub pushed : (s : ℕ) (line : List ℕ) (fields more : List Field) (start i : ℕ) → start ≤ i → i < length line
    → NoneIn s line start i → get_or line i 0 ≡ s → more ≡ fields ++ record { start = start; end = i } ∷ []
    → map (bytes_of line) fields ++ parts s (drop start line) ≡ parts s line
    → map (bytes_of line) more ++ parts s (drop (i + 1) line) ≡ parts s line
pushed s line fields more start i order inside none here grown so_far =
    one_more line fields more _ (parts s (drop (i + 1) line)) grown
    ∙ ap (λ left. map (bytes_of line) fields ++ left) (sym (parts_at s line start i order inside none here)) ∙ so_far

-- the last field was pushed
pub pushed_last : (s : ℕ) (line : List ℕ) (fields more : List Field) (start : ℕ) → start ≤ length line
    → NoneIn s line start (length line) → more ≡ fields ++ record { start = start; end = length line } ∷ []
    → map (bytes_of line) fields ++ parts s (drop start line) ≡ parts s line
    → map (bytes_of line) more ≡ parts s line
pushed_last s line fields more start order none grown so_far =
    sym (append-nil _) ∙ one_more line fields more _ [] grown
    ∙ ap (λ left. map (bytes_of line) fields ++ left) (sym (parts_to_end s line start order none)) ∙ so_far

-- some part is left: there are fewer fields than parts
pub fewer : (s : ℕ) (line rest : List ℕ) (fields : List Field)
    → map (bytes_of line) fields ++ parts s rest ≡ parts s line → length fields < length (parts s line)
fewer s line rest fields so_far =
    let many = ap length so_far in
    let some = length-slice_split (λ byte. byte == s) rest in
    let joined = length-append (map (bytes_of line) fields) (parts s rest) in
    let mapped = length-map fields (bytes_of line) in
    omega arith

-- the fields and the spare slots are all slots
pub are_all : (v : ArrayVec (List Field) (UpTo 8)) → items_len v + length (spare v) ≡ length v.slots
are_all v = sym (length-append (items v) (spare v)) ∙ ap length (take-append-drop v.len.len v.slots)
