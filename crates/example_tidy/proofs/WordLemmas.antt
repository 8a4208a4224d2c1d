-- What a step of the loop over a line does to its words.
use Rattle.std.proofs.Common.{◌≡◌, ◌∙◌, ℕ, ◌+◌, ◌-◌, ◌<◌, ◌≤◌, true, false, cond, not, List, [], ◌∷◌, ◌++◌, All, ap, length, drop, get_or, slice_range, arith, append-nil}
use Rattle.std.specs.List.{slice_split, filter}
use Rattle.std.specs.Char.{is_ascii_whitespace}
use Rattle.std.proofs.Math.ListN.{drop_of_length-le}
use Rattle.std.proofs.lemmas.Bool.{ne_eqb}
use Rattle.std.proofs.lemmas.List.{drop_more, get_or-drop, get_or-take}
use Rattle.std.proofs.lemmas.List.Elements.{All-from_get_or}
use Rattle.std.proofs.lemmas.List.Folds.{drop_split}
use Rattle.std.proofs.lemmas.List.Splits.{slice_split_at, slice_split_none}
use Rattle.std.proofs.lemmas.Grind.{common_steps}
use Rattle.tinyvec_slots.proofs.Lists.{length-slice_range}
use Rattle.example_tidy.specs.Tidy.{has_bytes, words}

-- no blank from one place up to another
abbrev pub NoneIn : List ℕ → ℕ → ℕ → Type 0
NoneIn line start end = (k : ℕ) → k < end → start ≤ k → is_ascii_whitespace (get_or line k 0) ≡ false

plain : (line : List ℕ) (start end : ℕ) → end ≤ length line → NoneIn line start end
    → All (λ byte. is_ascii_whitespace byte ≡ false) (slice_range line start end)
plain line start end inside none = All-from_get_or (λ byte. is_ascii_whitespace byte ≡ false) _ 0 (λ k below.
    let near : k < end - start = grind (arith, common_steps) in
    rw (get_or-take (end - start) (drop start line) k 0 near, get_or-drop start line k 0) (none (start + k) (omega arith) (omega arith)))

-- a part is a word where it has bytes
pub one_part : (part : List ℕ) (rest : List (List ℕ)) → 0 < length part → filter has_bytes (part ∷ rest) ≡ part ∷ filter has_bytes rest
one_part part rest some =
    ap (λ b. cond (not b) (part ∷ filter has_bytes rest) (filter has_bytes rest)) (ne_eqb (length part) 0 (omega arith))

-- a part ends at a blank
part_at : (line : List ℕ) (start i : ℕ) → start ≤ i → i < length line → NoneIn line start i → is_ascii_whitespace (get_or line i 0) ≡ true
    → words (drop start line) ≡ filter has_bytes (slice_range line start i ∷ slice_split is_ascii_whitespace (drop (i + 1) line))
part_at line start i order inside none here =
    ap words (drop_split line start i order ∙ ap (λ rest. slice_range line start i ++ rest) (drop_more line i 0 inside))
    ∙ ap (filter has_bytes) (slice_split_at is_ascii_whitespace (slice_range line start i) (get_or line i 0) (drop (i + 1) line) (plain line start i (omega arith) none) here)

-- a word ends at a blank
pub word_at : (line : List ℕ) (start i : ℕ) → start < i → i < length line → NoneIn line start i → is_ascii_whitespace (get_or line i 0) ≡ true
    → words (drop start line) ≡ slice_range line start i ∷ words (drop (i + 1) line)
word_at line start i order inside none here =
    part_at line start i (omega arith) inside none here
    ∙ one_part (slice_range line start i) (slice_split is_ascii_whitespace (drop (i + 1) line)) (omega (arith, length-slice_range line start i))

-- a blank behind a blank
pub blank_at : (line : List ℕ) (start i : ℕ) → start ≤ i → i ≤ start → i < length line → is_ascii_whitespace (get_or line i 0) ≡ true
    → words (drop start line) ≡ words (drop (i + 1) line)
blank_at line start i order least inside here =
    ap words (ap (λ n. drop n line) (omega arith) ∙ drop_more line i 0 inside)
    ∙ ap (filter has_bytes) (slice_split_at is_ascii_whitespace [] (get_or line i 0) (drop (i + 1) line) (λ k d below. absurd (omega arith)) here)

-- the last word ends with the line
pub word_to_end : (line : List ℕ) (start : ℕ) → start < length line → NoneIn line start (length line)
    → words (drop start line) ≡ slice_range line start (length line) ∷ []
word_to_end line start order none =
    ap words (drop_split line start (length line) (omega arith) ∙ ap (λ rest. slice_range line start (length line) ++ rest) (drop_of_length-le line (omega arith)) ∙ append-nil _)
    ∙ ap (filter has_bytes) (slice_split_none is_ascii_whitespace (slice_range line start (length line)) (plain line start (length line) (omega arith) none))
    ∙ one_part (slice_range line start (length line)) [] (omega (arith, length-slice_range line start (length line)))
