-- What splitting a list where a test passes, and joining again, do to it.
use Rattle.std.proofs.Common.{◌≡◌, ◌∙◌, ℕ, Bool, true, false, cond, List, [], ◌∷◌, ap, refl, All}
use Rattle.std.specs.List.{slice_split, onto_first, filter, join_with_byte}
use Rattle.std.proofs.lemmas.List.Elements.{All-nil, All-cons, All-head, All-tail, All-append}
use Rattle.std.proofs.lemmas.List.Splits.{slice_split_none, slice_split_at}

-- what passes from the items to their list passes to the front part too
All-onto_first : {X : Type 0} (Q : X → Type 0) (x : X) (parts : List (List X)) → Q x → All (All Q) parts → All (All Q) (onto_first x parts)
All-onto_first Q x [] q each = All-cons (All Q) (x ∷ []) [] (All-cons Q x [] q (All-nil Q)) (All-nil (All Q))
All-onto_first Q x (part ∷ parts) q each =
    All-cons (All Q) (x ∷ part) parts (All-cons Q x part q (All-head (All Q) part parts each)) (All-tail (All Q) part parts each)

-- what holds of the items that the test refuses holds of all items of the parts
pub All-split : {X : Type 0} (p : X → Bool) (Q : X → Type 0) (xs : List X) → All (λ x. p x ≡ false → Q x) xs → All (All Q) (slice_split p xs)
All-split p Q [] each = All-cons (All Q) [] [] (All-nil Q) (All-nil (All Q))
All-split p Q (x ∷ xs) each = by_test (p x) refl (All-split p Q xs (All-tail (λ y. p y ≡ false → Q y) x xs each))
  where
    by_test : (b : Bool) → p x ≡ b → All (All Q) (slice_split p xs) → All (All Q) (cond b ([] ∷ slice_split p xs) (onto_first x (slice_split p xs)))
    by_test true is rest = All-cons (All Q) [] (slice_split p xs) (All-nil Q) rest
    by_test false is rest = All-onto_first Q x _ (All-head (λ y. p y ≡ false → Q y) x xs each is) rest

-- what holds of the byte between the pieces, and of all bytes of the pieces, holds of all bytes of the joined text
pub All-join : (Q : ℕ → Type 0) (c : ℕ) (pieces : List (List ℕ)) → Q c → All (All Q) pieces → All Q (join_with_byte c pieces)
All-join Q c [] q each = All-nil Q
All-join Q c (x ∷ []) q each = All-head (All Q) x [] each
All-join Q c (x ∷ y ∷ pieces) q each =
    All-append Q x _ (All-head (All Q) x (y ∷ pieces) each)
    (All-cons Q c _ q (All-join Q c (y ∷ pieces) q (All-tail (All Q) x (y ∷ pieces) each)))

-- pieces with no separator in them, of which none is empty, are found again where they were joined
pub filter_split_join : (p : ℕ → Bool) (keep : List ℕ → Bool) (c : ℕ) (pieces : List (List ℕ)) → p c ≡ true → keep [] ≡ false
    → All (All (λ b. p b ≡ false)) pieces → All (λ piece. keep piece ≡ true) pieces
    → filter keep (slice_split p (join_with_byte c pieces)) ≡ pieces
filter_split_join p keep c [] cuts empty plain kept = ap (λ b. cond b ([] ∷ []) []) empty
filter_split_join p keep c (x ∷ []) cuts empty plain kept =
    ap (filter keep) (slice_split_none p x (All-head (All (λ b. p b ≡ false)) x [] plain))
    ∙ ap (λ b. cond b (x ∷ []) []) (All-head (λ piece. keep piece ≡ true) x [] kept)
filter_split_join p keep c (x ∷ y ∷ pieces) cuts empty plain kept =
    let Plain = λ (piece : List ℕ). All (λ b. p b ≡ false) piece in
    let Kept = λ (piece : List ℕ). keep piece ≡ true in
    let rest = join_with_byte c (y ∷ pieces) in
    ap (filter keep) (slice_split_at p x c rest (All-head Plain x (y ∷ pieces) plain) cuts)
    ∙ ap (λ b. cond b (x ∷ filter keep (slice_split p rest)) (filter keep (slice_split p rest))) (All-head Kept x (y ∷ pieces) kept)
    ∙ ap (λ more. x ∷ more) (filter_split_join p keep c (y ∷ pieces) cuts empty (All-tail Plain x (y ∷ pieces) plain) (All-tail Kept x (y ∷ pieces) kept))
