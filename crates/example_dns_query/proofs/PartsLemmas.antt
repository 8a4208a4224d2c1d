-- The parts of a text that is cut at a byte.
use Rattle.std.proofs.Common.{◌≡◌, ◌≢◌, ◌∙◌, ℕ, suc, ◌+◌, ◌<◌, ◌≤◌, ◌==◌, Bool, true, false, eq-eqb, List, [], ◌∷◌, ◌++◌, All, ap, sym, refl, length, take, drop, get_or, arith, add-one, drop-cons, take-append-drop}
use Rattle.std.proofs.lemmas.List.{get_or-take}
use Rattle.std.proofs.lemmas.List.Elements.{All-from_get_or, All-nil, All-cons, All-head, All-tail}
use Rattle.std.proofs.lemmas.List.Splits.{slice_split_at, slice_split_none, slice_split-cons_yes, slice_split-cons_no, length-slice_split}
use Rattle.std.proofs.lemmas.Grind.{common_steps}
use Rattle.std.proofs.lemmas.Bool.{ne_eqb, eqb-false}
use Rattle.std.specs.List.{onto_first}
use Rattle.example_dns_query.specs.Parts.{parts}

plain : (s : ℕ) (text : List ℕ) (end : ℕ) → end ≤ length text → ((k : ℕ) → k < end → get_or text k 0 ≢ s) → All (λ byte. (byte == s) ≡ false) (take end text)
plain s text end inside none = All-from_get_or (λ byte. (byte == s) ≡ false) _ 0 (λ k below.
    let near : k < end = grind (arith, common_steps) in
    rw (get_or-take end text k 0 near) (ne_eqb _ s (none k near)))

-- the first part ends at the first separator
pub first_at : (s : ℕ) (text : List ℕ) (i : ℕ) → i < length text → ((k : ℕ) → k < i → get_or text k 0 ≢ s) → get_or text i 0 ≡ s
    → parts s text ≡ take i text ∷ parts s (drop (i + 1) text)
first_at s text i inside none here =
    let step : drop (suc i) text ≡ drop (i + 1) text = rw add-one refl in
    ap (parts s) (sym (take-append-drop i text) ∙ ap (λ rest. take i text ++ rest) (drop-cons text i 0 inside))
    ∙ slice_split_at (λ byte. byte == s) (take i text) (get_or text i 0) (drop (suc i) text) (plain s text i (omega arith) none) (eq-eqb _ _ here)
    ∙ ap (λ rest. take i text ∷ parts s rest) step

-- a text with no separator is one part
pub first_last : (s : ℕ) (text : List ℕ) → ((k : ℕ) → k < length text → get_or text k 0 ≢ s) → parts s text ≡ text ∷ []
first_last s text none = slice_split_none (λ byte. byte == s) text (All-from_get_or (λ byte. (byte == s) ≡ false) _ 0 (λ k below. ne_eqb _ s (none k below)))

pub some_part : (s : ℕ) (text : List ℕ) → 0 < length (parts s text)
some_part s text = omega (arith, length-slice_split (λ byte. byte == s) text)

-- no byte of the text is the separator
abbrev pub Lacks : ℕ → List ℕ → Type 0
Lacks s text = All (λ byte. byte ≢ s) text

Lacks-cons : (s byte : ℕ) (text : List ℕ) → byte ≢ s → Lacks s text → Lacks s (byte ∷ text)
Lacks-cons s byte text other lacks = All-cons (λ byte. byte ≢ s) byte text other lacks

Lacks-onto_first : (s byte : ℕ) (texts : List (List ℕ)) → byte ≢ s → All (Lacks s) texts → All (Lacks s) (onto_first byte texts)
Lacks-onto_first s byte [] other lack = All-cons (Lacks s) (byte ∷ []) [] (Lacks-cons s byte [] other (All-nil (λ byte. byte ≢ s))) (All-nil (Lacks s))
Lacks-onto_first s byte (text ∷ texts) other lack =
    All-cons (Lacks s) (byte ∷ text) texts (Lacks-cons s byte text other (All-head (Lacks s) text texts lack)) (All-tail (Lacks s) text texts lack)

Lacks-more : (s byte : ℕ) (text : List ℕ) (b : Bool) → (byte == s) ≡ b → All (Lacks s) (parts s text) → All (Lacks s) (parts s (byte ∷ text))
Lacks-more s byte text true is lack = rw (slice_split-cons_yes (λ byte. byte == s) byte text is) (All-cons (Lacks s) [] (parts s text) (All-nil (λ byte. byte ≢ s)) lack)
Lacks-more s byte text false is lack = rw (slice_split-cons_no (λ byte. byte == s) byte text is) (Lacks-onto_first s byte (parts s text) (eqb-false byte s is) lack)

-- no part has the separator
pub Lacks-parts : (s : ℕ) (text : List ℕ) → All (All (λ byte. byte ≢ s)) (parts s text)
Lacks-parts s [] = All-cons (Lacks s) [] [] (All-nil (λ byte. byte ≢ s)) (All-nil (Lacks s))
Lacks-parts s (byte ∷ text) = Lacks-more s byte text (byte == s) refl (Lacks-parts s text)
