-- A text that spells labels spells no others.
use Rattle.std.proofs.Common.{◌≡◌, ◌≢◌, ◌∙◌, ℕ, ◌+◌, ◌-◌, ◌<◌, ◌==◌, Bool, true, false, if◌then◌else◌, inl, inr, List, [], ◌∷◌, ◌++◌, All, Option, Some, None, ap, sym, refl, length, take, slice_index, arith, length-append}
use Rattle.std.proofs.Math.Seq.{get_or-append_seam, take-append_seam}
use Rattle.std.proofs.lemmas.List.{get_or-append-add}
use Rattle.std.proofs.lemmas.List.Elements.{All-head, All-tail, All-weaker, All-get_or}
use Rattle.std.proofs.lemmas.List.Splits.{slice_split_at, slice_split_none}
use Rattle.std.proofs.lemmas.Bool.{eqb-true, eqb-false, ne_eqb}
use Rattle.std.specs.List.{join_with_byte}
use Rattle.example_dns_query.specs.Name.{Spells, SpellsOnly, IsLabel, labels_in, labels_of}
use Rattle.example_dns_query.specs.Parts.{parts}
use Rattle.example_dns_query.proofs.NameLemmas.{spells}
use Rattle.example_dns_query.proofs.PartsLemmas.{Lacks}

undotted : (text : List ℕ) → Lacks 46 text → All (λ byte. (byte == 46) ≡ false) text
undotted text lacks = All-weaker (λ byte. byte ≢ 46) (λ byte. (byte == 46) ≡ false) (λ byte other. ne_eqb byte 46 other) text lacks

parts-join : (labels : List (List ℕ)) → 0 < length labels → All (Lacks 46) labels → parts 46 (join_with_byte 46 labels) ≡ labels
parts-join [] some lacks = absurd (omega arith)
parts-join (label ∷ []) some lacks = slice_split_none (λ byte. byte == 46) label (undotted label (All-head (Lacks 46) label [] lacks))
parts-join (label ∷ next ∷ labels) some lacks =
    slice_split_at (λ byte. byte == 46) label 46 (join_with_byte 46 (next ∷ labels)) (undotted label (All-head (Lacks 46) label (next ∷ labels) lacks)) refl
    ∙ ap (λ rest. label ∷ rest) (parts-join (next ∷ labels) (omega arith) (All-tail (Lacks 46) label (next ∷ labels) lacks))

-- the text has a byte, and no dot at its end
record Unended (text : List ℕ) : Type 0 where
  some : 0 < length text
  last : slice_index text (length text - 1) ≢ 46

Unended-behind : (front text : List ℕ) → Unended text → Unended (front ++ text)
Unended-behind front text ends =
    let both = length-append front text in
    let some = ends.some in
    let at : length (front ++ text) - 1 ≡ length front + (length text - 1) = omega (arith, both, some) in
    let same : slice_index (front ++ text) (length (front ++ text) - 1) ≡ slice_index text (length text - 1) =
    ap (λ i. slice_index (front ++ text) i) at ∙ get_or-append-add front text (length text - 1) 0 in
    record { some = omega (arith, both, some); last = λ dot. ends.last (sym same ∙ dot) }

Unended-join : (labels : List (List ℕ)) → 0 < length labels → All IsLabel labels → All (Lacks 46) labels → Unended (join_with_byte 46 labels)
Unended-join [] some are lacks = absurd (omega arith)
Unended-join (label ∷ []) some are lacks =
    let is : (0 < length label) = (All-head IsLabel label [] are).0 in
    record { some = is; last = All-get_or (λ byte. byte ≢ 46) label (length label - 1) 0 (omega (arith, is)) (All-head (Lacks 46) label [] lacks) }
Unended-join (label ∷ next ∷ labels) some are lacks =
    let rest = join_with_byte 46 (next ∷ labels) in
    let ends = Unended-join (next ∷ labels) (omega arith) (All-tail IsLabel label (next ∷ labels) are) (All-tail (Lacks 46) label (next ∷ labels) lacks) in
    Unended-behind label (46 ∷ rest) (Unended-behind (46 ∷ []) rest ends)

-- the body of a text, with the three tests in hand
abbrev body_by : Bool → Bool → Bool → List ℕ → Option (List ℕ)
body_by is_one is_dot ends text = if is_one then (if is_dot then None else Some text) else Some (if ends then take (length text - 1) text else text)

unended_by : (text : List ℕ) (is_one is_dot ends : Bool) → (length text == 1) ≡ is_one → (slice_index text 0 == 46) ≡ is_dot
    → (slice_index text (length text - 1) == 46) ≡ ends → Unended text → body_by is_one is_dot ends text ≡ Some text
unended_by text true true ends one dot last unended =
    let long = eqb-true (length text) 1 one in
    let at : length text - 1 ≡ 0 = omega (arith, long) in
    absurd (unended.last (ap (λ i. slice_index text i) at ∙ eqb-true (slice_index text 0) 46 dot))
unended_by text true false ends one dot last unended = refl
unended_by text false is_dot true one dot last unended = absurd (unended.last (eqb-true (slice_index text (length text - 1)) 46 last))
unended_by text false is_dot false one dot last unended = refl

ended_by : (text : List ℕ) (is_one is_dot ends : Bool) → (length (text ++ 46 ∷ []) == 1) ≡ is_one
    → (slice_index (text ++ 46 ∷ []) (length (text ++ 46 ∷ []) - 1) == 46) ≡ ends → 0 < length text
    → body_by is_one is_dot ends (text ++ 46 ∷ []) ≡ Some text
ended_by text true is_dot ends one last some =
    let long = eqb-true (length (text ++ 46 ∷ [])) 1 one in
    let both = length-append text (46 ∷ []) in
    absurd (omega (arith, long, both, some))
ended_by text false is_dot true one last some =
    let both = length-append text (46 ∷ []) in
    let at : length (text ++ 46 ∷ []) - 1 ≡ length text = omega (arith, both) in
    ap Some (ap (λ n. take n (text ++ 46 ∷ [])) at ∙ take-append_seam text (46 ∷ []))
ended_by text false is_dot false one last some =
    let both = length-append text (46 ∷ []) in
    let at : length (text ++ 46 ∷ []) - 1 ≡ length text = omega (arith, both) in
    absurd (eqb-false (slice_index (text ++ 46 ∷ []) (length (text ++ 46 ∷ []) - 1)) 46 last
    (ap (λ i. slice_index (text ++ 46 ∷ []) i) at ∙ get_or-append_seam text 46 [] 0))

labels_of-spelled : (text : List ℕ) (labels : List (List ℕ)) → 0 < length labels → All IsLabel labels → Spells text labels → labels_of text ≡ labels
labels_of-spelled text labels some are spelled =
    let joined = join_with_byte 46 labels in
    let ends = Unended-join labels some are spelled.undotted in
    let cut = parts-join labels some spelled.undotted in
    elim spelled.joined [
      | inl is ↦ ap labels_of is ∙ ap labels_in (unended_by joined (length joined == 1) (slice_index joined 0 == 46) (slice_index joined (length joined - 1) == 46) refl refl refl ends) ∙ cut
      | inr is ↦ ap labels_of is ∙ ap labels_in (ended_by joined (length (joined ++ 46 ∷ []) == 1) (slice_index (joined ++ 46 ∷ []) 0 == 46) (slice_index (joined ++ 46 ∷ []) (length (joined ++ 46 ∷ []) - 1) == 46) refl refl ends.some) ∙ cut
    ]

pub spells_only : (text : List ℕ) → SpellsOnly text (labels_of text)
spells_only text = record { spelled = spells text; only = λ labels some are spelled. labels_of-spelled text labels some are spelled }
