-- What a step does to squares that were read in part.
use Rattle.std.proofs.Common.{◌≡◌, ◌∙◌, ℕ, zero, suc, ◌+◌, ◌==◌, not, nat_lt, List, [], ◌∷◌, ◌++◌, map, reverse, length, drop, get_or, if◌then◌else◌, Some, sym, ap, arith, append_assoc}
use Rattle.std.proofs.lemmas.Bool.{lt-ltb}
use Rattle.std.proofs.lemmas.List.{append-nil, length-append, length-map, length-reverse, map-append, reverse-append, take-append-drop}
use Rattle.std.proofs.Math.Dec.{eqb-suc-zero}
use Rattle.tinyvec_array.specs.ArrayVec.{items, items_len, spare}
use Rattle.example_nodes.specs.Machine.{followed_by}
use Rattle.example_nodes.specs.Squares.{placed, unfolded, folded, full_fault, place_fault, close_fault}
use Rattle.example_nodes.specs.Parts.{part_text, parts_text, vec_text, reading_of}
use Rattle.example_nodes.specs.declared.squares.SquareParser.{SquareParser}
use Rattle.example_nodes.specs.declared.parse_error.Fault.TheVariants.{NotOpen}
use Rattle.example_nodes.proofs.Rejoined.{outer_push, rejoined, none_open}
use Rattle.example_nodes.proofs.Texts.{Part, Parts, text_push}

abbrev outer_text : List Parts → List ℕ
outer_text vs = followed_by 91 (map vec_text vs)

abbrev counts : List Parts → List ℕ
counts vs = reverse (map items_len vs)

counts_push : (vs : List Parts) (v : Parts) → counts (vs ++ v ∷ []) ≡ items_len v ∷ counts vs
counts_push vs v = ap reverse (map-append items_len vs (v ∷ [])) ∙ reverse-append (map items_len vs) (items_len v ∷ [])

pub depth_is : (vs : List Parts) → length (counts vs) ≡ length vs
depth_is vs = length-reverse (map items_len vs) ∙ length-map vs items_len

-- a part is placed
pub part_placed : (p q : SquareParser) (part : Part) → q.outer ≡ p.outer → items q.parts ≡ items p.parts ++ part ∷ [] → reading_of q ≡ placed (reading_of p) (part_text part)
part_placed p q part outer is =
    let before = outer_text p.outer.items in
    let all = ap (λ o. outer_text o.items ++ vec_text q.parts) outer
    ∙ ap (λ text. before ++ text) (ap parts_text is ∙ text_push (items p.parts) part)
    ∙ sym (append_assoc before (vec_text p.parts) (part_text part)) in
    let count = ap length is ∙ length-append (items p.parts) (part ∷ []) in
    λ i. record { text = all i; parts = count i; outer = counts (outer i).items }

-- a bracket opens
pub square_opens : (p q : SquareParser) (v : Parts) → q.outer.items ≡ p.outer.items ++ v ∷ [] → v ≡ p.parts → items q.parts ≡ [] → reading_of q ≡ unfolded (reading_of p)
square_opens p q v is before none =
    let outer = outer_text p.outer.items in
    let all = ap (λ ps. outer_text q.outer.items ++ parts_text ps) none
    ∙ append-nil (outer_text q.outer.items)
    ∙ ap outer_text is
    ∙ outer_push 91 vec_text p.outer.items v
    ∙ ap (λ u. (outer ++ vec_text u) ++ 91 ∷ []) before in
    let around = ap counts is ∙ counts_push p.outer.items v ∙ ap (λ u. items_len u ∷ counts p.outer.items) before in
    λ i. record { text = all i; parts = length (none i); outer = around i }

-- a bracket closes: what precedes it goes on
module _ (p r : SquareParser) (is : p.outer.items ≡ r.outer.items ++ r.parts ∷ []) where
  around : counts p.outer.items ≡ items_len r.parts ∷ counts r.outer.items
  around = ap counts is ∙ counts_push r.outer.items r.parts

  pub closes_as_placed : close_fault (reading_of p) ≡ place_fault (reading_of r)
  closes_as_placed =
      ap (λ ns. if length ns == 0 then Some NotOpen else full_fault (get_or ns 0 0)) around
      ∙ ap (λ none. if none then Some NotOpen else place_fault (reading_of r)) (eqb-suc-zero (length (counts r.outer.items)))

  pub square_closes : placed (reading_of r) (91 ∷ (vec_text p.parts ++ 93 ∷ [])) ≡ folded (reading_of p)
  square_closes =
      let outer = outer_text r.outer.items in
      let before = vec_text r.parts in
      let inner = vec_text p.parts in
      let all = ap (λ text. (text ++ inner) ++ 93 ∷ []) (ap outer_text is ∙ outer_push 91 vec_text r.outer.items r.parts)
      ∙ rejoined 91 93 outer before inner
      ∙ sym (append_assoc outer before (91 ∷ (inner ++ 93 ∷ []))) in
      sym (λ i. record { text = all i; parts = get_or (around i) 0 0 + 1; outer = drop 1 (around i) })

-- with no bracket open the text is that of the parts
pub all_folded : (p : SquareParser) → length p.outer.items ≡ 0 → (reading_of p).text ≡ vec_text p.parts
all_folded p none = ap (λ text. text ++ vec_text p.parts) (none_open 91 vec_text p.outer.items none)

-- whether there is room
room : (used left : ℕ) → used + left ≡ 4 → not (left == 0) ≡ nat_lt used 4
room used zero is = let all : used ≡ 4 = omega (arith, is) in sym (ap (λ n. nat_lt n 4) all)
room used (suc left) is = ap not (eqb-suc-zero left) ∙ sym (lt-ltb used 4 (omega (arith, is)))

four_slots : (v : Parts) → length v.slots ≡ 4 → items_len v + length (spare v) ≡ 4
four_slots v four = sym (length-append (items v) (spare v)) ∙ ap length (take-append-drop v.len.len v.slots) ∙ four

pub has_room : (v : Parts) → length v.slots ≡ 4 → not (length (spare v) == 0) ≡ nat_lt (items_len v) 4
has_room v four = room (items_len v) (length (spare v)) (four_slots v four)
