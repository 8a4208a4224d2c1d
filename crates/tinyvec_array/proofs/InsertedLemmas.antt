-- Lemmas on a vector over slots once an item was put in.
use Rattle.std.proofs.Common.{◌≡◌, ℕ, ◌+◌, ◌<◌, ◌≤◌, List, ◌∷◌, ◌++◌, length, take, drop, insert, set, get_or, sym, ap, ◌∙◌, arith, append_assoc, length-append, length-drop, length-take-le, take_at, drop_at}
use Rattle.std.proofs.lemmas.List.{set_at, places, drop-drop}
use Rattle.std.proofs.lemmas.List.Edits.{length-insert}
use Rattle.tinyvec_slots.proofs.BorderLemmas.{list_to, spare_from}
use Rattle.tinyvec_array.specs.ArrayVec.{slots_of, SameLender}
use Rattle.tinyvec_array.specs.View.{view, Becomes, NothingVacated}
use Rattle.tinyvec_array.specs.ViewLaws.{becomes, same_place}
use Rattle.tinyvec_array.proofs.RuleLemmas.{rule_used}
use Rattle.tinyvec_array.specs.Lends.{at_slots, inserted_at}
use Rattle.tinyvec_array.specs.declared.slots.Slots as Storage
use Rattle.tinyvec_array.specs.declared.array_vec.ArrayVec.{ArrayVec}
use Rattle.tinyvec_array.proofs.ViewLemmas.{parts_of}

-- n is how long the list is, and k the vector's `len`
pub put_in_parts : {X : Type 0} (k : ℕ) (xs : List X) (n : ℕ) (is : n ≡ length (take k xs)) (i : ℕ) (x : X)
    → insert (take n xs) i x ++ drop (n + 1) xs ≡ insert (take k xs) i x ++ drop 1 (drop k xs)
put_in_parts k xs n is i x = cc (list_to k xs n is, spare_from k xs n is, drop-drop 1 n xs)

module _ {S T L : Type 0} (g : Storage.Ghosts S T L) (v : ArrayVec S L) (i : ℕ) (x : T) (le : i ≤ length (view g v).items) where
  holds : g.slots (inserted_at g v i x).slots ≡ insert (view g v).items i x ++ drop 1 (view g v).spare
  holds = g.slots_written v.slots (insert (view g v).items i x ++ drop 1 (view g v).spare)

  long : length (insert (view g v).items i x) ≡ length (view g v).items + 1
  long = length-insert (view g v).items i x le

  pub inserted_becomes : g.Counts (slots_of g v) → 0 < length (view g v).spare
      → Becomes NothingVacated (view g v) (view g (inserted_at g v i x)) (insert (view g v).items i x)
  inserted_becomes all room =
      let n = length (view g v).items + 1 in
      let list = insert (view g v).items i x in
      let behind = drop 1 (view g v).spare in
      let count = ap length holds ∙ length-append list behind in
      let is = g.count_of n (slots_of g v) all (omega (arith, parts_of g v, room)) in
      let lender : SameLender g v (inserted_at g v i x) = record {
        same_reference = g.name_kept v.slots (list ++ behind);
        slot_count = omega (arith, count, long, length-drop 1 (view g v).spare, parts_of g v, room);
      } in
      let listed = ap (λ k. take k (g.slots (inserted_at g v i x).slots)) is ∙ ap (take n) holds ∙ take_at list behind n long in
      let spared = ap (λ k. drop k (g.slots (inserted_at g v i x).slots)) is ∙ ap (drop n) holds ∙ drop_at list behind n long in
      becomes g NothingVacated v (inserted_at g v i x) (same_place g v (inserted_at g v i x) lender) (rule_used NothingVacated _ _ _ _ 1 (ap length listed ∙ long) spared) list listed

  -- the item that was put in is written
  pub inserted-set : (w : T) → at_slots g (inserted_at g v i x) (set (g.slots (inserted_at g v i x).slots) i w) ≡ inserted_at g v i w
  inserted-set w =
      let L = (view g v).items in
      let S = drop 1 (view g v).spare in
      let written = ap (λ l. set l i w) (holds ∙ append_assoc (take i L) (x ∷ drop i L) S)
      ∙ set_at (take i L) x (drop i L ++ S) w i (length-take-le i L le)
      ∙ sym (append_assoc (take i L) (w ∷ drop i L) S) in
      ap (at_slots g (inserted_at g v i x)) written
      ∙ ap (λ lent. record { slots = lent; len = g.of_count (length L + 1) }) (g.rewritten v.slots (insert L i x ++ S) (insert L i w ++ S))

  -- and it is there to be lent
  pub inserted-item : (d : T) → get_or (g.slots (inserted_at g v i x).slots) i d ≡ x
  inserted-item d = ap (λ l. get_or l i d) holds ∙ grind (arith, places, length-take-le i (view g v).items le)
