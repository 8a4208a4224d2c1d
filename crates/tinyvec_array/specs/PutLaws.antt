-- The laws of `CanPut` of a vector over slots.
use Rattle.std.proofs.Common.{◌≡◌, ◌+◌, ◌≤◌, List, [], ◌++◌, length, take, drop, min, refl, sym, ap, ◌∙◌, arith, append-nil, length-append, length-take, length-drop, take-append-drop}
use Rattle.std.proofs.lemmas.List.{drop_min}
use Rattle.tinyvec_array.specs.ArrayVec.{slots_of, name_of, SameLender}
use Rattle.tinyvec_array.specs.View.{view, Becomes, NothingVacated}
use Rattle.tinyvec_array.specs.SpliceLaws.{parts_of}
use Rattle.tinyvec_array.specs.declared.slots.Slots as Storage
use Rattle.tinyvec_array.specs.declared.array_vec.ArrayVec.{ArrayVec}

module _ {S T L : Type 0} (g : Storage.Ghosts S T L) where
  -- xs were written over the first spare slots of old, which gave new
  pub record PutsOf (old : ArrayVec S L) (xs : List T) (new : ArrayVec S L) : Type 0 where
    pub same_reference : name_of g new ≡ name_of g old
    pub len : g.count new.len ≡ g.count old.len
    pub slots : slots_of g new ≡ ((view g old).items ++ xs) ++ drop (length (view g old).items + length xs) (slots_of g old)
    pub fits : length (view g old).items + length xs ≤ length (slots_of g old)

  -- xs were appended
  abbrev pub GetsOf : ArrayVec S L → List T → ArrayVec S L → Type 0
  GetsOf old xs new = Becomes NothingVacated (view g old) (view g new) ((view g old).items ++ xs)

  -- the list is as it was, and xs are in the first spare slots
  pub record LeavesOf (old : ArrayVec S L) (xs : List T) (new : ArrayVec S L) : Type 0 where
    pub lender : SameLender g old new
    pub items : (view g new).items ≡ (view g old).items
    pub spare : (view g new).spare ≡ xs ++ drop (length xs) (view g old).spare

  pub puts_none_of : (v : ArrayVec S L) → PutsOf v [] v
  puts_none_of v =
      let xs = g.slots v.slots in
      let k = g.count v.len in
      let none : length (take k xs) + 0 ≡ min k (length xs) = omega (arith, length-take k xs) in
      let behind : drop (length (take k xs) + 0) xs ≡ drop k xs = ap (λ n. drop n xs) none ∙ drop_min k xs in
      record {
        same_reference = refl;
        len = refl;
        slots = sym (take-append-drop k xs) ∙ ap (λ l. l ++ drop k xs) (sym (append-nil (take k xs))) ∙ ap (λ l. (take k xs ++ []) ++ l) (sym behind);
        fits = omega (arith, parts_of g v);
      }

  pub puts_room_of : (v : ArrayVec S L) (xs : List T) (w : ArrayVec S L) → PutsOf v xs w → length (slots_of g w) ≡ length (slots_of g v)
  puts_room_of v xs w put =
      let n = length (view g v).items + length xs in
      let long = ap length put.slots ∙ length-append ((view g v).items ++ xs) (drop n (slots_of g v)) in
      omega (arith, long, length-append (view g v).items xs, length-drop n (slots_of g v), put.fits)
