use Rattle.std.proofs.Common.{◌≡◌, ◌+◌, ◌∷◌, [], ◌++◌, length, drop, set, sym, ◌∙◌, ap, append_assoc, length-append, arith}
use Rattle.std.proofs.lemmas.List.{length_push}
use Rattle.tinyvec_slots.proofs.CloneLemmas.{set_next}
use Rattle.tinyvec_array.specs.ArrayVec.{slots_of}
use Rattle.tinyvec_array.specs.View.{view}
use Rattle.tinyvec_array.proofs.can_put.ArrayVecCanPut.put.Goals as goal

pub returns : goal.returns
returns g c v xs h at room =
    let x = c.args.x in
    let list = (view g.S.Slots v).items in
    let slots = slots_of g.S.Slots v in
    let long : length (list ++ xs) ≡ c.args.at = length-append list xs ∙ omega (arith, at) in
    let next : c.args.at + 1 ≡ length list + length (xs ++ x ∷ []) = omega (arith, at, length_push xs x) in
    record {
      same_reference = g.S.Slots.name_kept c.args.self.now.slots _ ∙ h.same_reference;
      len = h.len;
      slots = g.S.Slots.slots_written c.args.self.now.slots _
          ∙ ap (λ l. set l c.args.at x) (c.as_mut_slots.ensures.value ∙ h.slots ∙ ap (λ n. (list ++ xs) ++ drop n slots) (sym at))
          ∙ set_next (list ++ xs) slots c.args.at x long room
          ∙ ap (λ l. l ++ drop (c.args.at + 1) slots) (append_assoc list xs (x ∷ []))
          ∙ ap (λ n. list ++ (xs ++ x ∷ []) ++ drop n slots) next;
      fits = omega (arith, room, next);
    }
