use Rattle.std.proofs.Common.{◌≡◌, ◌-◌, ◌++◌, [], length, take, drop, replicate, length-take, append-nil, refl, sym, ap, subst, ◌∙◌, arith}
use Rattle.std.specs.List.{AllZip}
use Rattle.tinyvec_slots.proofs.SlotsLemmas.{slots_used}
use Rattle.tinyvec_array.specs.ArrayVec.{view_of}
use Rattle.tinyvec_array.specs.View.{view}
use Rattle.tinyvec_array.specs.ViewLaws.{used_by}
use Rattle.tinyvec_array.proofs.array_vec.in_array.ArrayVec+A.resize.Goals as goal

pub returns-then-new_len-len-clause-resized : goal.returns-then-new_len-len-clause-resized
returns-then-new_len-len-clause-resized g c =
    let L = (view g.A.Slots c.args.self.now).items in
    let n = c.args.new_len in
    let cut = c.truncate.ensures in
    let none : 0 ≡ n - length L = omega (arith, c.len-len.ensures.value, c.if-new_len-len.true) in
    let left = ap length cut.items ∙ length-take n L in
    let listed = cut.items ∙ sym (append-nil (take n L)) in
    record {
      items = ([], listed, subst (λ k. AllZip g.A.Item.Clone.is_clone (replicate k c.args.value) []) none tt);
      len = omega (arith, left, none);
      if_clones_equal = λ _. listed ∙ ap (λ k. take n L ++ replicate k c.args.value) none;
      spare = λ le. used_by g.A.Item.Default.is_default _ _ _ _ 0 (omega (arith, left, le, none)) cut.slot_rule ∙ ap (λ k. drop k (view g.A.Slots c.args.self.now).spare) none;
      kept = tt;
      refused = tt;
      succeeds = λ _. refl;
    }

pub returns-in-Ok-clause-resized : goal.returns-in-Ok-clause-resized
returns-in-Ok-clause-resized g c =
    let h = c.in-Ok.ensures.grown in
    record { items = h.items; len = h.len; if_clones_equal = h.if_clones_equal; spare = h.spare; kept = tt; refused = tt; succeeds = λ _. refl }

pub returns-in-Ok-clause-slot_rule : goal.returns-in-Ok-clause-slot_rule
returns-in-Ok-clause-slot_rule g c =
    let v = c.args.self.now in
    let h = c.in-Ok.ensures.grown in
    let long = c.len-len.ensures.value in
    let more = c.if-new_len-len.false in
    slots_used g.A.Item.Default.is_default (view_of g.A.Slots v) (view_of g.A.Slots c.grow_by_clones.new.self) (c.args.new_len - length (view g.A.Slots v).items)
    (omega (arith, h.len, long, more)) (h.spare (omega (arith, long, more)))

pub returns-in-Err-clause-resized : goal.returns-in-Err-clause-resized
returns-in-Err-clause-resized g c =
    let h = c.in-Err.ensures.grown in
    record { items = tt; len = tt; if_clones_equal = tt; spare = tt; kept = h.kept; refused = h.refused; succeeds = h.succeeds }
