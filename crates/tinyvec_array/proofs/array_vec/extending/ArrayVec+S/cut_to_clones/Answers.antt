use Rattle.std.proofs.Common.{[], ◌-◌, ◌<◌, ◌≡◌, length, take, replicate, refl, sym, ap, subst, ◌∙◌, le_refl, arith, take_all, rules}
use Rattle.std.specs.List.{AllZip}
use Rattle.tinyvec_slots.proofs.CloneLemmas.{on_err}
use Rattle.tinyvec_slots.specs.Clones.{ClonesBefore}
use Rattle.tinyvec_array.specs.View.{view}
use Rattle.tinyvec_array.proofs.ResizingLemmas.{one_less, first_items, clone_before, left_after, before_equal}
use Rattle.tinyvec_array.proofs.ViewLemmas.{same_lender, SameLender-then}
use Rattle.tinyvec_array.proofs.array_vec.extending.ArrayVec+S.cut_to_clones.Goals as goal

pub loop-n-init : goal.loop-n-init
loop-n-init g c =
    let L = (view g.S.Slots c.args.self.now).items in
    let none : 0 ≡ length L - length L = omega arith in record {
      enough = c.requires.shorter;
      shorter = le_refl _;
      kept = sym (take_all (length L) L (le_refl _));
      cloned = ([], subst (λ n. AllZip g.S.Item.Clone.is_clone (replicate n c.args.x.now) []) none tt, refl);
      lender = same_lender g.S.Slots _;
    }

pub loop-n-preserved : goal.loop-n-preserved
loop-n-preserved g c =
    let at = c.loop-n in
    let inv = at.invariant in
    let put = c.replace_last.ensures in
    let whole = (view g.S.Slots c.args.self.now).items in
    let old = (view g.S.Slots at.self).items in
    let new = (view g.S.Slots c.replace_last.new.self).items in
    let len = c.len.ensures.value in
    let more = c.loop-n-test.true in
    let some : 0 < length old = omega (arith, len, more) in
    let less = one_less whole old new some put.items in
    let base = (view g.S.Slots c.args.self.now).spare in
    let behind = (view g.S.Slots at.self).spare in
    let after = (view g.S.Slots c.replace_last.new.self).spare in record {
      enough = omega (arith, less, len, more);
      shorter = omega (arith, less);
      kept = first_items whole old new some put.items inv.kept;
      cloned = clone_before whole old new some put.items g.S.Item.Clone.is_clone c.args.x.now c.in_ok-filling.filling base behind after inv.shorter c.in_ok-filling.ensures.cases put.spare inv.cloned;
      lender = SameLender-then g.S.Slots _ _ _ inv.lender put.lender;
    }

pub returns-in_err-filling-clause-cut : goal.returns-in_err-filling-clause-cut
returns-in_err-filling-clause-cut g c =
    let at = c.loop-n in
    let inv = at.invariant in
    let whole = (view g.S.Slots c.args.self.now).items in
    let k = length (view g.S.Slots at.self).items in
    let len = c.len.ensures.value in
    let more = c.loop-n-test.true in
    record {
      items = search rules;
      spare = search rules;
      if_clones_equal = search rules;
      refused = on_err c.from_residual.result (length whole - k, omega (arith, inv.shorter, len, more), c.in_err-filling.ensures.cases, inv.kept ∙ left_after whole k inv.shorter, inv.cloned);
      succeeds = λ fine. absurd (c.in_err-filling.ensures.cases fine);
    }

pub returns-clause-cut : goal.returns-clause-cut
returns-clause-cut g c =
    let at = c.loop-n in
    let len = c.len.ensures.value in
    let done = c.loop-n-test.false in
    let ends : length (view g.S.Slots at.self).items ≡ c.args.n = omega (arith, at.invariant.enough) in
    let old = c.args.self.now in
    let base = (view g.S.Slots old).spare in
    let behind = subst (λ n. ClonesBefore g.S.Item.Clone.is_clone (replicate (length (view g.S.Slots old).items - n) c.args.x.now) base (view g.S.Slots at.self).spare) ends at.invariant.cloned in
    record {
      items = at.invariant.kept ∙ ap (λ n. take n (view g.S.Slots old).items) ends;
      spare = behind;
      if_clones_equal = λ rule. before_equal g.S.Item.Clone.is_clone rule _ _ _ behind;
      refused = tt;
      succeeds = λ _. refl;
    }
