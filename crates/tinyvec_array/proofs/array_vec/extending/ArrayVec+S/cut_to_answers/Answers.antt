use Rattle.std.proofs.Common.{◌∷◌, [], refl, ◌++◌, ◌-◌, ◌<◌, length, take, sym, ap, ◌∙◌, le_refl, arith, add-one, suc, take_all, of_calls, ◌≡◌}
use Rattle.std.specs.Fn.{Called}
use Rattle.std.proofs.SliceLists.{chained_more}
use Rattle.std.proofs.iter.Next.{called}
use Rattle.std.proofs.lemmas.List.{length_push, reverse-append}
use Rattle.tinyvec_array.proofs.ResizingLemmas.{one_less, first_items, one_more}
use Rattle.tinyvec_array.specs.View.{view}
use Rattle.tinyvec_array.proofs.ViewLemmas.{same_lender, SameLender-then}
use Rattle.tinyvec_array.proofs.array_vec.extending.ArrayVec+S.cut_to_answers.Goals as goal

pub loop-self-init : goal.loop-self-init
loop-self-init g c =
    let L = (view g.S.Slots c.args.self.now).items in
    let none : 0 ≡ length L - length L = omega arith in
    record {
      enough = c.requires.shorter;
      shorter = le_refl _;
      kept = sym (take_all (length L) L (le_refl _));
      ran = ([], none, refl, refl);
      callable = c.requires.callable;
      lender = same_lender g.S.Slots _;
    }

pub loop-self-preserved : goal.loop-self-preserved
loop-self-preserved g c =
    let at = c.loop-self in
    let inv = at.invariant in
    let put = c.replace_last.ensures in
    let whole = (view g.S.Slots c.args.self.now).items in
    let old = (view g.S.Slots at.self).items in
    let new = (view g.S.Slots c.replace_last.new.self).items in
    let y = c.f.result in
    let run = inv.ran in
    let len = c.len.ensures.value in
    let more = c.loop-self-test.true in
    let some : 0 < length old = omega (arith, len, more) in
    let less = one_less whole old new some put.items in record {
      enough = omega (arith, less, len, more);
      shorter = omega (arith, less);
      kept = first_items whole old new some put.items inv.kept;
      ran = (
        run.0 ++ y ∷ [],
        length_push run.0 y ∙ add-one (length run.0) ∙ ap suc run.1 ∙ one_more whole old new some put.items inv.shorter,
        put.spare ∙ ap (λ l. y ∷ l) run.2 ∙ ap (λ l. l ++ (view g.S.Slots c.args.self.now).spare) (sym (reverse-append run.0 (y ∷ []))),
        chained_more (λ f y f'. Called g.F.FnMut f tt y f') _ run.0 at.f y _ run.3 (called g.F.FnMut c.f.ensures refl),
      );
      callable = search of_calls;
      lender = SameLender-then g.S.Slots _ _ _ inv.lender put.lender;
    }

pub returns-clause-items : goal.returns-clause-items
returns-clause-items g c =
    let at = c.loop-self in
    let len = c.len.ensures.value in
    let done = c.loop-self-test.false in
    let ends : length (view g.S.Slots at.self).items ≡ c.args.n = omega (arith, at.invariant.enough) in
    at.invariant.kept ∙ ap (λ n. take n (view g.S.Slots c.args.self.now).items) ends

pub returns-clause-spare : goal.returns-clause-spare
returns-clause-spare g c =
    let at = c.loop-self in
    let run = at.invariant.ran in
    let len = c.len.ensures.value in
    let done = c.loop-self-test.false in
    let ends : length (view g.S.Slots at.self).items ≡ c.args.n = omega (arith, at.invariant.enough) in
    (run.0, (run.0, refl, run.3), run.1 ∙ ap (λ n. length (view g.S.Slots c.args.self.now).items - n) ends, run.2)
