use Rattle.std.proofs.Common.{take, get_or, sym, subst, ◌∙◌, of_calls, rules}
use Rattle.std.specs.Fn.{Called}
use Rattle.std.specs.List.{FoldsTo}
use Rattle.std.proofs.lemmas.Fn.{FoldsTo-push}
use Rattle.std.proofs.lemmas.List.{take_more}
use Rattle.tinyvec_slots.proofs.FillingLemmas.{rest_after_one}
use Rattle.tinyvec_slots.proofs.Lists.{same_at}
use Rattle.tinyvec_slots.proofs.drain.give_all.Goals as goal

pub loop-i-preserved : goal.loop-i-preserved
loop-i-preserved g c =
    let inv = c.loop-i.invariant in
    let all = c.args.slots.now in
    let now = c.loop-i.slots in
    let i = c.loop-i.i in
    let d = c.index-slots-i.result in
    let is = c.take.ensures.value ∙ same_at now all i d inv.left in
    let one = subst (λ x. Called g.F.FnMut c.loop-i.f (x, tt) tt c.f.new.self) is c.f.ensures in record {
      given = subst (λ l. FoldsTo (λ p x q. Called g.F.FnMut p (x, tt) tt q) c.args.f.now l c.f.new.self) (sym (take_more all i d c.loop-i-test.true))
          (FoldsTo-push (λ p x q. Called g.F.FnMut p (x, tt) tt q) c.args.f.now (take i all) c.loop-i.f (get_or all i d) c.f.new.self inv.given one);
      callable = search of_calls;
      left = rest_after_one now all i c.take.new.dest inv.left;
      defaults = search rules;
    }
