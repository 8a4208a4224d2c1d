use Rattle.std.proofs.Common.{arith, rules, refl}
use Rattle.tinyvec_slots.proofs.ClonesOverLemmas.{clones_all, refused_writes}
use Rattle.tinyvec_slots.proofs.tuned.cloning.clone_each.Goals as goal

pub returns-then-made-from : goal.returns-then-made-from
returns-then-made-from g c =
    let made = c.clone_until_refused-made in
    refused_writes g.T.Clone _ _ c.args.from.now made.result refl (made.ensures.refused (omega arith)) made.ensures.cloned

pub returns : goal.returns
returns g c =
    let made = c.clone_until_refused-made in
    record {
      ok = clones_all g.T.Clone.is_clone c.args.from.now c.args.to.now made.new.to made.result (omega arith) made.ensures.cloned made.ensures.within;
      refused = tt;
      succeeds = search rules;
    }
