use Rattle.std.proofs.Common.{◌≡◌, ◌+◌, ◌-◌, refl, sym, ap, le_refl, arith}
use Rattle.std.specs.List.{remove_range}
use Rattle.tinyvec_slots.proofs.Lists.{length-slice_range}
use Rattle.tinyvec_slots.proofs.DrainLemmas.{drain_runs, drain_runs_back, drains_from_ends}
use Rattle.tinyvec_slots.proofs.drain.drain_held.Goals as goal

pub returns : goal.returns
returns g c =
    let start = c.args.start in
    let end = c.args.end in
    let xs = g.V.CanDrain.drained_list c.args.vec.now in
    let within = c.requires in
    let all : start + (end - start) ≡ end = omega (arith, within.0) in
    record {
      vec = refl;
      begins = record {
        rest = refl;
        len = sym (length-slice_range xs start end within.0 within.1);
        others_are = ap (λ k. remove_range xs start k) all;
        ready = (le_refl _, omega (arith, all), omega (arith, all, within.1));
        runs = drain_runs g.V.CanDrain;
        runs_back = drain_runs_back g.V.CanDrain;
        both_ends = drains_from_ends g.V.CanDrain g.met.V.CanDrain.kept_same g.met.V.CanDrain.kept_then _;
        same_reference = refl;
        leaves = λ w left. left;
      };
    }
