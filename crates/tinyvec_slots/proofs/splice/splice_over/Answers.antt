use Rattle.std.proofs.Common.{arith, rules}
use Rattle.std.proofs.lemmas.Grind.{common_steps}
use Rattle.tinyvec_slots.proofs.SpliceLemmas.{splices_from_ends}
use Rattle.tinyvec_slots.proofs.splice.splice_over.Goals as goal

pub returns : goal.returns
returns g c = record {
  begins = grind (arith, common_steps);
  replacement_is = search rules;
  unasked = search rules;
  vec = search rules;
  same_reference = search rules;
  ready = grind (arith, common_steps);
  both_ends = splices_from_ends g.V.CanCut.items g.V.CanCut.Kept g.met.V.CanSplice.kept_same g.met.V.CanSplice.kept_then g.I.Iterator.next_gives _;
}
