use Rattle.std.proofs.Common.{refl, rules}
use Rattle.tinyvec_slots.proofs.ExtractingLemmas.{each_is_chosen}
use Rattle.tinyvec_slots.proofs.extracting.extract_if.Goals as goal

pub returns : goal.returns
returns g c = record {
  vec = refl;
  same_reference = refl;
  closure_is = refl;
  front = refl;
  rest = search rules;
  back = refl;
  lies = (search rules, search rules);
  runs = each_is_chosen _ _ _;
}
