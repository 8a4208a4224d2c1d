use Rattle.std.proofs.Common.{rules}
use Rattle.tinyvec_script.specs.Text.{place_state_text}
use Rattle.tinyvec_script.proofs.Written.{gathers_then}
use Rattle.tinyvec_script.proofs.answers.write_place_state.Goals as goal

pub returns : goal.returns
unfolding place_state_text
returns g c = search (rules, gathers_then)
