use Rattle.std.proofs.Common.{rules}
use Rattle.tinyvec_script.proofs.Written.{gathers_then}
use Rattle.tinyvec_script.proofs.vectors.Vectors.write_line.Goals as goal

pub returns : goal.returns
returns g c = search (rules, gathers_then)
