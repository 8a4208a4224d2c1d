use Rattle.std.proofs.Common.{rules}
use Rattle.tinyvec_script.proofs.Written.{gathers_then}
use Rattle.tinyvec_script.proofs.vectors.Vectors.write_text_line.Goals as goal

pub returns : goal.returns
returns g c = let state = rw (c.as_bytes.ensures.value, c.is_inline.ensures) at c.write_text_state.ensures in search (rules, gathers_then)
