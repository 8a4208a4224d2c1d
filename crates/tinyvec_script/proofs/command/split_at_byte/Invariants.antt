use Rattle.std.proofs.Common.{◌≢◌, take}
use Rattle.std.specs.List.{All}
use Rattle.tinyvec_script.proofs.command.split_at_byte.Given as goal

abbrev pub invariant-loop-index : goal.invariant-loop-index
invariant-loop-index l = All (λ byte. byte ≢ l.byte) (take l.index l.text)
