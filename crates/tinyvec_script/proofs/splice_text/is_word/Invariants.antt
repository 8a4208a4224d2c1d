use Rattle.std.proofs.Common.{take}
use Rattle.std.specs.List.{All}
use Rattle.tinyvec_script.specs.Words.{IsLetter}
use Rattle.tinyvec_script.proofs.splice_text.is_word.Given as goal

abbrev pub invariant-loop-byte : goal.invariant-loop-byte
invariant-loop-byte l = All IsLetter (take l.byte-index l.text)
