use Rattle.std.proofs.Common.{◌≡◌, ◌+◌, length, option_copied}
use Rattle.tinyvec_array.specs.ArrayVec.{items, items_len, spare}
use Rattle.example_records.proofs.CommandLaws.{AreBefore, AreWith, text_left}
use Rattle.example_records.proofs.command.parse_samples.Given as goal

-- the samples so far are the first numbers, and those of what is left follow
abbrev pub invariant-loop-rest : goal.invariant-loop-rest
invariant-loop-rest l = record {
  before : AreBefore l.fn.text (items l.samples) (option_copied l.rest);
  with : AreWith l.fn.text (items l.samples) (option_copied l.rest);
  slots : items_len l.samples + length (spare l.samples) ≡ 8;
}

abbrev pub decreases-loop-rest : goal.decreases-loop-rest
decreases-loop-rest l = text_left (option_copied l.rest)
