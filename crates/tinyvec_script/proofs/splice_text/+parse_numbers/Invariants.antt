use Rattle.std.proofs.Common.{length}
use Rattle.tinyvec_script.proofs.splice_text.+parse_numbers.Given as goal

abbrev pub decreases-parse_numbers : goal.decreases-parse_numbers
decreases-parse_numbers l = length l.text.now
