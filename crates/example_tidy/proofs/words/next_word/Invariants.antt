use Rattle.std.proofs.Common.{◌≡◌, ◌≤◌, drop}
use Rattle.example_tidy.specs.Tidy.{words}
use Rattle.example_tidy.proofs.WordLemmas.{NoneIn}
use Rattle.example_tidy.proofs.words.next_word.Given as goal

abbrev pub invariant-loop-index : goal.invariant-loop-index
invariant-loop-index l = record {
  so_far : words (drop l.start l.text) ≡ words l.text;
  none_since : NoneIn l.text l.start l.index;
  order : l.start ≤ l.index;
}
