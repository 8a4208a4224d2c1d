-- What a contract says of an `IntoIter`'s runs, whose state is the list of its items.
use Rattle.std.proofs.Common.{◌≡◌, ◌<◌, ◌^◌, List, length, ap}
use Rattle.std.specs.Iterator.Runs.{YieldsInOrder, YieldsInReverse}
use Rattle.std.proofs.iter.runs.Sources.{from_front, from_back, as_is, as_is_back}
use Rattle.tinyvec_array.specs.IntoIter.{GivesFirst, GivesLast, IteratesOver}
use Rattle.tinyvec_slots.proofs.EndsLemmas.{RunsWord-takes}

module _ {T : Type 0} where
  gives_runs : YieldsInOrder (GivesFirst {T = T}) (λ left. left)
  gives_runs p s = as_is p p.from (from_front (GivesFirst {T = T}) (λ x. x) (λ left. left) (λ s t h. ap length h.0) (λ s x t h. h) p s)

  gives_runs_back : YieldsInReverse (GivesLast {T = T}) (λ left. left)
  gives_runs_back p s = as_is_back p p.from (from_back (GivesLast {T = T}) (λ x. x) (λ left. left) (λ s t h. ap length h.0) (λ s x t h. h) p s)

  -- an iterator over xs yields them
  pub iterates_over : (xs left : List T) → left ≡ xs → length left < 2 ^ 64 → IteratesOver xs left
  iterates_over xs left same few = record {
    rest = same;
    bound = few;
    runs = gives_runs;
    runs_back = gives_runs_back;
    both_ends = λ word answers later asks.
        RunsWord-takes GivesFirst GivesLast (λ left. left) (λ s r t h. h) (λ s r t h. h) left word answers later asks;
  }
