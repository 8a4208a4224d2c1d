use Rattle.std.proofs.Common.{◌≡◌, ◌∙◌, ◌++◌, ℕ, List, ◌+◌, drop, slice_range, ap, arith}
use Rattle.tinyvec_slots.specs.Clones.{ClonesOver, ClonesOverFrom}
use Rattle.tinyvec_slots.proofs.ClonesOverLemmas.{writes_weaker}
use Rattle.tinyvec_array.proofs.tuned.cloning.clone_range.Goals as goal

-- from the first on
over : {X : Type 0} (C : X → X → Type 0) (n : ℕ) (xs old new : List X) → ClonesOverFrom C 0 xs n old new → ClonesOver C xs n old new
over C n xs old new h =
    let same : 0 + n ≡ n = omega arith in
    record {
      made = h.made;
      clones = h.clones;
      count = h.count;
      written = h.written ∙ ap (λ k. h.made ++ drop k old) same;
    }

pub returns : goal.returns
returns g c =
    let call = c.clone_each_from in
    writes_weaker g.T.Clone call.result _ _ (slice_range c.args.from.now c.args.start c.args.end)
    (λ ys n le h. over g.T.Clone.is_clone n ys c.args.to.now call.new.slots h) call.ensures
