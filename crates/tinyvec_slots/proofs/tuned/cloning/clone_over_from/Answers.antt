use Rattle.std.proofs.Common.{◌+◌, ◌-◌, ◌≤◌, ℕ, List, arith, length, take, drop, length-take, length-drop}
use Rattle.std.proofs.lemmas.List.{take_all}
use Rattle.tinyvec_slots.proofs.ClonesOverLemmas.{writes_from}
use Rattle.tinyvec_slots.proofs.tuned.cloning.clone_over_from.Goals as goal

fits_behind : {T : Type 0} (from slots : List T) (count start : ℕ) → start + length from ≤ length slots
    → length (take count from) ≤ length (take (length slots - start) (drop start slots))
fits_behind from slots count start fits = rw (length-take count from, length-take (length slots - start) (drop start slots), length-drop start slots) (omega arith)

pub returns-then-not-are_large : goal.returns-then-not-are_large
returns-then-not-are_large g c =
    let all = take_all c.min-count.result c.args.from.now (omega (arith, c.min-count.ensures, c.requires.fits)) in
    writes_from g.T.Clone c.clone_few.result c.args.start c.args.from.now c.args.slots.now c.clone_few.new.to c.requires.fits (rw all at c.clone_few.ensures)

pub returns : goal.returns
returns g c =
    let all = take_all c.min-count.result c.args.from.now (omega (arith, c.min-count.ensures, c.requires.fits)) in
    writes_from g.T.Clone c.clone_over.result c.args.start c.args.from.now c.args.slots.now c.clone_over.new.to c.requires.fits (rw all at c.clone_over.ensures)

pub clone_few-requires : goal.clone_few-requires
clone_few-requires g c = record { fits = fits_behind c.args.from.now c.args.slots.now c.min-count.result c.args.start c.requires.fits }

pub clone_over-requires : goal.clone_over-requires
clone_over-requires g c = record { fits = fits_behind c.args.from.now c.args.slots.now c.min-count.result c.args.start c.requires.fits }
