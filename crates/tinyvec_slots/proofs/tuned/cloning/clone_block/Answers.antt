use Rattle.std.proofs.Common.{◌≡◌, ◌≤◌, ◌++◌, ◌∙◌, ◌<◌, ℕ, List, length, take, drop, length-take-le, sym, ap, subst, arith, append-nil, take_at, take_all}
use Rattle.std.proofs.lemmas.List.{drop_all, get_or-take, take-take}
use Rattle.std.specs.List.{AllZip}
use Rattle.tinyvec_slots.specs.Clones.{ClonesOver}
use Rattle.tinyvec_slots.proofs.tuned.cloning.clone_block.Goals as goal

module _ {X : Type 0} (C : X → X → Type 0) (xs old new to : List X) (n : ℕ) where
  -- the clones, moved from one list to another
  clones_moved : ClonesOver C xs n old new → ClonesOver C xs n to (take n new ++ drop n to)
  clones_moved h = record {
    made = h.made;
    clones = h.clones;
    count = h.count;
    written = ap (λ l. l ++ drop n to) (ap (take n) h.written ∙ take_at h.made (drop n old) n h.count);
  }

  -- a whole list of them
  whole_moved : (k : ℕ) → n ≡ k → length xs ≤ n → length old ≤ n → ClonesOver C (take n xs) n old new → ClonesOver C xs k to (new ++ drop k to)
  whole_moved k is few short h = record {
    made = h.made;
    clones = subst (λ l. AllZip C l h.made) (take_all n xs few) h.clones;
    count = h.count ∙ is;
    written = ap (λ l. l ++ drop k to) (h.written ∙ ap (λ l. h.made ++ l) (drop_all n old short) ∙ append-nil h.made);
  }

fits_block : {X : Type 0} (xs block : List X) (n : ℕ) → n ≤ length xs → length block ≡ n → length (take n xs) ≤ length block
fits_block xs block n enough long = rw (length-take-le n xs enough) (omega arith)

within_both : (made n from to : ℕ) → made < n → n ≤ from → from ≤ to → made ≤ to
within_both made n from to less enough fits = omega arith

as_many : {X : Type 0} (from to block : List X) (made n : ℕ) → made < n → n ≤ length from → length from ≤ length to → length block ≡ n
    → length (take made to) ≡ length (take made block)
as_many from to block made n less enough fits long = rw (length-take-le made to (omega arith), length-take-le made block (omega arith))

no_chunk : (n from to : ℕ) → n ≤ from → from ≤ to → to < n → ⊥
no_chunk n from to enough fits less = omega arith

pub returns-then-made-clause-refused : goal.returns-then-made-clause-refused
returns-then-made-clause-refused g c =
    let from = c.args.from.now in
    let n = c.clone_until_refused-made.result in
    let block = c.clone_until_refused-made.new.to in
    let first = length-take-le g.row.N from c.requires.enough in
    let refused = c.clone_until_refused-made.ensures.refused (omega (arith, first, c.if-made.true)) in
    let moved = clones_moved g.T.Clone.is_clone (take n (take g.row.N from)) c.default-block.result block c.args.to.now n c.clone_until_refused-made.ensures.cloned in
    let cut = take-take n g.row.N from (omega (arith, c.if-made.true)) in (
      n,
      (omega (arith, c.if-made.true, c.requires.enough), λ d sure. refused.1 d (subst g.T.Clone.is_infallible (sym (get_or-take g.row.N from n d c.if-made.true)) sure)),
      rw c.swap_with_slice.ensures.after (subst (λ l. ClonesOver g.T.Clone.is_clone l n c.args.to.now (take n block ++ drop n c.args.to.now)) cut moved),
    )

pub returns-clause-cloned : goal.returns-clause-cloned
returns-clause-cloned g c =
    let from = c.args.from.now in
    let n = c.clone_until_refused-made.result in
    let met = c.clone_until_refused-made.ensures in
    let first = length-take-le g.row.N from c.requires.enough in
    let is : n ≡ g.row.N = omega (arith, first, met.within, c.if-made.false) in
    whole_moved g.T.Clone.is_clone (take g.row.N from) c.default-block.result c.clone_until_refused-made.new.to c.args.to.now n g.row.N is
    (omega (arith, first, is)) (omega (arith, c.default-block.ensures.long, is)) met.cloned

pub returns-then-made-clause-cloned : goal.returns-then-made-clause-cloned
returns-then-made-clause-cloned g c = tt

pub returns-clause-refused : goal.returns-clause-refused
returns-clause-refused g c = tt

pub clone_until_refused-made-requires : goal.clone_until_refused-made-requires
clone_until_refused-made-requires g c = record { fits = fits_block c.args.from.now c.default-block.result g.row.N c.requires.enough c.default-block.ensures.long }

pub swap_with_slice-requires : goal.swap_with_slice-requires
swap_with_slice-requires g c =
    let made = c.clone_until_refused-made in
    as_many c.args.from.now c.args.to.now made.new.to made.result g.row.N c.if-made.true c.requires.enough c.requires.fits (made.auto.to ∙ c.default-block.ensures.long)

pub slice_bounds-swap_with_slice-end-then-made : goal.slice_bounds-swap_with_slice-end-then-made
slice_bounds-swap_with_slice-end-then-made g c = sym (length-take-le c.clone_until_refused-made.result c.args.to.now (within_both _ _ _ _ c.if-made.true c.requires.enough c.requires.fits))

pub unreachable-requires : goal.unreachable-requires
unreachable-requires g c = no_chunk _ _ _ c.requires.enough c.requires.fits c.in_default.ensures.cases
