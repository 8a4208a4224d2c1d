use Rattle.std.proofs.Common.{ℕ, ◌≤◌, List, length, take, drop, refl, sym, ap, subst, ◌∙◌, arith, take-append-drop, length-take, length-drop}
use Rattle.std.proofs.lemmas.List.{drop-append-le}
use Rattle.std.specs.Prelude.{All}
use Rattle.tinyvec_slots.specs.Slots.{Cuts, split_at}
use Rattle.tinyvec_array.specs.ArrayVec.{view_of}
use Rattle.tinyvec_array.proofs.can_splice.ArrayVecCanSplice.cut_emptied.Goals as goal

-- a list whose items from n on are defaults, cut at n
cut_there : {T : Type 0} (D : T → Type 0) (k n : ℕ) (xs : List T) → n ≤ length (take k xs) → All D (drop n (take k xs)) → Cuts D (split_at k xs) (split_at n xs)
cut_there D k n xs le emptied =
    let old = length-take k xs in
    let new = length-take n xs in record {
      bound = omega (arith, old, new, le);
      spare = (
        drop n (take k xs),
        (length-drop n (take k xs) ∙ omega (arith, old, new, le), emptied),
        ap (drop n) (sym (take-append-drop k xs)) ∙ drop-append-le n (take k xs) (drop k xs) le,
      );
    }

pub returns-clause-cut : goal.returns-clause-cut
returns-clause-cut g c =
    let v = c.args.self.now in
    let D = g.S.Item.Default.is_default in (
      c.set_len.ensures.lender.same_reference,
      subst (Cuts D (view_of g.S.Slots v)) (sym c.set_len.ensures.value) (cut_there D (g.S.Slots.count v.len) c.args.n (g.S.Slots.slots v.slots) c.requires.in_list (c.requires.emptied refl)),
    )
