use Rattle.std.proofs.Common.{◌≡◌, ℕ, List, [], ◌∷◌, ◌++◌, Option, Some, None, length, slice_get, refl, sym, ap, ◌∙◌, rules, arith, length-append}
use Rattle.std.proofs.lemmas.Option.{slice_get_past}
use Rattle.std.specs.Iterator.{Yields, SkipsThenYields}
use Rattle.tinyvec_slots.specs.Drain.{drain_items, DrainSteps}
use Rattle.tinyvec_slots.specs.declared.can_drain.CanDrain as CanDrain
use Rattle.tinyvec_slots.specs.declared.drain.Drain.{Drain}
use Rattle.tinyvec_slots.proofs.DrainLemmas.{nth-keeps}
use Rattle.tinyvec_array.specs.DrainLaws.{drain_of, drain_kept_same, drain_kept_then}
use Rattle.tinyvec_examples.proofs.draining.nth_of.Goals as goal

at_length : {T : Type 0} (xs ys : List T) (x : T) → slice_get (xs ++ x ∷ ys) (length xs) ≡ Some x
at_length [] ys x = refl
at_length (z ∷ xs) ys x = at_length xs ys x

module _ {V T : Type 0} (g : CanDrain.Ghosts V T) where
  taken : (d : Drain V T) (xs : List T) (e : Drain V T) → Yields (DrainSteps g) d xs e → drain_items g d ≡ xs ++ drain_items g e
  taken d [] e y = ap (drain_items g) y
  taken d (x ∷ xs) e y = y.1.0 ∙ ap (λ l. x ∷ l) (taken y.0 xs e y.2)

  nth_is : (d : Drain V T) (n : ℕ) (r : Option T) (e : Drain V T) → SkipsThenYields (DrainSteps g) d n r e → r ≡ slice_get (drain_items g d) n
  nth_is d n (Some x) e h =
      let all = taken d h.0 h.1.0 h.1.1 ∙ ap (λ l. h.0 ++ l) h.1.2.0 in
      sym (ap (slice_get (drain_items g d)) (sym h.2) ∙ ap (λ l. slice_get l (length h.0)) all ∙ at_length h.0 (drain_items g e) x)
  nth_is d n None e h =
      let all = ap length (taken d h.0 h.1.0 h.1.1 ∙ ap (λ l. h.0 ++ l) h.1.2.0.0) ∙ length-append h.0 [] in
      sym (slice_get_past (drain_items g d) n (omega (arith, all, h.2)))

pub returns-clause-item : goal.returns-clause-item
returns-clause-item g c =
    nth_is (drain_of g.A.Slots g.A.Item.Default.is_default) c.drain-d.result c.args.n c.nth.result c.nth.new.self c.nth.ensures.ran
    ∙ ap (λ l. slice_get l c.args.n) c.drain-d.ensures.begins.rest

pub returns-clause-left : goal.returns-clause-left
returns-clause-left g c =
    let new = c.drop-d.new.self.0 in
    let kept = nth-keeps (drain_of g.A.Slots g.A.Item.Default.is_default) (drain_kept_same g.A.Slots) (drain_kept_then g.A.Slots) c.drain-d.result c.args.n c.nth.result c.nth.new.self c.nth.ensures.ran in
    let lost = c.drain-d.ensures.begins.leaves new (kept.leaves new c.drop-d.ensures) in
    let same = kept.same_reference in
    search rules
