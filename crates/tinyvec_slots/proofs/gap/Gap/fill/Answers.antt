use Rattle.std.proofs.Common.{◌≡◌, ◌<◌, ◌≤◌, ℕ, true, false, inl, inr, arith}
use Rattle.std.proofs.lemmas.Bool.Decides.{nat_tests}
use Rattle.std.proofs.lemmas.Bool.{cases_lt}
use Rattle.std.specs.Bool.{MatchBool, ◌==◌}
use Rattle.tinyvec_slots.proofs.gap.Gap.fill.Goals as goal

is_end : (at back : ℕ) → at ≡ back → (at == back) ≡ true
is_end at back same = grind (arith, nat_tests)

is_before : (at back : ℕ) → at < back → (at == back) ≡ false
is_before at back less = grind (arith, nat_tests)

by_end : (at back : ℕ) {P Q : Type 0} → at ≤ back → (at ≡ back → P) → (at < back → Q) → MatchBool (at == back) P Q
by_end at back within full early =
    elim (cases_lt at back) [
      | inl less ↦ rw (is_before at back less) (early less)
      | inr more ↦ let same : at ≡ back = omega arith in rw (is_end at back same) (full same)
    ]

pub returns-clause-placed : goal.returns-clause-placed
returns-clause-placed g c =
    let met = c.place-self.ensures in
    let placed = met.placed in
    (placed.0, placed.1, placed.2, by_end c.place-self.result c.args.self.now.back met.bounds.1 placed.3 placed.4)

pub returns-clause-filled : goal.returns-clause-filled
returns-clause-filled g c =
    let met = c.place-self.ensures in
    by_end c.place-self.result c.args.self.now.back met.bounds.1 (λ full. (full, met.can full)) (λ less. less)
