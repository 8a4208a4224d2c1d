-- A call keeps the slot rule.
use Rattle.std.proofs.Common.{◌≡◌, ℕ, ◌+◌, ◌-◌, List, [], ◌++◌, length, drop, ap, ◌∙◌, arith}
use Rattle.std.proofs.lemmas.List.Elements.{All-nil}
use Rattle.tinyvec_slots.specs.Slots.{AreDefaults}
use Rattle.tinyvec_array.specs.View.{PlaceOf, View, BecomesIn, NothingVacated}
use Rattle.tinyvec_array.specs.ViewLaws.{Ruled, rule_at, rule_by}

module _ {T : Type 0} (D : T → Type 0) (xs ys us vs : List T) where
  -- the first k of the old spare slots are used up
  pub rule_used : (k : ℕ) → length ys ≡ length xs + k → vs ≡ drop k us → Ruled D xs ys us vs
  rule_used k more behind =
      let none : 0 ≡ length xs - length ys = omega (arith, more) in
      let count : k ≡ length ys - length xs = omega (arith, more) in
      ([], (none, All-nil D), behind ∙ ap (λ n. drop n us) count)

  -- k vacated slots precede the old spare slots
  pub rule_freed : (k : ℕ) → length xs ≡ length ys + k → (ds : List T) × AreDefaults D k ds × (vs ≡ ds ++ us) → Ruled D xs ys us vs
  rule_freed k less h =
      let count : k ≡ length xs - length ys = omega (arith, less) in
      let none : 0 ≡ length ys - length xs = omega (arith, less) in
      (h.0, (h.1.0 ∙ count, h.1.1), h.2 ∙ ap (λ n. h.0 ++ drop n us) none)

-- a call that vacates no slot keeps the slot rule whatever vacated slots hold
pub none_vacated : {T N : Type 0} (D : T → Type 0) {old new : View T N} {xs : List T} {p : PlaceOf N} → BecomesIn NothingVacated old new xs p → BecomesIn D old new xs p
none_vacated D {old} {new} h = record {
  items = h.items;
  place = h.place;
  slot_rule = rule_by D old new (λ i j. let r = rule_at NothingVacated old new h.slot_rule i j in (r.0, (r.1.0, λ k d lt. absurd (r.1.1 k d lt)), r.2));
  fits = h.fits;
}
