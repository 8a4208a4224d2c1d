-- What slots end as when some of them are lent for writing.
use Rattle.std.specs.Prelude.{ℕ, List, slice_set}
use Rattle.std.specs.Borrow.{Lends, Fml, MutBor, RattleType, Array as ListOf}
use Rattle.tinyvec_array.specs.SliceParts.{with_part}
use Rattle.tinyvec_array.specs.declared.slots.Slots as Storage

module _ (S I : RattleType) {L : Type 0} (g : Storage.Ghosts S.Denot I.Denot L) (s : MutBor S.Denot) where
  -- once the borrow r ends, the slots from i up to j are those that r shows last
  abbrev pub lends_part : ℕ → ℕ → MutBor (List I.Denot) → Fml
  lends_part i j r = Lends S (ListOf I 0) s r (λ ws. g.with_slots s.now (with_part (g.slots s.now) i j ws))

  -- once the borrow r ends, slot i is what r shows last
  abbrev pub lends_slot : ℕ → MutBor I.Denot → Fml
  lends_slot i r = Lends S I s r (λ x. g.with_slots s.now (slice_set (g.slots s.now) i x))
