-- Examples of lists and spare slots.
use Rattle.std.proofs.Common.{◌≡◌, [], ◌∷◌, refl, rules}
use Rattle.tinyvec_array.specs.UpTo.{up_to}
use Rattle.tinyvec_slots.specs.Slots.{items_in, spare_in, len_in, all_slots, split_at, AreDefaults, SlotRule, Cuts}
use Rattle.tinyvec_examples.proofs.words.Shown.{D, nums, over}

-- of tinyvec_slots.specs.Slots: a `Slots` of two items and one spare slot
pub example-Slots : (over (1 ∷ 2 ∷ []) (0 ∷ [])).slots ≡ 1 ∷ 2 ∷ 0 ∷ []
example-Slots = refl

pub example-items_in : items_in (over (1 ∷ 2 ∷ []) (0 ∷ [])) ≡ 1 ∷ 2 ∷ []
example-items_in = refl

pub example-spare_in : spare_in (over (1 ∷ 2 ∷ []) (0 ∷ [])) ≡ 0 ∷ []
example-spare_in = refl

pub example-len_in : len_in (over (1 ∷ 2 ∷ []) (0 ∷ [])) ≡ 2
example-len_in = refl

pub example-all_slots : all_slots (over (1 ∷ 2 ∷ []) (0 ∷ [])) ≡ 1 ∷ 2 ∷ 0 ∷ []
example-all_slots = refl

pub example-split_at : split_at 2 (nums (1 ∷ 2 ∷ 0 ∷ [])) ≡ over (1 ∷ 2 ∷ []) (0 ∷ [])
example-split_at = refl

pub example-AreDefaults : AreDefaults D 2 (0 ∷ 0 ∷ [])
example-AreDefaults = search rules

pub example-Cuts : Cuts D (over (1 ∷ 2 ∷ 3 ∷ []) (7 ∷ [])) (over (1 ∷ []) (0 ∷ 0 ∷ 7 ∷ []))
example-Cuts = record { bound = search rules; spare = (0 ∷ 0 ∷ [], example-AreDefaults, refl) }

pub example-SlotRule : SlotRule D (over (1 ∷ []) (7 ∷ 8 ∷ [])) (over (1 ∷ 5 ∷ []) (8 ∷ []))
example-SlotRule = search rules

pub example-up_to : (up_to 5 3).len ≡ 3
example-up_to = refl
