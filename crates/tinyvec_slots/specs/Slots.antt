-- The list, the spare slots behind it, and how they change together.
use Rattle.std.specs.Prelude.{◌≡◌, ℕ, ◌-◌, ◌≤◌, List, ◌++◌, length, take, drop, All}

-- all the slots, and how many of them hold the list
pub record Slots (T : Type 0) : Type 0 where
  pub slots : List T
  pub len : ℕ

-- xs has n elements, and D holds of each: n defaults, if D is the `is_default` of an item's `Default`
abbrev pub AreDefaults : {T : Type 0} → (T → Type 0) → ℕ → List T → Type 0
AreDefaults D n xs = (length xs ≡ n) × All D xs

module _ {T : Type 0} where
  -- the list
  abbrev pub items_in : Slots T → List T
  items_in v = take v.len v.slots

  -- the spare slots after it
  abbrev pub spare_in : Slots T → List T
  spare_in v = drop v.len v.slots

  -- the length of the list
  abbrev pub len_in : Slots T → ℕ
  len_in v = length (items_in v)

  -- the list and the spare slots, one after the other
  abbrev pub all_slots : Slots T → List T
  all_slots v = v.slots

  -- the list is the first n of these slots
  abbrev pub split_at : ℕ → List T → Slots T
  split_at n xs = record { slots = xs; len = n }

  -- the n vacated slots hold defaults, and precede the old spare slots
  abbrev pub Vacates : (T → Type 0) → ℕ → Slots T → Slots T → Type 0
  Vacates D n old new = (ds : List T) × AreDefaults D n ds × (spare_in new ≡ ds ++ spare_in old)

  -- The slot rule. If the list lost n items, n defaults precede the old spare slots. If it gained n items, the first n
  -- spare slots are used up. Else they are unchanged.
  abbrev pub SlotRule : (T → Type 0) → Slots T → Slots T → Type 0
  SlotRule D old new = (ds : List T) × AreDefaults D (len_in old - len_in new) ds
      × (spare_in new ≡ ds ++ drop (len_in new - len_in old) (spare_in old))

  -- A call that only removes items took `old` to `new`: the vacated slots hold defaults, and precede the old spare slots.
  pub record Cuts (D : T → Type 0) (old new : Slots T) : Type 0 where
    pub bound : len_in new ≤ len_in old
    pub spare : Vacates D (len_in old - len_in new) old new

  -- the list is as long, and the spare slots are the same
  abbrev pub SameSpare : Slots T → Slots T → Type 0
  SameSpare old new = (spare_in new ≡ spare_in old) × (len_in new ≡ len_in old)
