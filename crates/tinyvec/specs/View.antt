-- What contracts see of a `TinyVec`: its list, the spare slots after it, and its place; and what calls do to these.
-- An `ArrayVec` has these words too. No slots are lent to a `TinyVec`, so a `Unit` stands in the place of their name.
use Rattle.std.specs.Prelude.{◌≡◌, ℕ, zero, suc, ◌+◌, ◌-◌, ◌*◌, ◌≤◌, nat_le, max, if◌then◌else◌, List, ◌++◌, [], length, drop, All, Bool, true, false, IsTrue, ◌⊎◌}
use Rattle.std.specs.List.{AllZip}
use Rattle.tinyvec_slots.specs.Slots.{AreDefaults}
use Rattle.tinyvec_slots.specs.Clones.{ClonesAreEqual}
pub use Rattle.tinyvec_array.specs.View.{PlaceOf, View, NothingVacated, SpareRule, BecomesIn, Becomes, StaysInPlace, ShortensInPlace}

-- the place of a list: whether it is in the array, and how many items fit there
abbrev pub Place : Type 0
Place = PlaceOf Unit

-- in the array, which has this many slots
abbrev pub in_array : ℕ → Place
in_array n = record { inline = true; capacity = n; lender = tt }

-- on the heap, with this capacity
abbrev pub on_heap : ℕ → Place
on_heap n = record { inline = false; capacity = n; lender = tt }

-- How a call makes room that a list lacks, on the heap: `Doubled` takes twice the capacity, or the need if that is more; `Exact` takes just the
-- need; `Reserved` takes just the need for a list that moves there, and doubles that of a list which is there.
pub data Growth : Type 0 where
  Doubled : Growth
  Reserved : Growth
  Exact : Growth

-- whether it takes just the need
abbrev pub takes_need : Growth → Place → Bool
takes_need Doubled p = false
takes_need Reserved p = p.inline
takes_need Exact p = true

-- The place rule: where a list is once there is room for `need` items. It stays where it is if there is, else it is on the heap.
abbrev pub place_for : Growth → (need : ℕ) → Place → Place
place_for how need p =
    if nat_le need p.capacity then p
    else record { inline = false; capacity = if takes_need how p then need else max (2 * p.capacity) need; lender = tt }

-- where a list that was there is once it has grown to n items, one by one
abbrev pub place_pushed : (n : ℕ) → Place → Place
place_pushed zero p = p
place_pushed (suc n) p = place_for Doubled (suc n) (place_pushed n p)

-- where a list is once it is on the heap, with room for `need` items: one that moves there gets just that
abbrev pub heap_for : (need : ℕ) → Place → Place
heap_for need p = if p.inline then record { inline = false; capacity = need; lender = tt } else place_for Reserved need p

-- a list, the spare slots after it, and its place
abbrev pub TinyView : Type 0 → Type 0
TinyView T = View T Unit

module _ {T : Type 0} where
  -- v is inline: xs is its list, and ys are its spare slots
  pub record HoldsInline (xs ys : List T) (v : TinyView T) : Type 0 where
    pub items : v.items ≡ xs
    pub spare : v.spare ≡ ys
    pub place : v.place ≡ in_array (length xs + length ys)

  -- v is as `new` makes it: empty and inline, and all its slots hold defaults
  pub record IsNew (D : T → Type 0) (slots : ℕ) (v : TinyView T) : Type 0 where
    pub items : v.items ≡ []
    pub spare : AreDefaults D slots v.spare
    pub place : v.place ≡ in_array slots

  -- the same length, spare slots and place
  pub record SameFrame (old new : TinyView T) : Type 0 where
    pub len : length new.items ≡ length old.items
    pub spare : new.spare ≡ old.spare
    pub place : new.place ≡ old.place

  -- v is the list of old from i on: inline if old is, before defaults, else on the heap with a capacity of its length
  pub record IsTail (D : T → Type 0) (slots i : ℕ) (old v : TinyView T) : Type 0 where
    pub items : v.items ≡ drop i old.items
    pub place : v.place.inline ≡ old.place.inline
    pub spare : IsTrue v.place.inline → AreDefaults D (slots - length v.items) v.spare
    pub capacity : v.place.inline ≡ false → v.place.capacity ≡ length v.items
    pub inline_capacity : IsTrue v.place.inline → old.place.capacity ≡ slots → v.place.capacity ≡ slots
    pub fits : length v.items ≤ v.place.capacity

  -- what `v.clone()` may return: clones of the items and the spare slots, inline if v is, else on the heap with a capacity
  -- of the length; C is the `is_clone` of the item
  pub record IsTinyClone (C : T → T → Type 0) (v w : TinyView T) : Type 0 where
    pub items : AllZip C v.items w.items
    pub len : length w.items ≡ length v.items
    pub spare : AllZip C v.spare w.spare
    pub if_clones_equal : ClonesAreEqual C → (w.items ≡ v.items) × (w.spare ≡ v.spare)
    pub place : w.place ≡ (if v.place.inline then v.place else on_heap (length v.items))

  -- `v.clone()` cannot fail: no clone can, if the list is inline; on the heap an empty list allocates nothing
  abbrev pub IsTinyInfallible : (T → Type 0) → TinyView T → Type 0
  IsTinyInfallible I v = (IsTrue v.place.inline × All I (v.items ++ v.spare)) ⊎ ((v.place.inline ≡ false) × (length v.items ≡ 0))
