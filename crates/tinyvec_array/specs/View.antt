-- What a contract sees of a vector: its list, the spare slots after it, and its place, which has its capacity; and what a call does to these.
use Rattle.std.specs.Prelude.{◌≡◌, ℕ, ◌-◌, ◌≤◌, List, ◌++◌, length, take, drop, Bool, true, MatchBool, ⊤}
use Rattle.tinyvec_slots.specs.Slots.{AreDefaults}
use Rattle.tinyvec_array.specs.declared.slots.Slots as Storage
use Rattle.tinyvec_array.specs.declared.array_vec.ArrayVec.{ArrayVec}

-- The place of a list: whether it is in slots, how many items fit there, and of lent slots the ghost name of the reference to them. N is what
-- such names are.
pub record PlaceOf (N : Type 0) : Type 0 where
  pub inline : Bool
  pub capacity : ℕ
  pub lender : N

-- a list, the spare slots after it, and its place
pub record View (T N : Type 0) : Type 0 where
  pub items : List T
  pub spare : List T
  pub place : PlaceOf N

-- what calls see of a vector over slots, by what the trait says of these
abbrev pub view : {S T L : Type 0} (g : Storage.Ghosts S T L) → ArrayVec S L → View T g.Name
view g v = record {
  items = take (g.count v.len) (g.slots v.slots);
  spare = drop (g.count v.len) (g.slots v.slots);
  place = record { inline = true; capacity = length (g.slots v.slots); lender = g.name v.slots };
}

module _ {T : Type 0} where
  -- no item: what vacated slots hold after a call that vacates none
  abbrev pub NothingVacated : T → Type 0
  NothingVacated x = ⊥

module _ {T N : Type 0} where
  -- The slot rule, if the list is inline before and after. If it got shorter, as many vacated slots precede the old spare slots, and D holds
  -- of what they hold. If it got longer, it used up as many of them.
  abbrev pub SpareRule : (T → Type 0) → View T N → View T N → Type 0
  SpareRule D old new = MatchBool old.place.inline (MatchBool new.place.inline ((ds : List T) × AreDefaults D (length old.items - length new.items) ds
      × (new.spare ≡ ds ++ drop (length new.items - length old.items) old.spare)) ⊤) ⊤

  -- A call took `old` to `new`, whose list is xs, in the place p. A list that stays inline follows the slot rule.
  pub record BecomesIn (D : T → Type 0) (old new : View T N) (xs : List T) (p : PlaceOf N) : Type 0 where
    pub items : new.items ≡ xs
    pub place : new.place ≡ p
    pub slot_rule : SpareRule D old new
    pub fits : length new.items ≤ new.place.capacity

  -- the same of a call that allocates nothing: the place is as it was
  abbrev pub Becomes : (T → Type 0) → View T N → View T N → List T → Type 0
  Becomes D old new xs = BecomesIn D old new xs old.place

  -- and of any list
  abbrev pub StaysInPlace : (T → Type 0) → View T N → View T N → Type 0
  StaysInPlace D old new = Becomes D old new new.items

  -- a call that only removes items, and allocates nothing, took `old` to `new`
  pub record ShortensInPlace (D : T → Type 0) (old new : View T N) : Type 0 where
    pub bound : length new.items ≤ length old.items
    pub frame : StaysInPlace D old new
