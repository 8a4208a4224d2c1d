-- Lists as bytes: the count, and then the items.
use Rattle.std.specs.Prelude.{◌≡◌, ℕ, ◌+◌, ◌-◌, ◌^◌, ◌<◌, ◌≤◌, ◌⊎◌, List, [], ◌∷◌, ◌++◌, length, max}
use Rattle.std.specs.List.{AllByRecursion}
use Rattle.tinyvec_borsh.specs.Number.{SpellsNumber}
use Rattle.tinyvec_borsh.specs.TwoParts.{HasParts}
use Rattle.tinyvec_borsh.specs.declared.borsh_error.BorshError.{BorshError}
use Rattle.tinyvec_borsh.specs.declared.borsh_error.BorshError.TheVariants.{Ended, InvalidLength, Memory}

-- eight bytes whose value, least first, is the count
abbrev pub IsCount : ℕ → List ℕ → Type 0
IsCount n bytes = SpellsNumber 8 n bytes

-- the count is more than `most`
abbrev pub CountsAbove : ℕ → List ℕ → Type 0
CountsAbove most input = (n : ℕ) × (most < n) × HasParts (IsCount n) (λ _. Unit {0}) input

module _ {C : Type 0} (Spells : C → List ℕ → Type 0) where
  -- the encodings of the items, one after another
  abbrev pub SpellsItems : List C → List ℕ → Type 0
  SpellsItems [] bytes = bytes ≡ []
  SpellsItems (c ∷ cs) bytes = HasParts (Spells c) (SpellsItems cs) bytes

  -- The input is these items, and then bytes of which P holds.
  abbrev pub BeginsWithItems : List C → (List ℕ → Type 0) → List ℕ → Type 0
  BeginsWithItems cs P input = HasParts (SpellsItems cs) P input

  -- the count, and then the items
  abbrev pub SpellsList : List C → List ℕ → Type 0
  SpellsList cs bytes = HasParts (IsCount (length cs)) (SpellsItems cs) bytes

module _ {C : Type 0} (Spells : C → List ℕ → Type 0) (Fits : C → Type 0) where
  -- The input has a count, then items, which fit, and then the tail.
  pub record HasItems (input : List ℕ) : Type 0 where
    pub len : ℕ
    pub items : List C
    pub count : List ℕ
    pub bytes : List ℕ
    pub tail : List ℕ
    pub counted : IsCount len count
    pub spelled : SpellsItems Spells items bytes
    pub fit : AllByRecursion Fits items
    pub whole : input ≡ count ++ (bytes ++ tail)

  -- The list has at most `room` items, each of which fits.
  pub record ListFits (room : ℕ) (cs : List C) : Type 0 where
    pub few : length cs ≤ room
    pub counted : length cs < 2 ^ 64
    pub items : AllByRecursion Fits cs

  -- The input is a count, at most `room` items, fewer than the count, and then bytes of which P holds.
  pub record InItem (P : List ℕ → Type 0) (room : ℕ) (input : List ℕ) : Type 0 where
    pub has : HasItems input
    pub open has use *
    pub fewer : length items < len
    pub few : length items ≤ room
    pub left : P tail

  -- The input has items, fewer than n, which fit, and the reason is that of an item after them.
  pub record AfterItems (Reason : BorshError → List ℕ → Type 0) (n : ℕ) (error : BorshError) (input : List ℕ) : Type 0 where
    pub items : List C
    pub fewer : length items < n
    pub fit : AllByRecursion Fits items
    pub parts : HasParts (SpellsItems Spells items) (Reason error) input
    pub open parts use *

  -- The count is above the room, and one item more than the room was encoded.
  pub record HasTooMany (room : ℕ) (input : List ℕ) : Type 0 where
    pub has : HasItems input
    pub open has use *
    pub over : length items ≡ room + 1
    pub above : room < len

  -- At least as many items as this were encoded, and the count is no less. If just as many were, only one more is to come.
  pub record HasMoreItems (most : ℕ) (input : List ℕ) : Type 0 where
    pub has : HasItems input
    pub open has use *
    pub many : most ≤ length items
    pub few : length items ≤ len
    pub last : length items ≡ most → len ≡ most + 1

  -- Reading a list into an array of that many slots may allocate: room ahead, for at most 1024 items, if the array has not even that; or
  -- more, once an item came that neither the array nor that room has a place for, or is to come as the last.
  abbrev pub MayAllocate : (slots : ℕ) → List ℕ → Type 0
  MayAllocate slots input = ((slots < 1024) × CountsAbove slots input) ⊎ HasMoreItems (max slots 1024) input

  -- The input ends before the last byte of the count. The list is too long. Room for the items is to be allocated.
  abbrev pub OfList : (Allocates : List ℕ → Type 0) (room : ℕ) → BorshError → List ℕ → Type 0
  OfList Allocates room Ended input = length input < 8
  OfList Allocates room InvalidLength input = HasTooMany room input
  OfList Allocates room Memory input = Allocates input
  OfList Allocates room error input = ⊥

  -- The reason is the list's, or that of an item that is to be read.
  abbrev pub ListReason : (Reason : BorshError → List ℕ → Type 0) (Allocates : List ℕ → Type 0) (room : ℕ) → BorshError → List ℕ → Type 0
  ListReason Reason Allocates room error input = OfList Allocates room error input ⊎ InItem (Reason error) room input

  -- the reason of a list that an array of that many slots or an allocation holds
  abbrev pub TinyReason : (Reason : BorshError → List ℕ → Type 0) (slots : ℕ) → BorshError → List ℕ → Type 0
  TinyReason Reason slots = ListReason Reason (MayAllocate slots) (2 ^ 64 - 1)
