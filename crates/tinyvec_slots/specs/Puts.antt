-- What it is to put items behind the list of a `Vec`.
use Rattle.std.proofs.Common.{◌≡◌, List, [], ◌++◌, refl, sym, Vec, append-nil}
use Rattle.std.specs.Prelude.{vec_capacity}

module _ {T Z : Type 0} where
  -- a call took `old` to `new`, whose list is xs
  pub record HeapBecomes (old new : Vec T Z) (xs : List T) : Type 0 where
    pub items : new.items ≡ xs
    pub capacity : vec_capacity new ≡ vec_capacity old

  -- xs were pushed, in room that there was
  abbrev pub HeapPuts : Vec T Z → List T → Vec T Z → Type 0
  HeapPuts old xs new = HeapBecomes old new (old.items ++ xs)

  pub heap_puts_none : (v : Vec T Z) → HeapPuts v [] v
  heap_puts_none v = record { items = sym (append-nil v.items); capacity = refl }

  -- the list is as it was
  abbrev pub HeapLeaves : Vec T Z → List T → Vec T Z → Type 0
  HeapLeaves old xs new = HeapBecomes old new old.items
