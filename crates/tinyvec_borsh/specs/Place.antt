-- Where a list is that was read.
use Rattle.std.specs.Prelude.{◌≡◌, ℕ, ◌+◌, ◌-◌, ◌<◌, ◌≤◌, min}
use Rattle.tinyvec.specs.View.{Doubled, Exact, Growth, Place, Reserved, in_array, place_for, place_pushed}

-- the room that is made before the first of n items is read: for at most 1024 of them
abbrev pub place_ahead : (slots n : ℕ) → Place
place_ahead slots n = place_for Exact (min n 1024) (in_array slots)

-- Where n items are that were read: those that find no room are pushed, but for the last, whose room is reserved before it is read.
abbrev pub place_read : (slots n : ℕ) → Place
place_read slots n = place_for Reserved n (place_pushed (n - 1) (place_ahead slots n))

-- A list in this place has grown to n items, of `count` that are to be read: by a push, or by what there was room for, or by the last.
pub record GrowsBy (how : Growth) (n count : ℕ) (p : Place) : Type 0 where
  pub pushes : n < count → how ≡ Doubled
  pub last : n ≡ count → how ≡ Reserved
  pub one_more : n ≤ p.capacity + 1
