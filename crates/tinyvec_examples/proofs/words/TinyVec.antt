-- Examples of a `TinyVec` whose array has four slots. `inline xs ys` has the list xs in the array, and the spare slots ys.
use Rattle.std.proofs.Common.{◌≡◌, ℕ, List, [], ◌∷◌, ◌++◌, length, Ok, Option, Result, true, false, ap, refl, rules, arith}
use Rattle.std.specs.Global.{Global}
use Rattle.tinyvec_array.specs.declared.bound.UpTo.{UpTo}
use Rattle.tinyvec_array.specs.UpTo.{up_to}
use Rattle.tinyvec_array.specs.declared.slots.Slots as Storage
use Rattle.tinyvec_array.proofs.Named.{array_slots}
use Rattle.tinyvec.specs.declared.tiny_vec.TinyVec.{TinyVec}
use Rattle.tinyvec.specs.declared.tiny_vec.TinyVec.TheVariants.{Inline}
use Rattle.tinyvec.specs.TinyVec.{view, tiny_items, tiny_spare, is_inline, IsInline, tiny_capacity, tiny_allocator, tiny_view}
use Rattle.tinyvec.specs.View.{in_array, on_heap, Doubled, Reserved, Exact, takes_need, place_for, place_pushed, heap_for, TinyView, BecomesIn, HoldsInline, IsNew, IsTail, IsTinyClone, IsTinyInfallible}
use Rattle.tinyvec.specs.Room.{GrowsByPushes, MadeFor, IsCollected, MovesToHeap, Reserves}
use Rattle.tinyvec.specs.Refused.{RefusedFor, ClonesBehind, ClonesRefused}
use Rattle.tinyvec.specs.Following.{PushesItems}
use Rattle.tinyvec_slots.specs.Filling.{IntoIterYields}
use Rattle.tinyvec_slots.specs.declared.no_room.NoRoom.{NoRoom}
use Rattle.tinyvec.specs.FrameLaws.{FrameOf}
use Rattle.tinyvec.specs.Lends.{tiny_with_items, tiny_with_item}
use Rattle.tinyvec_examples.proofs.words.Shown.{D, C, I}

-- an array of four slots
abbrev G : Storage.Ghosts (List ℕ) ℕ (UpTo 4)
G = array_slots 4

abbrev pub done : Result Unit Unit
done = Ok _

-- of tinyvec.specs.View: `in_array 4` and `on_heap 8` are each a `Place`
pub example-Place : ((in_array 4).inline ≡ true) × ((on_heap 8).capacity ≡ 8)
example-Place = (refl, refl)

pub example-in_array : (in_array 4).capacity ≡ 4
example-in_array = refl

-- of tinyvec.specs.View: `Doubled`, `Reserved` and `Exact` are each a `Growth`
pub example-Growth : (place_for Doubled 9 (on_heap 8) ≡ on_heap 16) × (place_for Reserved 9 (on_heap 8) ≡ on_heap 16) × (place_for Exact 9 (on_heap 8) ≡ on_heap 9)
example-Growth = (refl, refl, refl)

pub example-takes_need : (takes_need Reserved (in_array 4) ≡ true) × (takes_need Reserved (on_heap 8) ≡ false)
example-takes_need = (refl, refl)

pub example-place_for : (place_for Doubled 4 (in_array 4) ≡ in_array 4) × (place_for Doubled 5 (in_array 4) ≡ on_heap 8) × (place_for Reserved 5 (in_array 4) ≡ on_heap 5)
example-place_for = (refl, refl, refl)

pub example-place_pushed : (place_pushed 4 (in_array 4) ≡ in_array 4) × (place_pushed 9 (in_array 4) ≡ on_heap 16)
example-place_pushed = (refl, refl)

pub example-heap_for : (heap_for 3 (in_array 4) ≡ on_heap 3) × (heap_for 3 (on_heap 8) ≡ on_heap 8)
example-heap_for = (refl, refl)

module _ (alloc : Global) where
  abbrev pub inline : List ℕ → List ℕ → TinyVec (List ℕ) ℕ (UpTo 4)
  inline xs ys = Inline (record { slots = xs ++ ys; len = up_to 4 (length xs) }) alloc

  pub example-tiny_items : tiny_items (inline (1 ∷ 2 ∷ []) (0 ∷ 0 ∷ [])) ≡ 1 ∷ 2 ∷ []
  example-tiny_items = refl

  pub example-view : view G (inline (1 ∷ []) (0 ∷ 0 ∷ 0 ∷ [])) ≡ record { items = 1 ∷ []; spare = 0 ∷ 0 ∷ 0 ∷ []; place = in_array 4 }
  example-view = refl

  -- v is a `TinyView ℕ`
  pub example-TinyView : (v : TinyView ℕ) → v.items ++ v.spare ≡ 1 ∷ 0 ∷ [] → length (v.items ++ v.spare) ≡ 2
  example-TinyView v slots = ap length slots

  pub example-tiny_spare : tiny_spare (inline (1 ∷ 2 ∷ []) (0 ∷ 0 ∷ [])) ≡ 0 ∷ 0 ∷ []
  example-tiny_spare = refl

  pub example-is_inline : is_inline (inline (1 ∷ 2 ∷ []) (0 ∷ 0 ∷ [])) ≡ true
  example-is_inline = refl

  pub example-IsInline : IsInline (inline (1 ∷ 2 ∷ []) (0 ∷ 0 ∷ []))
  example-IsInline = search rules

  pub example-HoldsInline : HoldsInline (1 ∷ 2 ∷ []) (0 ∷ 0 ∷ []) (tiny_view (inline (1 ∷ 2 ∷ []) (0 ∷ 0 ∷ [])))
  example-HoldsInline = search rules

  pub example-IsNew : IsNew D 2 (tiny_view (inline [] (0 ∷ 0 ∷ [])))
  example-IsNew = record { items = refl; spare = search rules; place = refl }

  pub example-tiny_capacity : tiny_capacity (inline (1 ∷ 2 ∷ []) (0 ∷ 0 ∷ [])) ≡ 4
  example-tiny_capacity = refl

  pub example-tiny_allocator : tiny_allocator (inline (1 ∷ 2 ∷ []) (0 ∷ 0 ∷ [])) ≡ alloc
  example-tiny_allocator = refl

  pub example-IsTail : IsTail D 4 1 (tiny_view (inline (1 ∷ 2 ∷ []) (7 ∷ 8 ∷ []))) (tiny_view (inline (2 ∷ []) (0 ∷ 0 ∷ 0 ∷ [])))
  example-IsTail = record {
    items = refl;
    place = refl;
    spare = search rules;
    capacity = λ outside. absurd (let no = outside in cc);
    inline_capacity = λ _ _. refl;
    fits = omega arith;
  }

  pub example-tiny_with_items : tiny_with_items G (inline (1 ∷ 2 ∷ []) (0 ∷ 0 ∷ [])) (3 ∷ 4 ∷ []) ≡ inline (3 ∷ 4 ∷ []) (0 ∷ 0 ∷ [])
  example-tiny_with_items = refl

  -- of tinyvec.specs.Lends: `inline [1, 2] [0, 0]` lent by `lends_items`, by a reference that shows `[3, 4]` last
  pub example-lends_items : tiny_with_items G (inline (1 ∷ 2 ∷ []) (0 ∷ 0 ∷ [])) (3 ∷ 4 ∷ []) ≡ inline (3 ∷ 4 ∷ []) (0 ∷ 0 ∷ [])
  example-lends_items = refl

  -- of tinyvec.specs.IterMut: `inline [1, 2] [0, 0]` lent by `lends_iter`, to a loop that leaves `[3, 4]`
  pub example-lends_iter : tiny_with_items G (inline (1 ∷ 2 ∷ []) (0 ∷ 0 ∷ [])) (3 ∷ 4 ∷ []) ≡ inline (3 ∷ 4 ∷ []) (0 ∷ 0 ∷ [])
  example-lends_iter = refl

  -- of tinyvec.specs.Lends: `inline [1, 2] [0, 0]` lent by `lends_item` at 1, by a reference that shows 7 last
  pub example-lends_item : tiny_with_item G (inline (1 ∷ 2 ∷ []) (0 ∷ 0 ∷ [])) 1 7 ≡ inline (1 ∷ 7 ∷ []) (0 ∷ 0 ∷ [])
  example-lends_item = refl

  -- of tinyvec.specs.Lends: `inline [1] [7, 8, 0]` lent by `lends_added` at the end, by a reference that shows 5 last
  pub example-lends_added : BecomesIn D (tiny_view (inline (1 ∷ []) (7 ∷ 8 ∷ 0 ∷ []))) (tiny_view (inline (1 ∷ 5 ∷ []) (8 ∷ 0 ∷ []))) (1 ∷ 5 ∷ []) (place_for Doubled 2 (in_array 4))
  example-lends_added = search rules

  pub example-GrowsByPushes : GrowsByPushes D (tiny_view (inline (1 ∷ []) (7 ∷ 8 ∷ 0 ∷ []))) (tiny_view (inline (1 ∷ 5 ∷ []) (8 ∷ 0 ∷ [])))
  example-GrowsByPushes = search rules

  pub example-MadeFor : MadeFor D 4 2 1 (tiny_view (inline (1 ∷ []) (0 ∷ 0 ∷ 0 ∷ [])))
  example-MadeFor = search rules

  pub example-MovesToHeap : (v : TinyVec (List ℕ) ℕ (UpTo 4)) → MovesToHeap D 2 (tiny_view (inline (1 ∷ []) (0 ∷ 0 ∷ 0 ∷ []))) (tiny_view v) done → tiny_capacity v ≡ 3
  example-MovesToHeap v h = search rules

  pub example-Reserves : (w : TinyVec (List ℕ) ℕ (UpTo 4)) → Reserves G D Reserved 3 (inline (1 ∷ []) (0 ∷ 0 ∷ 0 ∷ [])) w done → w ≡ inline (1 ∷ []) (0 ∷ 0 ∷ 0 ∷ [])
  example-Reserves w h = (h.kept (search rules)).1

  pub example-ClonesBehind : ClonesBehind C (7 ∷ []) 1 (tiny_view (inline (1 ∷ []) (0 ∷ 0 ∷ 0 ∷ []))) (tiny_view (inline (1 ∷ []) (7 ∷ 0 ∷ 0 ∷ [])))
  example-ClonesBehind = λ _. record {
    made = 7 ∷ [];
    clones = (refl, tt);
    count = refl;
    written = refl;
  }

  pub example-RefusedFor : RefusedFor 5 ⊥ (tiny_view (inline (1 ∷ 2 ∷ 3 ∷ 4 ∷ []) [])) (tiny_view (inline (1 ∷ 2 ∷ 3 ∷ 4 ∷ []) []))
  example-RefusedFor = search rules

  pub example-ClonesRefused : ClonesRefused (record { is_clone = C; is_infallible = I }) (5 ∷ []) (tiny_view (inline (1 ∷ 2 ∷ 3 ∷ 4 ∷ []) [])) (tiny_view (inline (1 ∷ 2 ∷ 3 ∷ 4 ∷ []) []))
  example-ClonesRefused = search rules

  pub example-IsTinyClone : IsTinyClone C (tiny_view (inline (1 ∷ []) (0 ∷ 0 ∷ 0 ∷ []))) (tiny_view (inline (1 ∷ []) (0 ∷ 0 ∷ 0 ∷ [])))
  example-IsTinyClone = record {
    items = (refl, tt);
    len = refl;
    spare = (refl, (refl, (refl, tt)));
    if_clones_equal = λ _. (refl, refl);
    place = refl;
  }

  pub example-IsTinyInfallible : IsTinyInfallible I (tiny_view (inline (1 ∷ []) (0 ∷ 0 ∷ 0 ∷ [])))
  example-IsTinyInfallible = search rules

  pub example-IsCollected : IsCollected D 4 (1 ∷ []) (tiny_view (inline (1 ∷ []) (0 ∷ 0 ∷ 0 ∷ [])))
  example-IsCollected = search rules

pub example-PushesItems : (becomes : List ℕ → List ℕ → Type 0) (steps : List ℕ → Option ℕ → List ℕ → Type 0) (r : Result Unit (NoRoom ℕ (List ℕ))) (new : List ℕ)
    → IntoIterYields becomes steps (5 ∷ []) (5 ∷ []) → PushesItems becomes steps (5 ∷ []) 4 r (1 ∷ []) new → new ≡ 1 ∷ 5 ∷ []
example-PushesItems becomes steps r new yields h = ((h.known (5 ∷ []) yields).1 (omega arith)).1

pub example-FrameOf : (v w : TinyVec (List ℕ) ℕ (UpTo 4)) → FrameOf G v w → tiny_capacity w ≡ tiny_capacity v
example-FrameOf v w h = ap (λ p. p.capacity) h.place
