-- The laws of a splice of a `TinyVec`: what its calls leave of spare slots, place and room.
use Rattle.std.proofs.Common.{◌≡◌, ◌≤◌, List, length, refl, sym, ap, ◌∙◌, arith}
use Rattle.tinyvec_array.specs.declared.slots.Slots as Storage
use Rattle.tinyvec.specs.View.{TinyView, Becomes, StaysInPlace, SameFrame, place_pushed}
use Rattle.tinyvec.specs.TinyVec.{view}
use Rattle.tinyvec.specs.Lends.{tiny_with_items}
use Rattle.tinyvec.specs.Room.{GrowsByPushes}
use Rattle.tinyvec.specs.FrameLaws.{FrameOf, SameFrame-refl, SameFrame-then, tiny_items-with, tiny_framed-with, tiny_slots_framed, tiny_slots_then_framed}
use Rattle.tinyvec.specs.PlaceLaws.{pushed_same, pushed_no_less}
use Rattle.tinyvec.specs.declared.tiny_vec.TinyVec.{TinyVec}

pub tiny_written : {A T L : Type 0} (g : Storage.Ghosts A T L) (v : TinyVec A T L) (ws : List T) → length ws ≡ length (view g v).items
    → ((view g (tiny_with_items g v ws)).items ≡ ws) × FrameOf g v (tiny_with_items g v ws)
tiny_written g v ws e = (tiny_items-with g v ws e, tiny_framed-with g v ws e)

module _ {A T L : Type 0} (g : Storage.Ghosts A T L) where
  pub frame_refl : (v : TinyVec A T L) → FrameOf g v v
  frame_refl v = SameFrame-refl (view g v)

  pub frame_then : (u v w : TinyVec A T L) → FrameOf g u v → FrameOf g v w → FrameOf g u w
  frame_then u v w = SameFrame-then (view g u) (view g v) (view g w)

  pub frame_room : (v w : TinyVec A T L) → FrameOf g v w → (view g w).place.capacity ≡ (view g v).place.capacity
  frame_room v w k = ap (λ p. p.capacity) k.place

module _ {T : Type 0} where
  module _ (D : T → Type 0) where
    pub frame_becomes : (u v w : TinyView T) (xs : List T) → SameFrame u v → Becomes D v w xs → Becomes D u w xs
    frame_becomes u v w xs k h = record {
      items = h.items;
      place = h.place ∙ k.place;
      slot_rule = tiny_slots_framed D u v w k h.slot_rule;
      fits = h.fits;
    }

    pub frame_grows : (u v w x : TinyView T) → SameFrame u v → GrowsByPushes D v w → SameFrame w x → GrowsByPushes D u x
    frame_grows u v w x k h j = record {
      items = refl;
      place = j.place ∙ h.place ∙ ap (λ n. place_pushed n v.place) (sym j.len) ∙ ap (place_pushed (length x.items)) k.place;
      slot_rule = tiny_slots_then_framed D u w x (tiny_slots_framed D u v w k h.slot_rule) j;
      fits = let b = ap (λ p. p.capacity) j.place in let c = j.len in omega (arith, b, c, h.fits);
    }

    pub stays_grows : (v w : TinyView T) → StaysInPlace D v w → length w.items ≤ w.place.capacity → GrowsByPushes D v w
    stays_grows v w h fits = record {
      items = refl;
      place = h.place ∙ sym (pushed_same (length w.items) v.place (omega (arith, fits, ap (λ p. p.capacity) h.place)));
      slot_rule = h.slot_rule;
      fits = fits;
    }

    pub grows_room : (v w : TinyView T) → GrowsByPushes D v w → v.place.capacity ≤ w.place.capacity
    grows_room v w h = omega (arith, pushed_no_less (length w.items) v.place, ap (λ p. p.capacity) h.place)
