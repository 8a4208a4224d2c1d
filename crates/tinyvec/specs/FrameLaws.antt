-- What has the same frame: the same vector, and one whose items were written. The slot rule reads no more of a vector.
use Rattle.std.proofs.Common.{◌≡◌, List, length, drop, refl, sym, ap, ◌∙◌, take_at}
use Rattle.tinyvec_array.specs.CutLaws.{written_of}
use Rattle.tinyvec_array.specs.SpliceLaws.{kept_count}
use Rattle.tinyvec_array.specs.Lends.{with_items_of}
use Rattle.tinyvec_array.specs.ViewLaws.{rule_at, rule_by}
use Rattle.tinyvec_array.specs.declared.slots.Slots as Storage
use Rattle.tinyvec.specs.View.{TinyView, SpareRule, SameFrame, in_array}
use Rattle.tinyvec.specs.TinyVec.{view}
use Rattle.tinyvec.specs.Lends.{tiny_with_items}
use Rattle.tinyvec.specs.declared.tiny_vec.TinyVec.{TinyVec}
use Rattle.tinyvec.specs.declared.tiny_vec.TinyVec.TheVariants.{Inline, Heap}

-- of two vectors, by their views
abbrev pub FrameOf : {A T L : Type 0} → Storage.Ghosts A T L → TinyVec A T L → TinyVec A T L → Type 0
FrameOf g old new = SameFrame (view g old) (view g new)

module _ {T : Type 0} where
  pub SameFrame-refl : (v : TinyView T) → SameFrame v v
  SameFrame-refl v = record { len = refl; spare = refl; place = refl }

  pub SameFrame-then : (u v w : TinyView T) → SameFrame u v → SameFrame v w → SameFrame u w
  SameFrame-then u v w h k = record { len = k.len ∙ h.len; spare = k.spare ∙ h.spare; place = k.place ∙ h.place }

  module _ (D : T → Type 0) where
    -- the slot rule reads no more of the old vector than its frame
    pub tiny_slots_framed : (old mid new : TinyView T) → SameFrame old mid → SpareRule D mid new → SpareRule D old new
    tiny_slots_framed old mid new frame h =
        rule_by D old new (λ i j. rw (sym frame.len, sym frame.spare) (rule_at D mid new h (ap (λ p. p.inline) frame.place ∙ i) j))

    -- and no more of the new one
    pub tiny_slots_then_framed : (old mid new : TinyView T) → SpareRule D old mid → SameFrame mid new → SpareRule D old new
    tiny_slots_then_framed old mid new h frame =
        rule_by D old new (λ i j. rw (frame.len, frame.spare) (rule_at D old mid h i (sym (ap (λ p. p.inline) frame.place) ∙ j)))

module _ {A T L : Type 0} (g : Storage.Ghosts A T L) where
  -- a write through the slice of the items, which keeps its length, leaves what the slice shows
  pub tiny_items-with : (v : TinyVec A T L) (ws : List T) → length ws ≡ length (view g v).items → (view g (tiny_with_items g v ws)).items ≡ ws
  tiny_items-with (Inline v alloc) ws e = (written_of g v ws e).0
  tiny_items-with (Heap v) ws e = take_at ws (drop (length ws) v.items) v.len (e ∙ sym v.ok.0)

  -- and leaves spare slots, place and room
  pub tiny_framed-with : (v : TinyVec A T L) (ws : List T) → length ws ≡ length (view g v).items → FrameOf g v (tiny_with_items g v ws)
  tiny_framed-with (Inline v alloc) ws e =
      let written = written_of g v ws e in record {
        len = ap length written.0 ∙ e;
        spare = written.1.1.0;
        place = ap in_array (kept_count g v (with_items_of g v ws) written.1);
      }
  tiny_framed-with (Heap v) ws e = record { len = ap length (tiny_items-with (Heap v) ws e) ∙ e; spare = refl; place = refl }
