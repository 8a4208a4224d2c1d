-- The items of a range were taken, and the drain of it ended.
use Rattle.std.proofs.Common.{◌≡◌, ℕ, ◌+◌, ◌-◌, ◌≤◌, List, ◌++◌, length, take, drop, ap, subst, ◌∙◌, arith, length-append, length-take-le, append_assoc, take_at, drop_at}
use Rattle.std.specs.declared.ops.Bound.{Bound}
use Rattle.std.specs.List.{remove_range}
use Rattle.tinyvec_slots.specs.Ranges.{IsRangeOf, range_start, range_end, items_before, items_after}
use Rattle.tinyvec_slots.specs.Slots.{AreDefaults}
use Rattle.tinyvec_array.specs.declared.slots.Slots as Storage
use Rattle.tinyvec.specs.TinyVec.{view}
use Rattle.tinyvec.specs.View.{Becomes}
use Rattle.tinyvec.specs.DrainLaws.{DrainEnded}
use Rattle.tinyvec.specs.FrameLaws.{tiny_items-with, tiny_framed-with}
use Rattle.tinyvec.specs.Lends.{tiny_with_items}
use Rattle.tinyvec.specs.SpliceLaws.{frame_becomes}
use Rattle.tinyvec.specs.declared.tiny_vec.TinyVec.{TinyVec}

module _ {A T L : Type 0} (g : Storage.Ghosts A T L) (D : T → Type 0) (v new : TinyVec A T L) (from to : Bound ℕ) (i j : ℕ) (ws : List T) where
  pub range_ended : IsRangeOf (view g v).items from to → i ≡ range_start from → j ≡ range_end to (length (view g v).items)
      → length ws ≡ length (view g v).items → (ds : List T) × AreDefaults D (j - i) ds × (ws ≡ take i (view g v).items ++ ds ++ drop j (view g v).items)
      → DrainEnded g D i (j - i) (tiny_with_items g v ws) new
      → Becomes D (view g v) (view g new) (items_before (view g v).items from ++ items_after (view g v).items to)
  range_ended within start end long (ds, defaults, is) ended =
      let xs = (view g v).items in
      let order : i ≤ j = omega (arith, start, end, within.0) in
      let inside : j ≤ length xs = omega (arith, end, within.1) in
      let first = length-take-le i xs (omega (arith, order, inside)) in
      let front = ap (take i) (is ∙ append_assoc (take i xs) ds (drop j xs)) ∙ take_at (take i xs) (ds ++ drop j xs) i first in
      let back = ap (drop (i + (j - i))) is ∙ drop_at (take i xs ++ ds) (drop j xs) (i + (j - i)) (length-append (take i xs) ds ∙ omega (arith, first, defaults.0)) in
      let around = ap (λ k. take k xs ++ drop j xs) start ∙ ap (λ k. items_before xs from ++ drop k xs) end in
      subst (Becomes D (view g v) (view g new)) (ap (λ l. remove_range l i (i + (j - i))) (tiny_items-with g v ws long) ∙ (λ k. front k ++ back k) ∙ around)
      (frame_becomes D (view g v) (view g (tiny_with_items g v ws)) (view g new) _ (tiny_framed-with g v ws long) ended)
