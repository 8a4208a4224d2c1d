use Rattle.std.proofs.Common.{◌≡◌, [], ◌∷◌, length, pos, IsOk, refl, ap, ◌∙◌, arith, rules}
use Rattle.std.specs.Array.Iter.{array_into_iter_items}
use Rattle.tinyvec_slots.specs.Ends.{front}
use Rattle.tinyvec_slots.specs.Fused.{fused_rest}
use Rattle.tinyvec_slots.proofs.Fused.{fused_ends}
use Rattle.tinyvec_slots.proofs.AnySpliceLemmas.{spliced_len}
use Rattle.tinyvec_array.proofs.Named.{array_slots}
use Rattle.tinyvec.specs.TinyVec.{view, tiny_view, tiny_items, tiny_len, is_inline, tiny_capacity, IsInline}
use Rattle.tinyvec.specs.FrameLaws.{FrameOf}
use Rattle.tinyvec.specs.PlaceLaws.{pushed_same}
use Rattle.tinyvec_slots.specs.Splice.{splice_view, splice_front, splice_left, splice_back, splice_replacement, splice_vec, SpliceKeeps}
use Rattle.tinyvec.specs.SpliceLaws.{frame_refl, frame_then}
use Rattle.tinyvec_slots.proofs.SpliceLemmas.{RunsWord-splices}
use Rattle.tinyvec_slots.proofs.KnownItems.{array_ends}
use Rattle.tinyvec_examples.proofs.SpliceEnded.{first_taken, ended_fits, ended_all}
use Rattle.tinyvec_examples.proofs.tiny_splicing.replaced_inline.Goals as goal

pub returns : goal.returns
returns c =
    let R = fused_rest array_into_iter_items in
    let g = array_slots 4 in
    let s = c.splice-splice.result in
    let t = c.next-first.new.self in
    let v = c.finish-finished.new.self.0 in
    let made = c.splice-splice.ensures in
    let start = c.three-v.ensures in
    let ahead : splice_front (λ v. (view g v).items) s ≡ pos 1 ∷ [] = made.begins.front ∙ rw start.items (refl {a = pos 1 ∷ []}) in
    let left : splice_left (λ v. (view g v).items) s ≡ pos 2 ∷ [] = made.begins.left ∙ rw start.items (refl {a = pos 2 ∷ []}) in
    let behind : splice_back (λ v. (view g v).items) s ≡ pos 3 ∷ [] = made.begins.back ∙ rw start.items (refl {a = pos 3 ∷ []}) in
    let whole : R (splice_replacement s) ≡ pos 7 ∷ pos 8 ∷ [] = rw made.unasked made.replacement.0 in
    let first = first_taken (splice_view (λ v. (view g v).items)) (SpliceKeeps (λ v. (view g v).items) (FrameOf g)) _ s t c.next-first.result (pos 2) [] c.next-first.ensures.steps left in
    let along = RunsWord-splices (λ v. (view g v).items) (FrameOf g) (frame_refl g) (frame_then g) R _ _ (fused_ends _ _ _ array_ends) s (front ∷ []) (c.next-first.result ∷ []) t (t, c.next-first.ensures.steps, refl) in
    let sum = spliced_len (splice_view (λ v. (view g v).items)) (SpliceKeeps (λ v. (view g v).items) (FrameOf g)) R s t (front ∷ []) (tiny_items v) _ _ _ _ along ahead left behind whole in
    let inside : IsInline (splice_vec t) = ap (λ p. p.inline) along.kept.kept.place ∙ ap is_inline made.vec ∙ start.place in
    let slots : tiny_capacity (splice_vec t) ≡ 4 = ap (λ p. p.capacity) along.kept.kept.place ∙ ap tiny_capacity made.vec ∙ start.capacity in
    let ok : IsOk c.finish-finished.result = c.finish-finished.ensures.succeeds array_into_iter_items array_ends.first (omega (arith, sum, slots)) in
    let finished = c.finish-finished.ensures.listed array_into_iter_items array_ends.first in
    let fits = (ended_fits R (tiny_capacity v) s t (front ∷ []) (tiny_items v) _ _ _ _ along ahead left behind whole _ finished).0 ok in
    let list : tiny_items v ≡ pos 1 ∷ pos 7 ∷ pos 8 ∷ pos 3 ∷ [] = ended_all R (tiny_capacity v) s t (front ∷ []) (tiny_items v) _ _ _ _ along ahead left behind whole _ finished fits in
    let long : tiny_len v ≡ 4 = ap length list in
    let stays = pushed_same (tiny_len v) (tiny_view (splice_vec t)).place (omega (arith, long, slots)) in
    let place : IsInline v = ap (λ p. p.inline) (c.finish-finished.ensures.changes.place ∙ stays) ∙ inside in
    let same = along.kept.same_reference in
    let lender = made.same_reference in
    record {
      first = first.0;
      all_fit = search rules;
      items = search rules;
      place = search rules;
    }
