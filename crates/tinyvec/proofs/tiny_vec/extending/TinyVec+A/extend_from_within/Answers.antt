use Rattle.std.proofs.Common.{◌≡◌, ◌+◌, ◌-◌, ◌≤◌, length, slice_range, sym, ap, ◌∙◌, arith}
use Rattle.tinyvec_slots.specs.Ranges.{range_start, range_end, items_within}
use Rattle.tinyvec_slots.proofs.Lists.{length-slice_range}
use Rattle.tinyvec.proofs.ExtendingLemmas.{extended_grown, extended_refused}
use Rattle.tinyvec.proofs.tiny_vec.extending.TinyVec+A.extend_from_within.Goals.{After-resolve_range-part}
use Rattle.std.proofs.lemmas.Bool.{false≢true}
use Rattle.tinyvec.specs.View.{Reserved}
use Rattle.tinyvec.proofs.PlaceLemmas.{has_room, no_room}
use Rattle.tinyvec.specs.TinyVec.{view}
use Rattle.tinyvec.proofs.tiny_vec.extending.TinyVec+A.extend_from_within.Goals as goal

-- the range as its two ends
module _ (g : _) (c : After-resolve_range-part g) where
  start : c.resolve_range-part.result.start ≡ range_start (g.R.RangeBounds.start_bound c.args.range)
  start = c.resolve_range-part.ensures.start

  end : c.resolve_range-part.result.end ≡ range_end (g.R.RangeBounds.end_bound c.args.range) (length (view g.A.Slots c.args.self.now).items)
  end = c.resolve_range-part.ensures.end ∙ ap (range_end (g.R.RangeBounds.end_bound c.args.range)) c.len.ensures.value

  order : c.resolve_range-part.result.start ≤ c.resolve_range-part.result.end
  order = omega (arith, start, end, c.requires.in_list.0)

  last : c.resolve_range-part.result.end ≤ length (view g.A.Slots c.args.self.now).items
  last = omega (arith, end, c.requires.in_list.1)

  part : slice_range (view g.A.Slots c.args.self.now).items c.resolve_range-part.result.start c.resolve_range-part.result.end
      ≡ items_within (view g.A.Slots c.args.self.now).items (g.R.RangeBounds.start_bound c.args.range) (g.R.RangeBounds.end_bound c.args.range)
  part =
      let xs = (view g.A.Slots c.args.self.now).items in
      ap (λ i. slice_range xs i c.resolve_range-part.result.end) start ∙ ap (slice_range xs (range_start (g.R.RangeBounds.start_bound c.args.range))) end

  many : length (items_within (view g.A.Slots c.args.self.now).items (g.R.RangeBounds.start_bound c.args.range) (g.R.RangeBounds.end_bound c.args.range))
      ≡ c.resolve_range-part.result.end - c.resolve_range-part.result.start
  many = sym (ap length part) ∙ length-slice_range (view g.A.Slots c.args.self.now).items c.resolve_range-part.result.start c.resolve_range-part.result.end order last

pub returns-in_err-reserve : goal.returns-in_err-reserve
returns-in_err-reserve g c =
    let told = c.in_err-reserve.ensures in
    let made = extended_refused g.A.Item.Default.is_default g.A.Item.Clone _ _ _ _ _ (sym (many g (goal.at.returns-in_err-reserve g c).After-resolve_range-part)) c.from_residual.ensures.0
    (no_room (length (view g.A.Slots c.args.self.now).items + (c.resolve_range-part.result.end - c.resolve_range-part.result.start)) (view g.A.Slots c.args.self.now).place.capacity (λ fits. false≢true (told.kept fits).0)) told.refused in
    record { clones = made.clones; ok = made.ok; succeeds = made.succeeds; refused = made.refused }

pub clone_reserved-requires : goal.clone_reserved-requires
clone_reserved-requires g c =
    let at = (goal.at.clone_reserved-requires g c).After-resolve_range-part in
    let part = c.resolve_range-part.result in
    let mid = (view g.A.Slots c.reserve.new.self).items in
    let grown = c.in_ok-reserve.ensures.ok in
    let same = ap length grown.items in
    let inside : part.end ≤ length mid = omega (arith, last g at, same) in
    record {
      in_list = (order g at, inside);
      room = omega (arith, has_room g.A.Item.Default.is_default Reserved _ _ _ _ grown, same, length-slice_range mid part.start part.end (order g at) inside);
    }

pub returns : goal.returns
returns g c =
    let at = (goal.at.returns g c).After-resolve_range-part in
    let cut = c.resolve_range-part.result in
    let grown = c.in_ok-reserve.ensures in
    let same : slice_range (view g.A.Slots c.reserve.new.self).items cut.start cut.end
    ≡ items_within (view g.A.Slots c.args.self.now).items (g.R.RangeBounds.start_bound c.args.range) (g.R.RangeBounds.end_bound c.args.range) =
    ap (λ l. slice_range l cut.start cut.end) grown.ok.items ∙ part g at in
    let made = extended_grown g.A.Item.Default.is_default g.A.Item.Clone _ _ _ _ _ _ (sym (many g at)) grown.ok.items (λ i. ap (view g.A.Slots) (grown.stays i)) grown.ok.place (rw same at c.clone_reserved.ensures) in
    record { clones = made.clones; ok = made.ok; succeeds = made.succeeds; refused = made.refused }
