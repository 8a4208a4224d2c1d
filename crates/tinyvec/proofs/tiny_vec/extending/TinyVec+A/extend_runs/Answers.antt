use Rattle.std.proofs.Common.{◌≡◌, ◌≤◌, ◌+◌, ◌∷◌, ◌++◌, [], append_assoc, append-nil, Err, length, sym, ap, subst, ◌∙◌, arith, rules}
use Rattle.std.proofs.iter.Next.{Yields-more}
use Rattle.std.proofs.lemmas.List.{length_push}
use Rattle.std.specs.Iterator.{Yields}
use Rattle.tinyvec.specs.Room.{GrowsByPushes}
use Rattle.tinyvec.specs.Following.{FillsRoom}
use Rattle.tinyvec.specs.SpliceLaws.{stays_grows}
use Rattle.tinyvec.proofs.FillingLemmas.{runs_on, no_fewer}
use Rattle.tinyvec.proofs.FrameLemmas.{stays_same}
use Rattle.tinyvec.proofs.PlaceLemmas.{grows_pushed, grows_stays}
use Rattle.tinyvec.proofs.TinyLemmas.{tiny_fits}
use Rattle.tinyvec.proofs.tiny_vec.extending.TinyVec+A.extend_runs.Goals.{After-fill_room, In-Err}
use Rattle.tinyvec.specs.TinyVec.{view}
use Rattle.tinyvec.proofs.tiny_vec.extending.TinyVec+A.extend_runs.Goals as goal

pub loop-item-init : goal.loop-item-init
loop-item-init g c =
    let D = g.A.Item.Default.is_default in
    let v = view g.A.Slots c.args.self.now in
    let fits : length v.items ≤ v.place.capacity = tiny_fits g.A.Slots c.args.self.now in
    let none : Yields g.I.Iterator.next_gives c.args.iter [] c.args.iter = search rules in record {
      can = c.requires.0;
      finite = c.requires.1;
      ran = ([], none, sym (append-nil v.items));
      no_longer = omega arith;
      longer = omega arith;
      grows = stays_grows D v v (stays_same D v fits) fits;
    }

pub returns-in-Ok-clause-fills : goal.returns-in-Ok-clause-fills
returns-in-Ok-clause-fills g c =
    let at = c.loop-item in
    let placed = at.invariant.ran in
    runs_on g.I.Iterator c.args.iter at.items _ _ (view g.A.Slots c.args.self.now).items (view g.A.Slots at.self).items _ placed.0 placed.1 placed.2 at.invariant.no_longer c.in-Ok.ensures.fills

-- what a run leaves of place and room
filled : (g : _) (c : After-fill_room g) → GrowsByPushes g.A.Item.Default.is_default (view g.A.Slots c.args.self.now) (view g.A.Slots c.fill_room.new.self)
filled g c =
    let at = c.loop-item in
    let run = c.fill_room.ensures in
    let longer = no_fewer (view g.A.Slots at.self).items (view g.A.Slots c.fill_room.new.self).items run.fills in
    grows_stays g.A.Item.Default.is_default (view g.A.Slots c.args.self.now) (view g.A.Slots at.self) (view g.A.Slots c.fill_room.new.self) at.invariant.longer longer at.invariant.grows run.frame

pub returns-in-Ok-clause-grows : goal.returns-in-Ok-clause-grows
returns-in-Ok-clause-grows g c = filled g (goal.at.returns-in-Ok-clause-grows g c).After-fill_room

-- what was placed before an item found no room
refused : (g : _) (c : In-Err g) → FillsRoom {X = Unit} g.I.Iterator c.args.iter (view g.A.Slots c.fill_room.new.self).place.capacity (Err c.in-Err.field-0) (view g.A.Slots c.args.self.now).items (view g.A.Slots c.fill_room.new.self).items
refused g c =
    let at = c.loop-item in
    let placed = at.invariant.ran in
    runs_on g.I.Iterator c.args.iter at.items _ _ (view g.A.Slots c.args.self.now).items (view g.A.Slots at.self).items _ placed.0 placed.1 placed.2 at.invariant.no_longer c.in-Err.ensures.fills

pub loop-item-preserved : goal.loop-item-preserved
loop-item-preserved g c =
    let inv = c.loop-item.invariant in
    let olds = (view g.A.Slots c.args.self.now).items in
    let mid = c.fill_room.new.self in
    let new = c.push.new.self in
    let run = refused g (goal.at.loop-item-preserved g c).In-Err in
    let ran = run.ran in
    let made = c.in-Ok-push.ensures.ok in
    let x = c.in-Err.field-0.item in
    let one : length (view g.A.Slots new).items ≡ length (view g.A.Slots mid).items + 1 = ap length made.items ∙ length_push (view g.A.Slots mid).items x in
    let long : length olds ≤ length (view g.A.Slots mid).items = omega (arith, inv.longer, no_fewer (view g.A.Slots c.loop-item.self).items (view g.A.Slots mid).items c.fill_room.ensures.fills) in record {
      can = run.goes_on.0;
      finite = run.goes_on.1;
      ran = (
        ran.0 ++ x ∷ [],
        Yields-more g.I.Iterator.next_gives c.args.iter ran.0 ran.1.0 x c.in-Err.field-0.rest ran.1.1 ran.1.2,
        made.items ∙ ap (λ l. l ++ x ∷ []) ran.2 ∙ append_assoc olds ran.0 (x ∷ []),
      );
      no_longer = omega (arith, run.goes_on.2, one);
      longer = omega (arith, long, one);
      grows = grows_pushed g.A.Item.Default.is_default (view g.A.Slots c.args.self.now) (view g.A.Slots mid) (view g.A.Slots new) _ long one
          (filled g (goal.at.loop-item-preserved g c).After-fill_room) made;
    }

pub returns-in-Err-push-clause-fills : goal.returns-in-Err-push-clause-fills
returns-in-Err-push-clause-fills g c =
    let refusal = c.in-Err-push.ensures in
    rw (ap (λ v. v.items) refusal.err.1, ap (λ v. v.place.capacity) refusal.err.1, refusal.err.0) (refused g (goal.at.returns-in-Err-push-clause-fills g c).In-Err)

pub returns-in-Err-push-clause-grows : goal.returns-in-Err-push-clause-grows
returns-in-Err-push-clause-grows g c =
    subst (GrowsByPushes g.A.Item.Default.is_default (view g.A.Slots c.args.self.now))
    (sym c.in-Err-push.ensures.err.1)
    (filled g (goal.at.returns-in-Err-push-clause-grows g c).After-fill_room)
