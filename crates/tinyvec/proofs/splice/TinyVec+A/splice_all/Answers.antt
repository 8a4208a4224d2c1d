use Rattle.std.proofs.Common.{◌≡◌, ◌≤◌, arith, rules, subst}
use Rattle.std.specs.Iterator.Adapters.{fuse_source}
use Rattle.tinyvec_slots.proofs.ReplacingLemmas.{between}
use Rattle.tinyvec_slots.specs.Splice.{splice_replacement, splice_view}
use Rattle.tinyvec_slots.proofs.SpliceLemmas.{puts_listed}
use Rattle.tinyvec_array.specs.declared.slots.Slots as Storage
use Rattle.tinyvec.specs.Room.{GrowsByPushes}
use Rattle.tinyvec.specs.declared.tiny_vec.TinyVec.{TinyVec}
use Rattle.tinyvec.specs.TinyVec.{view}
use Rattle.tinyvec.specs.SpliceLaws.{grows_room}
use Rattle.tinyvec.proofs.splice.TinyVec+A.splice_all.Goals as goal

pub returns-clause-ran : goal.returns-clause-ran
returns-clause-ran g c =
    let s = c.splice-splice.result in
    let made = c.splice-splice.ensures in
    let done = c.finish.ensures.finished in
    let lender = made.same_reference in
    let list = between _ _ done.placed _ _ _ done.list_is made.begins.front made.begins.back in
    (splice_replacement s, done.placed, made.replacement, made.unasked, done.ran, search rules)

pub returns-clause-listed : goal.returns-clause-listed
returns-clause-listed g c = λ rest shows.
    let s = c.splice-splice.result in
    let made = c.splice-splice.ensures in
    let lender = made.same_reference in
    let puts = puts_listed rest _ (splice_view (λ v. (view g.A.Slots v).items) s) _ _ _ _ made.unasked made.begins.front made.begins.back (c.finish.ensures.listed rest shows) in
    let more = subst (λ v. (view g.A.Slots v).place.capacity ≤ (view g.A.Slots c.finish.new.self.0).place.capacity) made.vec (grows_room g.A.Item.Default.is_default _ _ c.finish.ensures.changes) in
    (fuse_source (splice_replacement s), made.replacement, λ fits. puts.0.1 (omega (arith, fits, more)), search rules, search rules)

pub returns-clause-known : goal.returns-clause-known
returns-clause-known g c = λ xs yields.
    let made = c.splice-splice.ensures in
    let lender = made.same_reference in
    let known = c.finish.ensures.known xs (made.unasked, yields _ made.replacement) in
    search rules

-- the vector at the end is what `finish` left
as_seen : {A T L : Type 0} (g : Storage.Ghosts A T L) (D : T → Type 0) (old v w : TinyVec A T L) → v ≡ w → GrowsByPushes D (view g old) (view g v) → GrowsByPushes D (view g old) (view g w)
as_seen g D old v w same = subst (λ u. GrowsByPushes D (view g old) (view g u)) same

pub returns-clause-grows : goal.returns-clause-grows
returns-clause-grows g c =
    let D = g.A.Item.Default.is_default in
    let made = c.splice-splice.ensures in
    let lender = made.same_reference in
    as_seen g.A.Slots D c.args.self.now c.finish.new.self.0 c.self-1.given.0 (search rules)
    (subst (λ v. GrowsByPushes D (view g.A.Slots v) (view g.A.Slots c.finish.new.self.0)) made.vec c.finish.ensures.changes)
