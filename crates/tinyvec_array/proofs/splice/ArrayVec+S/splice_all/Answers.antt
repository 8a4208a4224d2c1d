use Rattle.std.proofs.Common.{subst, rules}
use Rattle.std.specs.Iterator.Adapters.{fuse_source}
use Rattle.tinyvec_slots.proofs.ReplacingLemmas.{between}
use Rattle.tinyvec_array.specs.View.{view, StaysInPlace}
use Rattle.tinyvec_slots.specs.Splice.{splice_replacement, splice_view}
use Rattle.tinyvec_slots.proofs.SpliceLemmas.{puts_listed}
use Rattle.tinyvec_array.proofs.splice.ArrayVec+S.splice_all.Goals as goal

pub returns-clause-ran : goal.returns-clause-ran
returns-clause-ran g c =
    let s = c.splice-splice.result in
    let made = c.splice-splice.ensures in
    let done = c.finish.ensures.finished in
    let lender = made.same_reference in
    let list = between _ _ done.placed _ _ _ done.list_is made.begins.front made.begins.back in
    (splice_replacement s, done.placed, made.replacement, made.unasked, done.ran, search rules)

pub returns-clause-changes : goal.returns-clause-changes
returns-clause-changes g c =
    let made = c.splice-splice.ensures in
    let lender = made.same_reference in
    let ruled : StaysInPlace g.S.Item.Default.is_default (view g.S.Slots c.args.self.now) (view g.S.Slots c.finish.new.self.0) =
    subst (λ v. StaysInPlace g.S.Item.Default.is_default (view g.S.Slots v) (view g.S.Slots c.finish.new.self.0)) made.slots c.finish.ensures.changes in
    search rules

pub returns-clause-known : goal.returns-clause-known
returns-clause-known g c = λ xs yields.
    let made = c.splice-splice.ensures in
    let lender = made.same_reference in
    let known = c.finish.ensures.known xs (made.unasked, yields _ made.replacement) in
    search rules

pub returns-clause-listed : goal.returns-clause-listed
returns-clause-listed g c = λ rest shows.
    let s = c.splice-splice.result in
    let made = c.splice-splice.ensures in
    let lender = made.same_reference in
    let puts = puts_listed rest _ (splice_view (λ v. (view g.S.Slots v).items) s) _ _ _ _ made.unasked made.begins.front made.begins.back (c.finish.ensures.listed rest shows) in
    (fuse_source (splice_replacement s), made.replacement, search rules, search rules, search rules)
