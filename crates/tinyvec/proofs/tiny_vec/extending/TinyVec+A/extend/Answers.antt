use Rattle.std.specs.Prelude.{length}
use Rattle.tinyvec.proofs.FillingLemmas.{told_listed, told_known, can_go_on}
use Rattle.tinyvec.specs.TinyVec.{view}
use Rattle.tinyvec.specs.SpliceLaws.{grows_room}
use Rattle.tinyvec.proofs.tiny_vec.extending.TinyVec+A.extend.Goals as goal

pub returns-clause-goes_on : goal.returns-clause-goes_on
returns-clause-goes_on g c =
    can_go_on g.I.IntoIter.Iterator.can_next g.I.IntoIter.Iterator.remaining c.into_iter.result (length (view g.A.Slots c.args.self.now).items) (length (view g.A.Slots c.extend_runs.new.self).items) c.extend_runs.result
    c.extend_runs.ensures.fills.goes_on

pub returns-clause-items : goal.returns-clause-items
returns-clause-items g c =
    let it = c.into_iter.result in
    let gives = c.into_iter.ensures.into_iter_gives in
    let steps = g.I.IntoIter.Iterator.next_gives in
    let r = c.extend_runs.result in
    let made = c.extend_runs.ensures in
    let ran = made.fills.ran in
    let old = c.args.self.now in
    let new = c.extend_runs.new.self in record {
      ran = (it, ran.0, gives, ran.1, ran.2);
      listed = λ rest shows. (it, ran.0, gives, told_listed steps (λ e. e.item) (λ e. e.rest) r rest shows it ran.0 ran.1, ran.2);
      known = λ xs yields. told_known steps (λ e. e.item) (λ e. e.rest) r xs it (yields it gives) ran.0
          (view g.A.Slots old).items (view g.A.Slots new).items (view g.A.Slots old).place.capacity (view g.A.Slots new).place.capacity ran.1 ran.2 (grows_room g.A.Item.Default.is_default (view g.A.Slots old) (view g.A.Slots new) made.grows) made.fills.full;
    }
