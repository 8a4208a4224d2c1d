use Rattle.std.proofs.Common.{take, take_all, take_at, sym, ap, subst, ◌∙◌, arith, vec_capacity}
use Rattle.std.specs.List.{AppendsClones}
use Rattle.tinyvec.proofs.tuned.push_clones.Goals as goal

pub push_until_refused-pushed-requires : goal.push_until_refused-pushed-requires
push_until_refused-pushed-requires g c = record { room = rw c.replace-vec.ensures.value c.requires.room }

pub returns-then-pushed-from : goal.returns-then-pushed-from
returns-then-pushed-from g c =
    let first = c.replace-vec.result in
    let same = c.replace-vec.ensures.value in
    let made = c.push_until_refused-pushed.ensures in record {
      items = tt;
      kept = rw (← same) (c.truncate.ensures.items ∙ ap (take c.len-len.result) made.items.1 ∙ take_at first.items made.items.0 c.len-len.result (sym (c.len-len.ensures ∙ first.ok.0)));
      refused = made.refused c.if-pushed-from.true;
      capacity = c.truncate.ensures.capacity ∙ made.capacity ∙ ap vec_capacity same;
    }

pub returns : goal.returns
returns g c =
    let made = c.push_until_refused-pushed in
    let from = c.args.from.now in
    let cloned = rw c.replace-vec.ensures.value at made.ensures.items in record {
      items = subst (λ l. AppendsClones g.T.Clone.is_clone c.args.heap.now.items made.new.vec.items l) (take_all made.result from (omega (arith, c.if-pushed-from.false))) cloned;
      kept = tt;
      refused = tt;
      capacity = made.ensures.capacity ∙ ap vec_capacity c.replace-vec.ensures.value;
    }
