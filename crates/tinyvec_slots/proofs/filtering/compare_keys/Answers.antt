use Rattle.std.proofs.Common.{◌<◌, ◌∙◌, length, get_or, set, arith, refl, of_calls}
use Rattle.std.proofs.Common.{get_or-set_other}
use Rattle.std.proofs.lemmas.List.{get_or_default}
use Rattle.std.proofs.RetainMut.{Called-Mut}
use Rattle.tinyvec_slots.proofs.filtering.compare_keys.Goals as goal

pub returns-clause-asked : goal.returns-clause-asked
returns-clause-asked g c =
    let xs = c.args.items.now in
    let i = c.args.current in
    let j = c.args.last in
    let left = c.key-current_key.new.arg2 in
    let left_beside = c.key-last_key.new.arg2 in
    let read = c.index-items-last.result in
    let beside = get_or (set xs i left) j read in
    let within : j < length xs = omega arith in
    record {
      shown = get_or xs i c.index-items-current.result;
      beside = beside;
      shows = (
        get_or_default xs i _ _ c.requires.in_bounds,
        get_or-set_other xs i j left read (λ e. absurd (omega arith)) ∙ get_or_default xs j read beside within,
      );
      left = left;
      left_beside = left_beside;
      asked = record {
        between = c.key-current_key.new.self;
        key = c.key-current_key.result;
        other = c.key-last_key.result;
        first = Called-Mut g.F.FnMut c.key-current_key.ensures;
        second = Called-Mut g.F.FnMut c.key-last_key.ensures;
        compared = c.eq.ensures;
      };
      after = refl {a = set (set xs i left) j left_beside};
    }

pub returns-clause-callable : goal.returns-clause-callable
returns-clause-callable g c = search of_calls
