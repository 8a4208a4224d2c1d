use Rattle.std.proofs.Common.{◌≡◌, ◌<◌, ◌+◌, length, get_or, ap, ◌∙◌, arith}
use Rattle.std.proofs.lemmas.List.{get_or_default, get_or-take, get_or-drop}
use Rattle.tinyvec_slots.proofs.FiltersLemmas.{joined_writes}
use Rattle.tinyvec_slots.proofs.filtering.ask_pair.Goals as goal

pub returns-clause-asked : goal.returns-clause-asked
returns-clause-asked g c =
    let xs = c.args.items.now in
    let i = c.args.current in
    let j = c.args.last in
    let front = c.split_at_mut-front.result.0.now in
    let back = c.split_at_mut-front.result.1.now in
    let x' = c.ask_at_one_lifetime.new.current in
    let y' = c.ask_at_one_lifetime.new.last in
    let within : j < length xs = omega arith in
    let at_zero : i + 0 ≡ i = omega arith in
    record {
      shown = get_or back 0 c.index-back-0.result;
      beside = get_or front j c.index-front-last.result;
      shows = (
        ap (λ l. get_or l 0 c.index-back-0.result) c.split_at_mut-front.ensures.back ∙ get_or-drop i xs 0 c.index-back-0.result
            ∙ ap (λ k. get_or xs k c.index-back-0.result) at_zero ∙ get_or_default xs i _ (get_or back 0 c.index-back-0.result) c.requires.in_bounds,
        ap (λ l. get_or l j c.index-front-last.result) c.split_at_mut-front.ensures.front ∙ get_or-take i xs j c.index-front-last.result c.requires.before
            ∙ get_or_default xs j _ (get_or front j c.index-front-last.result) within,
      );
      left = x';
      left_beside = y';
      asked = c.ask_at_one_lifetime.ensures.called;
      after = rw (c.split_at_mut-front.ensures.front, c.split_at_mut-front.ensures.back) (joined_writes xs i j x' y' c.requires.before);
    }
