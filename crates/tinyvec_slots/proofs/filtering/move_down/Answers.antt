use Rattle.std.proofs.Common.{◌≡◌, ℕ, ◌+◌, ◌<◌, ◌≤◌, List, ◌++◌, length, take, drop, set, get_or, ◌∙◌, le_refl, arith, length-set, drop-set-lt}
use Rattle.std.proofs.lemmas.List.{take-set-le, take_more_set}
use Rattle.tinyvec_slots.proofs.Lists.{item_at}
use Rattle.tinyvec_slots.proofs.FiltersLemmas.{swap_behind, swap_before, swap_front}
use Rattle.tinyvec_slots.proofs.filtering.move_down.Goals as goal

module _ {X : Type 0} (xs : List X) (k i : ℕ) (le : k ≤ i) (lt : i < length xs) where
  -- the item was taken out, and put at k
  put_behind : (d x : X) → drop (i + 1) (set (set xs i d) k x) ≡ drop (i + 1) xs
  put_behind d x = drop-set-lt (i + 1) (set xs i d) k x (omega arith) ∙ drop-set-lt (i + 1) xs i d (omega arith)

  put_before : (d x : X) → take k (set (set xs i d) k x) ≡ take k xs
  put_before d x = take-set-le k (set xs i d) k x (le_refl k) ∙ take-set-le k xs i d le

  put_front : (d x y : X) → x ≡ get_or xs i x → y ≡ get_or xs i x → take (k + 1) (set (set xs i d) k y) ≡ take k xs ++ take 1 (drop i xs)
  put_front d x y is value =
      rw (take_more_set (set xs i d) k y (omega (arith, length-set xs i d)), take-set-le k xs i d le, item_at xs i x lt is, value, ← is)

pub returns-then-are_small-clause-behind : goal.returns-then-are_small-clause-behind
returns-then-are_small-clause-behind g c =
    put_behind c.args.items.now c.args.kept c.args.i c.requires.order c.requires.in_bounds c.take-item.new.dest c.take-item.result

pub returns-then-are_small-clause-before : goal.returns-then-are_small-clause-before
returns-then-are_small-clause-before g c =
    put_before c.args.items.now c.args.kept c.args.i c.requires.order c.requires.in_bounds c.take-item.new.dest c.take-item.result

pub returns-then-are_small-clause-moved : goal.returns-then-are_small-clause-moved
returns-then-are_small-clause-moved g c = λ _.
    put_front c.args.items.now c.args.kept c.args.i c.requires.order c.requires.in_bounds c.take-item.new.dest c.index-items-i.result c.take-item.result
    c.index-items-i.is c.take-item.ensures.value

pub returns-then-stays-clause-behind : goal.returns-then-stays-clause-behind
returns-then-stays-clause-behind g c = rw c.swap.ensures.after (swap_behind c.args.items.now c.args.kept c.args.i c.requires.order c.requires.in_bounds)

pub returns-then-stays-clause-before : goal.returns-then-stays-clause-before
returns-then-stays-clause-before g c = rw c.swap.ensures.after (swap_before c.args.items.now c.args.kept c.args.i c.requires.order c.requires.in_bounds)

pub returns-then-stays-clause-moved : goal.returns-then-stays-clause-moved
returns-then-stays-clause-moved g c = λ _.
    rw c.swap.ensures.after (swap_front c.args.items.now c.args.kept c.args.i c.requires.order c.requires.in_bounds)
