use Rattle.std.proofs.Common.{◌≡◌, ◌+◌, ◌-◌, ◌++◌, ◌∷◌, ◌∙◌, ◌<◌, [], ℕ, length, refl, sym, ap, append-nil, append_assoc, length-set, drop-set-lt, arith, take, drop}
use Rattle.std.proofs.lemmas.List.{take_more_set, length_push}
use Rattle.std.proofs.iter.Next.{Yields-more}
use Rattle.tinyvec_slots.proofs.gap.closing.place.Goals as goal

never_both : (i n : ℕ) → i ≡ n → i < n → ⊥
never_both i n same less = omega arith

pub loop-at-init : goal.loop-at-init
loop-at-init g c =
    let none : c.args.front - c.args.front ≡ 0 = omega arith in record {
      can = c.requires.can;
      finite = λ ends. ends;
      len = refl;
      behind = refl;
      ran = ([], sym (append-nil _), sym none, refl);
      count = omega (arith, none);
    }

pub loop-at-preserved : goal.loop-at-preserved
loop-at-preserved g c =
    let turn = c.loop-at in
    let inv = turn.invariant in
    let new = c.if-not-place_one.ensures.placed in
    let put = new.3 in
    let xs = turn.slots in
    let one : turn.at - c.args.front + 1 ≡ turn.at + 1 - c.args.front = omega arith in record {
      can = new.2;
      finite = λ ends. c.if-not-place_one.ensures.finite (inv.finite ends);
      len = ap length put ∙ length-set xs turn.at new.0 ∙ inv.len;
      behind = ap (drop c.args.back) put ∙ drop-set-lt c.args.back xs turn.at new.0 (omega arith) ∙ inv.behind;
      ran = (
        inv.ran.0 ++ new.0 ∷ [],
        ap (take (turn.at + 1)) put ∙ take_more_set xs turn.at new.0 (omega (arith, inv.len)) ∙ ap (λ l. l ++ new.0 ∷ []) inv.ran.1 ∙ append_assoc _ inv.ran.0 _,
        length_push inv.ran.0 new.0 ∙ omega (arith, inv.ran.2, one),
        Yields-more g.I.Iterator.next_gives _ inv.ran.0 _ _ _ inv.ran.3 new.1,
      );
      count = new.4 ∙ omega (arith, inv.count, one);
    }

pub returns-then-not-place_one-clause-placed : goal.returns-then-not-place_one-clause-placed
returns-then-not-place_one-clause-placed g c =
    let ran = c.loop-at.invariant.ran in
    let met = c.if-not-place_one.ensures.placed in (
      ran.0,
      ap (take c.loop-at.at) met.1 ∙ ran.1,
      ran.2,
      λ full. absurd (never_both _ _ full c.loop-at-test.true),
      λ _. (c.place_one.new.replacement, (c.loop-at.replacement, ran.3, met.0)),
    )

pub returns-then-not-place_one-clause-touches : goal.returns-then-not-place_one-clause-touches
returns-then-not-place_one-clause-touches g c = rw c.if-not-place_one.ensures.placed.2 c.loop-at.invariant.count

pub returns-then-not-place_one-clause-behind : goal.returns-then-not-place_one-clause-behind
returns-then-not-place_one-clause-behind g c = rw c.if-not-place_one.ensures.placed.1 c.loop-at.invariant.behind

pub returns-clause-placed : goal.returns-clause-placed
returns-clause-placed g c =
    let ran = c.loop-at.invariant.ran in
    let last : c.loop-at.at ≡ c.args.back = omega arith in (
      ran.0,
      ap (λ n. take n c.loop-at.slots) (sym last) ∙ ran.1,
      ran.2 ∙ ap (λ n. n - c.args.front) last,
      λ _. ran.3,
      λ less. absurd (never_both _ _ refl less),
    )
