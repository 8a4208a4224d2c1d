use Rattle.std.proofs.Common.{◌≡◌, ◌+◌, ◌-◌, ◌++◌, ◌∷◌, ◌∙◌, ◌<◌, [], ℕ, length, refl, sym, ap, append-nil, append_assoc, length-set, drop-set-lt, arith, take, drop, drop-drop, slice_set, List}
use Rattle.std.proofs.lemmas.List.{take_more_set, length_push}
use Rattle.std.proofs.iter.Next.{Yields-more}
use Rattle.tinyvec_slots.proofs.touches.Touches.append.Goals as goal

never_both : (i n : ℕ) → i ≡ n → i < n → ⊥
never_both i n same less = omega arith

-- what is behind a slot, once the slot was set
behind_set : {T : Type 0} (xs old : List T) (i : ℕ) (x : T) → drop i xs ≡ drop i old → drop (i + 1) (slice_set xs i x) ≡ drop (i + 1) old
behind_set xs old i x same = drop-set-lt (i + 1) xs i x (omega arith) ∙ sym (drop-drop 1 i xs) ∙ ap (drop 1) same ∙ drop-drop 1 i old

pub loop-i-init : goal.loop-i-init
loop-i-init g c =
    let none : c.args.at - c.args.at ≡ 0 = omega arith in record {
      can = c.requires.can;
      len = refl;
      behind = refl;
      ran = ([], sym (append-nil _), sym none, refl);
      count = omega (arith, none);
    }

pub loop-i-preserved : goal.loop-i-preserved
loop-i-preserved g c =
    let turn = c.loop-i in
    let inv = turn.invariant in
    let new = c.if-not-place_next.ensures.placed in
    let put = new.3 in
    let xs = turn.slots in
    let one : turn.i - c.args.at + 1 ≡ turn.i + 1 - c.args.at = omega arith in record {
      can = new.2;
      len = ap length put ∙ length-set xs turn.i new.0 ∙ inv.len;
      behind = ap (drop (turn.i + 1)) put ∙ behind_set xs c.args.slots.now turn.i new.0 inv.behind;
      ran = (
        inv.ran.0 ++ new.0 ∷ [],
        ap (take (turn.i + 1)) put ∙ take_more_set xs turn.i new.0 (omega (arith, inv.len)) ∙ ap (λ l. l ++ new.0 ∷ []) inv.ran.1 ∙ append_assoc _ inv.ran.0 _,
        length_push inv.ran.0 new.0 ∙ omega (arith, inv.ran.2, one),
        Yields-more g.I.Iterator.next_gives _ inv.ran.0 _ _ _ inv.ran.3 new.1,
      );
      count = new.4 ∙ omega (arith, inv.count, one);
    }

pub returns-then-not-place_next-clause-placed : goal.returns-then-not-place_next-clause-placed
returns-then-not-place_next-clause-placed g c =
    let ran = c.loop-i.invariant.ran in
    let met = c.if-not-place_next.ensures.placed in (
      ran.0,
      ap (take c.loop-i.i) met.1 ∙ ran.1,
      ran.2,
      λ full. absurd (never_both _ _ full c.loop-i-test.true),
      λ _. (c.place_next.new.iter, (c.loop-i.iter, ran.3, met.0)),
    )

pub returns-then-not-place_next-clause-behind : goal.returns-then-not-place_next-clause-behind
returns-then-not-place_next-clause-behind g c = rw c.if-not-place_next.ensures.placed.1 c.loop-i.invariant.behind

pub returns-then-not-place_next-clause-count : goal.returns-then-not-place_next-clause-count
returns-then-not-place_next-clause-count g c = rw c.if-not-place_next.ensures.placed.2 c.loop-i.invariant.count

pub returns-clause-placed : goal.returns-clause-placed
returns-clause-placed g c =
    let inv = c.loop-i.invariant in
    let ran = inv.ran in
    let last : c.loop-i.i ≡ length c.args.slots.now = omega arith in (
      ran.0,
      ap (λ n. take n c.loop-i.slots) (sym last) ∙ ran.1,
      ran.2 ∙ ap (λ n. n - c.args.at) last,
      λ _. (ran.3, inv.can),
      λ less. absurd (never_both _ _ refl less),
    )
