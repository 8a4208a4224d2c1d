use Rattle.std.proofs.Common.{◌≡◌, ◌+◌, ◌∷◌, [], ◌++◌, length, take, get_or, sym, ap, subst, ◌∙◌, append_assoc, length-append, length-take-le, arith, rules}
use Rattle.std.proofs.lemmas.List.{take_more}
use Rattle.tinyvec_slots.proofs.FillingLemmas.{rest_after_one}
use Rattle.tinyvec_slots.proofs.Lists.{same_at}
use Rattle.tinyvec_slots.proofs.putting.put_each.Goals as goal

pub put-requires : goal.put-requires
put-requires g c =
    let inv = c.loop-i.invariant in
    let all = c.args.from.now in
    let i = c.loop-i.i in
    let (v, xs, put, at, room, small) = c.requires.room in
    let more = length-append xs (take i all) ∙ ap (λ n. length xs + n) (length-take-le i all (omega (arith, c.loop-i-test.true))) in
    (v, xs ++ take i all, inv.put v xs put at room, omega (arith, at, more), omega (arith, room, c.loop-i-test.true))

pub loop-i-preserved : goal.loop-i-preserved
loop-i-preserved g c =
    let inv = c.loop-i.invariant in
    let all = c.args.from.now in
    let now = c.loop-i.from in
    let i = c.loop-i.i in
    let x = c.take.result in
    let d = c.index-from-i.result in record {
      put = λ v xs put at room.
          let long = length-append xs (take i all) ∙ ap (λ n. length xs + n) (length-take-le i all (omega (arith, c.loop-i-test.true))) in
          let is : x ≡ get_or all i d = c.take.ensures.value ∙ same_at now all i d inv.left in
          let more : (xs ++ take i all) ++ x ∷ [] ≡ xs ++ take (i + 1) all = append_assoc xs (take i all) (x ∷ []) ∙ ap (λ l. xs ++ l) (ap (λ z. take i all ++ z ∷ []) is ∙ sym (take_more all i d c.loop-i-test.true)) in
          subst (λ l. g.V.CanPut.Puts v l c.put.new.self) more
          (c.put.ensures v (xs ++ take i all) (inv.put v xs put at room) (omega (arith, at, long)) (omega (arith, room, c.loop-i-test.true)));
      left = rest_after_one now all i c.take.new.dest inv.left;
      defaults = search rules;
    }
