use Rattle.std.proofs.Common.{◌++◌, take, length, ap, sym, ◌∙◌, vec_capacity, ◌∷◌, [], arith, take_all, length-append, length-take}
use Rattle.std.proofs.lemmas.List.{take_more, append_assoc}
use Rattle.tinyvec.proofs.tuned.push_copies.Goals as goal

pub loop-i-init : goal.loop-i-init
loop-i-init g c =
    let from = c.args.from.now in
    let done = c.push_blocks-done in
    let same = c.replace-vec.ensures.value in (
      done.ensures.becomes.items ∙ ap (λ v. v.items ++ take done.result from) same,
      done.ensures.becomes.capacity ∙ ap vec_capacity same,
    )

pub push_reserved-requires : goal.push_reserved-requires
push_reserved-requires g c =
    let at = c.loop-i in
    let from = c.args.from.now in
    omega (arith, ap length at.invariant.0, length-append c.args.heap.now.items (take at.i from), length-take at.i from)

pub loop-i-preserved : goal.loop-i-preserved
loop-i-preserved g c =
    let at = c.loop-i in
    let put = c.push_reserved.ensures in
    let from = c.args.from.now in
    let old = c.args.heap.now.items in
    let x = c.index-from-i.result in
    let next = take_more from at.i x c.loop-i-test.true ∙ ap (λ y. take at.i from ++ y ∷ []) (sym c.index-from-i.is) in (
      put.items ∙ ap (λ l. l ++ x ∷ []) at.invariant.0 ∙ append_assoc old (take at.i from) (x ∷ []) ∙ ap (λ l. old ++ l) (sym next),
      put.capacity ∙ at.invariant.1,
    )

pub returns : goal.returns
returns g c = record {
  items = c.loop-i.invariant.0 ∙ ap (λ l. c.args.heap.now.items ++ l) (take_all c.loop-i.i c.args.from.now (omega arith));
  capacity = c.loop-i.invariant.1;
}
