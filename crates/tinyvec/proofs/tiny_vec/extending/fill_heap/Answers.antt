use Rattle.std.proofs.Common.{◌≡◌, ◌+◌, length, sym, ap, subst, ◌∙◌, length-append}
use Rattle.std.proofs.lemmas.Result.{on_err_weaker}
use Rattle.tinyvec.specs.Following.{Follows}
use Rattle.tinyvec.proofs.tiny_vec.extending.fill_heap.Goals as goal

pub returns-clause-fills : goal.returns-clause-fills
returns-clause-fills g c =
    let r = c.put_iter-put.result in
    let first = c.replace-vec.result in
    let (xs, got, ran, full, goes) = c.put_iter-put.ensures.ran in
    let more : length c.put_iter-put.new.vec.items ≡ length first.items + length xs = ap length got.items ∙ length-append first.items xs in
    rw (← c.replace-vec.ensures.value) (record {
      ran = (xs, ran, got.items);
      full = on_err_weaker r (λ h. more ∙ h ∙ sym got.capacity) full;
      goes_on = subst (λ n. Follows g.I.Iterator.can_next g.I.Iterator.remaining c.args.iter (length first.items) n r) (sym more) goes;
    })
