use Rattle.std.proofs.Common.{◌<◌, length, length-take, replicate, refl, sym, ap, subst, ◌∙◌, arith, vec_capacity, Err}
use Rattle.std.specs.List.{AllZip}
use Rattle.std.proofs.lemmas.List.{take-replicate}
use Rattle.tinyvec.proofs.CloneLemmas.{copy_refused, none_refused}
use Rattle.tinyvec.proofs.ExtendingLemmas.{heap_clones}
use Rattle.tinyvec.specs.View.{in_array}
use Rattle.tinyvec_array.specs.ArrayVec.{view_of}
use Rattle.tinyvec.proofs.tiny_vec.extending.TinyVec+A.fill_reserved.Goals as goal

pub returns-in-Err-clause-clones : goal.returns-in-Err-clause-clones
returns-in-Err-clause-clones g c =
    let x = c.args.x in
    let new = view_of g.A.Slots c.put_clones_of.new.vec in
    let (ys, clones, less, fails, left) = c.in-Err.ensures.refused in
    let fewer : length ys < c.args.n = omega (arith, less, c.len.ensures.value) in
    let refused = copy_refused g.A.Item.Clone.is_infallible c.args.n (length ys) x fewer fails in
    rw c.in-Inline.is (record {
      items = tt;
      spare = tt;
      place = ap in_array left.lender.slot_count;
      fits = omega (arith, length-take new.len new.slots);
      kept = left.items;
      refused = (
        length ys,
        refused,
        λ _. record {
          made = ys;
          clones = subst (λ l. AllZip g.A.Item.Clone.is_clone l ys) (sym (take-replicate (length ys) c.args.n x (omega (arith, fewer)))) clones;
          count = refl;
          written = left.spare;
        },
      );
      succeeds = none_refused {X = Unit} g.A.Item.Clone.is_infallible (replicate c.args.n x) (Err x) (length ys, refused);
    })

pub returns-in-Err-put-clause-clones : goal.returns-in-Err-put-clause-clones
returns-in-Err-put-clause-clones g c =
    let x = c.args.x in
    let same = c.replace-vec.ensures.value in
    let (ys, clones, less, fails, left) = c.in-Err-put.ensures.refused in
    let fewer : length ys < c.args.n = omega (arith, less, c.len-in-Heap.ensures, c.replace-vec.result.ok.0) in
    rw c.in-Heap.is (heap_clones g.A.Item.Clone _ _ c.in-Heap.v c.put_clones_of-put.new.vec (record {
      items = tt;
      kept = left.items ∙ ap (λ w. w.items) same;
      refused = (length ys, copy_refused g.A.Item.Clone.is_infallible c.args.n (length ys) x fewer fails);
      capacity = left.capacity ∙ ap vec_capacity same;
    }))
