use Rattle.std.specs.Prelude.{length}
use Rattle.std.proofs.Common.{refl, sym, ap, ◌∙◌, arith, take-append-drop}
use Rattle.std.proofs.lemmas.Bool.{false≢true}
use Rattle.std.specs.List.{AllZip}
use Rattle.tinyvec_slots.proofs.CloneLemmas.{are_clones, on_err}
use Rattle.std.proofs.lemmas.Result.{IfOk-from_err}
use Rattle.tinyvec.proofs.CloneLemmas.{appends_alone, spare_cloned}
use Rattle.tinyvec.specs.View.{in_array, on_heap}
use Rattle.tinyvec.specs.TinyVec.{view}
use Rattle.tinyvec_array.specs.ArrayVec.{view_of}
use Rattle.tinyvec_array.specs.View.{view as slots_view}
use Rattle.tinyvec.proofs.tiny_vec.clones.TinyVec+A.clone.Goals as goal

pub returns-in_err-copy-in-Inline-clause-copied : goal.returns-in_err-copy-in-Inline-clause-copied
returns-in_err-copy-in-Inline-clause-copied g c = IfOk-from_err c.from_residual.result _ c.from_residual.ensures.0

pub returns-in_err-copy-in-Inline-clause-refused : goal.returns-in_err-copy-in-Inline-clause-refused
returns-in_err-copy-in-Inline-clause-refused g c =
    let h = c.in_err-copy-in-Inline.ensures.refused in
    on_err c.from_residual.result (λ inline. (h.0, rw (c.in-Inline.is, take-append-drop) h.1))

pub returns-in_err-copy-in-Inline-clause-succeeds : goal.returns-in_err-copy-in-Inline-clause-succeeds
returns-in_err-copy-in-Inline-clause-succeeds g c = λ inline all.
    absurd (false≢true (c.in_err-copy-in-Inline.ensures.succeeds (rw (c.in-Inline.is, take-append-drop) at all)))

pub returns-in-Inline-clause-copied : goal.returns-in-Inline-clause-copied
returns-in-Inline-clause-copied g c =
    let made = c.in_ok-copy-in-Inline.ensures in record {
      items = rw c.in-Inline.is made.items.each;
      len = rw c.in-Inline.is made.items.len;
      if_clones_equal = λ rule.
          let same = made.if_clones_equal rule in
          rw c.in-Inline.is (ap (λ w. (slots_view g.A.Slots w).items) same, ap (λ w. (slots_view g.A.Slots w).spare) same);
      spare = rw c.in-Inline.is (spare_cloned g.A.Item.Clone.is_clone (view_of g.A.Slots c.in-Inline.v) (view_of g.A.Slots c.in_ok-copy-in-Inline.copy) made.items.len made.slots.each);
      place = rw c.in-Inline.is (ap in_array made.slots.len);
    }

pub returns-in_err-copy : goal.returns-in_err-copy
returns-in_err-copy g c =
    let answer = c.from_residual-in_err-copy.result in
    let outside = sym (ap (λ v. (view g.A.Slots v).place.inline) c.in-Heap.is) in record {
      copied = IfOk-from_err answer _ c.from_residual-in_err-copy.ensures.0;
      refused = on_err answer (λ inline. absurd (false≢true (outside ∙ inline)));
      succeeds = λ inline _. absurd (false≢true (outside ∙ inline));
      succeeds_empty = λ _ empty. absurd (false≢true (c.in_err-copy.ensures.succeeds (omega (arith, c.len.ensures, c.in-Heap.v.ok.0, ap (λ v. length (view g.A.Slots v).items) c.in-Heap.is, empty))));
    }

pub returns-in_err-push_clones : goal.returns-in_err-push_clones
returns-in_err-push_clones g c =
    let answer = c.from_residual-in_err-push_clones.result in
    let outside = sym (ap (λ v. (view g.A.Slots v).place.inline) c.in-Heap.is) in record {
      copied = IfOk-from_err answer _ c.from_residual-in_err-push_clones.ensures.0;
      refused = on_err answer (λ inline. absurd (false≢true (outside ∙ inline)));
      succeeds = λ inline _. absurd (false≢true (outside ∙ inline));
      succeeds_empty = λ _ empty. absurd (omega (arith, c.in_err-push_clones.ensures.refused.1.0, c.as_slice.ensures.len, c.in-Heap.v.ok.0, ap (λ v. length (view g.A.Slots v).items) c.in-Heap.is, empty));
    }

pub push_clones-requires : goal.push_clones-requires
push_clones-requires g c =
    let made = c.in_ok-copy.ensures in
    record { room = omega (arith, made.len, made.capacity, c.len.ensures, c.as_slice.ensures.len) }

pub returns-clause-copied : goal.returns-clause-copied
returns-clause-copied g c =
    let made = c.push_clones.ensures in
    let C = g.A.Item.Clone.is_clone in
    let xs = (view g.A.Slots c.args.self.now).items in
    let ys = c.push_clones.new.heap.items in
    let clones : AllZip C xs ys = rw (c.in-Heap.is, ← c.as_slice.ensures.value) (appends_alone C c.in_ok-copy.copy.items ys c.as_slice.result.now c.in_ok-copy.ensures.items c.in_ok-push_clones.ensures.items) in
    let all = are_clones C xs ys clones in record {
      items = clones;
      len = all.len;
      if_clones_equal = λ rule. (all.if_clones_equal rule, rw c.in-Heap.is refl);
      spare = rw c.in-Heap.is tt;
      place = rw c.in-Heap.is (ap on_heap (made.capacity ∙ c.in_ok-copy.ensures.exact ∙ c.len.ensures ∙ c.in-Heap.v.ok.0));
    }
