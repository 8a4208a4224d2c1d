use Rattle.std.specs.Prelude.{length}
use Rattle.std.proofs.Common.{rules, ◌≡◌, [], ◌∷◌, ◌++◌, refl, arith}
use Rattle.tinyvec.specs.TinyVec.{view}
use Rattle.tinyvec.specs.declared.tiny_vec.TinyVec.TheVariants.{Heap}
use Rattle.tinyvec.proofs.FrameLemmas.{full_inline, full_heap, heap_becomes}
use Rattle.tinyvec.proofs.PlaceLemmas.{err_of}
use Rattle.tinyvec.proofs.TookLemmas.{Took, took_inline, took_heap, took_grown}
use Rattle.tinyvec.proofs.tiny_vec.edits.TinyVec+A.push.Goals.{In_default, in-Inline, in-Heap, in_default+else-is_err+in-Heap-self, in_default-via-in-Inline+else-not-is_full, in_default-via-in-Heap+else-len-capacity}
use Rattle.tinyvec.proofs.tiny_vec.edits.TinyVec+A.push.Goals as goal

-- the list is as it was there, and full
same_list : (g : _) (c : In_default g) → c.in_default.self ≡ c.args.self.now
same_list g c = search rules

full : (g : _) (c : In_default g) → length (view g.A.Slots c.args.self.now).items ≡ (view g.A.Slots c.args.self.now).place.capacity
full g c =
    let G = g.A.Slots in
    let old = c.args.self.now in
    elim c.in_default.branch as (λ _. length (view g.A.Slots c.args.self.now).items ≡ (view g.A.Slots c.args.self.now).place.capacity) [
      | in_default-via-in-Inline+else-not-is_full w ↦ full_inline G old w.in-Inline.v _ w.in-Inline.is w.if-not-is_full.ensures.value
      | in_default-via-in-Heap+else-len-capacity w ↦ full_heap G old w.in-Heap.v w.in-Heap.is (omega (arith, w.len.ensures, w.capacity.ensures, w.if-len-capacity.false))
    ]

-- the list has the value, in room that was there or was made
pushed : (g : _) (c : goal.Joined-self g)
    → Took g.A.Slots g.A.Item.Default.is_default ((view g.A.Slots c.args.self.now).items ++ c.args.value ∷ []) c.args.self.now c.match-self.self
pushed g c =
    let G = g.A.Slots in
    let D = g.A.Item.Default.is_default in
    let old = c.args.self.now in
    let x = c.args.value in
    elim c.match-self.branch as (λ _. Took g.A.Slots g.A.Item.Default.is_default ((view g.A.Slots c.args.self.now).items ++ c.args.value ∷ []) c.args.self.now c.match-self.self) [
      | in-Inline w ↦
          took_inline G D (λ xs. xs ++ x ∷ []) old _ w.in-Inline.v w.push.new.self _ _ w.in-Inline.is w.self-is w.if-not-is_full.ensures.value w.push.ensures
      | in-Heap w ↦
          let v = w.in-Heap.v in
          took_heap G D (λ xs. xs ++ x ∷ []) old _ v w.push_reserved.new.self w.in-Heap.is w.self-is
          (omega (arith, v.ok.0, w.len.ensures, w.capacity.ensures, w.if-len-capacity.true)) w.push_reserved.ensures.items w.push_reserved.ensures.capacity
      | in_default+else-is_err+in-Heap-self w ↦
          let here : In_default g = record { before = c.before; in_default = w.in_default } in
          let v = w.in-Heap-self.v in
          rw w.self-is (took_grown G D (λ xs. xs ++ x ∷ []) old (Heap w.push_reserved-in_default.new.self) w.grow_full.new.self w.grow_full.result w.if-is_err.ensures.value (full g here)
          (rw (same_list g here) at w.grow_full.ensures.ok)
          (rw w.in-Heap-self.is (heap_becomes D v w.push_reserved-in_default.new.self (v.items ++ x ∷ []) w.push_reserved-in_default.ensures.items w.push_reserved-in_default.ensures.capacity)))
    ]

pub returns : goal.returns
returns g c = record { ok = pushed g c; err = tt; succeeds = λ _. refl }

pub grow_full-requires : goal.grow_full-requires
grow_full-requires g c =
    let here = (goal.at.grow_full-requires g c).In_default in
    rw (same_list g here) (full g here)

pub returns-then-is_err : goal.returns-then-is_err
returns-then-is_err g c =
    let here = (goal.at.returns-then-is_err g c).In_default in
    record {
      ok = tt;
      err = (refl, err_of c.grow_full.result c.if-is_err.ensures.value (rw (same_list g here) at c.grow_full.ensures.refused));
      succeeds = λ lt. absurd (omega (arith, lt, full g here));
    }
