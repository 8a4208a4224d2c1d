use Rattle.std.proofs.Common.{◌≡◌, ℕ, List, ◌+◌, ◌-◌, ◌≤◌, [], ◌∷◌, ◌++◌, length, take, drop, refl, ap, sym, ◌∙◌, append-nil, append_assoc, length-append, arith, rules}
use Rattle.tinyvec_slots.proofs.CloneLemmas.{length-part}
use Rattle.tinyvec.proofs.CloneLemmas.{written_last}
use Rattle.tinyvec.proofs.tuned.push_whole.Goals.{After-as_mut_slice}
use Rattle.tinyvec.proofs.tuned.push_whole.Goals as goal

-- one more item behind those that were appended
one_more : {T : Type 0} (old mid new : List T) (x : T) (n : ℕ) → new ≡ mid ++ x ∷ [] → (ys : List T) × (mid ≡ old ++ ys) × (length ys ≡ n)
    → (ys : List T) × (new ≡ old ++ ys) × (length ys ≡ n + 1)
one_more old mid new x n is made = (
  made.0 ++ x ∷ [],
  is ∙ ap (λ l. l ++ x ∷ []) made.1 ∙ append_assoc old made.0 (x ∷ []),
  length-append made.0 (x ∷ []) ∙ ap (λ k. k + 1) made.2,
)

pub loop-i-init : goal.loop-i-init
loop-i-init g c = record { made = ([], sym (append-nil c.args.vec.now.items), refl); capacity = refl }

pub push_reserved-requires : goal.push_reserved-requires
push_reserved-requires g c =
    let made = c.loop-i.invariant.made in
    omega (arith, c.requires.room, c.loop-i-test.true, simp length-append at (ap length made.1), made.2, c.loop-i.invariant.capacity, c.loop-i.vec.ok.0, c.args.vec.now.ok.0)

-- there are as many more items
long : (g : _) (c : After-as_mut_slice g) → length c.as_mut_slice.result.now ≡ c.len-len.result + g.row.N
long g c =
    let made = c.loop-i.invariant.made in
    omega (arith, simp length-append at (ap length (c.as_mut_slice.ensures.value ∙ made.1)), made.2, c.loop-i-test.false, c.loop-i.auto._i-end, c.len-len.ensures, c.args.vec.now.ok.0)

pub offset_bounds-as_mut_slice-len : goal.offset_bounds-as_mut_slice-len
offset_bounds-as_mut_slice-len g c = grind (arith, long g (goal.at.offset_bounds-as_mut_slice-len g c).After-as_mut_slice)

pub slice_bounds-write_front-count : goal.slice_bounds-write_front-count
slice_bounds-write_front-count g c = omega (arith, long g (goal.at.slice_bounds-write_front-count g c).After-as_mut_slice)

pub slice_bounds-write_front-start : goal.slice_bounds-write_front-start
slice_bounds-write_front-start g c = omega (arith, long g (goal.at.slice_bounds-write_front-start g c).After-as_mut_slice)

pub write_front-requires : goal.write_front-requires
write_front-requires g c =
    let lent = c.as_mut_slice.result.now in
    let len = c.len-len.result in
    let all = long g (goal.at.write_front-requires g c).After-as_mut_slice in
    let part = length-part lent len (length lent - len) (omega (arith, all)) in
    let enough : g.row.N ≤ length (take (length lent - len) (drop len lent)) = omega (arith, part, all) in
    (search rules, enough)

pub loop-i-preserved : goal.loop-i-preserved
loop-i-preserved g c =
    let at = c.loop-i.invariant in
    let put = c.push_reserved.ensures in record {
      made = one_more c.args.vec.now.items _ _ _ _ put.items at.made;
      capacity = put.capacity ∙ at.capacity;
    }

pub returns : goal.returns
returns g c =
    let made = c.loop-i.invariant.made in
    let lent = c.as_mut_slice in record {
      items = written_last c.args.vec.now.items made.0 c.args.block lent.result.now c.write_front.new.to c.loop-i.vec.items c.len-len.result g.row.N c.loop-i.vec.len
          (lent.ensures.value ∙ made.1) (sym (c.len-len.ensures ∙ c.args.vec.now.ok.0)) (omega (arith, made.2, c.loop-i-test.false, c.loop-i.auto._i-end))
          c.requires.len (omega (arith, c.loop-i.vec.ok.0, ap length lent.ensures.value)) c.write_front.ensures;
      capacity = search rules;
    }
