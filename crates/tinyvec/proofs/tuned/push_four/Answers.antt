use Rattle.std.proofs.Common.{◌≡◌, ℕ, ◌<◌, ◌≤◌, List, [], length, take, get_or, length-take, append-nil, refl, sym, ◌∙◌, arith}
use Rattle.std.proofs.lemmas.List.{get_or-take}
use Rattle.tinyvec_slots.specs.Clones.{RefusedAt}
use Rattle.tinyvec.proofs.CloneLemmas.{appends_of_next, refused_at}
use Rattle.tinyvec.proofs.tuned.push_four.Goals as goal

refused : {T : Type 0} (I : T → Type 0) (from : List T) (i : ℕ) (x : T) → i < 4 → 4 ≤ length from → x ≡ get_or from i x → (I x → ⊥) → (j : ℕ) × RefusedAt I (take 4 from) j
refused I from i x lt enough is = refused_at I (take 4 from) i x (omega (arith, lt, enough, length-take 4 from)) (is ∙ sym (get_or-take 4 from i x lt))

pub returns-in_default-clone : goal.returns-in_default-clone
returns-in_default-clone g c = record {
  items = tt;
  kept = refl;
  refused = refused g.T.Clone.is_infallible c.args.from.now 1 c.index-from-1.result (omega arith) c.requires.enough c.index-from-1.is c.in_default-clone.ensures.cases;
  capacity = refl;
}

pub returns-in_default-clone-2 : goal.returns-in_default-clone-2
returns-in_default-clone-2 g c = record {
  items = tt;
  kept = refl;
  refused = refused g.T.Clone.is_infallible c.args.from.now 2 c.index-from-2.result (omega arith) c.requires.enough c.index-from-2.is c.in_default-clone-2.ensures.cases;
  capacity = refl;
}

pub returns-in_default-clone-3 : goal.returns-in_default-clone-3
returns-in_default-clone-3 g c = record {
  items = tt;
  kept = refl;
  refused = refused g.T.Clone.is_infallible c.args.from.now 3 c.index-from-3.result (omega arith) c.requires.enough c.index-from-3.is c.in_default-clone-3.ensures.cases;
  capacity = refl;
}

pub returns : goal.returns
returns g c =
    let from = c.args.from.now in
    let enough = c.requires.enough in
    let next = appends_of_next g.T.Clone.is_clone c.args.vec.now.items in
    let one = next c.args.vec.now.items from 0 1 c.index-from-0.result c.in-Ok.first (omega (arith, enough)) refl c.index-from-0.is c.in-Ok.ensures.cases ([], sym (append-nil c.args.vec.now.items), tt) in
    let two = next _ from 1 2 c.index-from-1.result c.in-Ok-clone.second (omega (arith, enough)) refl c.index-from-1.is c.in-Ok-clone.ensures.cases one in
    let three = next _ from 2 3 c.index-from-2.result c.in-Ok-clone-2.third (omega (arith, enough)) refl c.index-from-2.is c.in-Ok-clone-2.ensures.cases two in
    let four = next _ from 3 4 c.index-from-3.result c.in-Ok-clone-3.fourth (omega (arith, enough)) refl c.index-from-3.is c.in-Ok-clone-3.ensures.cases three in record {
      items = rw (c.push_reserved-4.ensures.items, c.push_reserved-3.ensures.items, c.push_reserved-2.ensures.items, c.push_reserved.ensures.items) four;
      kept = tt;
      refused = tt;
      capacity = c.push_reserved-4.ensures.capacity ∙ c.push_reserved-3.ensures.capacity ∙ c.push_reserved-2.ensures.capacity ∙ c.push_reserved.ensures.capacity;
    }
