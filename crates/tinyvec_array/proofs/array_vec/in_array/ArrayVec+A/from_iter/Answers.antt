use Rattle.std.proofs.Common.{◌-◌, ◌≤◌, ◌++◌, length, take, ap, ◌∙◌, arith, rules, take_all, length-drop}
use Rattle.std.proofs.lemmas.List.Elements.{All-drop}
use Rattle.tinyvec_array.specs.View.{view, NothingVacated}
use Rattle.tinyvec_array.specs.ViewLaws.{used_by}
use Rattle.tinyvec_array.proofs.ViewLemmas.{parts_of}
use Rattle.tinyvec_array.proofs.array_vec.in_array.ArrayVec+A.from_iter.Goals as goal

pub returns-in-Ok-clause-items : goal.returns-in-Ok-clause-items
returns-in-Ok-clause-items g c =
    let slots = g.A.Array.CAPACITY in
    let empty = c.new-vec.ensures.items in
    let room = c.new-vec.ensures.spare.0 in
    let ran = c.in-Ok.ensures.items.ran in record {
      ran = (ran.0, ran.1, ran.2, (ran.3, ran.4 ∙ ap (λ l. l ++ ran.1) empty));
      listed = λ rest shows.
          let listed = rw room at c.in-Ok.ensures.items.listed rest shows in
          let le : length (rest listed.0) ≤ slots = listed.2.0 (search rules) in
          let all = listed.3 ∙ ap (λ l. l ++ take slots (rest listed.0)) empty ∙ take_all slots (rest listed.0) le in
          (listed.0, listed.1, listed.2, all);
      known = λ xs yields le.
          let known = c.in-Ok.ensures.items.known xs yields (rw room le) in
          (known.0, known.1 ∙ ap (λ l. l ++ xs) empty);
    }

pub returns-in-Err-clause-items : goal.returns-in-Err-clause-items
returns-in-Err-clause-items g c =
    let slots = g.A.Array.CAPACITY in
    let empty = c.new-vec.ensures.items in
    let room = c.new-vec.ensures.spare.0 in
    let ran = c.in-Err.ensures.items.ran in record {
      ran = (ran.0, ran.1, ran.2, (ran.3, ran.4 ∙ ap (λ l. l ++ ran.1) empty));
      listed = λ rest shows.
          let listed = rw room at c.in-Err.ensures.items.listed rest shows in
          (listed.0, listed.1, listed.2, (listed.3 ∙ ap (λ l. l ++ take slots (rest listed.0)) empty, listed.4));
      known = λ xs yields le. ((c.in-Err.ensures.items.known xs yields (rw room le)).0, tt);
    }

pub returns-in-Ok-clause-spare : goal.returns-in-Ok-clause-spare
returns-in-Ok-clause-spare g c =
    let made = c.new-vec.ensures.spare in
    let old = c.new-vec.result in
    let new = c.extend.new.self in
    let n = length (view g.A.Slots new).items - length (view g.A.Slots old).items in
    let none = ap length c.new-vec.ensures.items in
    let long = length-drop n (view g.A.Slots old).spare in
    rw (used_by NothingVacated _ _ _ _ n (omega (arith, none)) (c.in-Ok.ensures.grows.slot_rule)) (omega (arith, none, long, made.0), All-drop g.A.Item.Default.is_default n (view g.A.Slots old).spare made.1)

-- as many slots as the new vector had
pub returns-in-Ok-clause-fits : goal.returns-in-Ok-clause-fits
returns-in-Ok-clause-fits g c =
    let none = ap length c.new-vec.ensures.items in
    let same = ap (λ p. p.capacity) c.in-Ok.ensures.grows.place in
    omega (arith, none, same, c.new-vec.ensures.spare.0, parts_of g.A.Slots c.new-vec.result, parts_of g.A.Slots c.extend.new.self)

pub returns-in-Err-clause-full : goal.returns-in-Err-clause-full
returns-in-Err-clause-full g c =
    let none = ap length c.new-vec.ensures.items in
    let same = ap (λ p. p.capacity) c.in-Err.ensures.grows.place in
    let full = c.in-Err.ensures.full in
    let over = ap length full in
    (omega (arith, none, same, over, c.new-vec.ensures.spare.0, parts_of g.A.Slots c.new-vec.result, parts_of g.A.Slots c.extend.new.self), full)
