use Rattle.std.proofs.Common.{rules, ◌≡◌, ◌∙◌, suc, length, reverse, All, sym, ap, subst, arith}
use Rattle.tinyvec_array.proofs.Named.{array_slots}
use Rattle.tinyvec.specs.TinyVec.{tiny_items}
use Rattle.tinyvec.proofs.TinyLemmas.{tiny_items-with, tiny_items-with_item}
use Rattle.example_nodes.specs.Nodes.{IsNumber}
use Rattle.example_nodes.proofs.Views.{view_items}
use Rattle.example_nodes.proofs.Flattened.{Turns, way_given, number_pushed}
use Rattle.example_nodes.proofs.flatten.flatten.Goals as goal

way : (c : goal.In_ok-splice_all-in-List) → Turns (tiny_items c.loop-last.nodes) (tiny_items c.loop-last.flat) (tiny_items c.splice_all.new.self) (tiny_items c.loop-last.flat)
way c =
    let xs = tiny_items c.loop-last.nodes in
    let len : suc c.in-Some.last ≡ length xs = omega (arith, c.in-Some.ensures, c.len.ensures.value) in
    let put = c.in_ok-splice_all-in-List.ensures.listed (λ left. left) (λ s r t h. h) in
    let items = tiny_items c.into_inner.result in
    let holds = view_items c.index_mut.result.now c.in-List.items items (sym c.take.ensures.value ∙ c.in-List.is) (ap tiny_items c.into_inner.ensures) in
    way_given xs _ (tiny_items c.loop-last.flat) (tiny_items c.splice_all.new.self) c.in-Some.last c.index_mut.result.now c.take.new.dest len c.index_mut.ensures.value
    (tiny_items-with_item (array_slots 2) c.loop-last.nodes c.in-Some.last c.take.new.dest (omega (arith, len))) items put.0 holds put.1.rest (search (rules, put.3))

pub loop-last-smaller-in-Continue-1 : goal.loop-last-smaller-in-Continue-1
loop-last-smaller-in-Continue-1 c = (way c).2

pub loop-last-preserved-in-Continue-1 : goal.loop-last-preserved-in-Continue-1
loop-last-preserved-in-Continue-1 c = ((way c).0 ∙ c.loop-last.invariant.0, c.loop-last.invariant.1)

moved : (c : goal.In_ok-push-in-Number) → Turns (tiny_items c.loop-last.nodes) (tiny_items c.loop-last.flat) (tiny_items c.truncate.new.self) (tiny_items c.push.new.self)
moved c =
    let xs = tiny_items c.loop-last.nodes in
    let len : suc c.in-Some.last ≡ length xs = omega (arith, c.in-Some.ensures, c.len.ensures.value) in
    number_pushed xs _ (tiny_items c.loop-last.flat) (tiny_items c.truncate.new.self) c.in-Some.last c.index_mut.result.now c.take.new.dest len c.index_mut.ensures.value
    (tiny_items-with_item (array_slots 2) c.loop-last.nodes c.in-Some.last c.take.new.dest (omega (arith, len)))
    c.in-Number.number (tiny_items c.push.new.self) (search rules) (search rules) (search rules)

pub loop-last-smaller : goal.loop-last-smaller
loop-last-smaller c = (moved c).2

pub loop-last-preserved : goal.loop-last-preserved
loop-last-preserved c = ((moved c).0 ∙ c.loop-last.invariant.0, (moved c).1 c.loop-last.invariant.1)

pub returns-clause-no_lists : goal.returns-clause-no_lists
returns-clause-no_lists c =
    let slice = c.as_mut_slice.ensures.value in
    let lent = tiny_items-with (array_slots 2) c.loop-last.flat c.reverse.new.self (c.reverse.ensures.len ∙ ap length slice) in
    subst (All IsNumber) (sym (ap tiny_items c.replace-none_left.ensures.after ∙ lent ∙ c.reverse.ensures.after ∙ ap reverse slice)) c.loop-last.invariant.1
