use Rattle.std.proofs.Common.{rules, arith, ◌∷◌, [], ◌∙◌, ap, length, take, drop, pos}
use Rattle.std.proofs.lemmas.List.{drop-drop, length_push, take-append-le, places}
use Rattle.tinyvec_array.specs.SliceVec.{slice_items, slice_spare}
use Rattle.tinyvec_array.specs.View.{NothingVacated}
use Rattle.tinyvec_array.specs.ViewLaws.{used_by}
use Rattle.tinyvec_examples.proofs.slices.edits.push_fives.Goals as goal

pub loop-i-preserved : goal.loop-i-preserved
loop-i-preserved c =
    let inv = c.loop-i.invariant in
    let put = c.push.ensures in
    let first = length (slice_items c.args.v.now) in record {
      same_reference = ap (λ p. p.lender) put.place ∙ inv.same_reference;
      kept = ap (take first) put.items ∙ take-append-le first (slice_items c.loop-i.v) (pos 5 ∷ []) (omega (arith, inv.len)) ∙ inv.kept;
      len = search (rules, places);
      spare = used_by NothingVacated _ _ _ _ 1 (ap length put.items ∙ length_push (slice_items c.loop-i.v) (pos 5)) put.slot_rule ∙ ap (drop 1) inv.spare ∙ drop-drop 1 c.loop-i._i (slice_spare c.args.v.now);
    }
