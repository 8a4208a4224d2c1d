use Rattle.std.proofs.Common.{◌∙◌, arith, rules}
use Rattle.std.proofs.lemmas.Result.{err_from_is_err_and}
use Rattle.tinyvec_borsh.proofs.Blocks.{cut-first, fails-behind, left-at, left-slot, length-mapped, took-slot}
use Rattle.tinyvec_borsh.proofs.deserialize.BorshDeserialize.deserialize_slots.Goals as goal

pub loop-i-preserved : goal.loop-i-preserved
loop-i-preserved g c = record {
  read = took-slot g.Self.BorshForm.Spells g.Self.BorshForm.Fits g.Self.BorshForm.content_of _ _ _ _ _ _ (omega arith) c.loop-i.invariant.read c.in_ok-slots.ensures.ok c.in_ok-slots.ensures.valid;
  kept = left-slot c.loop-i.i c.loop-i.slots c.args.slots.now _ c.loop-i.invariant.kept;
  many = search rules;
  grows = omega arith;
  failed = c.in_ok-slots.ensures.fails.failed.exact ∙ c.loop-i.invariant.failed;
}

pub returns-in_err-slots-clause-fails : goal.returns-in_err-slots-clause-fails
returns-in_err-slots-clause-fails g c =
    let p = err_from_is_err_and c.from_residual.result c.from_residual.ensures.1 in
    let many = length-mapped g.Self.BorshForm.content_of c.loop-i.slots c.loop-i.i (omega arith) in
    rw (p.1, p.2) (fails-behind g.Self.BorshForm.Spells g.Self.BorshForm.Fits g.Self.BorshDeserialize.Reason g.met.Self.BorshDeserialize.apart.front_is_cut
    _ _ c.loop-i.invariant.read (omega (arith, many)) c.loop-i.invariant.grows c.loop-i.invariant.failed c.in_err-slots.ensures.fails)

pub returns-in_err-slots-clause-left : goal.returns-in_err-slots-clause-left
returns-in_err-slots-clause-left g c =
    let p = err_from_is_err_and c.from_residual.result c.from_residual.ensures.1 in
    let told = cut-first g.Self.BorshForm.Spells g.Self.BorshForm.Fits g.Self.BorshDeserialize.Reason g.Self.BorshDeserialize.lost _ _ _ c.in_err-slots.ensures.fails.taken in
    rw (p.1, p.2) (left-at g.Self.BorshForm.content_of g.Self.BorshForm.Spells g.Self.BorshForm.Fits _ c.loop-i.i c.args.slots.now c.loop-i.slots _ _ _ c.loop-i.invariant.read told
    c.loop-i.invariant.many (omega (arith, c.loop-i.invariant.many)) c.loop-i.invariant.kept)
