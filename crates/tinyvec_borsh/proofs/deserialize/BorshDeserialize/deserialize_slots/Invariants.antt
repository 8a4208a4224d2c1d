use Rattle.std.proofs.Common.{◌≡◌, ◌≤◌, drop, length, map, take}
use Rattle.tinyvec_borsh.proofs.Blocks.{TookItems}
use Rattle.tinyvec_borsh.proofs.deserialize.BorshDeserialize.deserialize_slots.Given as goal

-- the slots so far were read
abbrev pub invariant-loop-i : goal.invariant-loop-i
invariant-loop-i g l = record {
  read : TookItems g.Self.BorshForm.Spells g.Self.BorshForm.Fits (map g.Self.BorshForm.content_of (take l.i l.slots)) (g.R.Read.remaining l.fn.reader.inner) (g.R.Read.remaining l.reader.inner);
  kept : drop l.i l.slots ≡ drop l.i l.fn.slots;
  many : length l.slots ≡ length l.fn.slots;
  grows : l.fn.reader.faults ≤ l.reader.faults;
  failed : l.reader.failed ≡ l.fn.reader.failed;
}
