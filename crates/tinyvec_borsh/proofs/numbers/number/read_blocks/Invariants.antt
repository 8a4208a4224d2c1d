use Rattle.std.proofs.Common.{◌≡◌, ◌≤◌, ◌-◌, drop, length, take}
use Rattle.tinyvec_borsh.proofs.Blocks.{TookItems}
use Rattle.tinyvec_borsh.proofs.numbers.number.read_blocks.Given as goal

-- the slots so far were read
abbrev pub invariant-loop-start : goal.invariant-loop-start
invariant-loop-start g l = record {
  read : TookItems g.T.FixedWidth.form.Spells g.T.FixedWidth.form.Fits (take l.start l.slots) (g.R.Read.remaining l.fn.reader.inner) (g.R.Read.remaining l.reader.inner);
  room : length l.room ≡ g.row.MOST;
  kept : drop l.start l.slots ≡ drop l.start l.fn.slots;
  many : length l.slots ≡ length l.fn.slots;
  within : l.start ≤ length l.slots;
  grows : l.fn.reader.faults ≤ l.reader.faults;
  failed : l.reader.failed ≡ l.fn.reader.failed;
}

abbrev pub decreases-loop-start : goal.decreases-loop-start
decreases-loop-start g l = length l.slots - l.start
