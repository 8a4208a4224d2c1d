use Rattle.std.proofs.Common.{◌≡◌, ◌≤◌, ◌-◌, length, take}
use Rattle.std.specs.List.{AllByRecursion}
use Rattle.tinyvec_borsh.proofs.ItemByItem.{WroteItems}
use Rattle.tinyvec_borsh.proofs.numbers.number.AnyNumber.write_all.Given as goal

-- the items so far were written
abbrev pub invariant-loop-start : goal.invariant-loop-start
invariant-loop-start g l = record {
  wrote : WroteItems g.T.FixedWidth.form.Spells (take l.start l.items) (g.W.Write.contents l.fn.writer.inner) (g.W.Write.contents l.writer.inner);
  fit : AllByRecursion g.T.FixedWidth.form.Fits (take l.start l.items);
  room : length l.room ≡ 256;
  within : l.start ≤ length l.items;
  grows : l.fn.writer.faults ≤ l.writer.faults;
  failed : l.writer.failed ≡ l.fn.writer.failed;
}

abbrev pub decreases-loop-start : goal.decreases-loop-start
decreases-loop-start g l = length l.items - l.start
