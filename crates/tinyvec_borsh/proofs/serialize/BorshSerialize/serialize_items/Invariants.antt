use Rattle.std.proofs.Common.{◌≡◌, ◌≤◌, map, take}
use Rattle.std.specs.List.{AllByRecursion}
use Rattle.tinyvec_borsh.proofs.ItemByItem.{WroteItems}
use Rattle.tinyvec_borsh.proofs.serialize.BorshSerialize.serialize_items.Given as goal

-- the items so far were written
abbrev pub invariant-loop-item : goal.invariant-loop-item
invariant-loop-item g l = record {
  wrote : WroteItems g.Self.BorshForm.Spells (map g.Self.BorshForm.content_of (take l.item-index l.items)) (g.W.Write.contents l.fn.writer.inner) (g.W.Write.contents l.writer.inner);
  fit : AllByRecursion g.Self.BorshForm.Fits (map g.Self.BorshForm.content_of (take l.item-index l.items));
  grows : l.fn.writer.faults ≤ l.writer.faults;
  failed : l.writer.failed ≡ l.fn.writer.failed;
}
