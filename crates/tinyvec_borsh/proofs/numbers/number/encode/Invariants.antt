use Rattle.std.proofs.Common.{◌≡◌, ◌*◌, length, take}
use Rattle.std.specs.List.{AllByRecursion}
use Rattle.tinyvec_borsh.specs.Items.{SpellsItems}
use Rattle.tinyvec_borsh.proofs.numbers.number.encode.Given as goal

-- the first bytes of the room spell the items so far
abbrev pub invariant-loop-i : goal.invariant-loop-i
invariant-loop-i g l = record {
  spelled : SpellsItems g.T.FixedWidth.form.Spells (take l.i l.items) (take (l.i * l.width) l.room);
  fit : AllByRecursion g.T.FixedWidth.form.Fits (take l.i l.items);
  room : length l.room ≡ 256;
}
