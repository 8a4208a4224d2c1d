use Rattle.std.proofs.Common.{◌≡◌, ◌*◌, length, take}
use Rattle.std.specs.List.{AllByRecursion}
use Rattle.tinyvec_borsh.specs.Items.{SpellsItems}
use Rattle.tinyvec_borsh.proofs.numbers.number.decode.Given as goal

-- the slots so far have the numbers that the first bytes spell
abbrev pub invariant-loop-i : goal.invariant-loop-i
invariant-loop-i g l = record {
  spelled : SpellsItems g.T.FixedWidth.form.Spells (take l.i l.slots) (take (l.i * l.width) l.bytes);
  fit : AllByRecursion g.T.FixedWidth.form.Fits (take l.i l.slots);
  many : length l.slots ≡ length l.fn.slots;
}
