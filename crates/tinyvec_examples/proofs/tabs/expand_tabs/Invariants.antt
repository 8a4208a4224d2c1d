use Rattle.std.proofs.Common.{◌≡◌, ◌++◌, take, drop}
use Rattle.tinyvec.specs.TinyVec.{tiny_items}
use Rattle.tinyvec_examples.specs.Tabs.{expanded}
use Rattle.tinyvec_examples.proofs.tabs.expand_tabs.Given as goal

abbrev pub invariant-loop-at : goal.invariant-loop-at
invariant-loop-at l = tiny_items l.text ≡ take l.at (tiny_items l.initial.text) ++ expanded (drop l.at (tiny_items l.initial.text))
