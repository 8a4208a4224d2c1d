use Rattle.std.proofs.Common.{OnOk, subst, sym}
use Rattle.std.specs.List.{AllByRecursion}
use Rattle.std.proofs.lemmas.List.{map-id}
use Rattle.tinyvec_borsh.specs.Items.{SpellsItems}
use Rattle.tinyvec_borsh.specs.Writing.{WritesValue}
use Rattle.tinyvec_borsh.proofs.numbers.AnyBorshSerialize.serialize_items.Goals as goal

pub returns-clause-writes : goal.returns-clause-writes
returns-clause-writes g c = subst (λ xs. WritesValue g.W.Write.contents (SpellsItems g.T.FixedWidth.form.Spells xs) c.args.writer.now c.write_all.new.writer c.write_all.result) (sym (map-id c.args.items.now)) c.write_all.ensures.writes

pub returns-clause-valid : goal.returns-clause-valid
returns-clause-valid g c = subst (λ xs. OnOk c.write_all.result (AllByRecursion g.T.FixedWidth.form.Fits xs)) (sym (map-id c.args.items.now)) c.write_all.ensures.valid
