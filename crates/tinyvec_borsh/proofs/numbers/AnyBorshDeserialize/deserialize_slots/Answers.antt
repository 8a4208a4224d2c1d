use Rattle.std.proofs.Common.{OnOk, subst, sym}
use Rattle.std.specs.List.{AllByRecursion}
use Rattle.std.proofs.lemmas.List.{map-id}
use Rattle.tinyvec_borsh.specs.Items.{SpellsItems}
use Rattle.tinyvec_borsh.specs.Reading.{ReadsSpelling}
use Rattle.tinyvec_borsh.proofs.numbers.AnyBorshDeserialize.deserialize_slots.Goals as goal

pub returns-clause-ok : goal.returns-clause-ok
returns-clause-ok g c = subst (λ xs. OnOk c.read_all.result (ReadsSpelling (SpellsItems g.T.FixedWidth.form.Spells xs) (g.R.Read.remaining c.args.reader.now.inner) (g.R.Read.remaining c.read_all.new.reader.inner))) (sym (map-id c.read_all.new.slots)) c.read_all.ensures.ok

pub returns-clause-valid : goal.returns-clause-valid
returns-clause-valid g c = subst (λ xs. OnOk c.read_all.result (AllByRecursion g.T.FixedWidth.form.Fits xs)) (sym (map-id c.read_all.new.slots)) c.read_all.ensures.valid
