use Rattle.std.proofs.Common.{Some, ◌∙◌, ap, rules, sym}
use Rattle.tinyvec_io.proofs.Faults.{none-written}
use Rattle.tinyvec_io.proofs.counted.Counted.write_some.Goals as goal

pub returns-in-Ok-eq0-clause-last_fault : goal.returns-in-Ok-eq0-clause-last_fault
returns-in-Ok-eq0-clause-last_fault g c =
    c.count_failed.ensures.last_fault ∙ c.in-Ok-eq0.ensures.last_fault ∙ none-written c.in-Ok-eq0.field-0 c.args.buf.now _ (search rules) c.requires ∙ ap Some (sym c.from.ensures)
