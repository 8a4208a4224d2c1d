use Rattle.std.proofs.Common.{rules, ◌∙◌, sym, ap}
use Rattle.std.specs.List.{join_with_byte}
use Rattle.std.proofs.lemmas.List.Splits.{join_with_byte-slice_split}
use Rattle.example_fields.proofs.key_and_value.Goals as goal

pub returns-clause-parts : goal.returns-clause-parts
returns-clause-parts c = search rules

-- the parts of a line, joined by the separator, are the line
pub returns-clause-joined : goal.returns-clause-joined
returns-clause-joined c = sym (join_with_byte-slice_split 61 c.args.line.now) ∙ ap (join_with_byte 61) (returns-clause-parts c)
