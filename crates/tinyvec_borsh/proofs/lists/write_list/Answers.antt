use Rattle.std.proofs.Common.{map, ◌∙◌, sym, ◌≡◌, length, lit<}
use Rattle.std.proofs.lemmas.List.{length-map}
use Rattle.std.proofs.lemmas.Result.{err_from_is_err_and}
use Rattle.tinyvec_borsh.specs.NumberLaws.{number_code}
use Rattle.tinyvec_borsh.proofs.AtFaults.{writes-both, writes-first}
use Rattle.tinyvec_borsh.proofs.lists.write_list.Goals as goal

pub returns-in_err-serialize-clause-writes : goal.returns-in_err-serialize-clause-writes
returns-in_err-serialize-clause-writes g c =
    let p = err_from_is_err_and c.from_residual.result c.from_residual.ensures.1 in
    let long : c.args.len ≡ length (map g.T.BorshForm.content_of c.args.items.now) = c.requires ∙ sym (length-map c.args.items.now g.T.BorshForm.content_of) in
    rw (p.1, p.2) (writes-first (rw long at c.in_err-serialize.ensures.writes))

pub returns-clause-writes : goal.returns-clause-writes
returns-clause-writes g c =
    let long : c.args.len ≡ length (map g.T.BorshForm.content_of c.args.items.now) = c.requires ∙ sym (length-map c.args.items.now g.T.BorshForm.content_of) in
    writes-both c.serialize_items.result ((number_code 8 (lit< tt)).one_spelling _) (rw long at c.in_ok-serialize.ensures.writes) c.serialize_items.ensures.writes
