use Rattle.std.proofs.Common.{IsUtf8, arith, subst}
use Rattle.std.proofs.lemmas.List.{map-id}
use Rattle.std.proofs.lemmas.Result.{on_ok_weaker}
use Rattle.tinyvec_borsh.proofs.lists.inline_text.InlineTextBorshSerialize.serialize.Goals as goal

pub returns-clause-writes : goal.returns-clause-writes
returns-clause-writes g c = rw (map-id c.as_bytes.result.now, c.as_bytes.ensures.value) at c.write_list.ensures.writes

pub returns-clause-valid : goal.returns-clause-valid
returns-clause-valid g c =
    on_ok_weaker c.write_list.result (λ fit. (
      record { few = omega (arith, c.len.ensures.value, c.len.type_inv); counted = omega (arith, c.len.ensures.value, c.len.type_inv); items = fit },
      subst IsUtf8 c.as_bytes.ensures.value c.as_bytes.ensures.utf8,
    )) (rw (map-id c.as_bytes.result.now, c.as_bytes.ensures.value) at c.write_list.ensures.valid)
