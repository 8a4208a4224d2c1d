use Rattle.std.proofs.Common.{rules}
use Rattle.std.proofs.lemmas.Result.{err_from_is_err_and}
use Rattle.tinyvec_borsh.proofs.ItemByItem.{fails-as}
use Rattle.tinyvec_borsh.proofs.numbers.AnyBorshDeserialize.deserialize_reader.Goals as goal

pub returns-clause-ok : goal.returns-clause-ok
returns-clause-ok g c = (c.read_bytes.new.buf, c.from_slice.ensures.spelled, c.in_ok-read_bytes.ensures.ok)

pub returns-in_err-read_bytes-clause-fails : goal.returns-in_err-read_bytes-clause-fails
returns-in_err-read_bytes-clause-fails g c =
    let p = err_from_is_err_and c.from_residual.result c.from_residual.ensures.1 in
    rw (p.1, p.2) (fails-as (λ e input few. (few.0, search rules)) c.in_err-read_bytes.ensures.fails)
