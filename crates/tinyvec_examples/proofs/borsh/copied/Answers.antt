use Rattle.std.proofs.Common.{◌≡◌, Some, rules}
use Rattle.tinyvec_borsh.proofs.ReadBack.{reads-written}
use Rattle.tinyvec_examples.proofs.borsh.copied.Goals as goal

pub returns : goal.returns
returns g c =
    let wrote = c.in_ok-serialize.ensures.writes.ok in
    let all : Some c.new-reader.result.inner.now ≡ Some wrote.0 = search rules in
    let back = reads-written g.T.BorshForm.content_of g.T.BorshForm.Spells g.T.BorshForm.code g.T.BorshForm.Fits g.T.BorshDeserialize.Reason g.met.T.BorshDeserialize.apart
    (Some c.new-reader.result.inner.now) (Some c.deserialize_reader.new.reader.inner.now) _ _ c.deserialize_reader.result c.deserialize_reader.ensures.ok c.deserialize_reader.ensures.fails.err _ wrote.0 c.in_ok-serialize.ensures.valid wrote.1 all in
    record { same = back.0; err = back.1 }
