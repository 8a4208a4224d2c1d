use Rattle.tinyvec_borsh.proofs.ReadBack.{reads-back}
use Rattle.tinyvec_examples.proofs.borsh.read_back.Goals as goal

pub returns : goal.returns
returns g c = reads-back g.T.BorshForm.content_of g.T.BorshForm.Spells g.T.BorshForm.code g.T.BorshForm.Fits g.T.BorshDeserialize.Reason g.met.T.BorshDeserialize.apart
    _ _ _ _ c.deserialize_reader.result c.deserialize_reader.ensures.ok c.deserialize_reader.ensures.fails.err
