use Rattle.tinyvec_borsh.proofs.lists.tiny_vec.TinyVecBorshSerialize.serialize.Goals as goal

pub returns-clause-writes : goal.returns-clause-writes
returns-clause-writes g c = rw c.as_slice-items.ensures at c.write_list.ensures.writes
