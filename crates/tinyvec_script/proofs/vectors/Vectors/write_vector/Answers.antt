use Rattle.tinyvec_script.proofs.vectors.Vectors.write_vector.Goals as goal

pub returns-in-A : goal.returns-in-A
returns-in-A g c = rw c.in-A.is (rw (c.as_slice.ensures, c.grab_spare_slice.ensures) at c.write_state.ensures)

pub returns-in-S : goal.returns-in-S
returns-in-S g c = rw c.in-S.is (rw (c.as_slice-in-S.ensures, c.grab_spare_slice-in-S.ensures) at c.write_state-in-S.ensures)

pub returns-in-T : goal.returns-in-T
returns-in-T g c = rw c.in-T.is (rw (c.as_slice-in-T.ensures, c.is_inline.ensures) at c.write_place_state.ensures)
