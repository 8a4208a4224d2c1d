use Rattle.tinyvec_script.proofs.Written.{gathers_more, gathers_then, gathers_unsent, gathers_sent, gathers_written, gathers_failed}
use Rattle.tinyvec_script.proofs.gathered.Gathered.put_after_send.Goals as goal

pub returns-in-Err : goal.returns-in-Err
returns-in-Err g c = gathers_unsent c.in-Err.is c.send.ensures

pub returns-then-text-capacity : goal.returns-then-text-capacity
returns-then-text-capacity g c =
    gathers_then (gathers_sent c.in_default.is c.send.ensures) (rw (← c.self.view_is) (gathers_more _ _ _ _ c.extend_from_slice_copy.ensures.items))

pub returns-in-Err-write_all : goal.returns-in-Err-write_all
returns-in-Err-write_all g c =
    let wrote = rw c.in-Err-write_all.is at c.write_all.ensures in
    let empty = rw c.in_default.is at c.send.ensures.empty in
    gathers_then (gathers_sent c.in_default.is c.send.ensures) (rw empty (gathers_failed wrote.err wrote.faults.grows wrote.faults.fault wrote.failed))

pub returns-in_default-write_all : goal.returns-in_default-write_all
returns-in_default-write_all g c =
    let wrote = rw c.in_default-write_all.is at c.write_all.ensures in
    let empty = rw c.in_default.is at c.send.ensures.empty in
    gathers_then (gathers_sent c.in_default.is c.send.ensures) (rw empty (gathers_written wrote.bytes wrote.faults.grows wrote.failed.exact))
