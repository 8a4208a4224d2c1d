use Rattle.std.proofs.Common.{rules, FitsSigned}
use Rattle.std.specs.Int.{w32}
use Rattle.std.proofs.lemmas.Int.{to_z-of_z}
use Rattle.tinyvec_script.proofs.Written.{gathers_then}
use Rattle.tinyvec_script.proofs.answers.write_answer.Goals as goal

pub returns-in-Some : goal.returns-in-Some
returns-in-Some g c =
    let fits : FitsSigned w32 c.in-Some.number = search rules in
    rw c.in-Some.is (gathers_then c.put-in-Some.ensures (rw to_z-of_z at c.write_number.ensures))

pub returns-in-Items : goal.returns-in-Items
returns-in-Items g c = rw c.in-Items.is (gathers_then c.put-in-Items.ensures (rw c.as_slice.ensures.value at c.write_list.ensures))

pub returns-in-Spliced : goal.returns-in-Spliced
returns-in-Spliced g c =
    let items = gathers_then c.put-in-Spliced.ensures (rw c.as_slice-in-Spliced.ensures.value at c.write_list-in-Spliced.ensures) in
    let rest = rw c.as_slice-in-Spliced-2.ensures.value at c.write_list-in-Spliced-2.ensures in
    rw c.in-Spliced.is (gathers_then (gathers_then items c.put-in-Spliced-2.ensures) rest)
