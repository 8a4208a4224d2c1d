use Rattle.std.proofs.Common.{rules, FitsSigned}
use Rattle.std.specs.Int.{w32}
use Rattle.std.proofs.lemmas.Int.{to_z-of_z}
use Rattle.std.proofs.lemmas.List.{nil_from_length}
use Rattle.tinyvec_script.specs.Text.{list_text}
use Rattle.tinyvec_script.proofs.Written.{gathers_then}
use Rattle.tinyvec_script.proofs.answers.write_list.Goals.{in-Some, in_default}
use Rattle.tinyvec_script.proofs.answers.write_list.Goals as goal

pub returns : goal.returns
unfolding list_text
returns g c =
    elim c.match-split_first.branch [
      | in-Some w ↦
          (let fits : FitsSigned w32 w.in-Some.first.now = search rules in
          let first = gathers_then c.put.ensures (rw to_z-of_z at w.write_number.ensures) in
          let closed = rw (w.gathered-is, w.writer-is) at c.put-2.ensures in
          rw w.in-Some.ensures.cases.0 (gathers_then (gathers_then first w.write_more.ensures) closed))
      | in_default w ↦
          (let closed = rw (w.gathered-is, w.writer-is) at c.put-2.ensures in
          rw (nil_from_length c.args.numbers.now w.in_default.ensures.cases) (gathers_then c.put.ensures closed))
    ]
