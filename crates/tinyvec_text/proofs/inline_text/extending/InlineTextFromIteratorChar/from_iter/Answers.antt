use Rattle.tinyvec_slots.proofs.CloneLemmas.{on_err}
use Rattle.tinyvec_text.proofs.Extending.{by_chars, gathered, lacked}
use Rattle.tinyvec_text.proofs.inline_text.extending.InlineTextFromIteratorChar.from_iter.Goals as goal

pub returns-clause-ran : goal.returns-clause-ran
returns-clause-ran g c =
    let t = c.new-text.ensures in
    let ran = c.in_ok-extend.ensures.ran in
    let d = ran.4 in
    (ran.0, ran.1, ran.2, (d.1.0, d.1.1, λ _. (d.0, d.1.2)), gathered by_chars g.row.N t.bytes t.place ran.1 ran.3)

pub returns-in_err-extend-clause-full : goal.returns-in_err-extend-clause-full
returns-in_err-extend-clause-full g c =
    let t = c.new-text.ensures in
    let full = c.in_err-extend.ensures.full in
    let no_room = lacked by_chars g.row.N t.bytes t.place full.1 full.2 (full.6, full.7, full.8) in
    on_err c.from_residual.result (full.0, full.1, full.2, full.3, full.4, full.5, no_room.0, no_room.1)
