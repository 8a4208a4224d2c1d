use Rattle.std.proofs.Common.{◌≡◌, ◌∙◌, true, false, [], ap, sym, subst, append-nil, length, arith, rules, ◌≤◌}
use Rattle.std.proofs.KnownBytes.{Appends-kept}
use Rattle.example_tidy.specs.Tidy.{Ends}
use Rattle.example_tidy.proofs.Feeding.{ends_text}
use Rattle.example_tidy.proofs.Lengths.{length-normal_line}
use Rattle.tinyvec.specs.TinyVec.{tiny_capacity}
use Rattle.example_tidy.proofs.stream.finish.Goals as goal

pub returns-in_default-clause-long : goal.returns-in_default-clause-long
returns-in_default-clause-long g c = λ _ short.
    let output = c.new-output in
    let room : 4096 ≤ tiny_capacity output.result = search rules in
    let never : false ≡ true = c.in_default.ensures.succeeds short
    (λ some. omega (arith, length-normal_line c.args.line.now, short, ap length output.ensures.items, room)) in
    absurd cc

pub returns-in-Err-clause-write : goal.returns-in-Err-clause-write
returns-in-Err-clause-write g c =
    let line = c.args.line.now in
    let said = c.in-Ok.ensures.ok in
    let whole = ends_text line _ _ said.0 c.new-output.ensures.items said.1 said.2 in
    let front = c.in-Err.ensures.err in
    λ error is. (front.0, front.1, front.3, subst (Ends line) (sym c.as_slice.ensures ∙ front.2) whole)

pub returns-clause-write : goal.returns-clause-write
returns-clause-write g c =
    let line = c.args.line.now in
    let text = c.as_slice.result.now in
    let said = c.in-Ok.ensures.ok in
    let whole = ends_text line _ _ said.0 c.new-output.ensures.items said.1 said.2 in
    λ error is. (
      text,
      [],
      Appends-kept _ _ _ text c.in-Ok-write_all.ensures.bytes c.in-Err-flush.ensures.bytes,
      subst (Ends line) (sym c.as_slice.ensures ∙ sym (append-nil text)) whole,
    )

pub returns-in-Ok-flush-clause-ok : goal.returns-in-Ok-flush-clause-ok
returns-in-Ok-flush-clause-ok g c =
    let line = c.args.line.now in
    let text = c.as_slice.result.now in
    let said = c.in-Ok.ensures.ok in
    let whole = ends_text line _ _ said.0 c.new-output.ensures.items said.1 said.2 in
    (text, Appends-kept _ _ _ text c.in-Ok-write_all.ensures.bytes c.in-Ok-flush.ensures.bytes, subst (Ends line) (sym c.as_slice.ensures) whole)
