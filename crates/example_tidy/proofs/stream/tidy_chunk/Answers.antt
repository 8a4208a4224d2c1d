use Rattle.std.proofs.Common.{◌≡◌, ◌∙◌, [], ◌++◌, false, true, ap, sym, subst, length, arith, rules, ◌+◌, ◌-◌, ◌<◌, ◌≤◌}
use Rattle.std.proofs.Math.Nat.{lt_of_not-le}
use Rattle.std.proofs.KnownBytes.{Appends-nil}
use Rattle.tinyvec.specs.TinyVec.{tiny_items, tiny_len, tiny_capacity}
use Rattle.example_tidy.specs.Tidy.{EndsBeforeLong, EndsSome}
use Rattle.example_tidy.proofs.Feeding.{ends_either}
use Rattle.example_tidy.proofs.Refusals.{before_long, before_old}
use Rattle.example_tidy.proofs.stream.tidy_chunk.Goals as goal

-- room is refused for a line that is long by what came of it before
pub returns-in_default-clause-memory : goal.returns-in_default-clause-memory
returns-in_default-clause-memory g c = λ _ place few.
    let old = tiny_items c.args.line.now in
    let output = c.new-output in
    let room : 4096 ≤ tiny_capacity output.result = search rules in
    let full = lt_of_not-le (λ fits. let never : false ≡ true = (c.in_default.ensures.kept fits).0 in absurd cc) in
    let long : 80 < length old = omega (arith, full, few, room, ap length output.ensures.items) in
    ([], Appends-nil _, before_old old c.args.bytes.now long)

-- the front of what was said that was written
pub returns-in-Err-clause-write : goal.returns-in-Err-clause-write
returns-in-Err-clause-write g c =
    let old = tiny_items c.args.line.now in
    let bytes = c.args.bytes.now in
    let front = c.in-Err.ensures.err in
    let empty = c.in-Ok.ensures.ok.items ∙ c.new-output.ensures.items in
    let said = ends_either c.feed-fed.result old _ bytes _ _ _ _ empty c.feed-fed.ensures.ok c.feed-fed.ensures.refused in
    λ error is. (front.0, front.1, front.3, subst (EndsSome old bytes) (sym c.as_slice.ensures ∙ front.2) said)

-- what was said before the line that memory was refused for
pub returns-in_default-fed-clause-memory : goal.returns-in_default-fed-clause-memory
returns-in_default-fed-clause-memory g c = λ _ place few.
    let old = tiny_items c.args.line.now in
    let bytes = c.args.bytes.now in
    let output = c.reserve.new.self in
    let empty = c.in-Ok.ensures.ok.items ∙ c.new-output.ensures.items in
    let refused = c.in_default-fed.ensures.refused in
    let fits : length old + length bytes ≤ tiny_capacity output - tiny_len output = search rules in
    let said = before_long old bytes refused.0 _ _ _ place fits refused.3 in
    let text : c.as_slice.result.now ≡ refused.0 = c.as_slice.ensures ∙ refused.2 ∙ ap (λ front. front ++ refused.0) empty in
    (c.as_slice.result.now, c.in-Ok-write_all.ensures.bytes, subst (EndsBeforeLong old bytes) (sym text) said)
