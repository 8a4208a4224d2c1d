use Rattle.std.proofs.Common.{◌≡◌, ◌≢◌, ◌∙◌, [], Ok, Err, Some, append-nil, ap, arith, refl, rules, sym}
use Rattle.std.proofs.lemmas.Grind.{common_steps}
use Rattle.example_stream.specs.declared.stream_error.StreamError.TheVariants.{Io}
use Rattle.example_stream.proofs.WholeStreams.{copy-of}
use Rattle.example_stream.proofs.stream.copied.Goals as goal

pub returns-clause-ok : goal.returns-clause-ok
returns-clause-ok c =
    let wrote = c.in_ok-append_all.ensures.writes.ok in
    let all : Some c.new-2.result.inner.now ≡ Some wrote.0 = grind (arith, common_steps) in
    let no_fault : c.read_all-copy.result.end ≢ Err Io = search rules in
    copy-of _ _ _ _ _ no_fault (c.read_all-copy.ensures.all _ wrote.0 [] (Ok tt) c.in_ok-append_all.ensures.valid wrote.1 refl (all ∙ ap Some (sym (append-nil wrote.0))))
