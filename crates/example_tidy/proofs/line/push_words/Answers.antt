use Rattle.std.proofs.Common.{◌≡◌, ◌≢◌, ◌∙◌, true, false, List, ℕ, [], ◌++◌, ◌∷◌, append_assoc, rules, arith, ap, sym, length}
use Rattle.std.specs.List.{dedup, join_with_byte}
use Rattle.std.specs.Str.{bytes_eq}
use Rattle.tinyvec_slots.proofs.CloneLemmas.{on_err}
use Rattle.tinyvec.specs.TinyVec.{tiny_items}
use Rattle.example_tidy.specs.Tidy.{words}
use Rattle.example_tidy.proofs.Joining.{said_all, spaced, spoken, first_fits}
use Rattle.example_tidy.proofs.line.push_words.Goals as goal

pub returns-in_err-extend_from_slice-clause-succeeds : goal.returns-in_err-extend_from_slice-clause-succeeds
returns-in_err-extend_from_slice-clause-succeeds c = λ fits.
    let first = c.in-Some.first.now in
    let all = λ (found : List (List ℕ)). length (join_with_byte 32 (dedup bytes_eq found)) in
    let never : false ≡ true = c.in_err-extend_from_slice.ensures.succeeds
    (omega (arith, fits, first_fits first (words c.in-Some.rest.now), ap all c.in-Some.ensures.some)) (λ k d below. tt) in
    absurd cc

pub loop-word-init : goal.loop-word-init
loop-word-init c =
    let first = c.in-Some.first.now in
    let grown : tiny_items c.extend_from_slice.new.self ≡ tiny_items c.args.output.now ++ first = search rules in
    let all = λ (found : List (List ℕ)). join_with_byte 32 (dedup bytes_eq found) in
    record {
      so_far = (first, grown, sym (ap all c.in-Some.ensures.some ∙ said_all first (words c.in-Some.rest.now)));
      room = search rules;
    }

-- a word found no room, behind its blank
pub returns-in_err-extend_from_slice-2-clause-refused : goal.returns-in_err-extend_from_slice-2-clause-refused
returns-in_err-extend_from_slice-2-clause-refused c =
    let before = c.loop-word.invariant in
    let pushed = c.in_ok-push-2.ensures.ok.items ∙ ap (λ said. said ++ 32 ∷ []) before.so_far.1 in
    on_err c.from_residual-in_err-extend_from_slice-2.result (
      before.so_far.0 ++ 32 ∷ [],
      c.in_err-extend_from_slice-2.ensures.clones.kept ∙ pushed ∙ append_assoc (tiny_items c.args.output.now) before.so_far.0 (32 ∷ []),
    )

pub loop-word-preserved-in_ok-extend_from_slice-2 : goal.loop-word-preserved-in_ok-extend_from_slice-2
loop-word-preserved-in_ok-extend_from_slice-2 c =
    let before = c.loop-word.invariant in
    let front = before.so_far.0 in
    let last = c.loop-word.last.now in
    let word = c.in-Some-next_word.word.now in
    let all = join_with_byte 32 (dedup bytes_eq (words c.args.line.now)) in
    let other : word ≢ last = search rules in
    let grown : tiny_items c.extend_from_slice-then-ne.new.self ≡ tiny_items c.push-then-ne.new.self ++ word = search rules in
    record {
      so_far = (
        front ++ 32 ∷ word,
        spaced (tiny_items c.args.output.now) front word _ _ _ before.so_far.1 c.in_ok-push-2.ensures.ok.items grown,
        spoken front last word all (words c.loop-word.left.now) (words c.in-Some-next_word.more.now) c.in-Some-next_word.ensures.some other before.so_far.2,
      );
      room = search rules;
    }
