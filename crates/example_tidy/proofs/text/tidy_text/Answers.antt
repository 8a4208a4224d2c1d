use Rattle.std.proofs.Common.{rules, ◌≤◌, ◌≡◌, ◌≢◌, length, true, false, sym, subst, ap, arith}
use Rattle.std.proofs.lemmas.List.Elements.{All-nil}
use Rattle.tinyvec.specs.TinyVec.{tiny_items, tiny_capacity}
use Rattle.example_tidy.specs.Tidy.{Tidied, TidiedUpTo}
use Rattle.example_tidy.proofs.Feeding.{advanced}
use Rattle.example_tidy.proofs.Lines.{tidied_again}
use Rattle.example_tidy.proofs.Refusals.{refused_never}
use Rattle.example_tidy.proofs.Saying.{says_whole, says_last}
use Rattle.example_tidy.proofs.ShortLines.{short_end}
use Rattle.example_tidy.proofs.text.tidy_text.Goals as goal

pub returns-clause-tidied : goal.returns-clause-tidied
returns-clause-tidied c =
    let fed = c.in_ok-feed.ensures.ok in
    let ended = rw c.as_slice.ensures at c.in_ok-end_text.ensures.ok in
    let so_far = advanced _ _ c.args.text.now _ _ fed.0 c.new-line.ensures.items c.new-output.ensures.items fed.1 fed.2 in
    subst (Tidied c.args.text.now) (sym ended.1) (ended.2 c.args.text.now _ so_far)

pub returns-clause-twice : goal.returns-clause-twice
returns-clause-twice c = tidied_again _ _ (returns-clause-tidied c)

pub returns-in_err-feed-clause-succeeds : goal.returns-in_err-feed-clause-succeeds
returns-in_err-feed-clause-succeeds c = λ each fits.
    let text = c.args.text.now in
    let line = c.new-line in
    let output = c.new-output in
    let place : 80 ≤ tiny_capacity line.result = search rules in
    let room : 4096 ≤ tiny_capacity output.result = search rules in
    let refused = c.in_err-feed.ensures.refused in
    absurd (refused_never (tiny_items line.result) text refused.0 _ _ _
    (rw line.ensures.items (All-nil (λ byte. byte ≢ 10)))
    (rw line.ensures.items each)
    place
    (λ said new advances. omega (arith, says_whole text _ line.ensures.items said new advances, fits, room, ap length output.ensures.items))
    refused.3)

pub returns-in_err-end_text-clause-succeeds : goal.returns-in_err-end_text-clause-succeeds
returns-in_err-end_text-clause-succeeds c = λ each fits.
    let text = c.args.text.now in
    let line = tiny_items c.feed.new.line in
    let output = tiny_items c.feed.new.output in
    let fed = c.in_ok-feed.ensures.ok in
    let so_far : TidiedUpTo text output line = advanced _ _ text _ _ fed.0 c.new-line.ensures.items c.new-output.ensures.items fed.1 fed.2 in
    let room : 4096 ≤ tiny_capacity c.new-output.result = search rules in
    let never : false ≡ true = rw c.as_slice.ensures at c.in_err-end_text.ensures.succeeds
    (short_end text output line so_far each)
    (λ some. omega (arith, says_last text output line so_far some, fits, room, c.in_ok-feed.ensures.capacity)) in
    absurd cc
