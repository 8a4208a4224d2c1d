use Rattle.std.proofs.Common.{◌≡◌, ℕ, ◌<◌, List, [], ◌∷◌, ◌++◌, ap, append_assoc, append-nil, refl, length, length-append, arith}
use Rattle.tinyvec_script.proofs.Written.{gathers_nothing, gathers_then}
use Rattle.tinyvec_script.proofs.HistoryLemmas.{feeds_nothing, feeds_then, feeds_piece, feeds_line}
use Rattle.tinyvec_script.proofs.script.feed.Goals as goal

pub loop-front-init : goal.loop-front-init
loop-front-init g c = ([], [], refl, gathers_nothing, feeds_nothing)

after_is_shorter : (front after rest : List ℕ) → rest ≡ front ++ 10 ∷ after → length after < length rest
after_is_shorter front after rest is = omega (arith, ap length is, length-append front (10 ∷ after))

pub loop-front-preserved : goal.loop-front-preserved
loop-front-preserved g c =
    let before = c.loop-front.invariant in
    let front = c.in-Some.front.now in
    let answered = c.answer_line.ensures in
    let line = feeds_then (feeds_piece c.in-Some.ensures.front c.extend.ensures) (feeds_line answered.2 c.clear.ensures) in (
      before.0 ++ (front ++ 10 ∷ []),
      before.1 ++ (answered.0 ++ 10 ∷ []),
      rw (before.2, c.in-Some.ensures.some) (simp append_assoc),
      gathers_then before.3 answered.1,
      feeds_then before.4 line,
    )

pub loop-front-smaller : goal.loop-front-smaller
loop-front-smaller g c = after_is_shorter c.in-Some.front.now c.in-Some.after.now c.loop-front.rest.now c.in-Some.ensures.some

pub returns : goal.returns
returns g c =
    let before = c.loop-front.invariant in
    let fed = feeds_then before.4 (feeds_piece c.in_default.ensures.none c.extend-2.ensures) in
    (before.1, before.3, rw (before.2, ← append-nil before.1) fed)
