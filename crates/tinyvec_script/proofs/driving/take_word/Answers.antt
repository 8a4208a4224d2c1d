use Rattle.std.proofs.Common.{◌+◌, ◌++◌, ◌∷◌, [], ap, ◌∙◌, subst, sym, append-nil, append_assoc, arith, take, length, length-append}
use Rattle.std.proofs.lemmas.List.{map_more}
use Rattle.std.specs.Option.{option_to_list}
use Rattle.std.specs.Iterator.Adapters.{fuse_steps}
use Rattle.std.specs.Vec.Iter.{into_iter_steps, into_iter_steps_back}
use Rattle.tinyvec_slots.specs.Ends.{RunsWord, given_items}
use Rattle.tinyvec_slots.specs.Splice.{SpliceSteps, SpliceStepsBack}
use Rattle.tinyvec_slots.proofs.EndsLemmas.{given_items-more}
use Rattle.tinyvec_script.specs.Driving.{letter, word_of}
use Rattle.tinyvec_script.specs.declared.call.End.TheVariants.{Front}
use Rattle.tinyvec_script.proofs.DrivingLemmas.{RunsWord-letter, given_within, spliced_along, taken_along}
use Rattle.tinyvec_script.proofs.driving.take_word.Goals.{After-take_from, in-Some, in-None}
use Rattle.tinyvec_script.proofs.driving.take_word.Goals as goal

-- the word with this letter was asked
asked_more : (g : _) (c : After-take_from g)
    → RunsWord (SpliceSteps g.V.CanCut.items g.V.CanCut.Kept (fuse_steps into_iter_steps)) (SpliceStepsBack g.V.CanCut.items g.V.CanCut.Kept (fuse_steps into_iter_steps_back))
    c.args.splice.now (word_of (take (c.loop-letter.letter-index + 1) c.args.word.now)) (c.loop-letter.invariant.asks.0 ++ c.take_from.result ∷ []) c.take_from.new.splice
asked_more g c =
    let gives = SpliceSteps g.V.CanCut.items g.V.CanCut.Kept (fuse_steps into_iter_steps) in
    let gives_back = SpliceStepsBack g.V.CanCut.items g.V.CanCut.Kept (fuse_steps into_iter_steps_back) in
    let turn = c.loop-letter in
    let asked = turn.invariant.asks in
    let r = c.take_from.result in
    let to = c.take_from.new.splice in
    let word = c.args.word.now in
    subst (λ w. RunsWord gives gives_back c.args.splice.now w (asked.0 ++ r ∷ []) to) (sym (map_more letter word turn.letter-index Front c.loop-letter-test.true))
    (RunsWord-letter gives gives_back _ c.args.splice.now (word_of (take turn.letter-index word)) asked.0 turn.splice r to asked.1 c.take_from.ensures)

pub take_from-requires : goal.take_from-requires
take_from-requires g c =
    let asks = c.loop-letter.invariant.asks in record {
      ready = (spliced_along g.V.CanCut.items g.V.CanCut.Kept g.met.V.CanSplice.kept_same g.met.V.CanSplice.kept_then _ _ asks.0 _ asks.1).kept.ready c.requires.ready;
    }

pub push_reserved-requires : goal.push_reserved-requires
push_reserved-requires g c =
    let asked = c.loop-letter.invariant.asks in
    let r = c.take_from.result in
    let asks = asked_more g (goal.at.push_reserved-requires g c).After-take_from in
    let given = given_items-more asked.0 r ∙ ap (λ o. given_items asked.0 ++ option_to_list o) c.in-Some.is in
    let long = ap length given ∙ length-append (given_items asked.0) (c.in-Some.item ∷ []) in
    let before = ap length asked.2 ∙ length-append c.args.yields.now.items (given_items asked.0) in
    let within = given_within _ _ _ _ (taken_along g.V.CanCut.items g.V.CanCut.Kept g.met.V.CanSplice.kept_same g.met.V.CanSplice.kept_then _ _ _ _ asks) in
    let was = c.args.yields.now.ok.0 in
    let now = c.loop-letter.yields.ok.0 in
    omega (arith, c.requires.room, within, long, before, was, now, c.loop-letter.invariant.capacity)

pub loop-letter-preserved : goal.loop-letter-preserved
loop-letter-preserved g c =
    let asked = c.loop-letter.invariant.asks in
    let r = c.take_from.result in
    let asks = asked_more g (goal.at.loop-letter-preserved g c).After-take_from in
    let given = given_items-more asked.0 r in
    elim c.match-take_from.branch [
      | in-Some w ↦
          (let is = given ∙ ap (λ o. given_items asked.0 ++ option_to_list o) w.in-Some.is in
          record {
            asks = (
              asked.0 ++ r ∷ [],
              asks,
              ap (λ v. v.items) w.yields-is ∙ w.push_reserved.ensures.items ∙ ap (λ l. l ++ w.in-Some.item ∷ []) asked.2
                  ∙ append_assoc c.args.yields.now.items (given_items asked.0) (w.in-Some.item ∷ []) ∙ ap (λ l. c.args.yields.now.items ++ l) (sym is),
            );
            capacity = ap (λ v. v.cap) w.yields-is ∙ w.push_reserved.ensures.capacity ∙ c.loop-letter.invariant.capacity;
          })
      | in-None w ↦
          (let is = given ∙ ap (λ o. given_items asked.0 ++ option_to_list o) w.in-None.is ∙ append-nil (given_items asked.0) in
          record {
            asks = (asked.0 ++ r ∷ [], asks, ap (λ v. v.items) w.yields-is ∙ asked.2 ∙ ap (λ l. c.args.yields.now.items ++ l) (sym is));
            capacity = ap (λ v. v.cap) w.yields-is ∙ c.loop-letter.invariant.capacity;
          })
    ]
