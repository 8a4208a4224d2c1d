use Rattle.std.proofs.Common.{◌≡◌, ℕ, List, ap, length, Result, Ok, Err, OnOk, OnErr}
use Rattle.std.specs.Borrow.{GName, MutBor}
use Rattle.std.proofs.lemmas.Result.{IfOk-weaker, IfErr-weaker}
use Rattle.tinyvec_array.specs.declared.array_vec.ArrayVec.{ArrayVec}
use Rattle.tinyvec_array.specs.SliceVec.{slice_view, slice_name, slice_slots}
use Rattle.tinyvec_script.proofs.RunLemmas.{Run-seen, Run-kept}
use Rattle.tinyvec_script.proofs.runs.run_slice.Goals as goal

either : {X E P : Type 0} (r : Result X E) → OnOk r P → OnErr r P → P
either (Ok x) made refused = made
either (Err e) made refused = refused

-- which slots these are, and how many
abbrev slots_are : {T : Type 0} → ArrayVec (MutBor (List T)) ℕ → GName × ℕ
slots_are v = (slice_name v, length (slice_slots v))

pub returns-clause-run : goal.returns-clause-run
returns-clause-run g c = IfOk-weaker c.run_calls.result _ _
    (λ answers run. Run-seen _ _ slice_view (λ old new call answer step. step.0) c.args.vec.now c.run_calls.new.vec c.args.calls.items answers.items run)
    c.run_calls.ensures.run

pub returns-clause-lender : goal.returns-clause-lender
returns-clause-lender g c =
    let kept : slots_are c.run_calls.new.vec ≡ slots_are c.args.vec.now = either c.run_calls.result
    (IfOk-weaker c.run_calls.result _ _
    (λ answers run. Run-kept _ slots_are (λ old new call answer step t. (step.1.same_reference t, step.1.slot_count t)) c.args.vec.now c.run_calls.new.vec c.args.calls.items answers.items run)
    c.run_calls.ensures.run)
    (IfErr-weaker c.run_calls.result _ _ (λ e refused. ap slots_are refused.1) c.run_calls.ensures.refused) in
    record { same_reference = ap (λ p. p.0) kept; slot_count = ap (λ p. p.1) kept }
