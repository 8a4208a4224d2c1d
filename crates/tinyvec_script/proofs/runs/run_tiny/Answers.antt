use Rattle.std.proofs.lemmas.Result.{IfOk-weaker}
use Rattle.tinyvec.specs.TinyVec.{view}
use Rattle.tinyvec_script.proofs.RunLemmas.{Run-seen}
use Rattle.tinyvec_script.proofs.runs.run_tiny.Goals as goal

pub returns-clause-run : goal.returns-clause-run
returns-clause-run g c = IfOk-weaker c.run_calls.result _ _
    (λ answers run. Run-seen _ _ (view g.A.Slots) (λ old new call answer step. step) c.args.vec.now c.run_calls.new.vec c.args.calls.items answers.items run) c.run_calls.ensures.run
