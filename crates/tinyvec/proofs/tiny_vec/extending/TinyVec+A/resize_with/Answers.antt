use Rattle.std.proofs.lemmas.Result.{on_ok_weaker}
use Rattle.tinyvec.proofs.tiny_vec.extending.TinyVec+A.resize_with.Goals as goal

pub returns-clause-items : goal.returns-clause-items
returns-clause-items g c = on_ok_weaker c.resize_by_answers.result (λ h. (h.0, c.resize_by_answers.new.f, h.1, h.2)) c.resize_by_answers.ensures.items
