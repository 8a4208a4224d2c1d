use Rattle.std.proofs.Common.{string_bytes, rules}
use Rattle.example_nodes.proofs.answer.ReaderAnswer.answer.Goals as goal

pub returns-clause-answered : goal.returns-clause-answered
returns-clause-answered c = (string_bytes c.answer_to.new.text, search rules, (search rules, c.in_ok-answer_to.ensures))
