use Rattle.example_records.proofs.answer.+push_digits.Given as goal

abbrev pub decreases-push_digits : goal.decreases-push_digits
decreases-push_digits c = c.number
