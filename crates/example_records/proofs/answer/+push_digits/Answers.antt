use Rattle.std.proofs.Common.{◌∙◌, ◌++◌, ◌∷◌, [], ◌/◌, ◌%◌, ◌+◌, length, length-append, append_assoc, ap, sym, arith, rules}
use Rattle.std.specs.Fmt.{decimal}
use Rattle.std.proofs.lemmas.Fmt.{decimal_digit, decimal_step}
use Rattle.example_records.proofs.answer.+push_digits.Goals as goal

pub push_reserved-requires : goal.push_reserved-requires
push_reserved-requires t c = let one = ap length (decimal_digit c.args.number (omega arith)) in omega (arith, one, c.requires)

pub returns-then-number-lt10-clause-items : goal.returns-then-number-lt10-clause-items
returns-then-number-lt10-clause-items t c = rw (decimal_digit c.args.number (omega arith)) (search rules)

pub push_digits-requires : goal.push_digits-requires
push_digits-requires t c =
    let more = ap length (decimal_step c.args.number (omega arith) (search rules)) ∙ length-append (decimal (c.args.number / 10)) _ in
    (search rules, omega (arith, more, c.requires))

pub push_reserved-requires-2 : goal.push_reserved-requires-2
push_reserved-requires-2 t c =
    let more = ap length (decimal_step c.args.number (omega arith) (search rules)) ∙ length-append (decimal (c.args.number / 10)) _ in
    let long = ap length c.push_digits.ensures.items ∙ length-append c.args.text.now.items (decimal (c.args.number / 10)) in
    omega (arith, more, long, c.push_digits.ensures.capacity, c.requires, c.args.text.now.ok.0, c.push_digits.new.text.ok.0)

pub returns-clause-items : goal.returns-clause-items
returns-clause-items t c =
    c.push_reserved-2.ensures.items ∙ ap (λ xs. xs ++ (48 + c.args.number % 10) ∷ []) c.push_digits.ensures.items
    ∙ append_assoc c.args.text.now.items (decimal (c.args.number / 10)) _
    ∙ ap (λ ds. c.args.text.now.items ++ ds) (sym (decimal_step c.args.number (omega arith) (search rules)))
