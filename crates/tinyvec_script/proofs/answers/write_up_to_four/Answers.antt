use Rattle.std.proofs.Common.{◌/◌, ◌%◌, ◌++◌, ◌∙◌, ap, sym, subst, arith}
use Rattle.std.proofs.lemmas.Fmt.{decimal_digit}
use Rattle.tinyvec_script.specs.Writes.{Gathers}
use Rattle.tinyvec_script.specs.Text.{digit_pair}
use Rattle.tinyvec_script.proofs.Numbers.{decimal_two, decimal_pair}
use Rattle.tinyvec_script.proofs.answers.write_up_to_four.Goals as goal

pub returns-then-number-lt10 : goal.returns-then-number-lt10
returns-then-number-lt10 g c = subst (Gathers _ _ c.args.gathered.now _ _) (sym (decimal_digit c.args.number c.if-number-lt10.true)) c.put_few.ensures

pub returns-then-number-lt100 : goal.returns-then-number-lt100
returns-then-number-lt100 g c =
    subst (Gathers _ _ c.args.gathered.now _ _) (sym (decimal_two c.args.number c.if-number-lt10.false c.if-number-lt100.true))
    (rw c.pair.ensures at c.put_few-then-number-lt100.ensures)

pub returns-then-number-lt1000 : goal.returns-then-number-lt1000
returns-then-number-lt1000 g c =
    let n = c.args.number in
    subst (Gathers _ _ c.args.gathered.now _ _)
    (sym (decimal_pair n c.if-number-lt100.false (omega arith) ∙ ap (λ l. l ++ digit_pair (n % 100)) (decimal_digit (n / 100) (omega arith))))
    (rw c.pair-then-number-lt1000.ensures at c.put_few-then-number-lt1000.ensures)

pub returns : goal.returns
returns g c =
    let n = c.args.number in
    subst (Gathers _ _ c.args.gathered.now _ _)
    (sym (decimal_pair n c.if-number-lt100.false (omega arith) ∙ ap (λ l. l ++ digit_pair (n % 100)) (decimal_two (n / 100) (omega arith) (omega arith))))
    (rw c.four.ensures at c.put_few-2.ensures)
