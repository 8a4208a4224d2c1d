use Rattle.std.proofs.Common.{◌/◌, ◌%◌, ◌++◌, ◌∙◌, ap, sym, subst, arith}
use Rattle.std.proofs.lemmas.Fmt.{decimal_digit}
use Rattle.tinyvec_script.specs.Writes.{Gathers}
use Rattle.tinyvec_script.specs.Text.{digit_pair}
use Rattle.tinyvec_script.proofs.Numbers.{decimal_two, decimal_pair}
use Rattle.tinyvec_script.proofs.answers.write_up_to_eight.Goals as goal

pub returns-then-front-lt10 : goal.returns-then-front-lt10
returns-then-front-lt10 g c =
    let last = digit_pair (c.args.back / 100) ++ digit_pair (c.args.back % 100) in
    subst (Gathers _ _ c.args.gathered.now _ _) (ap (λ l. l ++ last) (sym (decimal_digit c.args.front c.if-front-lt10.true)))
    (rw c.four.ensures at c.put_few.ensures)

pub returns-then-front-lt100 : goal.returns-then-front-lt100
returns-then-front-lt100 g c =
    let last = digit_pair (c.args.back / 100) ++ digit_pair (c.args.back % 100) in
    subst (Gathers _ _ c.args.gathered.now _ _)
    (ap (λ l. l ++ last) (sym (decimal_two c.args.front c.if-front-lt10.false c.if-front-lt100.true)))
    (rw (c.pair.ensures, c.four.ensures) at c.put_few-then-front-lt100.ensures)

pub returns-then-front-lt1000 : goal.returns-then-front-lt1000
returns-then-front-lt1000 g c =
    let n = c.args.front in
    let last = digit_pair (c.args.back / 100) ++ digit_pair (c.args.back % 100) in
    subst (Gathers _ _ c.args.gathered.now _ _)
    (ap (λ l. l ++ last)
    (sym (decimal_pair n c.if-front-lt100.false (omega arith) ∙ ap (λ l. l ++ digit_pair (n % 100)) (decimal_digit (n / 100) (omega arith)))))
    (rw (c.pair-then-front-lt1000.ensures, c.four.ensures) at c.put_few-then-front-lt1000.ensures)

pub returns : goal.returns
returns g c =
    let n = c.args.front in
    let last = digit_pair (c.args.back / 100) ++ digit_pair (c.args.back % 100) in
    subst (Gathers _ _ c.args.gathered.now _ _)
    (ap (λ l. l ++ last) (sym (decimal_pair n c.if-front-lt100.false (omega (arith, c.requires.front_fits))
    ∙ ap (λ l. l ++ digit_pair (n % 100)) (decimal_two (n / 100) (omega arith) (omega (arith, c.requires.front_fits))))))
    (rw (c.four-2.ensures, c.four.ensures) at c.put_few-2.ensures)
