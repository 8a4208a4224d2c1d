use Rattle.std.proofs.Common.{◌≢◌, ℕ, ℤ, ◌<◌, ◌^◌, rules, ◌∙◌, ap, ◌++◌, ◌∷◌, codes, Some, FitsSigned}
use Rattle.std.specs.Int.{w32}
use Rattle.std.specs.Fmt.{decimal, signed_decimal}
use Rattle.tinyvec_script.proofs.Indices.{one_index}
use Rattle.std.proofs.lemmas.Int.{to_z-of_z}
use Rattle.std.proofs.lemmas.Slice.Eq.{strip_prefix_is}
use Rattle.std.proofs.lemmas.Bool.Decides.{Decides-eqb}
use Rattle.tinyvec_script.proofs.command.parse_call.Goals as goal

pub returns-in-Some-strip_prefix : goal.returns-in-Some-strip_prefix
returns-in-Some-strip_prefix c =
    let fits : FitsSigned w32 c.in_ok-parse_number-2.field-0 = search rules in
    let rest = strip_prefix_is Decides-eqb c.args.text.now (codes "insert ") (Some c.in-Some-strip_prefix.rest) c.in-Some-strip_prefix.ensures.cases in (
      rw to_z-of_z (record {
        spelled = rest ∙ ap (λ l. codes "insert " ++ l) (c.in_ok-index.ensures ∙ ap (λ l. decimal c.in_ok-index.index ++ 32 ∷ l) c.in_ok-parse_number-2.ensures);
        valid = (search rules, fits);
      }),
      tt,
      tt,
    )

pub returns-in_err-parse_number-2 : goal.returns-in_err-parse_number-2
returns-in_err-parse_number-2 c =
    let none : (i : ℕ) (z : ℤ) → i < 2 ^ 64 → FitsSigned w32 z → c.in-Some-strip_prefix.rest.now ≢ decimal i ++ 32 ∷ signed_decimal z =
    λ i z hi hz e. c.in_err-parse_number-2.ensures z hz (one_index c.in-Some-strip_prefix.rest.now c.in_ok-index.index i _ (signed_decimal z) (search rules) hi c.in_ok-index.ensures e) in
    rw c.from_residual-in_err-parse_number-2.ensures (search rules)

pub returns-in_err-parse_index-4 : goal.returns-in_err-parse_index-4
returns-in_err-parse_index-4 c =
    let none : (i j : ℕ) → i < 2 ^ 64 → j < 2 ^ 64 → c.in_ok-strip_prefix.field-0.now ≢ decimal i ++ 32 ∷ decimal j =
    λ i j hi hj e. c.in_err-parse_index-4.ensures j hj (one_index c.in_ok-strip_prefix.field-0.now c.in_ok-start.start i _ (decimal j) (search rules) hi c.in_ok-start.ensures e) in
    rw c.from_residual-in_err-parse_index-4.ensures (search rules)

pub returns-in_err-parse_number : goal.returns-in_err-parse_number
returns-in_err-parse_number c = rw c.from_residual.ensures (search rules)

pub returns-in_err-index : goal.returns-in_err-index
returns-in_err-index c = rw c.from_residual-in_err-index.ensures (search rules)

pub returns-in_err-parse_index : goal.returns-in_err-parse_index
returns-in_err-parse_index c = rw c.from_residual-in_err-parse_index.ensures (search rules)

pub returns-in_err-parse_index-2 : goal.returns-in_err-parse_index-2
returns-in_err-parse_index-2 c = rw c.from_residual-in_err-parse_index-2.ensures (search rules)

pub returns-in_err-parse_index-3 : goal.returns-in_err-parse_index-3
returns-in_err-parse_index-3 c = rw c.from_residual-in_err-parse_index-3.ensures (search rules)

pub returns-in_err-strip_prefix : goal.returns-in_err-strip_prefix
returns-in_err-strip_prefix c = rw c.from_residual-in_err-strip_prefix.ensures (search rules)

pub returns-in_err-start : goal.returns-in_err-start
returns-in_err-start c = rw c.from_residual-in_err-start.ensures (search rules)
