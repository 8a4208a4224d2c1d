use Rattle.std.specs.Fmt.{decimal}
use Rattle.tinyvec_script.proofs.Words.{has_blank, one_cut}
use Rattle.tinyvec_script.proofs.Indices.{decimal_is_word}
use Rattle.tinyvec_script.proofs.command.parse_first_index.Goals as goal

pub returns-in_err-index : goal.returns-in_err-index
returns-in_err-index c = rw c.from_residual.ensures (λ i rest h e. has_blank c.args.text.now (decimal i) rest c.in_err-index.ensures.none e)

pub returns-in_err-parse_index : goal.returns-in_err-parse_index
returns-in_err-parse_index c = rw c.from_residual-in_err-parse_index.ensures (λ i rest h e.
    c.in_err-parse_index.ensures i h (one_cut c.args.text.now _ _ (decimal i) rest c.in_ok-index.ensures.some c.in_ok-index.ensures.front e (decimal_is_word i h)).0)
