use Rattle.std.proofs.Common.{rules, nat_lt}
use Rattle.std.proofs.lemmas.Fn.{filter_same}
use Rattle.tinyvec_examples.proofs.readme.filters.keep_below.Goals as goal

pub returns : goal.returns
returns c = filter_same _ (λ x. nat_lt x c.args.limit) _ (λ x b f k. search rules) _ _ c.retain.ensures.filtered
