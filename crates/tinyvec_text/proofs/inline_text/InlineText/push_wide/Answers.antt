use Rattle.std.proofs.Common.{◌+◌, ◌/◌, ◌∷◌, [], sym, ◌∙◌, arith, rules}
use Rattle.tinyvec_text.proofs.Wide.{spelled_two, spelled_three, spelled_four}
use Rattle.tinyvec_text.proofs.inline_text.InlineText.push_wide.Goals as goal

pub push_spelled-requires : goal.push_spelled-requires
push_spelled-requires g c =
    (search rules, (c.requires, spelled_two c.args.c c.requires c.if-code-lt2048.true ∙ (λ i. (192 + c.args.c / 64) ∷ sym c.next_byte.ensures i ∷ [])))

pub push_spelled-requires-then-code-lt65536 : goal.push_spelled-requires-then-code-lt65536
push_spelled-requires-then-code-lt65536 g c = (
  search rules,
  (
    c.requires,
    spelled_three c.args.c (omega (arith, c.if-code-lt2048.false)) c.if-code-lt65536.true
        ∙ (λ i. (224 + c.args.c / 4096) ∷ sym c.next_byte-third.ensures i ∷ sym c.next_byte-fourth.ensures i ∷ []),
  ),
)

pub push_spelled-requires-2 : goal.push_spelled-requires-2
push_spelled-requires-2 g c = (
  search rules,
  (
    c.requires,
    spelled_four c.args.c (omega (arith, c.if-code-lt65536.false))
        ∙ (λ i. (240 + c.args.c / 262144) ∷ sym c.next_byte-second.ensures i ∷ sym c.next_byte-third.ensures i ∷ sym c.next_byte-fourth.ensures i ∷ []),
  ),
)
