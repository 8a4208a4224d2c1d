use Rattle.std.proofs.Common.{subst, sym, arith}
use Rattle.tinyvec_text.specs.InlineText.{IsFirstChar}
use Rattle.tinyvec_text.proofs.Wide.{first_of}
use Rattle.tinyvec_text.proofs.inline_text.edits.first_wide.Goals as goal

pub bounds-bytes-1 : goal.bounds-bytes-1
bounds-bytes-1 c = (first_of c.args.bytes.now c.requires.utf8 c.requires.some c.requires.wide).second

pub returns-then-lead-lt224 : goal.returns-then-lead-lt224
returns-then-lead-lt224 c = subst (λ code. IsFirstChar c.args.bytes.now code 2) (sym c.char_of.ensures) ((first_of c.args.bytes.now c.requires.utf8 c.requires.some c.requires.wide).two c.if-lead-lt224.true)

pub bounds-bytes-2 : goal.bounds-bytes-2
bounds-bytes-2 c = (first_of c.args.bytes.now c.requires.utf8 c.requires.some c.requires.wide).third (omega (arith, c.if-lead-lt224.false))

pub char_of-requires-then-lead-lt240 : goal.char_of-requires-then-lead-lt240
char_of-requires-then-lead-lt240 c = ((first_of c.args.bytes.now c.requires.utf8 c.requires.some c.requires.wide).three (omega (arith, c.if-lead-lt224.false)) c.if-lead-lt240.true).scalar

pub returns-then-lead-lt240 : goal.returns-then-lead-lt240
returns-then-lead-lt240 c =
    subst (λ code. IsFirstChar c.args.bytes.now code 3) (sym c.char_of-then-lead-lt240.ensures)
    ((first_of c.args.bytes.now c.requires.utf8 c.requires.some c.requires.wide).three (omega (arith, c.if-lead-lt224.false)) c.if-lead-lt240.true)

pub bounds-bytes-3 : goal.bounds-bytes-3
bounds-bytes-3 c = (first_of c.args.bytes.now c.requires.utf8 c.requires.some c.requires.wide).fourth (omega (arith, c.if-lead-lt240.false))

pub char_of-requires-2 : goal.char_of-requires-2
char_of-requires-2 c = ((first_of c.args.bytes.now c.requires.utf8 c.requires.some c.requires.wide).four (omega (arith, c.if-lead-lt240.false))).scalar

pub returns : goal.returns
returns c = subst (λ code. IsFirstChar c.args.bytes.now code 4) (sym c.char_of-2.ensures) ((first_of c.args.bytes.now c.requires.utf8 c.requires.some c.requires.wide).four (omega (arith, c.if-lead-lt240.false)))
