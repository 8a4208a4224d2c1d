use Rattle.std.proofs.Common.{◌≡◌, ◌<◌, ◌++◌, IsUtf8, encode_utf8, ap, sym, subst, ◌∙◌, length, drop, length-append, length-drop, arith}
use Rattle.std.proofs.lemmas.Str.{length-encode, len_utf8_bounds}
use Rattle.std.specs.String.Boundary.{IsSplitPoint}
use Rattle.tinyvec_text.proofs.Boundaries.{split_ahead}
use Rattle.tinyvec_text.proofs.inline_text.drain.InlineTextDrainDoubleEndedIterator.next_back.Goals.{In-Some}
use Rattle.tinyvec_text.proofs.inline_text.drain.InlineTextDrainDoubleEndedIterator.next_back.Goals as goal

module _ (g : _) (c : In-Some g) where
  more : c.self.inside.at < length c.self.inside.text.bytes
  more = omega (arith, c.if-as_bytes-self.false, ap length c.as_bytes.ensures.value)

  ahead : IsSplitPoint c.pop.new.self.bytes c.self.inside.at
      × (drop c.self.inside.at c.self.inside.text.bytes ≡ drop c.self.inside.at c.pop.new.self.bytes ++ encode_utf8 c.in-Some.c)
  ahead = split_ahead c.self.inside.text.bytes c.pop.new.self.bytes c.in-Some.c (subst IsUtf8 c.as_bytes.ensures.value c.as_bytes.ensures.utf8)
      c.in-Some.ensures.bytes c.in-Some.ensures.text c.self.inside.at c.self.invariant more

pub invariant_of-self : goal.invariant_of-self
invariant_of-self g c = (ahead g (goal.at.invariant_of-self g c).In-Some).0

pub returns-clause-steps : goal.returns-clause-steps
returns-clause-steps g c = sym c.self.view_is ∙ (ahead g (goal.at.returns-clause-steps g c).In-Some).1

pub returns-clause-goes : goal.returns-clause-goes
returns-clause-goes g c =
    let bs = c.self.inside.text.bytes in
    let xs = c.pop.new.self.bytes in
    let at = c.self.inside.at in
    let some = more g (goal.at.returns-clause-goes g c).In-Some in
    let shorter : length xs < length bs = omega (arith, ap length c.in-Some.ensures.bytes, length-append xs (encode_utf8 c.in-Some.c), length-encode c.in-Some.c, (len_utf8_bounds c.in-Some.c).0) in
    let less : length (drop at xs) < length c.args.self.now = omega (arith, shorter, some, ap length c.self.view_is, length-drop at xs, length-drop at bs) in
    record { on = λ _. (tt, tt, less); keeps = tt; rests = λ _. tt }
