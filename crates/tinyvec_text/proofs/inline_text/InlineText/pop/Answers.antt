use Rattle.std.proofs.Common.{◌≡◌, ◌++◌, ◌∷◌, [], IsUtf8, encode_utf8, ap, sym, subst, ◌∙◌, chars, refl, arith, rules}
use Rattle.std.specs.Char.{IsScalar}
use Rattle.std.proofs.lemmas.Str.{IsUtf8-take, IsUtf8-encode, chars-append}
use Rattle.tinyvec.specs.TinyVec.{tiny_items}
use Rattle.tinyvec_text.specs.InlineText.{text_chars}
use Rattle.tinyvec_text.proofs.Boundaries.{chars_of_one, one_ascii}
use Rattle.tinyvec_text.proofs.Lists.{text_utf8, text_stays, text_unmoved, zero_becomes}
use Rattle.tinyvec_text.proofs.Wide.{popped_ascii}
use Rattle.tinyvec_text.proofs.inline_text.InlineText.pop.Goals as goal

pub invariant_of-self : goal.invariant_of-self
invariant_of-self g c =
    let list = c.self.inside.list in
    text_stays list c.pop.new.self _ c.pop.ensures.becomes c.self.invariant
    (IsUtf8-take (tiny_items list) _ (text_utf8 list c.self.invariant) (search rules))

pub invariant_of-self-then-last-lt128 : goal.invariant_of-self-then-last-lt128
invariant_of-self-then-last-lt128 g c =
    let list = c.self.inside.list in
    let made = c.pop.ensures.becomes in
    let front = popped_ascii _ c.in-Some.last c.if-last-lt128.true (subst IsUtf8 c.in-Some.ensures.some (text_utf8 list c.self.invariant)) in
    text_stays list c.pop.new.self _ made c.self.invariant (subst IsUtf8 made.items front)

pub returns-then-last-lt128-clause-text : goal.returns-then-last-lt128-clause-text
returns-then-last-lt128-clause-text g c =
    let list = c.self.inside.list in
    let x = c.in-Some.last in
    let low = c.if-last-lt128.true in
    let left = tiny_items c.pop.new.self in
    let parts = c.in-Some.ensures.some in
    let front = popped_ascii left x low (subst IsUtf8 parts (text_utf8 list c.self.invariant)) in
    sym (ap text_chars c.self.view_is) ∙ ap chars parts ∙ chars-append left (x ∷ []) front
    ∙ ap (λ cs. chars left ++ cs) (one_ascii x low).1

pub pop_wide-requires : goal.pop_wide-requires
pop_wide-requires g c =
    (search rules, (search rules, (omega (arith, c.if-last-lt128.false), subst IsUtf8 c.in-Some.ensures.some (text_utf8 c.self.inside.list c.self.invariant))))

pub invariant_of-self-2 : goal.invariant_of-self-2
invariant_of-self-2 g c =
    (∣ c.pop_wide.ensures.front ∣₁, c.pop_wide.ensures.spare (zero_becomes c.self.inside.list c.pop.new.self _ c.pop.ensures.becomes c.self.invariant.1))

pub returns-clause-text : goal.returns-clause-text
returns-clause-text g c =
    let bs = tiny_items c.self.inside.list in
    let x = c.pop_wide.result in
    let left = tiny_items c.pop_wide.new.list in
    let parts : bs ≡ left ++ encode_utf8 x = c.in-Some.ensures.some ∙ c.pop_wide.ensures.parts in
    let scalar : IsScalar x = search rules in
    let one = chars_of_one (encode_utf8 x) x (IsUtf8-encode x scalar) refl in
    sym (ap text_chars c.self.view_is) ∙ ap chars parts ∙ chars-append left (encode_utf8 x) c.pop_wide.ensures.front ∙ ap (λ cs. chars left ++ cs) one

pub returns-then-last-lt128-clause-frame : goal.returns-then-last-lt128-clause-frame
returns-then-last-lt128-clause-frame g c = text_unmoved c.self.inside.list c.pop.new.self c.args.self.now _ c.self.view_is c.pop.ensures.becomes
