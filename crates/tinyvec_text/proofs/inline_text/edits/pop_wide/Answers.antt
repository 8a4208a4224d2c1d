use Rattle.std.proofs.Common.{◌<◌, ◌++◌, ◌∷◌, [], encode_utf8, ap, sym, ◌∙◌, append_assoc, append-nil, arith, rules}
use Rattle.tinyvec.specs.TinyVec.{tiny_items}
use Rattle.tinyvec_text.proofs.Lists.{zero_becomes}
use Rattle.tinyvec_text.proofs.Wide.{Popped, code_of, byte_ahead, fourth_leads, popped}
use Rattle.tinyvec_text.proofs.inline_text.edits.pop_wide.Goals.{In-Some-pop-2}
use Rattle.tinyvec_text.proofs.inline_text.edits.pop_wide.Goals as goal

pub unreachable-requires : goal.unreachable-requires
unreachable-requires g c =
    let some = byte_ahead c.args.last c.requires.wide _ c.requires.utf8 (tiny_items c.args.list.now) [] tt (sym (append-nil _)) in search rules

pub returns-then-third-ge192 : goal.returns-then-third-ge192
returns-then-third-ge192 g c =
    let put = popped c.args.last c.requires.wide _ c.requires.utf8 (tiny_items c.pop.new.self) c.in-Some.third [] c.if-third-ge192.true tt c.in-Some.ensures.some in
    record {
      parts = put.parts ∙ ap (λ k. tiny_items c.pop.new.self ++ encode_utf8 k) (sym c.char_of.ensures);
      front = put.front;
      place = c.pop.ensures.becomes.place;
      spare = zero_becomes c.args.list.now c.pop.new.self _ c.pop.ensures.becomes;
    }

pub unreachable-requires-in_default-pop : goal.unreachable-requires-in_default-pop
unreachable-requires-in_default-pop g c =
    let low : c.in-Some.third < 192 = omega (arith, c.if-third-ge192.false) in
    let some = byte_ahead c.args.last c.requires.wide _ c.requires.utf8 (tiny_items c.pop.new.self) (c.in-Some.third ∷ []) (low, tt) c.in-Some.ensures.some in
    search rules

pub char_of-requires-then-second-ge192 : goal.char_of-requires-then-second-ge192
char_of-requires-then-second-ge192 g c =
    let d = c.in-Some.third in
    let a = c.in-Some-pop.second in
    let xs = tiny_items c.pop-2.new.self in
    let low : d < 192 = omega (arith, c.if-third-ge192.false) in
    let is = c.in-Some.ensures.some ∙ ap (λ l. l ++ d ∷ []) c.in-Some-pop.ensures.some ∙ append_assoc xs (a ∷ []) (d ∷ []) in
    (popped c.args.last c.requires.wide _ c.requires.utf8 xs a (d ∷ []) c.if-second-ge192.true (low, tt) is).scalar

pub returns-then-second-ge192 : goal.returns-then-second-ge192
returns-then-second-ge192 g c =
    let d = c.in-Some.third in
    let a = c.in-Some-pop.second in
    let xs = tiny_items c.pop-2.new.self in
    let low : d < 192 = omega (arith, c.if-third-ge192.false) in
    let is = c.in-Some.ensures.some ∙ ap (λ l. l ++ d ∷ []) c.in-Some-pop.ensures.some ∙ append_assoc xs (a ∷ []) (d ∷ []) in
    let put = popped c.args.last c.requires.wide _ c.requires.utf8 xs a (d ∷ []) c.if-second-ge192.true (low, tt) is in
    record {
      parts = put.parts ∙ ap (λ k. xs ++ encode_utf8 k) (sym c.char_of-then-second-ge192.ensures);
      front = put.front;
      place = c.pop-2.ensures.becomes.place ∙ c.pop.ensures.becomes.place;
      spare = λ zero.
          zero_becomes c.pop.new.self c.pop-2.new.self _ c.pop-2.ensures.becomes
          (zero_becomes c.args.list.now c.pop.new.self _ c.pop.ensures.becomes zero);
    }

pub unreachable-requires-in_default-pop-2 : goal.unreachable-requires-in_default-pop-2
unreachable-requires-in_default-pop-2 g c =
    let d = c.in-Some.third in
    let f = c.in-Some-pop.second in
    let low : d < 192 = omega (arith, c.if-third-ge192.false) in
    let mid : f < 192 = omega (arith, c.if-second-ge192.false) in
    let xs = tiny_items c.pop-2.new.self in
    let is = c.in-Some.ensures.some ∙ ap (λ l. l ++ d ∷ []) c.in-Some-pop.ensures.some ∙ append_assoc xs (f ∷ []) (d ∷ []) in
    let some = byte_ahead c.args.last c.requires.wide _ c.requires.utf8 xs (f ∷ d ∷ []) (mid, (low, tt)) is in
    search rules

-- the four bytes
four : (g : _) (c : In-Some-pop-2 g) → Popped (tiny_items c.args.list.now) c.args.last (tiny_items c.pop-3.new.self)
    (code_of (c.in-Some-pop-2.first ∷ c.in-Some-pop.second ∷ c.in-Some.third ∷ []) c.args.last)
four g c =
    let d = c.in-Some.third in
    let f = c.in-Some-pop.second in
    let a = c.in-Some-pop-2.first in
    let xs = tiny_items c.pop-3.new.self in
    let low : d < 192 = omega (arith, c.if-third-ge192.false) in
    let mid : f < 192 = omega (arith, c.if-second-ge192.false) in
    let is = c.in-Some.ensures.some ∙ ap (λ l. l ++ d ∷ []) (c.in-Some-pop.ensures.some ∙ ap (λ l. l ++ f ∷ []) c.in-Some-pop-2.ensures.some)
    ∙ append_assoc (xs ++ a ∷ []) (f ∷ []) (d ∷ []) ∙ append_assoc xs (a ∷ []) (f ∷ d ∷ []) in
    let leads = fourth_leads c.args.last c.requires.wide _ c.requires.utf8 xs a f d mid low is in
    popped c.args.last c.requires.wide _ c.requires.utf8 xs a (f ∷ d ∷ []) leads (mid, (low, tt)) is

pub char_of-requires-2 : goal.char_of-requires-2
char_of-requires-2 g c = (four g (goal.at.char_of-requires-2 g c).In-Some-pop-2).scalar

pub returns : goal.returns
returns g c =
    let put = four g (goal.at.returns g c).In-Some-pop-2 in
    record {
      parts = put.parts ∙ ap (λ k. tiny_items c.pop-3.new.self ++ encode_utf8 k) (sym c.char_of-2.ensures);
      front = put.front;
      place = c.pop-3.ensures.becomes.place ∙ c.pop-2.ensures.becomes.place ∙ c.pop.ensures.becomes.place;
      spare = λ zero.
          zero_becomes c.pop-2.new.self c.pop-3.new.self _ c.pop-3.ensures.becomes
          (zero_becomes c.pop.new.self c.pop-2.new.self _ c.pop-2.ensures.becomes
          (zero_becomes c.args.list.now c.pop.new.self _ c.pop.ensures.becomes zero));
    }
