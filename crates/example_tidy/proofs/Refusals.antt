-- What is said where memory is refused.
use Rattle.std.proofs.Common.{◌≡◌, ◌≢◌, ◌∙◌, ℕ, ◌+◌, ◌<◌, ◌≤◌, ◌==◌, Bool, true, false, List, [], ◌∷◌, ◌++◌, ap, refl, sym, subst, length, take, drop, get_or, arith, append-nil, append_assoc, length-append, length-take-le, take-append-drop, ◌-◌}
use Rattle.std.proofs.lemmas.Bool.{eqb-true, eqb-false}
use Rattle.std.proofs.lemmas.List.{drop_more}
use Rattle.std.proofs.lemmas.List.Elements.{All-get_or, All-push, All-take}
use Rattle.tinyvec_io.specs.Lines.{IsLine, ended}
use Rattle.example_tidy.specs.Tidy.{Advances, AllShort, EndsBeforeLong, IsShort, Refuses, TidiedBeforeLong, TidiedUpTo, normal_line}
use Rattle.example_tidy.proofs.Feeding.{advances_piece, advances_then}
use Rattle.example_tidy.proofs.Saying.{SaysAtMost, says_few, says_next}
use Rattle.example_tidy.proofs.ShortLines.{short_fed, short_front, short_left, short_next}

-- the line feed of a line that is not short, or has no place in what is said
pub refuses_feed : (old end : List ℕ) (line_room room : ℕ) → IsLine end → (IsShort (old ++ end) → length (normal_line (old ++ end)) < room → ⊥)
    → Refuses old (end ++ 10 ∷ []) [] (old ++ end) line_room room
refuses_feed old end line_room room inner full = record {
  front = end;
  byte = 10;
  rest = [];
  whole = refl;
  advances = advances_piece old end inner;
  full = λ _ feed. let fits = feed refl in full fits.0 (omega (arith, fits.1));
}

-- a piece of a line that has no room behind the line
pub refuses_piece : (line piece : List ℕ) (c line_room room : ℕ) → IsLine piece → length line ≤ c → c < length line + length piece → line_room ≤ c
    → Refuses line piece [] (line ++ take (c - length line) piece) line_room room
refuses_piece line piece c line_room room inner held long wide =
    let i = c - length line in
    let inside : i < length piece = omega (arith, held, long) in
    record {
      front = take i piece;
      byte = get_or piece i 0;
      rest = drop (i + 1) piece;
      whole = sym (take-append-drop i piece) ∙ ap (λ back. take i piece ++ back) (drop_more piece i 0 inside);
      advances = advances_piece line (take i piece) (All-take (λ byte. byte ≢ 10) i piece inner);
      full = λ other _.
          let less = other (All-get_or (λ byte. byte ≢ 10) piece i 0 inside inner) in
          omega (arith, less, length-append line (take i piece), length-take-le i piece (omega (arith, inside)), held, wide);
    }

-- behind what was said before it
pub refuses_then : (old taken line bytes part rest said more kept : List ℕ) (line_room place room less : ℕ) → bytes ≡ taken ++ (part ++ rest)
    → Advances old taken said line → Refuses line part more kept place less → line_room ≤ place → room ≤ length said + less
    → Refuses old bytes (said ++ more) kept line_room room
refuses_then old taken line bytes part rest said more kept line_room place room less whole so_far at wide roomy = record {
  front = taken ++ at.front;
  byte = at.byte;
  rest = at.rest ++ rest;
  whole = whole ∙ ap (λ back. taken ++ (back ++ rest)) at.whole ∙ ap (λ back. taken ++ back) (append_assoc at.front (at.byte ∷ at.rest) rest) ∙ sym (append_assoc taken at.front (at.byte ∷ (at.rest ++ rest)));
  advances = advances_then old line kept taken at.front said more so_far at.advances;
  full = λ other feed. at.full
      (λ is. omega (arith, other is, wide))
      (λ is. let fits = feed is in (fits.0, omega (arith, fits.1, roomy, length-append said more)));
}

-- where the lines are short and what is said has room, nothing is refused
pub refused_never : (old bytes said line : List ℕ) (line_room room : ℕ) → IsLine old → AllShort (old ++ bytes) → 80 ≤ line_room
    → SaysAtMost old bytes room → Refuses old bytes said line line_room room → ⊥
refused_never old bytes said line line_room room whole each place most at =
    let left = short_fed old line at.front (at.byte ∷ at.rest) bytes said (sym at.whole) at.advances whole each in
    let next = short_next line at.rest at.byte left.0 left.1 in
    at.full
    (λ other. omega (arith, next.0 other, place))
    (λ feed. (next.1 feed, says_next old line bytes said at.front at.rest room (subst (λ b. bytes ≡ at.front ++ b ∷ at.rest) feed at.whole) at.advances most))

-- where all that is said has room, the line that is refused is not short
pub before_long : (old bytes said line : List ℕ) (line_room room : ℕ) → 80 ≤ line_room → length old + length bytes ≤ room
    → Refuses old bytes said line line_room room → EndsBeforeLong old bytes said
before_long old bytes said line line_room room place fits at input output so_far = by_test (at.byte == 10) refl (at.advances input output so_far)
  where
    joined : (all : List (List ℕ)) → input ++ at.front ≡ ended all ++ line → input ++ bytes ≡ ended all ++ (line ++ at.byte ∷ at.rest)
    joined all front =
        ap (λ back. input ++ back) at.whole ∙ sym (append_assoc input at.front (at.byte ∷ at.rest))
        ∙ ap (λ start. start ++ at.byte ∷ at.rest) front ∙ append_assoc (ended all) line (at.byte ∷ at.rest)

    by_test : (b : Bool) → (at.byte == 10) ≡ b → TidiedUpTo (input ++ at.front) (output ++ said) line → TidiedBeforeLong (input ++ bytes) (output ++ said)
    by_test true is now =
        let feed = eqb-true at.byte 10 is in
        let next = says_next old line bytes said at.front at.rest _ (subst (λ b. bytes ≡ at.front ++ b ∷ at.rest) feed at.whole) at.advances (says_few old bytes so_far.split.partial) in
        let long : length line ≤ 80 → ⊥ = λ short. at.full (λ other. absurd (other feed)) (λ _. (short, omega (arith, next, fits))) in
        record {
          all = now.all;
          long = line;
          rest = at.byte ∷ at.rest;
          whole = joined now.all now.split.whole;
          each = now.split.each;
          in_line = now.split.partial;
          is_long = omega (arith, long);
          says = now.says;
        }
    by_test false is now =
        let other = eqb-false at.byte 10 is in
        let full : length line < 80 → ⊥ = λ less. at.full (λ _. omega (arith, less, place)) (λ feed. absurd (other feed)) in
        record {
          all = now.all;
          long = line ++ at.byte ∷ [];
          rest = at.rest;
          whole = joined now.all now.split.whole ∙ ap (λ back. ended now.all ++ back) (sym (append_assoc line (at.byte ∷ []) at.rest));
          each = now.split.each;
          in_line = All-push (λ b. b ≢ 10) line at.byte now.split.partial other;
          is_long = omega (arith, full, length-append line (at.byte ∷ []));
          says = now.says;
        }

-- a long line has come in part, and nothing is said
pub before_old : (old bytes : List ℕ) → 80 < length old → EndsBeforeLong old bytes []
before_old old bytes long input output so_far = record {
  all = so_far.all;
  long = old;
  rest = bytes;
  whole = ap (λ start. start ++ bytes) so_far.split.whole ∙ append_assoc (ended so_far.all) old bytes;
  each = so_far.split.each;
  in_line = so_far.split.partial;
  is_long = long;
  says = append-nil output ∙ so_far.says;
}

-- the last line is long
pub before_last : (input output line : List ℕ) → TidiedUpTo input output line → (IsShort line → ⊥) → TidiedBeforeLong input output
before_last input output line so_far long = record {
  all = so_far.all;
  long = line;
  rest = [];
  whole = so_far.split.whole ∙ ap (λ back. ended so_far.all ++ back) (sym (append-nil line));
  each = so_far.split.each;
  in_line = so_far.split.partial;
  is_long = omega (arith, long);
  says = so_far.says;
}

-- no text whose lines are short has a long one
pub long_not_short : (input output : List ℕ) → TidiedBeforeLong input output → AllShort input → ⊥
long_not_short input output before each =
    let left = short_left before.all (before.long ++ before.rest) before.each (subst AllShort before.whole each) in
    omega (arith, before.is_long, short_front before.long before.rest before.in_line left)
