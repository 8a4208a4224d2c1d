-- A beginning of a text whose lines are short has short lines, of which the last may have come in part.
use Rattle.std.proofs.Common.{◌≡◌, ◌∙◌, ℕ, ◌<◌, ◌==◌, Bool, true, false, List, [], ◌∷◌, ◌++◌, All, ap, refl, sym, subst, length, arith, length-append, Option, None, Some}
use Rattle.std.specs.List.{slice_split, onto_first}
use Rattle.std.specs.Io.KnownBytes.{Consumes}
use Rattle.std.proofs.lemmas.List.Elements.{All-nil, All-cons, All-head, All-tail, All-push}
use Rattle.std.proofs.lemmas.List.Splits.{slice_split-cons_yes, slice_split-cons_no, length-slice_split}
use Rattle.example_tidy.specs.Tidy.{AllShort, IsShort}

-- a beginning is cut as the whole list is, but for its last part, which is a beginning
record Starts (p : ℕ → Bool) (xs ys : List ℕ) : Type 0 where
  parts : List (List ℕ)
  last : List ℕ
  more : List ℕ
  rest : List (List ℕ)
  front : slice_split p xs ≡ parts ++ last ∷ []
  whole : slice_split p (xs ++ ys) ≡ parts ++ (last ++ more) ∷ rest

starts : (p : ℕ → Bool) (xs ys : List ℕ) → Starts p xs ys
starts p [] ys = by_parts (slice_split p ys) refl (omega (arith, length-slice_split p ys))
  where
    by_parts : (all : List (List ℕ)) → slice_split p ys ≡ all → 0 < length all → Starts p [] ys
    by_parts [] is some = absurd (omega arith)
    by_parts (part ∷ rest) is some = record { parts = []; last = []; more = part; rest = rest; front = refl; whole = is }
starts p (x ∷ xs) ys = by_test (p x) refl (starts p xs ys)
  where
    onto : (parts : List (List ℕ)) (last more : List ℕ) (rest : List (List ℕ)) → p x ≡ false → slice_split p xs ≡ parts ++ last ∷ []
        → slice_split p (xs ++ ys) ≡ parts ++ (last ++ more) ∷ rest → Starts p (x ∷ xs) ys
    onto [] last more rest is front whole = record {
      parts = [];
      last = x ∷ last;
      more = more;
      rest = rest;
      front = slice_split-cons_no p x xs is ∙ ap (onto_first x) front;
      whole = slice_split-cons_no p x (xs ++ ys) is ∙ ap (onto_first x) whole;
    }
    onto (part ∷ parts) last more rest is front whole = record {
      parts = (x ∷ part) ∷ parts;
      last = last;
      more = more;
      rest = rest;
      front = slice_split-cons_no p x xs is ∙ ap (onto_first x) front;
      whole = slice_split-cons_no p x (xs ++ ys) is ∙ ap (onto_first x) whole;
    }

    by_test : (b : Bool) → p x ≡ b → Starts p xs ys → Starts p (x ∷ xs) ys
    by_test true is s = record {
      parts = [] ∷ s.parts;
      last = s.last;
      more = s.more;
      rest = s.rest;
      front = slice_split-cons_yes p x xs is ∙ ap (λ parts. [] ∷ parts) s.front;
      whole = slice_split-cons_yes p x (xs ++ ys) is ∙ ap (λ parts. [] ∷ parts) s.whole;
    }
    by_test false is s = onto s.parts s.last s.more s.rest is s.front s.whole

all_parts : {X : Type 0} (P : X → Type 0) (xs ys : List X) → All P (xs ++ ys) → All P xs × All P ys
all_parts P [] ys all = (All-nil P, all)
all_parts P (x ∷ xs) ys all =
    let rest = all_parts P xs ys (All-tail P x (xs ++ ys) all) in
    (All-cons P x xs (All-head P x (xs ++ ys) all) rest.0, rest.1)

pub short_start : (xs ys : List ℕ) → AllShort (xs ++ ys) → AllShort xs
short_start xs ys each =
    let s = starts (λ byte. byte == 10) xs ys in
    let parts = all_parts IsShort s.parts ((s.last ++ s.more) ∷ s.rest) (subst (All IsShort) s.whole each) in
    let last = All-head IsShort (s.last ++ s.more) s.rest parts.1 in
    let short : IsShort s.last = omega (arith, last, length-append s.last s.more) in
    subst (All IsShort) (sym s.front) (All-push IsShort s.parts s.last parts.0 short)

-- what was read of a known text is a beginning of it
pub short_consumed : (old new : Option (List ℕ)) (text input : List ℕ) → old ≡ Some text → Consumes old new input → AllShort text → AllShort input
short_consumed old new text input known read each = by_left new (subst (λ all. Consumes all new input) known read)
  where
    by_left : (left : Option (List ℕ)) → Consumes (Some text) left input → AllShort input
    by_left None never = absurd never
    by_left (Some rest) whole = short_start input rest (subst AllShort whole each)
