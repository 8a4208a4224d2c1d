-- A run goes on: by a byte, by the end of a line, by the end of the input.
use Rattle.std.proofs.Common.{◌≡◌, ◌≢◌, ℕ, ◌+◌, ◌<◌, ◌≤◌, List, [], ◌∷◌, ◌++◌, length, take, Option, None, Some, refl, sym, ap, subst, ◌∙◌, append_assoc, append-nil, length-append, arith}
use Rattle.std.proofs.lemmas.Bool.Decides.{nat_tests}
use Rattle.std.proofs.lemmas.List.Elements.{All-nil}
use Rattle.tinyvec_io.specs.Lines.{IsLine, last_line}
use Rattle.tinyvec_io.proofs.LineLemmas.{Splits-line, Splits-piece, Splits-ended}
use Rattle.tinyvec_script.specs.Script.{State, start, Answered, Answers, Script, CompleteLines}
use Rattle.tinyvec_script.specs.History.{kept, extend_kept, Progress, Feeds, Ends}

pub kept_more : (rest piece : List ℕ) → extend_kept (kept rest) piece ≡ kept (rest ++ piece)
kept_more rest piece = grind (arith, nat_tests, length-append {A = ℕ})

-- what is kept of a line is the line, or nothing of one that is too long
pub kept_is : (rest bytes : List ℕ) → Some bytes ≡ kept rest → (bytes ≡ rest) × (length rest ≤ 128)
kept_is rest bytes h = grind (arith, nat_tests)

pub too_long_kept : (rest : List ℕ) → None ≡ kept rest → 128 < length rest
too_long_kept rest h = grind (arith, nat_tests)

-- one line more is answered
answers_more : (old mid new : State) (lines : List (List ℕ)) (output line text : List ℕ) → Answers old lines output mid → Answered mid line text new → Answers old (lines ++ line ∷ []) (output ++ (text ++ 10 ∷ [])) new
answers_more old mid new [] output line text h a =
    (text, new, [], subst (λ m. Answered m line text new) h.1 a, ap (λ l. l ++ (text ++ 10 ∷ [])) h.0, (refl, refl))
answers_more old mid new (first ∷ lines) output line text h a =
    (h.0, h.1, h.2 ++ (text ++ 10 ∷ []), h.3, ap (λ l. l ++ (text ++ 10 ∷ [])) h.4 ∙ append_assoc h.0 (10 ∷ h.2) (text ++ 10 ∷ []), answers_more h.1 mid new lines h.2 line text h.5 a)

pub Progress-start : Progress [] [] start []
Progress-start = record { lines = []; split = Splits-line [] (All-nil (λ byte. byte ≢ 10)); answers = (refl, refl) }

-- a line goes on, or is ended and answered
pub feeds_piece : {state : State} {line line' : Option (List ℕ)} {piece : List ℕ} → IsLine piece → line' ≡ extend_kept line piece → Feeds state line piece [] state line'
feeds_piece {state} {piece = piece} inner e = record {
  from = λ text output rest p k. (
    rest ++ piece,
    record { lines = p.lines; split = Splits-piece text p.lines rest piece inner p.split; answers = rw append-nil p.answers },
    e ∙ ap (λ l. extend_kept l piece) k ∙ kept_more rest piece,
  );
}

pub feeds_line : {state new : State} {line line' : Option (List ℕ)} {answer : List ℕ} → ((rest : List ℕ) → line ≡ kept rest → Answered state rest answer new) → line' ≡ Some []
    → Feeds state line (10 ∷ []) (answer ++ 10 ∷ []) new line'
feeds_line {state} {new} {answer = answer} a e = record {
  from = λ text output rest p k. (
    [],
    record {
      lines = p.lines ++ rest ∷ [];
      split = Splits-ended text p.lines rest p.split;
      answers = answers_more start state new p.lines output rest answer p.answers (a rest k);
    },
    e,
  );
}

pub feeds_nothing : {state : State} {line : Option (List ℕ)} → Feeds state line [] [] state line
feeds_nothing = record { from = λ text output rest p k. (rest, record { lines = p.lines; split = rw append-nil p.split; answers = rw append-nil p.answers }, k) }

pub feeds_then : {state mid new : State} {line line' line'' : Option (List ℕ)} {bytes more written next : List ℕ} → Feeds state line bytes written mid line'
    → Feeds mid line' more next new line'' → Feeds state line (bytes ++ more) (written ++ next) new line''
feeds_then {bytes = bytes} {more} {written} {next} f g = record {
  from = λ text output rest p k.
      let first = f.from text output rest p k in
      let second = g.from (text ++ bytes) (output ++ written) first.0 first.1 first.2 in
      (second.0, record { lines = second.1.lines; split = rw (← append_assoc text bytes more) second.1.split; answers = rw (← append_assoc output written next) second.1.answers }, second.2);
}

-- the end of the input, with and without a line
pub ends_empty : {state : State} {line : Option (List ℕ)} → line ≡ Some [] → Ends state line []
ends_empty {state} e = record {
  from = λ text output rest p k.
      let none : [] ≡ rest = (kept_is rest [] (sym e ∙ k)).0 in
      record {
        lines = p.lines;
        rest = rest;
        state = state;
        split = p.split;
        answers = subst (λ r. Answers start (p.lines ++ last_line r) (output ++ []) state) none (rw (append-nil p.lines, append-nil output) p.answers);
      };
}

last_line_is : (rest : List ℕ) → rest ≢ [] → last_line rest ≡ rest ∷ []
last_line_is [] h = absurd (h refl)
last_line_is (byte ∷ bytes) h = refl

pub ends_line : {state new : State} {line : Option (List ℕ)} {answer : List ℕ} → line ≢ Some [] → ((rest : List ℕ) → line ≡ kept rest → Answered state rest answer new)
    → Ends state line (answer ++ 10 ∷ [])
ends_line {state} {new} {answer = answer} some a = record {
  from = λ text output rest p k. record {
    lines = p.lines;
    rest = rest;
    state = new;
    split = p.split;
    answers = rw (last_line_is rest (λ e. some (k ∙ ap kept e))) (answers_more start state new p.lines output rest answer p.answers (a rest k));
  };
}

-- a run from its start
pub complete_lines : {input output : List ℕ} {state : State} {line : Option (List ℕ)} → Feeds start (Some []) input output state line → CompleteLines input output
complete_lines {state = state} f =
    let now = f.from [] [] [] Progress-start refl in
    record { lines = now.1.lines; rest = now.0; state = state; split = now.1.split; answers = now.1.answers }

pub whole_script : {input output written : List ℕ} {state : State} {line : Option (List ℕ)} → Feeds start (Some []) input output state line → Ends state line written
    → Script input (output ++ written)
whole_script f ends = let now = f.from [] [] [] Progress-start refl in ends.from _ _ now.0 now.1 now.2

-- a chunk that is not empty makes the input longer
pub chunk_longer : (input buf : List ℕ) (pieces count : ℕ) → pieces ≤ length input → count ≡ length (take count buf) → count ≢ 0
    → pieces + 1 ≤ length (input ++ take count buf)
chunk_longer input buf pieces count long whole some = omega (arith, length-append input (take count buf), long, whole, some)
