-- A text that is read and answered line by line.
use Rattle.std.proofs.Common.{◌≡◌, ◌≢◌, ◌∙◌, ℕ, ◌<◌, List, [], ◌∷◌, ◌++◌, map, length, ap, refl, sym, subst, arith, append_assoc, append-nil}
use Rattle.std.specs.Str.Lines.{strip_carriage_return}
use Rattle.std.proofs.lemmas.List.{map-append}
use Rattle.std.proofs.lemmas.List.Elements.{All-nil}
use Rattle.tinyvec_io.specs.Lines.{IsLine, last_line, Splits}
use Rattle.tinyvec_io.proofs.LineLemmas.{Splits-line, Splits-piece, Splits-ended}
use Rattle.example_lines.specs.Answers.{Advances, AnswersEach, AnswersUpTo, IsAnswered}

module _ {S : Type 0} (IsAnswer : S → List ℕ → List ℕ → S → Type 0) where
  answers_then : (a b c : S) (lines more : List (List ℕ)) (x y : List ℕ) → AnswersEach IsAnswer a lines x b → AnswersEach IsAnswer b more y c → AnswersEach IsAnswer a (lines ++ more) (x ++ y) c
  answers_then a b c [] more x y first second =
      subst (λ s. AnswersEach IsAnswer s more (x ++ y) c) first.1 (subst (λ text. AnswersEach IsAnswer b more text c) (sym (ap (λ front. front ++ y) first.0)) second)
  answers_then a b c (line ∷ lines) more x y first second = (
    first.0,
    first.1,
    first.2 ++ y,
    first.3,
    answers_then first.0 b c lines more first.2 y first.4 second,
    ap (λ front. front ++ y) first.5 ∙ append_assoc first.1 first.2 y,
  )

  -- the answer to one line
  answers_one : (a b : S) (line text : List ℕ) → IsAnswer a line text b → AnswersEach IsAnswer a (line ∷ []) text b
  answers_one a b line text is = (b, text, [], is, (refl, refl), sym (append-nil text))

  -- the answer to a last line that has bytes
  pub answers_last : (a b : S) (line text : List ℕ) → 0 < length line → IsAnswer a (strip_carriage_return line) text b → AnswersEach IsAnswer a (map strip_carriage_return (last_line line)) text b
  answers_last a b [] text some is = absurd (omega arith)
  answers_last a b (byte ∷ bytes) text some is = answers_one a b (strip_carriage_return (byte ∷ bytes)) text is

  -- at the beginning nothing has come
  pub nothing_yet : (a : S) → AnswersUpTo IsAnswer a [] [] [] a
  nothing_yet a = record { all = []; split = Splits-line [] (All-nil (λ byte. byte ≢ 10)); answers = (refl, refl) }

  pub advances_none : (a : S) (line : List ℕ) → Advances IsAnswer a line [] [] line a
  advances_none a line start input output so_far =
      subst (λ read. AnswersUpTo IsAnswer start read (output ++ []) line a) (sym (append-nil input)) (subst (λ said. AnswersUpTo IsAnswer start input said line a) (sym (append-nil output)) so_far)

  pub advances_then : (a b c : S) (x y z bytes more said next : List ℕ) → Advances IsAnswer a x bytes said y b → Advances IsAnswer b y more next z c → Advances IsAnswer a x (bytes ++ more) (said ++ next) z c
  advances_then a b c x y z bytes more said next first second start input output so_far =
      subst (λ read. AnswersUpTo IsAnswer start read (output ++ (said ++ next)) z c) (append_assoc input bytes more)
      (subst (λ text. AnswersUpTo IsAnswer start ((input ++ bytes) ++ more) text z c) (append_assoc output said next)
      (second start (input ++ bytes) (output ++ said) (first start input output so_far)))

  -- bytes that end no line
  advances_piece : (a : S) (line piece grown : List ℕ) → IsLine piece → grown ≡ line ++ piece → Advances IsAnswer a line piece [] grown a
  advances_piece a line piece grown inner is start input output so_far = record {
    all = so_far.all;
    split = subst (Splits (input ++ piece) so_far.all) (sym is) (Splits-piece input so_far.all line piece inner so_far.split);
    answers = subst (λ text. AnswersEach IsAnswer start (map strip_carriage_return so_far.all) text a) (sym (append-nil output)) so_far.answers;
  }

  -- a line feed
  advances_feed : (a b : S) (line said next : List ℕ) → IsAnswer a (strip_carriage_return line) said b → next ≡ [] → Advances IsAnswer a line (10 ∷ []) said next b
  advances_feed a b line said next is none start input output so_far = record {
    all = so_far.all ++ line ∷ [];
    split = subst (Splits (input ++ 10 ∷ []) (so_far.all ++ line ∷ [])) (sym none) (Splits-ended input so_far.all line so_far.split);
    answers = subst (λ lines. AnswersEach IsAnswer start lines (output ++ said) b) (sym (map-append strip_carriage_return so_far.all (line ∷ [])))
        (answers_then start a b (map strip_carriage_return so_far.all) (strip_carriage_return line ∷ []) output said so_far.answers (answers_one a b (strip_carriage_return line) said is));
  }

  -- the rest of a line, the line feed that ends it, and its answer
  pub advances_line : (a b : S) (line grown front said next : List ℕ) → IsLine front → grown ≡ line ++ front → IsAnswer a (strip_carriage_return grown) said b → next ≡ []
      → Advances IsAnswer a line (front ++ 10 ∷ []) said next b
  advances_line a b line grown front said next inner is answer none =
      advances_then a a b line grown next front (10 ∷ []) [] said (advances_piece a line front grown inner is) (advances_feed a b grown said next answer none)

  -- bytes behind, which end no line
  pub advances_rest : (a b : S) (line before next bytes taken said rest : List ℕ) → bytes ≡ taken ++ rest → Advances IsAnswer a line taken said before b → IsLine rest → next ≡ before ++ rest
      → Advances IsAnswer a line bytes said next b
  advances_rest a b line before next bytes taken said rest whole so_far inner is =
      subst (λ read. Advances IsAnswer a line read said next b) (sym whole)
      (subst (λ text. Advances IsAnswer a line (taken ++ rest) text next b) (append-nil said)
      (advances_then a b b line before next taken rest said [] so_far (advances_piece b before rest next inner is)))

  -- the last line was answered
  pub all_answered : (start a b : S) (input output line said : List ℕ) → AnswersUpTo IsAnswer start input output line a → AnswersEach IsAnswer a (map strip_carriage_return (last_line line)) said b
      → IsAnswered IsAnswer start input (output ++ said) b
  all_answered start a b input output line said so_far last = record {
    all = so_far.all;
    rest = line;
    split = so_far.split;
    answers = subst (λ lines. AnswersEach IsAnswer start lines (output ++ said) b) (sym (map-append strip_carriage_return so_far.all (last_line line)))
        (answers_then start a b (map strip_carriage_return so_far.all) (map strip_carriage_return (last_line line)) output said so_far.answers last);
  }
