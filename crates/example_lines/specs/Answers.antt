-- What is written for a text, by what answers its lines one after another.
use Rattle.std.specs.Prelude.{◌≡◌, ℕ, List, [], ◌∷◌, ◌++◌, map}
use Rattle.std.specs.Str.Lines.{strip_carriage_return}
use Rattle.tinyvec_io.specs.Lines.{Splits, last_line}

-- what answers, before and after a line, and the text of the answer
module _ {S : Type 0} (IsAnswer : S → List ℕ → List ℕ → S → Type 0) where
  -- the answer to the line follows what the text was before
  abbrev pub AppendsAnswer : S → List ℕ → S → List ℕ → List ℕ → Type 0
  AppendsAnswer before line after old new = (said : List ℕ) × (new ≡ old ++ said) × IsAnswer before line said after

  -- the text is an answer for each line, in order
  abbrev pub AnswersEach : S → List (List ℕ) → List ℕ → S → Type 0
  AnswersEach old [] text new = (text ≡ []) × (new ≡ old)
  AnswersEach old (line ∷ more) text new = (mid : S) × (first rest : List ℕ) × IsAnswer old line first mid × AnswersEach mid more rest new × (text ≡ first ++ rest)

  -- The output answers each line of the input, in order. A line ends before a line feed, or at the end of the input if it
  -- has bytes, and a carriage return at its end is no part of it.
  pub record IsAnswered (old : S) (input output : List ℕ) (new : S) : Type 0 where
    pub all : List (List ℕ)
    pub rest : List ℕ
    pub split : Splits input all rest
    pub answers : AnswersEach old (map strip_carriage_return (all ++ last_line rest)) output new

  -- The output answers the complete lines of the input, and this has come of the next line.
  pub record AnswersUpTo (old : S) (input output line : List ℕ) (new : S) : Type 0 where
    pub all : List (List ℕ)
    pub split : Splits input all line
    pub answers : AnswersEach old (map strip_carriage_return all) output new

  -- after these bytes, for which this is said, `new` has come of the next line, if `old` had
  abbrev pub Advances : S → List ℕ → List ℕ → List ℕ → List ℕ → S → Type 0
  Advances before old bytes said new after =
      (start : S) (input output : List ℕ) → AnswersUpTo start input output old before → AnswersUpTo start (input ++ bytes) (output ++ said) new after

  -- what it answers as `now`, it may answer as `old`: no line that it took between them shows
  abbrev pub AnswersAs : S → S → Type 0
  AnswersAs old now = (line text : List ℕ) (new : S) → IsAnswer now line text new → IsAnswer old line text new

  -- the same, where a line more may have been refused: then it answers as if that had not come
  abbrev pub AnsweredSome : S → List ℕ → List ℕ → List ℕ → S → Type 0
  AnsweredSome old input output line now = (new : S) × AnswersUpTo old input output line new × AnswersAs new now

  abbrev pub AdvancesSome : S → List ℕ → List ℕ → List ℕ → List ℕ → S → Type 0
  AdvancesSome before old bytes said new now = (after : S) × Advances before old bytes said new after × AnswersAs after now
