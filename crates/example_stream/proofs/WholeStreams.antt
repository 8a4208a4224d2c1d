-- The records at the front of an input are those that are read.
use Rattle.std.proofs.Common.{◌≡◌, sym, subst, ℕ, List, ◌++◌, refl, Option, Some, Result, Ok, Err}
use Rattle.std.specs.List.{AllByRecursion}
use Rattle.std.specs.Result.{IsErrOf}
use Rattle.tinyvec_io.specs.Counted.{Reported}
use Rattle.tinyvec_borsh.specs.Reading.{MayBe}
use Rattle.tinyvec_borsh.proofs.ItemsInFront.{BeginsNone, all-items, first-items}
use Rattle.example_stream.specs.Readings.{ReadingFits, Said}
use Rattle.example_stream.specs.Stream.{AreFirst, BeginsWith, Gives, IsCopy, IsEnd, SpellsFrame, SpellsStream, StandsBehind}
use Rattle.example_stream.specs.declared.stream_error.StreamError.{StreamError}
use Rattle.example_stream.specs.declared.stream_error.StreamError.TheVariants.{Cut, Io, Memory, TooManySamples, WrongTag}
use Rattle.example_stream.proofs.FrameLaws.{frame_code, no-frame, one-end}

-- no record begins where the stream ends
none-further : (end : Result (Unit {0}) StreamError) (tail : List ℕ) → IsEnd end tail → BeginsNone SpellsFrame frame_code ReadingFits tail
none-further end tail is c frame rest fits p e = no-frame end c frame rest tail is fits p e

-- the same records, and then two ends
both-end : (end given : Result (Unit {0}) StreamError) (cs read : List Said) (a b x y : List ℕ) → IsEnd end x → IsEnd given y → AllByRecursion ReadingFits cs → AllByRecursion ReadingFits read
    → SpellsStream cs a → SpellsStream read b → a ++ x ≡ b ++ y → (read ≡ cs) × (end ≡ given)
both-end end given cs read a b x y p q fit_cs fit_read spelled_cs spelled_read e =
    let t = all-items SpellsFrame frame_code ReadingFits cs read a b x y (none-further end x p) (none-further given y q) fit_cs fit_read spelled_cs spelled_read e in
    (sym t.0, one-end end given x p (subst (IsEnd given) (sym t.1) q))

-- what was read before a fault, or before memory was refused, are the first records
some-first : (end : Result (Unit {0}) StreamError) (cs read : List Said) (a b x y : List ℕ) → IsEnd end x → AllByRecursion ReadingFits read → SpellsStream cs a → SpellsStream read b → a ++ x ≡ b ++ y → AreFirst read cs
some-first end cs read a b x y p fit spelled_cs spelled_read e = first-items SpellsFrame frame_code ReadingFits cs read a b x y (none-further end x p) fit spelled_cs spelled_read e

module _ (before after : ℕ) (cs read : List Said) (fit_cs : AllByRecursion ReadingFits cs) (fit_read : AllByRecursion ReadingFits read) where
  -- of an input that is known
  gives-known : (end given : Result (Unit {0}) StreamError) (bytes tail : List ℕ) → SpellsStream cs bytes → IsEnd end tail
      → (IsErrOf given Io → Reported before after) → BeginsWith read (StandsBehind given) (bytes ++ tail) → Gives cs end before after read given
  gives-known end (Ok done) bytes tail p is fault b = both-end end (Ok done) cs read bytes b.first tail b.rest is b.is_rest fit_cs fit_read p b.is_first b.whole
  gives-known end (Err Cut) bytes tail p is fault b = both-end end (Err Cut) cs read bytes b.first tail b.rest is b.is_rest fit_cs fit_read p b.is_first b.whole
  gives-known end (Err WrongTag) bytes tail p is fault b = both-end end (Err WrongTag) cs read bytes b.first tail b.rest is b.is_rest fit_cs fit_read p b.is_first b.whole
  gives-known end (Err TooManySamples) bytes tail p is fault b = both-end end (Err TooManySamples) cs read bytes b.first tail b.rest is b.is_rest fit_cs fit_read p b.is_first b.whole
  gives-known end (Err Io) bytes tail p is fault b = (some-first end cs read bytes b.first tail b.rest is fit_read p b.is_first b.whole, fault refl)
  gives-known end (Err Memory) bytes tail p is fault b = some-first end cs read bytes b.first tail b.rest is fit_read p b.is_first b.whole

  pub gives-all : (end given : Result (Unit {0}) StreamError) (old : Option (List ℕ)) (bytes tail : List ℕ) → SpellsStream cs bytes → IsEnd end tail → old ≡ Some (bytes ++ tail)
      → (IsErrOf given Io → Reported before after) → MayBe old (BeginsWith read (StandsBehind given)) → Gives cs end before after read given
  gives-all end given old bytes tail p is known fault may = gives-known end given bytes tail p is fault (subst (λ o. MayBe o (BeginsWith read (StandsBehind given))) known may)

-- a whole stream is copied, where no read fails
pub copy-of : (before after : ℕ) (cs read : List Said) (given : Result (Unit {0}) StreamError) → (given ≡ Err Io → ⊥) → Gives cs (Ok tt) before after read given → IsCopy cs read given
copy-of before after cs read (Ok done) none g = g.0
copy-of before after cs read (Err Cut) none g = cc
copy-of before after cs read (Err WrongTag) none g = cc
copy-of before after cs read (Err TooManySamples) none g = cc
copy-of before after cs read (Err Io) none g = none refl
copy-of before after cs read (Err Memory) none g = g
