-- A front of a stream is its first records, and then no byte, or a record that is cut.
use Rattle.std.proofs.Common.{◌≡◌, ◌∙◌, ap, sym, subst, ℕ, inl, inr, List, [], ◌++◌, refl, Option, Some, Result, Ok, Err, append-nil, append_assoc}
use Rattle.std.specs.List.{AllByRecursion}
use Rattle.std.specs.Result.{IsErrOf}
use Rattle.tinyvec_io.specs.Counted.{Reported}
use Rattle.tinyvec_borsh.specs.Reading.{MayBe}
use Rattle.tinyvec_borsh.specs.Tagged.{IsTagged}
use Rattle.tinyvec_borsh.specs.FrontsLaws.{HasFirst, items-fronts}
use Rattle.tinyvec_borsh.proofs.Tagged.{tagged-fronts}
use Rattle.example_stream.specs.Readings.{IsReadingCut, ReadingFits, Said, SpellsReading, reading_apart}
use Rattle.example_stream.specs.Stream.{AreFirst, BeginsWith, Gives, GivesCut, IsFrameFront, SpellsFrame, SpellsStream, StandsBehind, tag}
use Rattle.example_stream.specs.declared.stream_error.StreamError.{StreamError}
use Rattle.example_stream.specs.declared.stream_error.StreamError.TheVariants.{Cut, Io, Memory, TooManySamples, WrongTag}
use Rattle.example_stream.proofs.WholeStreams.{gives-all}

-- a front of a stream, the whole of it too
stream-fronts : (cs : List Said) (front back : List ℕ) → AllByRecursion ReadingFits cs → SpellsStream cs (front ++ back) → HasFirst SpellsFrame ReadingFits IsFrameFront cs front
stream-fronts = items-fronts SpellsFrame ReadingFits IsFrameFront (tagged-fronts tag SpellsReading ReadingFits IsReadingCut reading_apart.front_is_cut) (inl refl)

first-of-first : (read first cs more : List Said) → cs ≡ first ++ more → AreFirst read first → AreFirst read cs
first-of-first read first cs more all f = (f.0 ++ more, all ∙ ap (λ l. l ++ more) f.1 ∙ append_assoc read f.0 more)

same-first : (read first cs more : List Said) → cs ≡ first ++ more → read ≡ first → AreFirst read cs
same-first read first cs more all same = (more, all ∙ ap (λ l. l ++ more) (sym same))

module _ (before after : ℕ) (cs read : List Said) (front : List ℕ) (t : HasFirst SpellsFrame ReadingFits IsFrameFront cs front) where
  -- the cut is between two records, or behind the last
  between : (given : Result (Unit {0}) StreamError) → t.parts.rest ≡ [] → Gives t.first (Ok tt) before after read given → GivesCut cs front before after read given
  between (Ok done) none g =
      let whole : front ≡ t.parts.first = t.parts.whole ∙ ap (λ l. t.parts.first ++ l) none ∙ append-nil t.parts.first in
      (same-first read t.first cs t.more t.all g.0, subst (λ l. SpellsStream l front) (sym g.0) (subst (SpellsStream t.first) (sym whole) t.parts.is_first))
  between (Err Cut) none g = cc
  between (Err WrongTag) none g = cc
  between (Err TooManySamples) none g = cc
  between (Err Io) none g = (first-of-first read t.first cs t.more t.all g.0, g.1)
  between (Err Memory) none g = first-of-first read t.first cs t.more t.all g

  -- the cut is in a record
  within : (given : Result (Unit {0}) StreamError) → IsTagged tag IsReadingCut t.parts.rest → Gives t.first (Err Cut) before after read given → GivesCut cs front before after read given
  within (Ok done) cut g = cc
  within (Err Cut) cut g = (
    same-first read t.first cs t.more t.all g.0,
    record {
      first = t.parts.first;
      rest = t.parts.rest;
      is_first = subst (λ l. SpellsStream l t.parts.first) (sym g.0) t.parts.is_first;
      is_rest = cut;
      whole = t.parts.whole;
    },
  )
  within (Err WrongTag) cut g = cc
  within (Err TooManySamples) cut g = cc
  within (Err Io) cut g = (first-of-first read t.first cs t.more t.all g.0, g.1)
  within (Err Memory) cut g = first-of-first read t.first cs t.more t.all g

pub gives-cut : (before after : ℕ) (cs read : List Said) → AllByRecursion ReadingFits cs → AllByRecursion ReadingFits read → (given : Result (Unit {0}) StreamError) (old : Option (List ℕ)) (front back : List ℕ)
    → SpellsStream cs (front ++ back) → old ≡ Some front → (IsErrOf given Io → Reported before after) → MayBe old (BeginsWith read (StandsBehind given)) → GivesCut cs front before after read given
gives-cut before after cs read fit_cs fit_read given old front back p known fault may =
    let t = stream-fronts cs front back fit_cs p in
    let parts = t.parts in
    let known_parts : old ≡ Some (parts.first ++ parts.rest) = known ∙ ap Some parts.whole in
    elim parts.is_rest [
      | inl none ↦ between before after cs read front t given none (gives-all before after t.first read t.fit fit_read (Ok tt) given old parts.first parts.rest parts.is_first none known_parts fault may)
      | inr cut ↦ within before after cs read front t given cut (gives-all before after t.first read t.fit fit_read (Err Cut) given old parts.first parts.rest parts.is_first cut known_parts fault may)
    ]
