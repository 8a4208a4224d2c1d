-- A reading: the number of a station, up to eight samples, and a note, one after the other in the Borsh form.
use Rattle.std.specs.Prelude.{ℕ, ◌-◌, ◌^◌, ◌<◌, List}
use Rattle.std.proofs.Common.{lit<}
use Rattle.tinyvec_array.specs.ArrayVec.{items}
use Rattle.tinyvec.specs.TinyVec.{tiny_items}
use Rattle.tinyvec_borsh.specs.declared.borsh_error.BorshError.{BorshError}
use Rattle.tinyvec_borsh.specs.declared.borsh_error.BorshError.TheVariants.{Ended}
use Rattle.tinyvec_borsh.specs.Code.{IsCode}
use Rattle.tinyvec_borsh.specs.Apart.{AreApart}
use Rattle.tinyvec_borsh.specs.Number.{SpellsNumber, TooFewBytes}
use Rattle.tinyvec_borsh.specs.NumberLaws.{number_apart, number_code, number_spelled}
use Rattle.tinyvec_borsh.specs.Items.{ListFits, ListReason, MayAllocate, SpellsList, TinyReason}
use Rattle.tinyvec_borsh.specs.ItemsLaws.{list_apart, list_code, list_spelled}
use Rattle.tinyvec_borsh.specs.Both.{SpellsBoth, BothFit, InEither}
use Rattle.tinyvec_borsh.specs.BothLaws.{both_apart, both_code, both_spelled}
use Rattle.example_stream.specs.declared.reading.Reading.{Reading}

-- what a reading says: the station, the samples and the note's bytes
abbrev pub Said : Type 0
Said = ℕ × (List ℕ × List ℕ)

abbrev pub said : Reading → Said
said r = (r.station, (items r.samples, tiny_items r.note))

-- ---- the fields

abbrev pub SpellsSamples : List ℕ → List ℕ → Type 0
SpellsSamples = SpellsList (SpellsNumber 2)

abbrev pub SpellsNote : List ℕ → List ℕ → Type 0
SpellsNote = SpellsList (SpellsNumber 1)

abbrev pub StationFits : ℕ → Type 0
StationFits n = n < 2 ^ 32

abbrev pub SamplesFit : List ℕ → Type 0
SamplesFit = ListFits (SpellsNumber 2) (λ n. n < 2 ^ 16) 8

abbrev pub NoteFits : List ℕ → Type 0
NoteFits = ListFits (SpellsNumber 1) (λ n. n < 2 ^ 8) (2 ^ 64 - 1)

-- ---- the reading

-- four bytes of the station, the list of the samples, the list of the note's bytes
abbrev pub SpellsReading : Said → List ℕ → Type 0
SpellsReading = SpellsBoth (SpellsNumber 4) (SpellsBoth SpellsSamples SpellsNote)

-- a station below 2 ^ 32, up to eight samples below 2 ^ 16, a note of bytes
abbrev pub ReadingFits : Said → Type 0
ReadingFits = BothFit StationFits (BothFit SamplesFit NoteFits)

-- ---- what an input is that is no reading

abbrev pub SamplesReason : BorshError → List ℕ → Type 0
SamplesReason = ListReason (SpellsNumber 2) (λ n. n < 2 ^ 16) (TooFewBytes 2) (λ _. ⊥) 8

-- memory is needed for a note of more than sixteen bytes
abbrev pub NoteReason : BorshError → List ℕ → Type 0
NoteReason = TinyReason (SpellsNumber 1) (λ n. n < 2 ^ 8) (TooFewBytes 1) 16

abbrev pub ListsReason : BorshError → List ℕ → Type 0
ListsReason = InEither SpellsSamples SamplesFit SamplesReason NoteReason

abbrev pub ReadingReason : BorshError → List ℕ → Type 0
ReadingReason = InEither (SpellsNumber 4) StationFits (TooFewBytes 4) ListsReason

-- The input ends before the last byte of the reading that it begins.
abbrev pub IsReadingCut : List ℕ → Type 0
IsReadingCut = ReadingReason Ended

-- ---- the laws, from those of the fields

pub samples_code : IsCode SpellsSamples
samples_code = list_code (SpellsNumber 2) (number_code 2 (lit< tt))

pub samples_apart : AreApart SpellsSamples SamplesFit SamplesReason
samples_apart = list_apart (SpellsNumber 2) (number_code 2 (lit< tt)) (λ n. n < 2 ^ 16) (TooFewBytes 2) (number_apart 2 (lit< tt) (λ n. n < 2 ^ 16)) (λ _. ⊥) 8

samples_spelled : (c : List ℕ) → SamplesFit c → (bytes : List ℕ) × SpellsSamples c bytes
samples_spelled = list_spelled (SpellsNumber 2) (λ n. n < 2 ^ 16) (number_spelled 2) 8

note_code : IsCode SpellsNote
note_code = list_code (SpellsNumber 1) (number_code 1 (lit< tt))

note_apart : AreApart SpellsNote NoteFits NoteReason
note_apart = list_apart (SpellsNumber 1) (number_code 1 (lit< tt)) (λ n. n < 2 ^ 8) (TooFewBytes 1) (number_apart 1 (lit< tt) (λ n. n < 2 ^ 8)) (MayAllocate (SpellsNumber 1) (λ n. n < 2 ^ 8) 16) (2 ^ 64 - 1)

note_spelled : (c : List ℕ) → NoteFits c → (bytes : List ℕ) × SpellsNote c bytes
note_spelled = list_spelled (SpellsNumber 1) (λ n. n < 2 ^ 8) (number_spelled 1) (2 ^ 64 - 1)

pub reading_code : IsCode SpellsReading
reading_code = both_code (number_code 4 (lit< tt)) (both_code samples_code note_code)

pub reading_apart : AreApart SpellsReading ReadingFits ReadingReason
reading_apart = both_apart (number_code 4 (lit< tt)) (number_apart 4 (lit< tt) StationFits) (both_apart samples_code samples_apart note_apart)

pub reading_spelled : (c : Said) → ReadingFits c → (bytes : List ℕ) × SpellsReading c bytes
reading_spelled = both_spelled (number_spelled 4) (both_spelled samples_spelled note_spelled)
