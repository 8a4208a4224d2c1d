-- A stream: records one after the other, each after a tag.
use Rattle.std.specs.Prelude.{◌≡◌, ◌≢◌, ◌⊎◌, Bool, true, false, ℕ, ◌^◌, ◌<◌, List, [], ◌∷◌, ◌++◌, length, Option, Ok, Err, Result}
use Rattle.std.specs.Io.KnownBytes.{IsAtEnd}
use Rattle.tinyvec_io.specs.Counted.{Reported}
use Rattle.tinyvec_borsh.specs.Both.{IsBehind}
use Rattle.tinyvec_borsh.specs.Items.{BeginsWithItems, HasTooMany, SpellsItems}
use Rattle.tinyvec_borsh.specs.Number.{SpellsNumber}
use Rattle.tinyvec_borsh.specs.Reading.{MayBe, ReadsSpelling}
use Rattle.tinyvec_borsh.specs.Tagged.{IsTagged, SpellsTagged}
use Rattle.example_stream.specs.Readings.{IsReadingCut, Said, SpellsReading, StationFits}
use Rattle.example_stream.specs.declared.stream_error.StreamError.{StreamError}
use Rattle.example_stream.specs.declared.stream_error.StreamError.TheVariants.{Cut, Io, Memory, TooManySamples, WrongTag}

-- the byte before each record: the letter R
abbrev pub tag : ℕ
tag = 82

-- the tag, and then the record
abbrev pub SpellsFrame : Said → List ℕ → Type 0
SpellsFrame = SpellsTagged tag SpellsReading

-- the records in order, one after the other, and nothing else
abbrev pub SpellsStream : List Said → List ℕ → Type 0
SpellsStream = SpellsItems SpellsFrame

-- a station, a count above eight, and nine samples
abbrev pub HasTooManySamples : List ℕ → Type 0
HasTooManySamples = IsBehind (SpellsNumber 4) StationFits (HasTooMany (SpellsNumber 2) (λ n. n < 2 ^ 16) 8)

-- another byte in the place of the tag
pub record HasOtherTag (input : List ℕ) : Type 0 where
  pub byte : ℕ
  pub rest : List ℕ
  pub other : byte ≢ tag
  pub whole : input ≡ byte ∷ rest

-- What is after the last record, if it is the input that ended the reading: no byte; a record that is cut after its
-- tag; another byte in the place of the tag; a record with more samples than there is room for.
abbrev pub IsEnd : Result (Unit {0}) StreamError → List ℕ → Type 0
IsEnd (Ok done) tail = tail ≡ []
IsEnd (Err Cut) tail = IsTagged tag IsReadingCut tail
IsEnd (Err WrongTag) tail = HasOtherTag tail
IsEnd (Err TooManySamples) tail = IsTagged tag HasTooManySamples tail
IsEnd (Err Io) tail = ⊥
IsEnd (Err Memory) tail = ⊥

-- What is after the last record that was read. After a fault of the reader nothing is known, and if memory was refused
-- there is a further tag.
abbrev pub StandsBehind : Result (Unit {0}) StreamError → List ℕ → Type 0
StandsBehind (Err Io) tail = Unit {0}
StandsBehind (Err Memory) tail = IsTagged tag (λ rest. Unit {0}) tail
StandsBehind end tail = IsEnd end tail

-- The input begins with these records, and is so after them.
abbrev pub BeginsWith : List Said → (List ℕ → Type 0) → List ℕ → Type 0
BeginsWith = BeginsWithItems SpellsFrame

-- the reader failed, as the answer says
abbrev pub ends_by_io : {T : Type 0} → Result T StreamError → Bool
ends_by_io (Ok value) = false
ends_by_io (Err Io) = true
ends_by_io (Err error) = false

-- no byte, or a record that is cut after its tag, or within it
abbrev pub IsFrameFront : List ℕ → Type 0
IsFrameFront tail = (tail ≡ []) ⊎ IsTagged tag IsReadingCut tail

-- some byte short of it, a record is cut
abbrev pub FrontsAreShort : List ℕ → Type 0
FrontsAreShort tail = (front back : List ℕ) → 0 < length back → tail ≡ front ++ back → IsFrameFront front

-- What was taken after the last record: no more than shows how the reading ends, and after a fault of the reader, or where
-- memory was refused, no whole record. At the end of the input, which may be within a record, nothing is left.
abbrev pub ShowsEnd : Result (Unit {0}) StreamError → (new : Option (List ℕ)) → List ℕ → Type 0
ShowsEnd (Ok done) new tail = (tail ≡ []) × IsAtEnd new
ShowsEnd (Err Cut) new tail = FrontsAreShort tail × IsAtEnd new
ShowsEnd (Err WrongTag) new tail = (byte : ℕ) × (byte ≢ tag) × (tail ≡ byte ∷ [])
ShowsEnd (Err TooManySamples) new tail = FrontsAreShort tail
ShowsEnd (Err Io) new tail = IsFrameFront tail
ShowsEnd (Err Memory) new tail = IsFrameFront tail

-- These records were taken from the front of the input, and then what shows the end.
abbrev pub Takes : List Said → Result (Unit {0}) StreamError → (old new : Option (List ℕ)) → Type 0
Takes read end old new = ReadsSpelling (BeginsWith read (ShowsEnd end new)) old new

-- No record was taken, and the reading ends so.
abbrev pub EndsBy : Result (Unit {0}) StreamError → (old new : Option (List ℕ)) → Type 0
EndsBy end old new = MayBe old (StandsBehind end) × ReadsSpelling (ShowsEnd end new) old new

-- The tag of a record was taken, or the reading ends.
abbrev pub NextIs : (old new : Option (List ℕ)) → Result Bool StreamError → Type 0
NextIs old new (Ok true) = ReadsSpelling (SpellsNumber 1 tag) old new
NextIs old new (Ok false) = EndsBy (Ok tt) old new
NextIs old new (Err error) = EndsBy (Err error) old new

-- The records that were read are the first ones of these.
abbrev pub AreFirst : (read cs : List Said) → Type 0
AreFirst read cs = (more : List Said) × (cs ≡ read ++ more)

-- Just these records were read, and this end was reported; or the reader reported a fault, or memory was refused, and the first
-- ones were read.
abbrev pub Gives : List Said → Result (Unit {0}) StreamError → (before after : ℕ) → List Said → Result (Unit {0}) StreamError → Type 0
Gives cs end before after read (Err Io) = AreFirst read cs × Reported before after
Gives cs end before after read (Err Memory) = AreFirst read cs
Gives cs end before after read told = (read ≡ cs) × (end ≡ told)

-- The records before the cut were read. The end is a clean one only if no byte is after them, and `Cut` only
-- if a record was cut.
abbrev pub GivesCut : List Said → (front : List ℕ) → (before after : ℕ) → List Said → Result (Unit {0}) StreamError → Type 0
GivesCut cs front before after read (Ok done) = AreFirst read cs × SpellsStream read front
GivesCut cs front before after read (Err Cut) = AreFirst read cs × BeginsWith read (IsTagged tag IsReadingCut) front
GivesCut cs front before after read (Err WrongTag) = ⊥
GivesCut cs front before after read (Err TooManySamples) = ⊥
GivesCut cs front before after read (Err Io) = AreFirst read cs × Reported before after
GivesCut cs front before after read (Err Memory) = AreFirst read cs

-- All of these records were read, and then the end; or memory was refused, and the first ones were read. No read failed.
abbrev pub IsCopy : List Said → List Said → Result (Unit {0}) StreamError → Type 0
IsCopy cs read (Ok done) = read ≡ cs
IsCopy cs read (Err Cut) = ⊥
IsCopy cs read (Err WrongTag) = ⊥
IsCopy cs read (Err TooManySamples) = ⊥
IsCopy cs read (Err Io) = ⊥
IsCopy cs read (Err Memory) = AreFirst read cs
