-- A record behind its tag, written, read or not.
use Rattle.std.proofs.Common.{◌≡◌, ◌≢◌, ◌∙◌, ap, sym, subst, lit<, ℕ, Bool, true, ◌^◌, ◌<◌, inl, inr, List, [], ◌∷◌, ◌++◌, length, refl, arith, length-append, map, Option, None, Some, Result, Ok, Err}
use Rattle.tinyvec_io.specs.Counted.{CountedView}
use Rattle.tinyvec_borsh.specs.declared.borsh_error.BorshError.{BorshError}
use Rattle.tinyvec_borsh.specs.declared.borsh_error.BorshError.TheVariants.{Ended, InvalidLength, InvalidUtf8, Io, Memory}
use Rattle.tinyvec_borsh.specs.Number.{SpellsNumber, TooFewBytes}
use Rattle.tinyvec_borsh.specs.TwoParts.{HasParts}
use Rattle.tinyvec_borsh.proofs.Parts.{rest-so}
use Rattle.tinyvec_borsh.specs.Reading.{Fails, MayBe, ReadsSpelling, TakesSome}
use Rattle.tinyvec_borsh.specs.Writing.{WritesValue}
use Rattle.tinyvec_borsh.specs.Items.{MayAllocate}
use Rattle.tinyvec_borsh.specs.Tagged.{SpellsTagged}
use Rattle.tinyvec_borsh.proofs.AtFaults.{length_is_other, utf8_is_other}
use Rattle.tinyvec_borsh.proofs.Counts.{never-too-long}
use Rattle.tinyvec_borsh.proofs.ItemByItem.{maybe-any, maybe-behind, maybe-so, takes-then}
use Rattle.tinyvec_borsh.proofs.ReadItems.{ReadItems}
use Rattle.tinyvec_borsh.proofs.Tagged.{behind-byte, behind-tag, one-byte}
use Rattle.std.specs.List.{AllByRecursion}
use Rattle.std.proofs.KnownBytes.{Consumes-trans}
use Rattle.tinyvec_borsh.specs.FrontsLaws.{cut-place}
use Rattle.example_stream.specs.Errors.{stream_error}
use Rattle.example_stream.specs.Readings.{IsReadingCut, ReadingFits, ReadingReason, reading_apart, said}
use Rattle.example_stream.specs.Stream.{BeginsWith, EndsBy, HasTooManySamples, IsFrameFront, NextIs, SpellsFrame, StandsBehind, Takes, tag}
use Rattle.example_stream.specs.declared.reading.Reading.{Reading}
use Rattle.example_stream.specs.declared.stream_error.StreamError.{StreamError}
use Rattle.example_stream.specs.declared.stream_error.StreamError.TheVariants as stream

-- no further samples can be too many than those of the record, since no count is above that of a note
too-many : (input : List ℕ) → ReadingReason InvalidLength input → HasTooManySamples input
too-many input long = elim long [
  | inl none ↦ absurd (length_is_other.0 none.0)
  | inr s ↦ elim s.is_rest [
    | inl samples ↦ elim samples [
      | inl many ↦ record { content = s.content; valid = s.valid; parts = rest-so s.parts many }
      | inr item ↦ absurd (length_is_other.0 item.left.0)
    ]
    | inr t ↦ absurd (never-too-long (SpellsNumber 1) (λ n. n < 2 ^ 8) (TooFewBytes 1) (MayAllocate (SpellsNumber 1) (λ n. n < 2 ^ 8) 16) (λ input none. length_is_other.0 none.0) t.rest t.is_rest)
  ]
]

-- no field is a text
no-text : (input : List ℕ) → ReadingReason InvalidUtf8 input → ⊥
no-text input given = elim given [
  | inl none ↦ utf8_is_other.0 none.0
  | inr s ↦ elim s.is_rest [
    | inl samples ↦ elim samples [ inl none ↦ none | inr item ↦ utf8_is_other.0 item.left.0 ]
    | inr t ↦ elim t.is_rest [ inl none ↦ none | inr item ↦ utf8_is_other.0 item.left.0 ]
  ]
]

maybe-not : (old : Option (List ℕ)) (P : List ℕ → Type 0) → ((input : List ℕ) → P input → ⊥) → MayBe old P → ⊥
maybe-not None P never may = never may.0 may.1
maybe-not (Some x) P never may = never x may

no-byte : (bytes : List ℕ) → length bytes < 1 → bytes ≡ []
no-byte [] few = refl
no-byte (byte ∷ bytes) few = absurd (omega arith)

-- a front of one byte, short of it
no-front : (bytes front back : List ℕ) → length bytes ≡ 1 → 0 < length back → bytes ≡ front ++ back → front ≡ []
no-front bytes front back one some is = no-byte front (omega (arith, ap length is, length-append front back))

-- ---- the tag

module _ (n : ℕ) (old mid : Option (List ℕ)) (byte : ReadsSpelling (SpellsNumber 1 n) old mid) where
  -- another byte was read in its place
  pub wrong-tag : n ≢ tag → EndsBy (Err stream.WrongTag) old mid
  wrong-tag other = (
    behind-byte n old mid byte (λ tail. Unit {0}) (StandsBehind (Err stream.WrongTag)) (λ input tail whole so. record { byte = n; rest = tail; other = other; whole = whole }) (maybe-any mid),
    (byte.0, (n, other, one-byte n byte.0 byte.1), byte.2),
  )

-- there is one
pub tag-next : (old new : Option (List ℕ)) (next : Bool) → next ≡ true → NextIs old new (Ok next) → ReadsSpelling (SpellsNumber 1 tag) old new
tag-next old new next is given = subst (λ b. NextIs old new (Ok b)) is given

-- ---- what is behind it

module _ (old mid : Option (List ℕ)) (byte : ReadsSpelling (SpellsNumber 1 tag) old mid) where
  frame-cut : (rest : List ℕ) → IsReadingCut rest → IsFrameFront (byte.0 ++ rest)
  frame-cut rest cut = inr (rest, ap (λ l. l ++ rest) (one-byte tag byte.0 byte.1), cut)

  -- a record was not read: of it and its tag no more bytes were taken than show the error
  frame-some : (new : Option (List ℕ)) (e : BorshError) → TakesSome IsReadingCut mid new e → TakesSome IsFrameFront old new e
  frame-some new e t =
      record {
        bytes = byte.0 ++ t.bytes;
        taken = Consumes-trans old mid new byte.0 t.bytes byte.2 t.taken;
        end = t.end;
        needed = λ front back some is. elim (cut-place byte.0 t.bytes front back is) [
          | inl f ↦ inl (no-front byte.0 front f.0 byte.1.many f.2 f.1)
          | inr s ↦ subst IsFrameFront (sym s.1) (frame-cut s.0 (t.needed s.0 back some s.2))
        ];
        short = λ no. frame-cut t.bytes (t.short no);
      }

  pub record-fails : (new : Option (List ℕ)) (before after : ℕ) (e : BorshError) → Fails ReadingReason mid before after e → TakesSome IsReadingCut mid new e → EndsBy (Err (stream_error e)) old new
  record-fails new before after Ended f t = let s = frame-some new Ended t in (behind-tag tag old mid byte tag refl IsReadingCut f, (s.bytes, (s.needed, s.end refl), s.taken))
  record-fails new before after InvalidLength f t =
      let s = frame-some new InvalidLength t in
      (behind-tag tag old mid byte tag refl HasTooManySamples (maybe-so mid (ReadingReason InvalidLength) HasTooManySamples too-many f), (s.bytes, s.needed, s.taken))
  record-fails new before after InvalidUtf8 f t = absurd (maybe-not mid (ReadingReason InvalidUtf8) no-text f)
  record-fails new before after Io f t = let s = frame-some new Io t in (maybe-any old, (s.bytes, s.short (λ of. of), s.taken))
  record-fails new before after Memory f t = let s = frame-some new Memory t in (behind-tag tag old mid byte tag refl (λ rest. Unit {0}) (maybe-any mid), (s.bytes, s.short (λ of. of), s.taken))

  -- there is no room for a record
  pub no-room : EndsBy (Err stream.Memory) old mid
  no-room = (behind-tag tag old mid byte tag refl (λ rest. Unit {0}) (maybe-any mid), (byte.0, inr ([], one-byte tag byte.0 byte.1, reading_apart.none_is_cut), byte.2))

-- ---- records before it

-- these records were read, and then the reading ends
pub ends-then : (before now kept : List Reading) (end : Result (Unit {0}) StreamError) (old mid new : Option (List ℕ)) → kept ≡ now → ReadItems said SpellsFrame ReadingFits before now old mid → EndsBy end mid new
    → (more : List Reading) × (kept ≡ before ++ more) × AllByRecursion ReadingFits (map said more) × MayBe old (BeginsWith (map said more) (StandsBehind end)) × Takes (map said more) end old new
ends-then before now kept end old mid new same r ends = (
  r.more,
  same ∙ r.grown,
  r.fit,
  maybe-behind old mid (StandsBehind end) (BeginsWith (map said r.more) (StandsBehind end)) r.taken (λ input p. p) ends.0,
  takes-then old mid new r.taken ends.1,
)

-- ---- written

module _ {W T : Type 0} {contents : W → Option (List ℕ)} {old new : CountedView W} where
  -- a byte that is the tag, and then the record
  pub writes-tagged : {C : Type 0} (Spells : C → List ℕ → Type 0) (c : C) (r : Result T BorshError) → WritesValue contents (HasParts (SpellsNumber 1 tag) (Spells c)) old new r → WritesValue contents (SpellsTagged tag Spells c) old new r
  writes-tagged Spells c (Ok done) w = record {
    ok = (w.ok.0, (w.ok.1.rest, w.ok.1.is_rest, w.ok.1.whole ∙ ap (λ l. l ++ w.ok.1.rest) (one-byte tag w.ok.1.first w.ok.1.is_first)), w.ok.2);
    err = tt;
    front = tt;
    grows = w.grows;
    failed = w.failed;
  }
  writes-tagged Spells c (Err e) w = record {
    ok = tt;
    err = w.err;
    front = λ bytes p. w.front bytes (record { first = tag ∷ []; rest = p.0; is_first = record { many = refl; small = (lit< tt, tt); value = refl }; is_rest = p.1; whole = p.2 });
    grows = w.grows;
    failed = w.failed;
  }
