-- Records behind their tags are a code, and what ends a stream is no record, and no other end.
use Rattle.std.proofs.Common.{◌≡◌, ◌≢◌, ◌∙◌, ap, sym, subst, ℕ, inl, inr, List, [], ◌∷◌, ◌++◌, length, refl, arith, Result, Ok, Err, length-append}
use Rattle.tinyvec_borsh.specs.declared.borsh_error.BorshError.TheVariants.{Ended, InvalidLength}
use Rattle.tinyvec_borsh.proofs.AtFaults.{length_is_other}
use Rattle.tinyvec_borsh.specs.Code.{IsCode}
use Rattle.tinyvec_borsh.proofs.Parts.{rest-so}
use Rattle.tinyvec_borsh.proofs.Tagged.{same-tagged, tagged-code}
use Rattle.example_stream.specs.Readings.{IsReadingCut, ReadingFits, ReadingReason, Said, SpellsReading, reading_apart, reading_code}
use Rattle.example_stream.specs.Stream.{HasTooManySamples, IsEnd, SpellsFrame, tag}
use Rattle.example_stream.specs.declared.stream_error.StreamError.{StreamError}
use Rattle.example_stream.specs.declared.stream_error.StreamError.TheVariants.{Cut, Io, Memory, TooManySamples, WrongTag}

pub frame_code : IsCode SpellsFrame
frame_code = tagged-code tag SpellsReading reading_code

-- a record with nine samples is too long
long : (input : List ℕ) → HasTooManySamples input → ReadingReason InvalidLength input
long input s = inr (record { content = s.content; valid = s.valid; parts = rest-so s.parts (inl (inl s.is_rest)) })

-- no record begins where the stream ends
pub no-frame : (end : Result (Unit {0}) StreamError) (c : Said) (frame rest tail : List ℕ) → IsEnd end tail → ReadingFits c → SpellsFrame c frame → tail ≡ frame ++ rest → ⊥
no-frame (Ok done) c frame rest tail is fits p e = omega (arith, ap length (sym is ∙ e), ap length p.2, length-append frame rest)
no-frame (Err Cut) c frame rest tail is fits p e =
    let t = same-tagged tag tag is.0 (p.0 ++ rest) (sym is.1 ∙ e ∙ ap (λ l. l ++ rest) p.2) in
    reading_apart.spelled_or_cut c p.0 rest p.1 (subst IsReadingCut t.1 is.2)
no-frame (Err WrongTag) c frame rest tail is fits p e = is.other ((same-tagged is.byte tag is.rest (p.0 ++ rest) (sym is.whole ∙ e ∙ ap (λ l. l ++ rest) p.2)).0)
no-frame (Err TooManySamples) c frame rest tail is fits p e =
    let t = same-tagged tag tag is.0 (p.0 ++ rest) (sym is.1 ∙ e ∙ ap (λ l. l ++ rest) p.2) in
    reading_apart.fits_or_refused InvalidLength tt c p.0 rest fits p.1 (subst (ReadingReason InvalidLength) t.1 (long is.0 is.2))
no-frame (Err Io) c frame rest tail is fits p e = is
no-frame (Err Memory) c frame rest tail is fits p e = is

some-byte : (n : ℕ) (x tail : List ℕ) → tail ≡ [] → tail ≡ n ∷ x → ⊥
some-byte n x tail none some = omega (arith, ap length (sym none ∙ some))

cut-or-too-many : (tail x y : List ℕ) → tail ≡ tag ∷ x → tail ≡ tag ∷ y → IsReadingCut x → HasTooManySamples y → ⊥
cut-or-too-many tail x y p q cut many = length_is_other.0 (reading_apart.one_reason InvalidLength Ended tt tt y (long y many) (subst IsReadingCut (same-tagged tag tag x y (sym p ∙ q)).1 cut))

other-tag : (n : ℕ) (tail x y : List ℕ) → n ≢ tag → tail ≡ n ∷ x → tail ≡ tag ∷ y → ⊥
other-tag n tail x y other p q = other ((same-tagged n tag x y (sym p ∙ q)).0)

-- a stream ends in one way
pub one-end : (a b : Result (Unit {0}) StreamError) (tail : List ℕ) → IsEnd a tail → IsEnd b tail → a ≡ b
one-end (Ok x) (Ok y) tail p q = refl
one-end (Ok x) (Err Cut) tail p q = absurd (some-byte tag q.0 tail p q.1)
one-end (Ok x) (Err WrongTag) tail p q = absurd (some-byte q.byte q.rest tail p q.whole)
one-end (Ok x) (Err TooManySamples) tail p q = absurd (some-byte tag q.0 tail p q.1)
one-end (Err Cut) (Ok y) tail p q = absurd (some-byte tag p.0 tail q p.1)
one-end (Err Cut) (Err Cut) tail p q = refl
one-end (Err Cut) (Err WrongTag) tail p q = absurd (other-tag q.byte tail q.rest p.0 q.other q.whole p.1)
one-end (Err Cut) (Err TooManySamples) tail p q = absurd (cut-or-too-many tail p.0 q.0 p.1 q.1 p.2 q.2)
one-end (Err WrongTag) (Ok y) tail p q = absurd (some-byte p.byte p.rest tail q p.whole)
one-end (Err WrongTag) (Err Cut) tail p q = absurd (other-tag p.byte tail p.rest q.0 p.other p.whole q.1)
one-end (Err WrongTag) (Err WrongTag) tail p q = refl
one-end (Err WrongTag) (Err TooManySamples) tail p q = absurd (other-tag p.byte tail p.rest q.0 p.other p.whole q.1)
one-end (Err TooManySamples) (Ok y) tail p q = absurd (some-byte tag p.0 tail q p.1)
one-end (Err TooManySamples) (Err Cut) tail p q = absurd (cut-or-too-many tail q.0 p.0 q.1 p.1 q.2 p.2)
one-end (Err TooManySamples) (Err WrongTag) tail p q = absurd (other-tag q.byte tail q.rest p.0 q.other q.whole p.1)
one-end (Err TooManySamples) (Err TooManySamples) tail p q = refl
one-end (Err Io) b tail p q = absurd p
one-end (Err Memory) b tail p q = absurd p
one-end a (Err Io) tail p q = absurd q
one-end a (Err Memory) tail p q = absurd q
