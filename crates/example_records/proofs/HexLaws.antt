-- The loop over pairs of digits in hex.
use Rattle.std.proofs.Common.{◌≡◌, ◌∙◌, ap, ap₂, sym, subst, refl, inl, inr, ◌⊎◌, ℕ, ◌-◌, ◌<◌, ◌≤◌, List, [], ◌∷◌, ◌++◌, length, take, drop, slice_index, Option, None, Some, arith, append_assoc, append-nil}
use Rattle.std.specs.Option.{option_map, option_zip}
use Rattle.std.proofs.lemmas.List.{take_all}
use Rattle.example_records.specs.Hex.{HasByte, byte_of, bytes_of}

-- these bytes, and the others behind them, where there are
abbrev pub behind : List ℕ → Option (List ℕ) → Option (List ℕ)
behind front others = option_map (λ back. front ++ back) others

behind_more : (front : List ℕ) (byte : ℕ) (others : Option (List ℕ)) → behind front (behind (byte ∷ []) others) ≡ behind (front ++ byte ∷ []) others
behind_more front byte None = refl
behind_more front byte (Some back) = ap Some (sym (append_assoc front (byte ∷ []) back))

-- ---- two digits more

pair_by : (byte : ℕ) (others : Option (List ℕ)) → option_map (λ bytes. bytes.0 ∷ bytes.1) (option_zip (Some byte) others) ≡ behind (byte ∷ []) others
pair_by byte None = refl
pair_by byte (Some back) = refl

pair : (high low byte : ℕ) (rest : List ℕ) → byte_of high low ≡ Some byte → bytes_of (high ∷ low ∷ rest) ≡ behind (byte ∷ []) (bytes_of rest)
unfolding bytes_of
pair high low byte rest is = ap (λ one. option_map (λ bytes. bytes.0 ∷ bytes.1) (option_zip one (bytes_of rest))) is ∙ pair_by byte (bytes_of rest)

no_pair : (high low : ℕ) (rest : List ℕ) → byte_of high low ≡ None → bytes_of (high ∷ low ∷ rest) ≡ None
unfolding bytes_of
no_pair high low rest is = ap (λ one. option_map (λ bytes. bytes.0 ∷ bytes.1) (option_zip one (bytes_of rest))) is

no_bytes : (byte : Option ℕ) (others : Option (List ℕ)) → option_map (λ bytes. bytes.0 ∷ bytes.1) (option_zip byte others) ≡ Some [] → ⊥
no_bytes None others is = cc is
no_bytes (Some byte) None is = cc is
no_bytes (Some byte) (Some back) is = cc is

pub next_byte : (text front left bytes : List ℕ) (byte : ℕ) → 2 ≤ length left → byte_of (slice_index left 0) (slice_index left 1) ≡ Some byte → bytes ≡ front ++ byte ∷ []
    → bytes_of text ≡ behind front (bytes_of left) → bytes_of text ≡ behind bytes (bytes_of (take (length left - 2) (drop 2 left)))
next_byte text front [] bytes byte long is pushed before = absurd (omega (arith, long))
next_byte text front (digit ∷ []) bytes byte long is pushed before = absurd (omega (arith, long))
next_byte text front (high ∷ low ∷ rest) bytes byte long is pushed before =
    let all = take_all (length (high ∷ low ∷ rest) - 2) rest (omega arith) in
    before ∙ ap (behind front) (pair high low byte rest is) ∙ behind_more front byte (bytes_of rest)
    ∙ ap₂ (λ front rest. behind front (bytes_of rest)) (sym pushed) (sym all)

pub no_byte : (text front left : List ℕ) → 2 ≤ length left → byte_of (slice_index left 0) (slice_index left 1) ≡ None
    → bytes_of text ≡ behind front (bytes_of left) → bytes_of text ≡ None
no_byte text front [] long is before = absurd (omega (arith, long))
no_byte text front (digit ∷ []) long is before = absurd (omega (arith, long))
no_byte text front (high ∷ low ∷ rest) long is before = before ∙ ap (behind front) (no_pair high low rest is)

-- ---- where memory is asked for

pub has_byte : (text left : List ℕ) (byte : ℕ) → 2 ≤ length left → byte_of (slice_index left 0) (slice_index left 1) ≡ Some byte → HasByte text ⊎ (left ≡ text) → HasByte text
has_byte text left byte long is (inl has) = has
has_byte text [] byte long is (inr first) = absurd (omega (arith, long))
has_byte text (digit ∷ []) byte long is (inr first) = absurd (omega (arith, long))
has_byte text (high ∷ low ∷ rest) byte long is (inr first) = subst HasByte first (λ none. cc (none, is))

-- a text of bytes begins with one
pub some_byte : (text bytes : List ℕ) → bytes_of text ≡ Some bytes → 0 < length bytes → HasByte text
unfolding bytes_of
some_byte [] [] is some = absurd (omega (arith, some))
some_byte [] (byte ∷ bytes) is some = absurd (cc is)
some_byte (digit ∷ []) bytes is some = absurd (cc is)
some_byte (high ∷ low ∷ rest) bytes is some = λ none. let no = no_pair high low rest none in cc (no, is)

-- and has bytes
pub bytes_more : (text bytes : List ℕ) → HasByte text → bytes_of text ≡ Some bytes → 0 < length bytes
unfolding bytes_of
bytes_more [] bytes has is = absurd has
bytes_more (digit ∷ []) bytes has is = absurd has
bytes_more (high ∷ low ∷ rest) [] has is = absurd (no_bytes (byte_of high low) (bytes_of rest) is)
bytes_more (high ∷ low ∷ rest) (byte ∷ bytes) has is = omega arith

-- ---- the end

pub at_end : (text front left : List ℕ) → length left ≡ 0 → bytes_of text ≡ behind front (bytes_of left) → bytes_of text ≡ Some front
unfolding bytes_of
at_end text front [] empty before = before ∙ ap Some (append-nil front)
at_end text front (digit ∷ left) empty before = absurd (omega (arith, empty))

pub at_odd_end : (text front left : List ℕ) → 0 < length left → length left < 2 → bytes_of text ≡ behind front (bytes_of left) → bytes_of text ≡ None
unfolding bytes_of
at_odd_end text front [] some few before = absurd (omega (arith, some))
at_odd_end text front (digit ∷ []) some few before = before
at_odd_end text front (high ∷ low ∷ left) some few before = absurd (omega (arith, few))
