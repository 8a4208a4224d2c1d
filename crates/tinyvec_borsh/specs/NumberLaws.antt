-- The encoding of whole numbers is a code, and no other input is read.
use Rattle.std.proofs.Common.{◌≡◌, ◌∙◌, ap, sym, subst, ℕ, ◌+◌, ◌*◌, ◌/◌, ◌%◌, ◌-◌, ◌^◌, ◌<◌, ◌≤◌, zero, suc, List, [], ◌∷◌, ◌++◌, length, take, get_or, refl, arith, append-nil, length-append}
use Rattle.std.specs.List.{AllByRecursion}
use Rattle.std.proofs.Math.Nat.{div-div-eq-div-mul, mul_assoc}
use Rattle.std.proofs.lemmas.Grind.{pow_more}
use Rattle.std.proofs.lemmas.List.{nil_from_length, take_all}
use Rattle.tinyvec_borsh.specs.Code.{IsCode}
use Rattle.tinyvec_borsh.specs.Apart.{AreApart}
use Rattle.std.specs.Prelude.{ℤ, FitsSigned}
use Rattle.std.specs.Int.{Width, w8, w16, w32, w64, w128, byte_at, byte_len, bytes_low_first, byte_worth, cast_signed, cast_unsigned, from_le_bytes, sum_through, to_le_bytes}
use mir.Val.{bits, Fits}
use Rattle.std.proofs.Math.Facts.{Fits-of_z, sfits_to_z}
use Rattle.std.proofs.lemmas.Int.{of_z-to_z, to_z-of_z}
use Rattle.tinyvec_borsh.specs.Number.{NumberForm, SpellsNumber, SpellsSigned, TooFewBytes, number_of}

number-injective : (a b : List ℕ) → length a ≡ length b → AllByRecursion (λ byte. byte < 256) a → AllByRecursion (λ byte. byte < 256) b → number_of a ≡ number_of b → a ≡ b
number-injective [] [] same small_a small_b value = refl
number-injective [] (y ∷ b) same small_a small_b value = absurd (omega arith)
number-injective (x ∷ a) [] same small_a small_b value = absurd (omega arith)
number-injective (x ∷ a) (y ∷ b) same small_a small_b value =
    let first : x ≡ y = omega (arith, small_a.0, small_b.0) in
    let rest = number-injective a b (omega arith) small_a.1 small_b.1 (omega (arith, small_a.0, small_b.0)) in
    λ i. first i ∷ rest i

pub number_code : (width : ℕ) → 0 < width → IsCode (SpellsNumber width)
number_code width some = record {
  one_spelling = λ c a b p q. number-injective a b (p.many ∙ sym q.many) p.small q.small (p.value ∙ sym q.value);
  some_byte = λ c a p. omega (arith, p.many);
  one_content = λ c d a rest p q.
      let none : rest ≡ [] = nil_from_length rest (omega (arith, p.many, q.many, length-append a rest)) in
      sym p.value ∙ ap number_of (sym (append-nil a) ∙ ap (λ l. a ++ l) (sym none)) ∙ q.value;
}

-- If each encoding has `width` bytes, an input with fewer is cut, and refused for no other reason.
pub apart_by_length : {C : Type 0} (width : ℕ) → 0 < width → (Spells : C → List ℕ → Type 0) (Fits : C → Type 0) → ((c : C) (bytes : List ℕ) → Spells c bytes → length bytes ≡ width) → AreApart Spells Fits (TooFewBytes width)
apart_by_length width some Spells Fits many = record {
  spelled_or_cut = λ c bytes rest p cut. omega (arith, cut.1, many c bytes p, length-append bytes rest);
  fits_or_refused = λ e of c bytes rest fits p cut. omega (arith, cut.1, many c bytes p, length-append bytes rest);
  one_reason = λ e f of_e of_f input r s. r.0 ∙ sym s.0;
  front_is_cut = λ c front back short fits p. (refl, omega (arith, short, many c (front ++ back) p, length-append front back));
  none_is_cut = (refl, some);
}

pub number_apart : (width : ℕ) → 0 < width → (Fits : ℕ → Type 0) → AreApart (SpellsNumber width) Fits (TooFewBytes width)
number_apart width some Fits = apart_by_length width some (SpellsNumber width) Fits (λ c bytes p. p.many)

same-signed : (w : Width) (y z : ℤ) → FitsSigned w y → FitsSigned w z → cast_unsigned w y ≡ cast_unsigned w z → y ≡ z
same-signed w y z p q same = sym (to_z-of_z w y p) ∙ ap (cast_signed w) same ∙ to_z-of_z w z q

pub signed_code : (w : Width) (width : ℕ) → 0 < width → IsCode (SpellsSigned w width)
signed_code w width some = record {
  one_spelling = λ c a b p q. (number_code width some).one_spelling (cast_unsigned w c) a b p.1 q.1;
  some_byte = λ c a p. (number_code width some).some_byte (cast_unsigned w c) a p.1;
  one_content = λ c d a rest p q. same-signed w c d p.0 q.0 ((number_code width some).one_content (cast_unsigned w c) (cast_unsigned w d) a rest p.1 q.1);
}

pub number_spelled : (width n : ℕ) → n < 256 ^ width → (bytes : List ℕ) × SpellsNumber width n bytes
number_spelled zero n below = ([], record { many = refl; small = tt; value = omega (arith, below) })
number_spelled (suc width) n below =
    let rest = number_spelled width (n / 256) (omega (arith, below)) in
    (n % 256 ∷ rest.0, record { many = omega (arith, rest.1.many); small = (omega arith, rest.1.small); value = omega (arith, rest.1.value) })

-- `width` bytes are a number below 256 to that power
pub number-below : (bytes : List ℕ) (width : ℕ) → length bytes ≡ width → AllByRecursion (λ byte. byte < 256) bytes → number_of bytes < 256 ^ width
number-below [] zero long small = omega arith
number-below [] (suc width) long small = absurd (omega arith)
number-below (x ∷ bytes) zero long small = absurd (omega arith)
number-below (x ∷ bytes) (suc width) long small =
    let rest = number-below bytes width (omega arith) small.1 in
    omega (arith, rest, small.0)

power : (k : ℕ) → 256 ^ suc k ≡ 256 ^ k * 256
power k = let same : suc k ≡ k + 1 = omega arith in ap (λ j. 256 ^ j) same ∙ pow_more 256 k

-- bytes, least first, up to the one at k, are what the methods of numbers make of them
number-more : (bytes : List ℕ) (k : ℕ) → k < length bytes → number_of (take (suc k) bytes) ≡ number_of (take k bytes) + get_or bytes k 0 * 256 ^ k
number-more [] k within = absurd (omega arith)
number-more (x ∷ bytes) zero within = omega arith
number-more (x ∷ bytes) (suc k) within =
    let rest = number-more bytes k (omega arith) in
    let worth : get_or bytes k 0 * 256 ^ suc k ≡ get_or bytes k 0 * 256 ^ k * 256 = ap (λ p. get_or bytes k 0 * p) (power k) ∙ sym (mul_assoc (get_or bytes k 0) (256 ^ k) 256) in
    omega (arith, rest, worth)

value-through : (bytes : List ℕ) (k : ℕ) → k < length bytes → sum_through (λ i. byte_worth i (get_or bytes i 0)) k ≡ number_of (take (suc k) bytes)
value-through [] k within = absurd (omega arith)
value-through (x ∷ bytes) zero within = omega arith
value-through (x ∷ bytes) (suc k) within = ap (λ n. n + get_or bytes k 0 * 256 ^ suc k) (value-through (x ∷ bytes) k (omega arith)) ∙ sym (number-more (x ∷ bytes) (suc k) within)

-- and the bytes that they make of a number
byte-of : (i n : ℕ) → byte_at i n ≡ n / 256 ^ i % 256
byte-of zero n = omega arith
byte-of (suc i) n = refl

next-byte : (i n : ℕ) → n / 256 ^ suc i ≡ n / 256 ^ i / 256
next-byte i n = ap (λ p. n / p) (power i) ∙ sym (div-div-eq-div-mul n (256 ^ i) 256)

low-first : (i k n : ℕ) → n / 256 ^ i < 256 ^ k → SpellsNumber k (n / 256 ^ i) (bytes_low_first i k n)
low-first i zero n below = record { many = refl; small = tt; value = omega (arith, below) }
low-first i (suc k) n below =
    let next = next-byte i n in
    let more = power k in
    let rest = low-first (suc i) k n (omega (arith, next, more, below)) in
    let byte = byte-of i n in
    record { many = ap suc rest.many; small = (omega (arith, byte), rest.small); value = omega (arith, byte, next, rest.value) }

pub bytes-of : (w : Width) → (256 ^ byte_len w ≡ 2 ^ bits w) × (0 < byte_len w) × (byte_len w ≤ 16)
bytes-of w8 = (refl, omega arith, omega arith)
bytes-of w16 = (refl, omega arith, omega arith)
bytes-of w32 = (refl, omega arith, omega arith)
bytes-of w64 = (refl, omega arith, omega arith)
bytes-of w128 = (refl, omega arith, omega arith)

pub spells-le : (w : Width) (n : ℕ) → n < 2 ^ bits w → SpellsNumber (byte_len w) n (to_le_bytes w n)
spells-le w n fits =
    let one : n / 256 ^ 0 ≡ n = omega arith in
    subst (λ m. SpellsNumber (byte_len w) m (to_le_bytes w n)) one (low-first 0 (byte_len w) n (omega (arith, one, fits, (bytes-of w).0)))

pub value-le : (w : Width) (bytes : List ℕ) → length bytes ≡ byte_len w → from_le_bytes w bytes ≡ number_of bytes
value-le w bytes long =
    let some = (bytes-of w).1 in
    value-through bytes (byte_len w - 1) (omega (arith, long, some)) ∙ ap number_of (take_all (suc (byte_len w - 1)) bytes (omega (arith, long, some)))

pub below-bits : (w : Width) (bytes : List ℕ) → length bytes ≡ byte_len w → AllByRecursion (λ byte. byte < 256) bytes → number_of bytes < 2 ^ bits w
below-bits w bytes long small = subst (λ m. number_of bytes < m) (bytes-of w).0 (number-below bytes (byte_len w) long small)

abbrev pub unsigned : (w : Width) → NumberForm ℕ
unsigned w = record {
  width = w;
  to_bits = λ n. n;
  of_bits = λ n. n;
  Spells = SpellsNumber (byte_len w);
  Fits = λ n. n < 2 ^ bits w;
  code = number_code (byte_len w) (bytes-of w).1;
  many = λ n bytes p. p.many;
  written = spells-le w;
  read = λ bytes long small. (
    record { many = long; small = small; value = sym (value-le w bytes long) },
    subst (λ n. n < 2 ^ bits w) (sym (value-le w bytes long)) (below-bits w bytes long small),
  );
}

pub signed-bytes : (w : Width) (bytes : List ℕ) → length bytes ≡ byte_len w → AllByRecursion (λ byte. byte < 256) bytes → SpellsSigned w (byte_len w) (cast_signed w (from_le_bytes w bytes)) bytes
signed-bytes w bytes long small =
    let below = below-bits w bytes long small in
    subst (λ n. SpellsSigned w (byte_len w) (cast_signed w n) bytes) (sym (value-le w bytes long)) (
      sfits_to_z (record { fits = below }),
      record { many = long; small = small; value = sym (of_z-to_z w (number_of bytes) below) },
    )

abbrev pub signed : (w : Width) → NumberForm ℤ
signed w = record {
  width = w;
  to_bits = cast_unsigned w;
  of_bits = cast_signed w;
  Spells = SpellsSigned w (byte_len w);
  Fits = FitsSigned w;
  code = signed_code w (byte_len w) (bytes-of w).1;
  many = λ z bytes p. p.1.many;
  written = λ z fits. (fits, spells-le w (cast_unsigned w z) (Fits-of_z fits).fits);
  read = λ bytes long small. (signed-bytes w bytes long small, (signed-bytes w bytes long small).0);
}
