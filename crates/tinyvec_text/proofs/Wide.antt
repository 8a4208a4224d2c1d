-- Characters of more than one byte, read off their bytes.
use Rattle.std.proofs.Common.{◌≡◌, ℕ, ◌+◌, ◌*◌, ◌/◌, ◌%◌, ◌<◌, ◌≤◌, true, List, [], ◌∷◌, ◌++◌, length, get_or, take, drop, take_at, drop_at, inl, inr, ◌⊎◌, refl, sym, ap, subst, ◌∙◌, arith, ⊎_elim, append-nil, append_assoc, length-append, IsUtf8}
use Rattle.std.specs.Char.{IsScalar, encode_utf8}
use Rattle.std.specs.Str.{encode_utf8_all, all_scalars}
use Rattle.std.proofs.Math.Utf8.{scalar_cases}
use Rattle.std.proofs.lemmas.Bool.{cases_lt, and_parts}
use Rattle.std.proofs.lemmas.Bool.Decides.{nat_tests}
use Rattle.std.proofs.lemmas.List.{same_from_push}
use Rattle.std.proofs.lemmas.Str.{IsUtf8-append, IsUtf8-encode, IsUtf8-nil, IsUtf8-take, IsCharBoundary-before_ascii, encode_ascii, byte_from_char}
use Rattle.std.proofs.Math.Seq.{get_or-append_seam}
use Rattle.tinyvec_text.specs.InlineText.{IsFirstChar}

-- these are the bytes of the character with this code
pub record Spells (bytes : List ℕ) (code : ℕ) : Type 0 where
  pub scalar : IsScalar code
  pub encoded : encode_utf8 code ≡ bytes

-- the bytes that are written for a character
pub spelled_two : (c : ℕ) → 128 ≤ c → c < 2048 → encode_utf8 c ≡ (192 + c / 64) ∷ (128 + c % 64) ∷ []
unfolding encode_utf8
spelled_two c more low = grind (arith, nat_tests)

pub spelled_three : (c : ℕ) → 2048 ≤ c → c < 65536 → encode_utf8 c ≡ (224 + c / 4096) ∷ (128 + c / 64 % 64) ∷ (128 + c % 64) ∷ []
unfolding encode_utf8
spelled_three c more low = grind (arith, nat_tests)

pub spelled_four : (c : ℕ) → 65536 ≤ c
    → encode_utf8 c ≡ (240 + c / 262144) ∷ (128 + c / 4096 % 64) ∷ (128 + c / 64 % 64) ∷ (128 + c % 64) ∷ []
unfolding encode_utf8
spelled_four c more = grind (arith, nat_tests)

data Wide (c : ℕ) : Type 0 where
  two : (a b : ℕ) → 192 ≤ a → a < 224 → c ≡ a % 32 * 64 + b % 64 → encode_utf8 c ≡ a ∷ b ∷ [] → Wide c
  three : (a b d : ℕ) → 224 ≤ a → a < 240 → d < 192 → b < 192 → c ≡ a % 16 * 4096 + (b % 64 * 64 + d % 64) → encode_utf8 c ≡ a ∷ b ∷ d ∷ [] → Wide c
  four : (a b d e : ℕ) → 240 ≤ a → b < 192 → d < 192 → c ≡ a % 8 * 262144 + b % 64 * 4096 + (d % 64 * 64 + e % 64) → encode_utf8 c ≡ a ∷ b ∷ d ∷ e ∷ [] → Wide c

-- the bytes of a character that is not ASCII
wide : (c : ℕ) → IsScalar c → 128 ≤ c → Wide c
wide c is more =
    ⊎_elim
    (λ low. two (192 + c / 64) (128 + c % 64) (omega arith) (omega arith) (omega arith) (spelled_two c more low))
    (λ high.
    ⊎_elim
    (λ low. three (224 + c / 4096) (128 + c / 64 % 64) (128 + c % 64) (omega arith) (omega arith) (omega arith) (omega arith) (omega arith) (spelled_three c high low))
    (λ top.
    let below : c < 1114112 = ⊎_elim (λ low. omega (arith, low, top)) (λ high. high.1) (scalar_cases c is) in
    let p0 : c ≡ c / 64 * 64 + c % 64 = omega arith in
    let p1 : c / 64 ≡ c / 4096 * 64 + c / 64 % 64 = omega arith in
    let p2 : c / 4096 ≡ c / 262144 * 64 + c / 4096 % 64 = omega arith in
    let lead : (240 + c / 262144) % 8 ≡ c / 262144 = omega arith in
    let second : (128 + c / 4096 % 64) % 64 ≡ c / 4096 % 64 = omega arith in
    let third : (128 + c / 64 % 64) % 64 ≡ c / 64 % 64 = omega arith in
    let fourth : (128 + c % 64) % 64 ≡ c % 64 = omega arith in
    four (240 + c / 262144) (128 + c / 4096 % 64) (128 + c / 64 % 64) (128 + c % 64) (omega arith) (omega arith) (omega arith)
    (omega (arith, p0, p1, p2, lead, second, third, fourth)) (spelled_four c top))
    (cases_lt c 65536))
    (cases_lt c 2048)

spells : (bytes : List ℕ) (c code : ℕ) → IsScalar c → c ≡ code → encode_utf8 c ≡ bytes → Spells bytes code
spells bytes c code is value e = record { scalar = subst IsScalar value is; encoded = ap encode_utf8 (sym value) ∙ e }

-- the last character of some bytes, and those in front of it
record Last (bs : List ℕ) : Type 0 where
  pub front : List ℕ
  pub c : ℕ
  pub is : IsScalar c
  pub utf8 : IsUtf8 front
  pub split : bs ≡ front ++ encode_utf8 c

last_of : (c : ℕ) (cs : List ℕ) → all_scalars (c ∷ cs) ≡ true → Last (encode_utf8_all (c ∷ cs))
last_of c [] all = record { front = []; c = c; is = (and_parts _ _ all).0; utf8 = IsUtf8-nil; split = append-nil (encode_utf8 c) }
last_of c (d ∷ ds) all =
    let both = and_parts _ _ all in
    let l = last_of d ds both.1 in record {
      front = encode_utf8 c ++ l.front;
      c = l.c;
      is = l.is;
      utf8 = IsUtf8-append (encode_utf8 c) l.front (IsUtf8-encode c both.0) l.utf8;
      split = ap (λ xs. encode_utf8 c ++ xs) l.split ∙ sym (append_assoc (encode_utf8 c) l.front (encode_utf8 l.c));
    }

-- no byte of these begins a character
abbrev Later : List ℕ → Type 0
Later [] = Unit {0}
Later (x ∷ xs) = (x < 192) × Later xs

no_lead : (front : List ℕ) (lead : ℕ) (rest : List ℕ) → 192 ≤ lead → ¬ (Later (front ++ lead ∷ rest))
no_lead [] lead rest high low = omega (arith, low.0, high)
no_lead (x ∷ xs) lead rest high low = no_lead xs lead rest high low.1

-- where bytes have one that begins a character, those at their end that begin none follow it
behind_lead : (xs later front : List ℕ) (lead : ℕ) (rest : List ℕ) → 192 ≤ lead → Later later → xs ++ later ≡ front ++ lead ∷ rest → length later ≤ length rest
behind_lead [] later front lead rest high low same = absurd (no_lead front lead rest high (subst Later same low))
behind_lead (x ∷ xs) later [] lead rest high low same = let tail : xs ++ later ≡ rest = cc in omega (arith, ap length tail, length-append xs later)
behind_lead (x ∷ xs) later (y ∷ ys) lead rest high low same = let tail : xs ++ later ≡ ys ++ lead ∷ rest = cc in behind_lead xs later ys lead rest high low tail

-- the code of a character whose last byte is z, and the others are these
abbrev pub code_of : List ℕ → ℕ → ℕ
code_of [] z = z
code_of (a ∷ []) z = a % 32 * 64 + z % 64
code_of (a ∷ b ∷ []) z = a % 16 * 4096 + (b % 64 * 64 + z % 64)
code_of (a ∷ b ∷ d ∷ ds) z = a % 8 * 262144 + b % 64 * 4096 + (d % 64 * 64 + z % 64)

-- xs, of which b was popped: the last character of both
data Tail (xs : List ℕ) (b : ℕ) : Type 0 where
  tail : (front : List ℕ) (lead : ℕ) (rest : List ℕ) → 192 ≤ lead → Later rest → length rest ≤ 2 → IsUtf8 front → xs ≡ front ++ lead ∷ rest
      → Spells ((lead ∷ rest) ++ b ∷ []) (code_of (lead ∷ rest) b) → Tail xs b

module _ (xs : List ℕ) (b : ℕ) (more : 128 ≤ b) where
  tail_wide : (l : Last (xs ++ b ∷ [])) (lead : ℕ) (rest : List ℕ) (last : ℕ) → 192 ≤ lead → Later rest → length rest ≤ 2
      → l.c ≡ code_of (lead ∷ rest) last → encode_utf8 l.c ≡ (lead ∷ rest) ++ last ∷ [] → Tail xs b
  tail_wide l lead rest last high low few value e =
      let all = same_from_push xs (l.front ++ lead ∷ rest) b last (l.split ∙ ap (λ ys. l.front ++ ys) e ∙ sym (append_assoc l.front (lead ∷ rest) (last ∷ []))) in
      tail l.front lead rest high low few l.utf8 all.0 (subst (λ y. Spells ((lead ∷ rest) ++ y ∷ []) (code_of (lead ∷ rest) y)) (sym all.1) (spells _ l.c _ l.is value e))

  tail_cases : (l : Last (xs ++ b ∷ [])) → Wide l.c → Tail xs b
  tail_cases l (two a d low high value e) = tail_wide l a [] d low tt (omega arith) value e
  tail_cases l (three a d f low high last mid value e) = tail_wide l a (d ∷ []) f (omega (arith, low)) (mid, tt) (omega arith) value e
  tail_cases l (four a d f h low mid last value e) = tail_wide l a (d ∷ f ∷ []) h (omega (arith, low)) (mid, (last, tt)) (omega arith) value e

  tail_by : Last (xs ++ b ∷ []) → Tail xs b
  tail_by l =
      ⊎_elim
      (λ low. absurd (let same = (same_from_push xs l.front b l.c (l.split ∙ ap (λ ys. l.front ++ ys) (encode_ascii l.c low))).1 in omega (arith, same, low, more)))
      (λ high. tail_cases l (wide l.c l.is high))
      (cases_lt l.c 128)

  tail_of : IsUtf8 (xs ++ b ∷ []) → Tail xs b
  tail_of ([], (all, spell)) = absurd (let size = ap length spell ∙ length-append xs (b ∷ []) in omega (arith, size))
  tail_of (c ∷ cs, (all, spell)) = tail_by (subst Last spell (last_of c cs all))

-- what is left when an ASCII character was popped
pub popped_ascii : (xs : List ℕ) (b : ℕ) → b < 128 → IsUtf8 (xs ++ b ∷ []) → IsUtf8 xs
popped_ascii xs b low u =
    let at = get_or-append_seam xs b [] 0 in
    let size = length-append xs (b ∷ []) in
    let cut = IsCharBoundary-before_ascii (xs ++ b ∷ []) (length xs) (omega (arith, size)) (omega (arith, at, low)) in
    subst IsUtf8 (take_at xs (b ∷ []) (length xs) refl) (IsUtf8-take (xs ++ b ∷ []) (length xs) u cut)

-- all bytes of the last character were popped off ws, and before that b, its last byte; xs is left
pub record Popped (ws : List ℕ) (b : ℕ) (xs : List ℕ) (code : ℕ) : Type 0 where
  pub front : IsUtf8 xs
  pub scalar : IsScalar code
  pub parts : ws ++ b ∷ [] ≡ xs ++ encode_utf8 code

-- xs and some later bytes ended with a character, of which b is the last byte
module _ (b : ℕ) (more : 128 ≤ b) (ws : List ℕ) (u : IsUtf8 (ws ++ b ∷ [])) (xs : List ℕ) where
  -- no byte of these begins it
  pub byte_ahead : (later : List ℕ) → Later later → ws ≡ xs ++ later → 0 < length xs
  byte_ahead later low is = by (tail_of ws b more u)
    where
      by : Tail ws b → 0 < length xs
      by (tail front lead rest high rest_low few utf8 split s) =
          let same = sym is ∙ split in
          omega (arith, behind_lead xs later front lead rest high low same, ap length same, length-append xs later, length-append front (lead ∷ rest))

  -- the fourth byte from the end begins it if no later one does
  pub fourth_leads : (a d f : ℕ) → d < 192 → f < 192 → ws ≡ xs ++ a ∷ d ∷ f ∷ [] → 192 ≤ a
  fourth_leads a d f first second is = by (tail_of ws b more u) (cases_lt a 192)
    where
      by : Tail ws b → (a < 192) ⊎ (192 ≤ a) → 192 ≤ a
      by t (inr lead) = lead
      by (tail front lead rest high rest_low few utf8 split s) (inl less) =
          absurd (let behind = behind_lead xs (a ∷ d ∷ f ∷ []) front lead rest high (less, (first, (second, tt))) (sym is ∙ split) in omega (arith, behind, few))

  -- a begins it
  pub popped : (a : ℕ) (later : List ℕ) → 192 ≤ a → Later later → ws ≡ xs ++ a ∷ later → Popped ws b xs (code_of (a ∷ later) b)
  popped a later begins low is = by (tail_of ws b more u)
    where
      by : Tail ws b → Popped ws b xs (code_of (a ∷ later) b)
      by (tail front lead rest high rest_low few utf8 split s) =
          let same = sym is ∙ split in
          let n = length xs in
          let first = behind_lead (xs ++ a ∷ []) later front lead rest high low (append_assoc xs (a ∷ []) later ∙ same) in
          let last = behind_lead (front ++ lead ∷ []) rest xs a later begins rest_low (append_assoc front (lead ∷ []) rest ∙ sym same) in
          let long : length front ≡ n = omega (arith, first, last, ap length same, length-append xs (a ∷ later), length-append front (lead ∷ rest)) in
          let left : xs ≡ front = sym (take_at xs (a ∷ later) n refl) ∙ ap (take n) same ∙ take_at front (lead ∷ rest) n long in
          let own : a ∷ later ≡ lead ∷ rest = sym (drop_at xs (a ∷ later) n refl) ∙ ap (drop n) same ∙ drop_at front (lead ∷ rest) n long in
          let spells = subst (λ l. Spells (l ++ b ∷ []) (code_of l b)) (sym own) s in
          record {
            front = subst IsUtf8 (sym left) utf8;
            scalar = spells.scalar;
            parts = ap (λ l. l ++ b ∷ []) is ∙ append_assoc xs (a ∷ later) (b ∷ []) ∙ ap (λ l. xs ++ l) (sym spells.encoded);
          }

-- what the first byte of a text says that is not ASCII: how many bytes the first character has, and which it is
pub record FirstWide (bs : List ℕ) : Type 0 where
  pub second : 1 < length bs
  pub third : 224 ≤ get_or bs 0 0 → 2 < length bs
  pub fourth : 240 ≤ get_or bs 0 0 → 3 < length bs
  pub two : get_or bs 0 0 < 224 → IsFirstChar bs (get_or bs 0 0 % 32 * 64 + get_or bs 1 0 % 64) 2
  pub three : 224 ≤ get_or bs 0 0 → get_or bs 0 0 < 240 → IsFirstChar bs (get_or bs 0 0 % 16 * 4096 + (get_or bs 1 0 % 64 * 64 + get_or bs 2 0 % 64)) 3
  pub four : 240 ≤ get_or bs 0 0 → IsFirstChar bs (get_or bs 0 0 % 8 * 262144 + get_or bs 1 0 % 64 * 4096 + (get_or bs 2 0 % 64 * 64 + get_or bs 3 0 % 64)) 4

begins : (bytes rest : List ℕ) (code : ℕ) → Spells bytes code → IsUtf8 rest → 0 < length bytes → IsFirstChar (bytes ++ rest) code (length bytes)
begins bytes rest code s u some = record {
  encoded = take_at bytes rest (length bytes) refl ∙ sym s.encoded;
  rest = subst IsUtf8 (sym (drop_at bytes rest (length bytes) refl)) u;
  scalar = s.scalar;
  positive = some;
  in_bounds = omega (arith, length-append bytes rest);
}

first_cases : (rest : List ℕ) (c : ℕ) → IsScalar c → IsUtf8 rest → Wide c → FirstWide (encode_utf8 c ++ rest)
first_cases rest c is u (two a b low high value e) =
    let here = begins (a ∷ b ∷ []) rest _ (spells _ c _ is value e) u (omega arith) in
    subst (λ l. FirstWide (l ++ rest)) (sym e) (grind arith)
first_cases rest c is u (three a b d low high last mid value e) =
    let here = begins (a ∷ b ∷ d ∷ []) rest _ (spells _ c _ is value e) u (omega arith) in
    subst (λ l. FirstWide (l ++ rest)) (sym e) (grind arith)
first_cases rest c is u (four a b d f low mid last value e) =
    let here = begins (a ∷ b ∷ d ∷ f ∷ []) rest _ (spells _ c _ is value e) u (omega arith) in
    subst (λ l. FirstWide (l ++ rest)) (sym e) (grind arith)

pub first_of : (bs : List ℕ) → IsUtf8 bs → 0 < length bs → 128 ≤ get_or bs 0 0 → FirstWide bs
first_of bs ([], (all, spell)) some more = absurd (let size = ap length spell in omega (arith, size, some))
first_of bs (c ∷ cs, (all, spell)) some more =
    let both = and_parts _ _ all in
    ⊎_elim
    (λ low. absurd (let same = byte_from_char bs (encode_utf8_all cs) c (sym spell) low in omega (arith, same, low, more)))
    (λ high. subst FirstWide spell (first_cases (encode_utf8_all cs) c both.0 (cs, (both.1, refl)) (wide c both.0 high)))
    (cases_lt c 128)
