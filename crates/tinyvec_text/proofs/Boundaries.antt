-- Where the bytes of a text may be cut, and which characters stand on each side.
use Rattle.std.proofs.Common.{◌≡◌, ℕ, ◌+◌, ◌-◌, ◌<◌, ◌≤◌, slice_index, List, [], ◌∷◌, ◌++◌, length, take, drop, true, ◌&&◌, refl, sym, ap, ◌∙◌, arith, take-append-drop, length-append, length-drop, length-take-le, le_of_eq, take_all, take_at, drop_at, inl, inr, subst, append-nil, encode_utf8, IsUtf8, rules}
use Rattle.std.proofs.Math.Seq.{take-append-le, drop-append-le}
use Rattle.std.specs.Str.{chars, encode_utf8_all, all_scalars}
use Rattle.std.specs.String.Boundary.{IsSplitPoint}
use Rattle.std.proofs.CharBoundary.{IsUtf8-take-drop}
use Rattle.std.proofs.lemmas.Str.{chars-append, encodes-chars, encodes-append, IsUtf8-append, scalars-chars, IsCharBoundary-at_seam, chars_past_char, chars-nil, IsUtf8-from_ascii, encode_ascii}
use Rattle.std.proofs.lemmas.Bool.{and_parts, cases_lt}
use Rattle.std.proofs.lemmas.List.{drop-drop, drop_all, append_cancel_right}
use Rattle.tinyvec_text.specs.InlineText.{IsFirstChar}

-- the characters on each side of a cut
pub chars_cut : (bs : List ℕ) → IsUtf8 bs → (i : ℕ) → IsSplitPoint bs i → chars bs ≡ chars (take i bs) ++ chars (drop i bs)
chars_cut bs u i p =
    ap chars (sym (take-append-drop i bs)) ∙ chars-append (take i bs) (drop i bs) (IsUtf8-take-drop bs u i p).0

-- the bytes up to n, where there is a cut unless it is past the end
pub front_cut : (bs : List ℕ) → IsUtf8 bs → (n : ℕ) → (n ≤ length bs → IsSplitPoint bs n)
    → IsUtf8 (take n bs) × (chars bs ≡ chars (take n bs) ++ chars (drop n bs))
front_cut bs u n cut = elim (cases_lt (length bs) n) [
  | inl past ↦
      let all = take_all n bs (omega (arith, past)) in
      let none : drop n bs ≡ [] = drop_all n bs (omega (arith, past)) in
      (subst IsUtf8 (sym all) u, sym (append-nil (chars bs)) ∙ (λ i. chars (sym all i) ++ sym chars-nil i) ∙ ap (λ xs. chars (take n bs) ++ chars xs) (sym none))
  | inr fits ↦ ((IsUtf8-take-drop bs u n (cut fits)).0, chars_cut bs u n (cut fits))
]

-- the last characters of a text are characters
scalars_behind : (front rest : List ℕ) → all_scalars (front ++ rest) ≡ true → all_scalars rest ≡ true
scalars_behind [] rest h = h
scalars_behind (c ∷ cs) rest h = scalars_behind cs rest (and_parts _ _ h).1

-- the first byte of a text is no later byte of a character
pub first_byte : (bs : List ℕ) → IsUtf8 bs → 0 < length bs → 128 ≤ slice_index bs 0 → 192 ≤ slice_index bs 0
first_byte bs u =
    let whole : bs ≡ [] ++ encode_utf8_all (chars bs) = sym (encodes-chars bs u) in
    (IsCharBoundary-at_seam bs [] (encode_utf8_all (chars bs)) whole (chars bs, (scalars-chars bs u, refl))).1

-- bytes in the place of those from i up to j
module _ (bs : List ℕ) (u : IsUtf8 bs) (i j : ℕ) (p : IsSplitPoint bs i) (q : IsSplitPoint bs j) (put : List ℕ) (w : IsUtf8 put) where
  pub utf8_put : IsUtf8 (take i bs ++ put ++ drop j bs)
  utf8_put = IsUtf8-append (take i bs ++ put) (drop j bs) (IsUtf8-append (take i bs) put (IsUtf8-take-drop bs u i p).0 w) (IsUtf8-take-drop bs u j q).1

  pub chars_put : chars (take i bs ++ put ++ drop j bs) ≡ chars (take i bs) ++ chars put ++ chars (drop j bs)
  chars_put =
      chars-append (take i bs ++ put) (drop j bs) (IsUtf8-append (take i bs) put (IsUtf8-take-drop bs u i p).0 w)
      ∙ ap (λ cs. cs ++ chars (drop j bs)) (chars-append (take i bs) put (IsUtf8-take-drop bs u i p).0)

-- the one character of its bytes
pub chars_of_one : (bs : List ℕ) (c : ℕ) → IsUtf8 bs → bs ≡ encode_utf8 c → chars bs ≡ c ∷ []
chars_of_one bs c u e = chars_past_char bs [] c u (e ∙ sym (append-nil (encode_utf8 c))) ∙ ap (λ cs. c ∷ cs) chars-nil

pub one_ascii : (c : ℕ) → c < 128 → IsUtf8 (c ∷ []) × (chars (c ∷ []) ≡ c ∷ [])
one_ascii c low = let ascii = IsUtf8-from_ascii (c ∷ []) (search rules) in (ascii, chars_of_one (c ∷ []) c ascii (sym (encode_ascii c low)))

-- a boundary is where UTF-8 follows
split_before : (bs : List ℕ) (k : ℕ) → k ≤ length bs → IsUtf8 (drop k bs) → IsSplitPoint bs k
split_before bs k le u =
    let seam = IsCharBoundary-at_seam bs (take k bs) (drop k bs) (sym (take-append-drop k bs)) u in
    let split : IsSplitPoint bs (length (take k bs)) = (seam.0, λ _. seam.1) in
    rw (length-take-le k bs le) at split

-- what a slice from i on shows
pub from_there : (bs seen : List ℕ) (i : ℕ) → seen ≡ bs → take (length seen - i) (drop i seen) ≡ drop i bs
from_there bs seen i same = take_all _ _ (le_of_eq (length-drop i seen)) ∙ ap (drop i) same

-- the character at i, which takes n bytes
module _ (bs : List ℕ) (u : IsUtf8 bs) (i : ℕ) (p : IsSplitPoint bs i) {c n : ℕ} (here : IsFirstChar (drop i bs) c n) where
  pub parts_here : drop i bs ≡ encode_utf8 c ++ drop (i + n) bs
  parts_here = sym (take-append-drop n (drop i bs)) ∙ ap (λ xs. xs ++ drop n (drop i bs)) here.encoded ∙ ap (λ xs. encode_utf8 c ++ xs) (drop-drop n i bs)

  after_here : IsUtf8 (drop (i + n) bs)
  after_here = subst IsUtf8 (drop-drop n i bs) here.rest

  -- the next character begins there
  pub split_behind : IsSplitPoint bs (i + n)
  split_behind = split_before bs (i + n) (omega (arith, here.in_bounds, length-drop i bs, here.positive)) after_here

  pub chars_here : chars bs ≡ chars (take i bs) ++ c ∷ chars (drop (i + n) bs)
  chars_here =
      chars_cut bs u i p
      ∙ ap (λ cs. chars (take i bs) ++ cs) (chars_past_char (drop i bs) (drop (i + n) bs) c (IsUtf8-take-drop bs u i p).1 parts_here)

  -- what is left without it
  pub utf8_gap : IsUtf8 (take i bs ++ drop (i + n) bs)
  utf8_gap = IsUtf8-append (take i bs) (drop (i + n) bs) (IsUtf8-take-drop bs u i p).0 after_here

  pub chars_gap : chars (take i bs ++ drop (i + n) bs) ≡ chars (take i bs) ++ chars (drop (i + n) bs)
  chars_gap = chars-append (take i bs) (drop (i + n) bs) (IsUtf8-take-drop bs u i p).0

-- the first characters of a text are characters
scalars_ahead : (front rest : List ℕ) → all_scalars (front ++ rest) ≡ true → all_scalars front ≡ true
scalars_ahead [] rest h = refl
scalars_ahead (c ∷ cs) rest h = let both = and_parts _ _ h in ap (λ k. k && all_scalars cs) both.0 ∙ scalars_ahead cs rest both.1

some_chars : (cs bs : List ℕ) → encode_utf8_all cs ≡ bs → 0 < length bs → 0 < length cs
some_chars [] bs spell more = absurd (let none = ap length spell in omega (arith, none, more))
some_chars (c ∷ cs) bs spell more = omega arith

-- the text before the last character c
module _ (bs xs : List ℕ) (c : ℕ) (u : IsUtf8 bs) (parts : bs ≡ xs ++ encode_utf8 c) (popped : chars bs ≡ chars xs ++ c ∷ []) where
  utf8_ahead : IsUtf8 xs
  utf8_ahead =
      let one : encode_utf8_all (c ∷ []) ≡ encode_utf8 c = append-nil (encode_utf8 c) in
      let spell = sym (encodes-append (chars xs) (c ∷ []) ∙ ap (λ l. encode_utf8_all (chars xs) ++ l) one) ∙ sym (ap encode_utf8_all popped) ∙ encodes-chars bs u ∙ parts in
      (chars xs, (scalars_ahead (chars xs) (c ∷ []) (sym (ap all_scalars popped) ∙ scalars-chars bs u), append_cancel_right (encode_utf8_all (chars xs)) xs (encode_utf8 c) spell))

  -- it has each boundary that is before the end
  pub split_ahead : (i : ℕ) → IsSplitPoint bs i → i < length bs → IsSplitPoint xs i × (drop i bs ≡ drop i xs ++ encode_utf8 c)
  split_ahead i p more =
      let cut = IsUtf8-take-drop bs u i p in
      let front = chars (take i bs) in
      let back = chars (drop i bs) in
      let n = length front in
      let cs = chars xs in
      let rest = encode_utf8_all (drop n cs) in
      let both : front ++ back ≡ cs ++ c ∷ [] = sym (chars_cut bs u i p) ∙ popped in
      let some = some_chars back (drop i bs) (encodes-chars (drop i bs) cut.1) (omega (arith, length-drop i bs, more)) in
      let few : n ≤ length cs = omega (arith, ap length both, length-append front back, length-append cs (c ∷ []), some) in
      let first : front ≡ take n cs = sym (take_at front back n refl) ∙ ap (take n) both ∙ take-append-le n cs (c ∷ []) few in
      let size = length-take-le i bs p.0 in
      let joined : xs ≡ take i bs ++ rest =
      sym (encodes-chars xs utf8_ahead) ∙ ap encode_utf8_all (sym (take-append-drop n cs)) ∙ encodes-append (take n cs) (drop n cs)
      ∙ ap (λ l. encode_utf8_all l ++ rest) (sym first) ∙ ap (λ l. l ++ rest) (encodes-chars (take i bs) cut.0) in
      let inside : i ≤ length xs = omega (arith, ap length joined, length-append (take i bs) rest, size) in
      let behind : drop i xs ≡ rest = ap (drop i) joined ∙ drop_at (take i bs) rest i size in
      let scalars = scalars_behind (take n cs) (drop n cs) (ap all_scalars (take-append-drop n cs) ∙ scalars-chars xs utf8_ahead) in
      (split_before xs i inside (drop n cs, (scalars, sym behind)), ap (drop i) parts ∙ drop-append-le i xs (encode_utf8 c) inside)
