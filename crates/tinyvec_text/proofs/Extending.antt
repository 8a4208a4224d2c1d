-- Texts that are extended piece by piece.
use Rattle.std.proofs.Common.{◌≡◌, ◌∙◌, ℕ, ◌+◌, ◌<◌, ◌≤◌, inl, inr, List, [], ◌∷◌, ◌++◌, Option, Some, length, length-append, append-nil, encode_utf8, refl, sym, ap, arith}
use Rattle.std.specs.List.{flat_map}
use Rattle.std.specs.Str.{encode_utf8_all}
use Rattle.std.proofs.iter.Yields.{gives_left}
use Rattle.std.proofs.lemmas.List.{map-id}
use Rattle.std.specs.Iterator.{YieldsThen, AlwaysYields}
use Rattle.std.proofs.lemmas.Bool.{cases_lt}
use Rattle.std.proofs.lemmas.Grind.{common_steps, flat_map-append}
use Rattle.tinyvec.specs.View.{Place, Growth, Reserved, in_array, place_for}
use Rattle.tinyvec.specs.PlaceLaws.{place_same}
use Rattle.tinyvec.proofs.PlaceLemmas.{place_enough}
use Rattle.tinyvec_text.specs.InlineText.{Text, TextBecomesIn, char_growth, place_after, text_len}

-- characters, one after another
pub flat_encodes : (cs : List ℕ) → flat_map encode_utf8 cs ≡ encode_utf8_all cs
flat_encodes [] = refl
flat_encodes (c ∷ cs) = ap (λ bs. encode_utf8 c ++ bs) (flat_encodes cs)

-- the first of the pieces that are left spells no more than all of them
first_left : {S A : Type 0} (steps : S → Option A → S → Type 0) (f : A → List ℕ) (t u : S) (x : A) (left : List A) → AlwaysYields steps (λ y. y) t left
    → steps t (Some x) u → length (f x) ≤ length (flat_map f left)
first_left steps f t u x [] always step = absurd (always x u step)
first_left steps f t u x (y ∷ ys) always step = omega (arith, ap (λ z. length (f z)) (always.1 x u step).0, length-append (f y) (flat_map f ys))

-- no place gets smaller
no_smaller : (how : Growth) (need : ℕ) (p : Place) → p.capacity ≤ (place_for how need p).capacity
no_smaller how need p = elim (cases_lt p.capacity need) [
  | inl more ↦ omega (arith, more, place_enough how need p)
  | inr fits ↦ let is = ap (λ q. q.capacity) (place_same how need p fits) in omega (arith, is)
]

module _ {T : Type 0} (how : T → Growth) (spell : T → List ℕ) where
  after_more : (n m : ℕ) (p : Place) (xs : List T) (x : T) → m ≡ n + length (flat_map spell xs) + length (spell x)
      → place_after how spell n p (xs ++ x ∷ []) ≡ place_for (how x) m (place_after how spell n p xs)
  after_more n m p [] x is = ap (λ k. place_for (how x) k p) (omega (arith, is))
  after_more n m p (y ∷ ys) x is =
      after_more (n + length (spell y)) m (place_for (how y) (n + length (spell y)) p) ys x (omega (arith, is, length-append (spell y) (flat_map spell ys)))

  after_no_less : (n : ℕ) (p : Place) (xs : List T) → p.capacity ≤ (place_after how spell n p xs).capacity
  after_no_less n p [] = omega arith
  after_no_less n p (x ∷ xs) =
      let more = n + length (spell x) in
      omega (arith, no_smaller (how x) more p, after_no_less more (place_for (how x) more p) xs)

-- How the pieces of an iterator are pushed: how each makes room, and what they spell.
pub record Pieces (T : Type 0) : Type 0 where
  pub how : T → Growth
  pub spell : T → List ℕ
  pub whole : List T → List ℕ
  pub flat : (xs : List T) → flat_map spell xs ≡ whole xs

-- characters, each by `push`
abbrev pub by_chars : Pieces ℕ
by_chars = record { how = char_growth; spell = encode_utf8; whole = encode_utf8_all; flat = flat_encodes }

-- texts, each by `push_str`
abbrev pub by_texts : {T : Type 0} → (T → List ℕ) → Pieces T
by_texts spell = record { how = λ _. Reserved; spell = spell; whole = flat_map spell; flat = λ xs. refl }

module _ {T : Type 0} (p : Pieces T) where
  -- `old` became `new` as these pieces were pushed one by one
  pub record Pushed (old new : Text) (xs : List T) : Type 0 where
    pub bytes : new.bytes ≡ old.bytes ++ p.whole xs
    pub place : new.place ≡ place_after p.how p.spell (text_len old) old.place xs

  whole_more : (xs : List T) (x : T) → p.whole (xs ++ x ∷ []) ≡ p.whole xs ++ p.spell x
  whole_more xs x = sym (p.flat (xs ++ x ∷ [])) ∙ flat_map-append p.spell xs (x ∷ []) ∙ (λ i. p.flat xs i ++ append-nil (p.spell x) i)

  pub pushed_more : {old mid new : Text} {xs : List T} {cs : List ℕ} (x : T) → Pushed old mid xs
      → TextBecomesIn new (mid.bytes ++ p.spell x) cs (place_for (p.how x) (text_len mid + length (p.spell x)) mid.place) → Pushed old new (xs ++ x ∷ [])
  pushed_more {old} {mid} {new} {xs} x h put =
      let n = length (p.spell x) in
      let need : text_len mid + n ≡ text_len old + length (flat_map p.spell xs) + n = grind (arith, common_steps, h.bytes, p.flat xs) in record {
        bytes = grind (arith, common_steps, whole_more xs x, h.bytes, put.bytes);
        place = put.place ∙ ap (place_for (p.how x) (text_len mid + n)) h.place ∙ sym (after_more p.how p.spell (text_len old) (text_len mid + n) old.place xs x need);
      }

  -- a piece was refused, and the text was left as it was
  pub refused_at : {old mid new : Text} {xs : List T} (x : T) → Pushed old mid xs → new ≡ mid → mid.place.capacity < text_len mid + length (p.spell x)
      → (new.bytes ≡ old.bytes ++ p.whole xs) × (new.place.capacity < text_len new + length (p.spell x))
      × (new.place ≡ place_after p.how p.spell (text_len old) old.place xs)
  refused_at x h same full = rw same (h.bytes, full, h.place)

  -- no piece is refused if all pieces that come are known, and fit
  pub all_fit : {S : Type 0} (steps : S → Option T → S → Type 0) (s u : S) {old mid : Text} {xs : List T} (x : T) (all : List T) → Pushed old mid xs
      → AlwaysYields steps (λ y. y) s all → YieldsThen steps s xs (Some x) u → text_len old + length (p.whole all) ≤ old.place.capacity
      → text_len mid + length (p.spell x) ≤ mid.place.capacity
  all_fit steps s u {old} {mid} {xs} x all h always run enough =
      let left = gives_left steps (λ y. y) xs all s run.0 always run.1 in
      let parts = ap (flat_map p.spell) (left.1 ∙ ap (λ l. l ++ left.0) (map-id xs)) ∙ flat_map-append p.spell xs left.0 in
      let first = first_left steps p.spell run.0 u x left.0 left.2 run.2 in
      let room = after_no_less p.how p.spell (text_len old) old.place xs in
      grind (arith, common_steps, first, parts, p.flat xs, p.flat all, h.bytes, ap (λ q. q.capacity) h.place, room)

  -- what an empty text in its array was extended to
  module _ (slots : ℕ) {old new : Text} (none : old.bytes ≡ []) (at : old.place ≡ in_array slots) where
    pub gathered : (xs : List T) → (new.bytes ≡ old.bytes ++ p.whole xs) × (new.place ≡ place_after p.how p.spell (text_len old) old.place xs)
        → (new.bytes ≡ p.whole xs) × (new.place ≡ place_after p.how p.spell 0 (in_array slots) xs)
    gathered xs told = (cc, cc)

    pub lacked : (xs : List T) (x : T) → (new.bytes ≡ old.bytes ++ p.whole xs) × (new.place.capacity < text_len new + length (p.spell x))
        × (new.place ≡ place_after p.how p.spell (text_len old) old.place xs)
        → (slots < length (p.whole xs) + length (p.spell x))
        × ((place_after p.how p.spell 0 (in_array slots) xs).capacity < length (p.whole xs) + length (p.spell x))
    lacked xs x told =
        let is = gathered xs (told.0, told.2) in
        let full : (place_after p.how p.spell 0 (in_array slots) xs).capacity < length (p.whole xs) + length (p.spell x) = rw (is.0, is.1) at told.1 in
        (omega (arith, full, after_no_less p.how p.spell 0 (in_array slots) xs), full)
