-- Examples of a text in the value, with room for four bytes, as `ab`.
use Rattle.std.proofs.Common.{◌≡◌, ℕ, List, [], ◌∷◌, ◌++◌, Ok, Result, ap, sym, refl, rules}
use Rattle.std.proofs.lemmas.Str.{chars-nil}
use Rattle.std.specs.Prelude.{All, chars}
use Rattle.tinyvec.specs.View.{in_array, on_heap, Doubled, Reserved}
use Rattle.tinyvec.specs.TinyVec.{tiny_items, tiny_spare}
use Rattle.tinyvec_text.specs.InlineText.{Text, Bytes, text_of, text_chars, text_len, IsText, char_growth, place_after, place_after_chars, place_after_texts, empty_text, TextBecomesIn, TextBecomes, TextStaysInPlace, TextGrows, TextPushes, TextReserves, TextShrinks, TextKeepsFront, TextMadeFor, IsTextTail, IsTextClone, SplitsAt}

-- these bytes, in the value
abbrev pub inline : List ℕ → Text
inline bytes = record { bytes = bytes; place = in_array 4 }

abbrev pub done : Result Unit Unit
done = Ok _

-- a `Text` in its array
pub example-Text : (inline (97 ∷ 98 ∷ [])).place ≡ in_array 4
example-Text = refl

pub example-text_of : (v : Bytes 4) → tiny_items v ≡ 97 ∷ 98 ∷ [] → (text_of v).bytes ≡ 97 ∷ 98 ∷ []
example-text_of v list = list

pub example-text_len : text_len (inline (97 ∷ 98 ∷ [])) ≡ 2
example-text_len = refl

pub example-text_chars : text_chars (inline (97 ∷ 98 ∷ [])) ≡ chars (97 ∷ 98 ∷ [])
example-text_chars = refl

pub example-IsText : (v : Bytes 4) → IsText v → All (λ b. b ≡ 0) (tiny_spare v)
example-IsText v h = h.1

pub example-SplitsAt : SplitsAt (inline (97 ∷ 98 ∷ [])) 1
example-SplitsAt = search rules

pub example-TextStaysInPlace : TextStaysInPlace (inline (97 ∷ 98 ∷ [])) (inline (97 ∷ []))
example-TextStaysInPlace = search rules

pub example-TextBecomes : TextBecomes (inline (97 ∷ 98 ∷ [])) (inline (97 ∷ [])) (97 ∷ []) (chars (97 ∷ []))
example-TextBecomes = example-TextStaysInPlace

pub example-TextBecomesIn : TextBecomesIn (inline (97 ∷ [])) (97 ∷ []) (chars (97 ∷ [])) (in_array 4)
example-TextBecomesIn = example-TextStaysInPlace

pub example-TextGrows : TextGrows Reserved 2 (inline (97 ∷ [])) (inline (97 ∷ 98 ∷ [])) (97 ∷ 98 ∷ []) (chars (97 ∷ 98 ∷ [])) done
example-TextGrows = search rules

pub example-TextPushes : (c : ℕ) (new : Text) → TextPushes c (inline (97 ∷ [])) new done → text_chars new ≡ chars (97 ∷ []) ++ c ∷ []
example-TextPushes c new h = h.ok.text

pub example-TextKeepsFront : TextKeepsFront 0 (inline (97 ∷ 98 ∷ [])) (inline [])
example-TextKeepsFront = record { bytes = refl; text = (chars (97 ∷ 98 ∷ []), ap (λ cs. cs ++ chars (97 ∷ 98 ∷ [])) (sym chars-nil)); len = refl; frame = search rules }

pub example-TextReserves : TextReserves Reserved 2 (inline (97 ∷ 98 ∷ [])) (inline (97 ∷ 98 ∷ [])) done
example-TextReserves = search rules

pub example-TextShrinks : TextShrinks 4 (inline (97 ∷ 98 ∷ [])) (inline (97 ∷ 98 ∷ []))
example-TextShrinks = search rules

pub example-TextMadeFor : TextMadeFor 4 2 (inline [])
example-TextMadeFor = search rules

pub example-IsTextTail : IsTextTail 4 1 (inline (97 ∷ 98 ∷ [])) (inline (98 ∷ []))
example-IsTextTail = search rules

pub example-IsTextClone : IsTextClone 4 (inline (97 ∷ 98 ∷ [])) (inline (97 ∷ 98 ∷ []))
example-IsTextClone = search rules

pub example-char_growth : (char_growth 98 ≡ Doubled) × (char_growth 252 ≡ Reserved)
example-char_growth = (refl, refl)

pub example-place_after : place_after {T = ℕ} (λ c. Doubled) (λ c. c ∷ []) 1 (in_array 2) (97 ∷ 98 ∷ []) ≡ on_heap 4
example-place_after = refl

pub example-place_after_chars : place_after_chars (inline (97 ∷ [])) [] ≡ in_array 4
example-place_after_chars = refl

pub example-place_after_texts : place_after_texts {T = List ℕ} (λ x. x) (inline (97 ∷ [])) ((98 ∷ 99 ∷ 98 ∷ 99 ∷ []) ∷ []) ≡ on_heap 5
example-place_after_texts = refl

pub example-empty_text : empty_text 4 ≡ inline []
example-empty_text = refl
