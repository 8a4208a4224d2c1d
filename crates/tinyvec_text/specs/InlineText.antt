-- What a contract sees of an `InlineText`: its bytes, and where they are.
use Rattle.std.specs.Prelude.{◌≡◌, ℕ, ◌+◌, ◌<◌, ◌≤◌, ◌↔◌, nat_le, if◌then◌else◌, max, min, List, [], ◌∷◌, ◌++◌, length, take, drop, All, Bool, true, false, IsTrue, Result, IsOk, OnOk, OnErr, chars, encode_utf8, encode_utf8_all, IsUtf8}
use Rattle.std.specs.Char.{IsScalar}
use Rattle.std.specs.Fn.{Called}
use Rattle.std.specs.Str.{all_scalars}
use Rattle.std.specs.String.Boundary.{IsSplitPoint}
use Rattle.tinyvec_slots.specs.Filters.{IsFilteredTo}
use denote.Param.Members.{Mut}
use Rattle.tinyvec_array.specs.declared.bound.UpTo.{UpTo}
use Rattle.tinyvec.specs.View.{Place, in_array, Growth, Doubled, Reserved, place_for}
use Rattle.tinyvec.specs.TinyVec.{tiny_items, tiny_spare, tiny_view}
use Rattle.tinyvec.specs.declared.tiny_vec.TinyVec.{TinyVec}

-- the UTF-8 bytes of the text, and their place
pub record Text : Type 0 where
  pub bytes : List ℕ
  pub place : Place

-- the list of a text in an array of n bytes
abbrev pub Bytes : ℕ → Type 0
Bytes n = TinyVec (List ℕ) ℕ (UpTo n)

-- a list of bytes as a text
abbrev pub text_of : {n : ℕ} → Bytes n → Text
text_of v = record { bytes = tiny_items v; place = (tiny_view v).place }

-- what holds of the list of each text: its bytes are UTF-8, and its spare slots are zero
abbrev pub IsText : {n : ℕ} → Bytes n → Type 0
IsText v = ∥ IsUtf8 (tiny_items v) ∥₁ × All (λ b. b ≡ 0) (tiny_spare v)

-- the text: the characters that the bytes spell
abbrev pub text_chars : Text → List ℕ
text_chars t = chars t.bytes

-- a character of the text begins at the byte i, or the text ends there
pub record SplitsAt (t : Text) (i : ℕ) : Type 0 where
  pub is : IsSplitPoint t.bytes i

-- `t.len()`
abbrev pub text_len : Text → ℕ
text_len t = length t.bytes

-- how `push` of the character makes room: one that is ASCII as an item of a list, another as `push_str`
abbrev pub char_growth : ℕ → Growth
char_growth c = if nat_le 128 c then Reserved else Doubled

-- where a text of n bytes is after these pieces were pushed one by one, whose bytes and growths `spell` and `how` say
abbrev pub place_after : {T : Type 0} → (how : T → Growth) → (spell : T → List ℕ) → (n : ℕ) → Place → List T → Place
place_after how spell n p [] = p
place_after how spell n p (x ∷ xs) = place_after how spell (n + length (spell x)) (place_for (how x) (n + length (spell x)) p) xs

-- where the text is after these characters, each by `push`
abbrev pub place_after_chars : Text → List ℕ → Place
place_after_chars t cs = place_after char_growth encode_utf8 (text_len t) t.place cs

-- where the text is after the texts that `spell` shows, each by `push_str`
abbrev pub place_after_texts : {T : Type 0} → (spell : T → List ℕ) → Text → List T → Place
place_after_texts spell t xs = place_after (λ _. Reserved) spell (text_len t) t.place xs

-- an empty text, in an array of that many bytes
abbrev pub empty_text : ℕ → Text
empty_text slots = record { bytes = []; place = in_array slots }

-- a call left a text in the place p, with these bytes, which spell these characters
pub record TextBecomesIn (new : Text) (bs cs : List ℕ) (p : Place) : Type 0 where
  pub bytes : new.bytes ≡ bs
  pub text : text_chars new ≡ cs
  pub place : new.place ≡ p
  pub fits : text_len new ≤ new.place.capacity

-- a call that allocates nothing did so: place and capacity are unchanged
abbrev pub TextBecomes : (old new : Text) → (bs cs : List ℕ) → Type 0
TextBecomes old new bs cs = TextBecomesIn new bs cs old.place

-- the same of any text
abbrev pub TextStaysInPlace : Text → Text → Type 0
TextStaysInPlace old new = TextBecomes old new new.bytes (text_chars new)

-- A call that needs room for `need` bytes took `old` to `new`, with this result: the bytes bs, which spell the characters cs. It allocates
-- only if there is no such room. A failure changes nothing.
pub record TextGrows {X E : Type 0} (how : Growth) (need : ℕ) (old new : Text) (bs cs : List ℕ) (result : Result X E) : Type 0 where
  pub ok : OnOk result (TextBecomesIn new bs cs (place_for how need old.place))
  pub refused : OnErr result (new ≡ old)
  pub succeeds : need ≤ old.place.capacity → IsOk result

-- a call that puts the character at the end took `old` to `new`, with this result
abbrev pub TextPushes : {X E : Type 0} → (c : ℕ) → (old new : Text) → Result X E → Type 0
TextPushes c old new result =
    TextGrows (char_growth c) (text_len old + length (encode_utf8 c)) old new (old.bytes ++ encode_utf8 c) (text_chars old ++ c ∷ []) result

-- a call that makes room for n more bytes took `old` to `new`, with this result
abbrev pub TextReserves : {X E : Type 0} → Growth → (n : ℕ) → (old new : Text) → Result X E → Type 0
TextReserves how n old new result = TextGrows how (text_len old + n) old new old.bytes (text_chars old) result

-- a call that shrinks the allocation took `old` to `new`: the text is inline if it fits the array, and an inline one is unchanged
pub record TextShrinks (slots : ℕ) (old new : Text) : Type 0 where
  pub bytes : new.bytes ≡ old.bytes
  pub place : IsTrue new.place.inline ↔ (text_len old ≤ slots)
  pub capacity : new.place.capacity ≤ max old.place.capacity slots
  pub inline_capacity : IsTrue new.place.inline → new.place.capacity ≡ slots
  pub fits : text_len new ≤ new.place.capacity
  pub kept : IsTrue old.place.inline → new ≡ old

-- a call that allocates nothing, and leaves the characters whose bytes are the first n, or all if there are no more
pub record TextKeepsFront (n : ℕ) (old new : Text) : Type 0 where
  pub bytes : new.bytes ≡ take n old.bytes
  pub text : (rest : List ℕ) × (text_chars old ≡ text_chars new ++ rest)
  pub len : text_len new ≡ min n (text_len old)
  pub frame : TextStaysInPlace old new

-- a text was made with room for `need` bytes, inline if they fit the array
pub record TextMadeFor (slots need : ℕ) (t : Text) : Type 0 where
  pub place : IsTrue t.place.inline ↔ (need ≤ slots)
  pub exact : t.place.capacity ≡ max need slots

-- the text has the bytes of `old` from i on, in the same kind of place; on the heap its room is its length
pub record IsTextTail (slots i : ℕ) (old t : Text) : Type 0 where
  pub bytes : t.bytes ≡ drop i old.bytes
  pub place : t.place.inline ≡ old.place.inline
  pub capacity : t.place.inline ≡ false → t.place.capacity ≡ text_len t
  pub inline_capacity : IsTrue t.place.inline → old.place.capacity ≡ slots → t.place.capacity ≡ slots
  pub fits : text_len t ≤ t.place.capacity

-- a clone of the text: all its bytes, in the same kind of place; on the heap its room is its length
abbrev pub IsTextClone : (slots : ℕ) → Text → Text → Type 0
IsTextClone slots = IsTextTail slots 0

-- `RetainsChars` of std, with what the last call of f left: it was asked about each character once, in order
pub record RetainsCharsTo {F : Type 0} (g : Mut F (ℕ × Unit {0}) Bool) (f : F) (bs out : List ℕ) (last : F) : Type 0 where
  pub all : List ℕ
  pub kept : List ℕ
  pub are : all_scalars all ≡ true
  pub spell : encode_utf8_all all ≡ bs
  pub chosen : IsFilteredTo (λ p c b q. Called g p (c, tt) b q) f all kept last
  pub stay : out ≡ encode_utf8_all kept

-- the bytes begin with those of c, which are n, and UTF-8 follows
pub record IsFirstChar (bytes : List ℕ) (c n : ℕ) : Type 0 where
  pub encoded : take n bytes ≡ encode_utf8 c
  pub rest : IsUtf8 (drop n bytes)
  pub scalar : IsScalar c
  pub positive : 0 < n
  pub in_bounds : n ≤ length bytes
