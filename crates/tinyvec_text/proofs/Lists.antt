-- Lists of bytes as texts.
use Rattle.std.proofs.Common.{chars, ◌≡◌, ℕ, ◌+◌, ◌-◌, ◌<◌, ◌≤◌, Ok, Err, List, All, ◌++◌, IsUtf8, IsTrue, subst, sym, refl, ◌∙◌, arith, ap, length, take, drop, length-take-le, length-drop}
use Rattle.std.specs.Prelude.{false, Result, IsOk, OnOk, OnErr, slice_range}
use Rattle.std.proofs.lemmas.Bool.{false≢true, le-leb, lt-leb}
use Rattle.std.proofs.lemmas.Result.{on_ok_weaker, on_err_weaker}
use Rattle.std.proofs.lemmas.List.Elements.{All-append, All-drop}
use Rattle.std.proofs.lemmas.Str.{IsUtf8-had}
use Rattle.std.proofs.CharBoundary.{IsUtf8-three_parts}
use Rattle.std.specs.declared.ops.Bound.{Bound}
use Rattle.tinyvec_slots.specs.Ranges.{IsRangeOf, range_start, range_end, items_before, items_within, items_after}
use Rattle.tinyvec_slots.specs.Slots.{AreDefaults}
use Rattle.tinyvec_slots.proofs.Lists.{length-replaced}
use Rattle.tinyvec_array.proofs.Named.{array_slots}
use Rattle.tinyvec.specs.SpliceLaws.{frame_becomes}
use Rattle.tinyvec.specs.Lends.{tiny_with_items}
use Rattle.tinyvec.specs.TinyVec.{tiny_items, tiny_len, tiny_capacity, tiny_spare, is_inline, IsInline, tiny_view}
use Rattle.tinyvec.specs.View.{TinyView, SpareRule, SameFrame, Becomes, BecomesIn, Growth, Doubled, Reserved, place_for}
use Rattle.tinyvec.proofs.PlaceLemmas.{place_same, was_inline}
use Rattle.tinyvec.specs.declared.tiny_vec.TinyVec.TheVariants.{Inline, Heap}
use Rattle.std.specs.String.Boundary.{IsSplitPoint}
use Rattle.tinyvec.proofs.TinyLemmas.{tiny_items-with, tiny_framed-with, on_ok_two}
use Rattle.tinyvec_text.specs.InlineText.{Text, Bytes, IsText, SplitsAt, text_of, text_len, TextBecomesIn, TextBecomes, TextStaysInPlace, TextGrows, char_growth}

-- the range of bs with these ends, which is that of xs, goes from p up to q, and both are boundaries
pub record CutsAt (bs xs : List ℕ) (start end : Bound ℕ) (p q : ℕ) : Type 0 where
  pub order : p ≤ q
  pub first : IsSplitPoint bs p
  pub last : IsSplitPoint bs q
  pub utf8 : IsUtf8 (take p bs) × IsUtf8 (slice_range bs p q) × IsUtf8 (drop q bs)
  pub front : take p bs ≡ items_before xs start
  pub part : slice_range bs p q ≡ items_within xs start end
  pub back : drop q bs ≡ items_after xs end

pub text_utf8 : {k : ℕ} (v : Bytes k) → IsText v → IsUtf8 (tiny_items v)
text_utf8 v is = IsUtf8-had _ is.0

-- where the text may be cut, its list may
pub text_cut : {k : ℕ} (v : Bytes k) (t : Text) → text_of v ≡ t → (i : ℕ) → SplitsAt t i → IsSplitPoint (tiny_items v) i
text_cut v t same i cut = subst (λ (u : Text). IsSplitPoint u.bytes i) (sym same) cut.is

-- what a call leaves in the list of a text: spare slots that it vacates are zero
zero_spare : {k : ℕ} (old new : Bytes k) → (IsInline new → IsInline old) → SpareRule (λ b. b ≡ 0) (tiny_view old) (tiny_view new)
    → All (λ b. b ≡ 0) (tiny_spare old) → All (λ b. b ≡ 0) (tiny_spare new)
zero_spare (Inline v a) (Inline w b) place rule zero =
    let h = rule in
    subst (All (λ b. b ≡ 0)) (sym h.2) (All-append (λ b. b ≡ 0) h.0 _ h.1.1 (All-drop (λ b. b ≡ 0) _ _ zero))
zero_spare old (Heap w) place rule zero = λ k d few. absurd (omega (arith, few))
zero_spare (Heap v) (Inline w b) place rule zero = absurd (let no = place refl in cc)

-- a call that allocates nothing leaves the place
still_inline : {old new : TinyView ℕ} {bs : List ℕ} → Becomes (λ b. b ≡ 0) old new bs → IsTrue new.place.inline → IsTrue old.place.inline
still_inline h i = sym (ap (λ p. p.inline) h.place) ∙ i

pub zero_becomes : {k : ℕ} (old new : Bytes k) (bs : List ℕ) → Becomes (λ b. b ≡ 0) (tiny_view old) (tiny_view new) bs
    → All (λ b. b ≡ 0) (tiny_spare old) → All (λ b. b ≡ 0) (tiny_spare new)
zero_becomes old new bs made = zero_spare old new (still_inline made) made.slot_rule

text_kept : {k : ℕ} (old new : Bytes k) → (IsInline new → IsInline old) → SpareRule (λ b. b ≡ 0) (tiny_view old) (tiny_view new)
    → IsText old → IsUtf8 (tiny_items new) → IsText new
text_kept old new place rule h utf8 = (∣ utf8 ∣₁, zero_spare old new place rule h.1)

pub text_stays : {k : ℕ} (old new : Bytes k) (bs : List ℕ) → Becomes (λ b. b ≡ 0) (tiny_view old) (tiny_view new) bs → IsText old → IsUtf8 bs → IsText new
text_stays old new bs made is utf8 = text_kept old new (still_inline made) made.slot_rule is (subst IsUtf8 (sym made.items) utf8)

-- what such a call does to the text
pub text_becomes : {k : ℕ} (old new : Bytes k) (t : Text) (bs cs : List ℕ) → text_of old ≡ t → Becomes (λ b. b ≡ 0) (tiny_view old) (tiny_view new) bs → chars bs ≡ cs
    → TextBecomes t (text_of new) bs cs
text_becomes old new t bs cs same made spelled = record {
  bytes = made.items;
  text = ap chars made.items ∙ spelled;
  place = made.place ∙ ap (λ (u : Text). u.place) same;
  fits = made.fits;
}

-- A call that needs room for `need` bytes took `old` to `new`, with this result: the list is xs. A failure changes nothing.
pub record ListGrows {X E : Type 0} {n : ℕ} (how : Growth) (need : ℕ) (old new : Bytes n) (xs : List ℕ) (result : Result X E) : Type 0 where
  pub ok : OnOk result (BecomesIn (λ b. b ≡ 0) (tiny_view old) (tiny_view new) xs (place_for how need (tiny_view old).place))
  pub refused : OnErr result (tiny_view new ≡ tiny_view old)
  pub succeeds : need ≤ tiny_capacity old → IsOk result

-- a call that had room
pub text_roomy : {X E : Type 0} (how : Growth) (need : ℕ) (old new : Text) (bs cs : List ℕ) (r : Result X E) → TextGrows how need old new bs cs r
    → need ≤ old.place.capacity → TextBecomes old new bs cs
text_roomy how need old new bs cs (Ok x) h room = subst (TextBecomesIn new bs cs) (place_same how need old.place room) h.ok
text_roomy how need old new bs cs (Err e) h room = absurd (false≢true (h.succeeds room))

-- `extend_from_slice_copy` of a list
pub list_extended : {k : ℕ} {X E : Type 0} (old new : Bytes k) (put : List ℕ) (r : Result X E)
    → OnOk r (BecomesIn (λ b. b ≡ 0) (tiny_view old) (tiny_view new) (tiny_items old ++ put) (place_for Reserved (tiny_len old + length put) (tiny_view old).place))
    → OnErr r (tiny_view new ≡ tiny_view old) → (tiny_len old + length put ≤ tiny_capacity old → IsOk r)
    → ListGrows Reserved (tiny_len old + length put) old new (tiny_items old ++ put) r
list_extended old new put r ok refused fits = record { ok = ok; refused = refused; succeeds = fits }

-- `replace_range` of a list
pub list_replaced : {k : ℕ} {X E : Type 0} (old new : Bytes k) (start end : Bound ℕ) (put : List ℕ) (r : Result X E)
    → IsRangeOf (tiny_items old) start end → OnOk r (tiny_items new ≡ items_before (tiny_items old) start ++ put ++ items_after (tiny_items old) end)
    → OnOk r (BecomesIn (λ b. b ≡ 0) (tiny_view old) (tiny_view new) (tiny_items new) (place_for Reserved (length (tiny_items new)) (tiny_view old).place))
    → (length (items_before (tiny_items old) start) + length put + length (items_after (tiny_items old) end) ≤ tiny_capacity old → IsOk r)
    → OnErr r (tiny_view new ≡ tiny_view old) → (need : ℕ) → tiny_len old - (range_end end (tiny_len old) - range_start start) + length put ≡ need
    → ListGrows Reserved need old new (items_before (tiny_items old) start ++ put ++ items_after (tiny_items old) end) r
list_replaced old new start end put r range items ok fits refused need is =
    let bs = tiny_items old in
    let xs = items_before bs start ++ put ++ items_after bs end in
    let long : length xs ≡ need = length-replaced _ _ put bs range.0 range.1 ∙ is in
    let front = length-take-le (range_start start) bs (omega (arith, range.0, range.1)) in
    let back = length-drop (range_end end (tiny_len old)) bs in
    record {
      ok = on_ok_two r items ok (λ e made. subst (λ n. BecomesIn (λ b. b ≡ 0) (tiny_view old) (tiny_view new) xs (place_for Reserved n (tiny_view old).place)) long
          (subst (λ ys. BecomesIn (λ b. b ≡ 0) (tiny_view old) (tiny_view new) ys (place_for Reserved (length ys) (tiny_view old).place)) e made));
      refused = refused;
      succeeds = λ room. fits (omega (arith, room, is, front, back, range.0, range.1));
    }

pub text_unmoved : {k : ℕ} (old new : Bytes k) (t : Text) (bs : List ℕ) → text_of old ≡ t → Becomes (λ b. b ≡ 0) (tiny_view old) (tiny_view new) bs → TextStaysInPlace t (text_of new)
text_unmoved old new t bs same made = record { bytes = refl; text = refl; place = made.place ∙ ap (λ (u : Text). u.place) same; fits = made.fits }

pub text_same : {k : ℕ} (old new : Bytes k) → tiny_view new ≡ tiny_view old → IsText old → IsText new
text_same old new h = subst (λ (v : TinyView ℕ). ∥ IsUtf8 v.items ∥₁ × All (λ b. b ≡ 0) v.spare) (sym h)

-- how a character makes room
pub wide_growth : (c : ℕ) → 128 ≤ c → char_growth c ≡ Reserved
wide_growth c h = rw (le-leb 128 c h) refl

pub ascii_growth : (c : ℕ) → c < 128 → char_growth c ≡ Doubled
ascii_growth c h = rw (lt-leb 128 c h) refl

-- a call that had room, or made it
module _ {k : ℕ} (how : Growth) (need : ℕ) (old new : Bytes k) (bs : List ℕ) where
  pub text_grown : BecomesIn (λ b. b ≡ 0) (tiny_view old) (tiny_view new) bs (place_for how need (tiny_view old).place) → IsText old → IsUtf8 bs → IsText new
  text_grown put is utf8 =
      text_kept old new (λ i. (was_inline how need (tiny_view old).place (ap (λ p. p.inline) (sym put.place) ∙ i)).0) put.slot_rule is (subst IsUtf8 (sym put.items) utf8)

  -- whatever its result
  pub text_after : {X E : Type 0} (r : Result X E) → ListGrows how need old new bs r → IsText old → IsUtf8 bs → IsText new
  text_after (Ok x) h is utf8 = text_grown h.ok is utf8
  text_after (Err e) h is utf8 = text_same old new h.refused is

  -- and what it does to the text
  pub text_grows : {X E : Type 0} (cs : List ℕ) (r : Result X E) → ListGrows how need old new bs r → chars bs ≡ cs → TextGrows how need (text_of old) (text_of new) bs cs r
  text_grows cs r h spelled = record {
    ok = on_ok_weaker r (λ put. record { bytes = put.items; text = ap chars put.items ∙ spelled; place = put.place; fits = put.fits }) h.ok;
    refused = on_err_weaker r (ap (λ (v : TinyView ℕ). record { bytes = v.items; place = v.place })) h.refused;
    succeeds = h.succeeds;
  }

-- a list that was made of a text's bytes
pub text_made : {k : ℕ} (n : ℕ) (v : Bytes k) → IsUtf8 (tiny_items v) → (IsInline v → AreDefaults (λ b. b ≡ 0) n (tiny_spare v)) → IsText v
text_made n (Inline v a) utf8 spare = (∣ utf8 ∣₁, (spare refl).1)
text_made n (Heap v) utf8 spare = (∣ utf8 ∣₁, λ k d few. absurd (omega (arith, few)))

-- a text that was moved into its array, or whose allocation was shrunk
pub text_shrunk : {k : ℕ} (n : ℕ) (old new : Bytes k) → IsText old → tiny_items new ≡ tiny_items old → (IsInline old → new ≡ old)
    → (is_inline old ≡ false → IsInline new → AreDefaults (λ b. b ≡ 0) n (tiny_spare new)) → IsText new
text_shrunk n (Inline v a) new is items kept spare = subst IsText (sym (kept refl)) is
text_shrunk {k} n (Heap v) new is items kept spare = text_made n new (subst IsUtf8 (sym items) (text_utf8 {k = k} (Heap v) is)) (spare refl)

-- a range of the text is one of its list
pub text_range_of : {k : ℕ} (v : Bytes k) (t : Text) → text_of v ≡ t → (start end : Bound ℕ) → range_start start ≤ range_end end (text_len t)
    → SplitsAt t (range_end end (text_len t)) → IsRangeOf (tiny_items v) start end
text_range_of v t same start end order last =
    subst (λ (u : Text). IsRangeOf u.bytes start end) (sym same) (order, last.is.0)

-- the range of a text, which was resolved to p and q
pub text_range : {k : ℕ} (v : Bytes k) (t : Text) → text_of v ≡ t → IsText v → (start end : Bound ℕ) → range_start start ≤ range_end end (text_len t)
    → SplitsAt t (range_start start) → SplitsAt t (range_end end (text_len t))
    → (p q n : ℕ) → p ≡ range_start start → q ≡ range_end end n → n ≡ tiny_len v → CutsAt (tiny_items v) t.bytes start end p q
text_range v t same is start end order first last p q n starts ends count =
    let at : q ≡ range_end end (text_len t) = ends ∙ ap (range_end end) (count ∙ ap text_len same) in
    let a = text_cut v t same (range_start start) first in
    let b = text_cut v t same (range_end end (text_len t)) last in
    let bytes = ap (λ (u : Text). u.bytes) same in
    rw (starts, at) (record {
      order = order;
      first = a;
      last = b;
      utf8 = IsUtf8-three_parts (tiny_items v) (text_utf8 v is) _ _ order a b;
      front = λ i. take (range_start start) (bytes i);
      part = λ i. slice_range (bytes i) (range_start start) (range_end end (text_len t));
      back = λ i. drop (range_end end (text_len t)) (bytes i);
    })

-- a write through the slice of the bytes leaves what the slice shows, and spare slots, place and room
module _ (slots : ℕ) (old : Bytes slots) (ws : List ℕ) (long : length ws ≡ tiny_len old) where
  abbrev pub written : Bytes slots
  written = tiny_with_items (array_slots slots) old ws

  pub bytes_written : tiny_items written ≡ ws
  bytes_written = tiny_items-with (array_slots slots) old ws long

  pub frame_written : SameFrame (tiny_view old) (tiny_view written)
  frame_written = tiny_framed-with (array_slots slots) old ws long

  -- a call after it left what `kept` says of the bytes
  pub overwritten : (new : Bytes slots) (kept : List ℕ → List ℕ) → Becomes (λ b. b ≡ 0) (tiny_view written) (tiny_view new) (kept (tiny_items written))
      → Becomes (λ b. b ≡ 0) (tiny_view old) (tiny_view new) (kept ws)
  overwritten new kept made =
      subst (Becomes (λ b. b ≡ 0) (tiny_view old) (tiny_view new)) (ap kept bytes_written)
      (frame_becomes (λ b. b ≡ 0) (tiny_view old) (tiny_view written) (tiny_view new) (kept (tiny_items written)) frame_written made)
