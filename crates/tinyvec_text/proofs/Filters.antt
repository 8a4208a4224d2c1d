-- Characters that are kept or removed, in place.
use Rattle.std.proofs.Common.{◌≡◌, ℕ, ◌+◌, ◌<◌, ◌≤◌, Bool, true, false, cond, ◌&&◌, List, [], ◌∷◌, ◌++◌, length, take, drop, get_or, set, refl, sym, ap, subst, ◌∙◌, suc, arith, IsUtf8, encode_utf8, append_assoc, append-nil, length-drop, length-set, take-append-drop}
use Rattle.std.specs.Fn.{Called}
use Rattle.std.specs.Str.{all_scalars, encode_utf8_all}
use Rattle.std.specs.Char.{IsScalar}
use Rattle.std.specs.String.{RetainsChars}
use Rattle.tinyvec_slots.specs.Filters.{IsFilteredTo}
use Rattle.tinyvec_text.specs.InlineText.{RetainsCharsTo, IsFirstChar}
use Rattle.std.proofs.lemmas.Grind.{drop_more_same}
use Rattle.tinyvec_slots.proofs.Lists.{same_at}
use Rattle.std.proofs.lemmas.List.{take_more, drop-drop, drop-set-lt, drop_all, get_or-drop}
use Rattle.std.proofs.lemmas.Str.{IsUtf8-append, IsUtf8-encode, IsUtf8-nil}
use Rattle.std.proofs.Math.Seq.{take-suc-set}
use denote.Param.Members.{Mut}

-- a copy of i bytes, which stand at `from`, down to `to` made bs of xs
pub record CopiedDown (xs bs : List ℕ) (to from i : ℕ) : Type 0 where
  pub len : length bs ≡ length xs
  pub front : take (to + i) bs ≡ take to xs ++ take i (drop from xs)
  pub rest : drop (from + i) bs ≡ drop (from + i) xs

pub copied_none : (xs : List ℕ) (to from : ℕ) → CopiedDown xs xs to from 0
copied_none xs to from = let none : to + 0 ≡ to = omega arith in record { len = refl; front = ap (λ k. take k xs) none ∙ sym (append-nil (take to xs)); rest = refl }

pub copied_more : (xs bs : List ℕ) (to from i : ℕ) → to ≤ from → from + i < length xs → CopiedDown xs bs to from i
    → CopiedDown xs (set bs (to + i) (get_or bs (from + i) 0)) to from (i + 1)
copied_more xs bs to from i down within h =
    let b = get_or bs (from + i) 0 in
    let is : b ≡ get_or (drop from xs) i 0 = rw get_or-drop (same_at bs xs (from + i) 0 h.rest) in
    let left = length-drop from xs in
    let len = h.len in
    let on : to + (i + 1) ≡ suc (to + i) = omega arith in
    let past : from + i + 1 ≡ from + (i + 1) = omega arith in record {
      len = length-set bs (to + i) b ∙ len;
      front =
          rw (on, take-suc-set bs (to + i) b (omega (arith, within, down, len)), h.front, append_assoc)
          (ap (λ l. take to xs ++ l) ((λ j. take i (drop from xs) ++ is j ∷ []) ∙ sym (take_more (drop from xs) i 0 (omega (arith, within, left)))));
      rest = rw (← past, drop-set-lt (from + i + 1) bs (to + i) b (omega (arith, down))) (drop_more_same bs xs (from + i) h.rest);
    }

module _ {F : Type 0} (g : Mut F (ℕ × Unit {0}) Bool) (first : F) (xs : List ℕ) where
  abbrev pub RunsWord : F → ℕ → Bool → F → Type 0
  RunsWord p c b q = Called g p (c, tt) b q

  -- Of the first `read` bytes of xs, the kept characters are the first `kept` bytes of bs: whatever is kept of the others, both
  -- together are what is kept of xs.
  pub record Retaining (f : F) (bs : List ℕ) (read kept : ℕ) : Type 0 where
    pub so_far : (all ks : List ℕ) (last : F) → all_scalars all ≡ true → encode_utf8_all all ≡ drop read xs
        → IsFilteredTo RunsWord f all ks last → RetainsCharsTo g first xs (take kept bs ++ encode_utf8_all ks) last
    pub front : IsUtf8 (take kept bs)
    pub same : drop read bs ≡ drop read xs
    pub rest : IsUtf8 (drop read bs)

  pub retain_none : IsUtf8 xs → Retaining first xs 0 0
  retain_none u = record {
    so_far = λ all ks last are spell chosen. record { all = all; kept = ks; are = are; spell = spell; chosen = chosen; stay = refl };
    front = IsUtf8-nil;
    same = refl;
    rest = u;
  }

  chosen_more : (f p last : F) (c : ℕ) (b : Bool) (all ks : List ℕ) → RunsWord f c b p → IsFilteredTo RunsWord p all ks last
      → IsFilteredTo RunsWord f (c ∷ all) (cond b (c ∷ ks) ks) last
  chosen_more f p last c true all ks r (bs, len, turn, is) = (true ∷ bs, ap suc len, (p, r, turn), ap (λ l. c ∷ l) is)
  chosen_more f p last c false all ks r (bs, len, turn, is) = (false ∷ bs, ap suc len, (p, r, turn), is)

  spelled : (b : Bool) (c : ℕ) (ks : List ℕ) → cond b (encode_utf8 c) [] ++ encode_utf8_all ks ≡ encode_utf8_all (cond b (c ∷ ks) ks)
  spelled true c ks = refl
  spelled false c ks = refl

  utf8_kept : (b : Bool) (c : ℕ) → IsScalar c → IsUtf8 (cond b (encode_utf8 c) [])
  utf8_kept true c is = IsUtf8-encode c is
  utf8_kept false c is = IsUtf8-nil

  pub retain_more : (f p : F) (bs ds : List ℕ) (read kept to n c : ℕ) (b : Bool) → Retaining f bs read kept → RunsWord f c b p
      → IsFirstChar (drop read bs) c n → take to ds ≡ take kept bs ++ cond b (encode_utf8 c) [] → drop (read + n) ds ≡ drop (read + n) bs → Retaining p ds (read + n) to
  retain_more f p bs ds read kept to n c b s r here put left =
      let same : drop (read + n) ds ≡ drop (read + n) xs = left ∙ sym (drop-drop n read bs) ∙ ap (drop n) s.same ∙ drop-drop n read xs in
      record {
        so_far = λ all ks last are spell chosen.
            let whole : encode_utf8_all (c ∷ all) ≡ drop read xs =
            (λ i. sym here.encoded i ++ (spell ∙ sym (drop-drop n read xs) ∙ ap (drop n) (sym s.same)) i) ∙ take-append-drop n (drop read bs) ∙ s.same in
            let joined : take kept bs ++ encode_utf8_all (cond b (c ∷ ks) ks) ≡ take to ds ++ encode_utf8_all ks =
            ap (λ l. take kept bs ++ l) (sym (spelled b c ks)) ∙ sym (append_assoc (take kept bs) (cond b (encode_utf8 c) []) (encode_utf8_all ks))
            ∙ ap (λ l. l ++ encode_utf8_all ks) (sym put) in
            subst (λ out. RetainsCharsTo g first xs out last) joined
            (s.so_far (c ∷ all) (cond b (c ∷ ks) ks) last (ap (λ k. k && all_scalars all) here.scalar ∙ are) whole (chosen_more f p last c b all ks r chosen));
        front = subst IsUtf8 (sym put) (IsUtf8-append (take kept bs) (cond b (encode_utf8 c) []) s.front (utf8_kept b c here.scalar));
        same = same;
        rest = subst IsUtf8 (drop-drop n read bs ∙ sym left) here.rest;
      }

  pub retain_all : (f : F) (bs : List ℕ) (read kept : ℕ) → length xs ≤ read → Retaining f bs read kept
      → RetainsCharsTo g first xs (take kept bs) f
  retain_all f bs read kept all s =
      subst (λ out. RetainsCharsTo g first xs out f) (append-nil (take kept bs)) (s.so_far [] [] f refl (sym (drop_all read xs all)) ([], refl, refl, refl))

  pub retains_chars : (out : List ℕ) (last : F) → RetainsCharsTo g first xs out last → RetainsChars g first xs out
  retains_chars out last r = record { all = r.all; kept = r.kept; are = r.are; spell = r.spell; chosen = (r.chosen.0, last, r.chosen.1, r.chosen.2, r.chosen.3); stay = r.stay }
