-- Slots whose items moved away part by part, and hold defaults now.
use Rattle.std.proofs.Common.{◌≡◌, ℕ, ◌+◌, ◌-◌, ◌≤◌, List, [], ◌++◌, length, take, drop, refl, ap, ◌∙◌, append_assoc, append-nil, arith, length-append, length-drop, take_at, drop_at, take-append-drop, drop-drop}
use Rattle.std.proofs.lemmas.List.{drop_all, take_rest}
use Rattle.std.proofs.lemmas.List.Elements.{All-append, All-nil, All-same}
use Rattle.std.proofs.Math.Seq.{take-add}
use Rattle.tinyvec_slots.specs.Slots.{AreDefaults}
use Rattle.tinyvec_slots.proofs.CloneLemmas.{written_part}
use borrow.Rule.Slice.PartMut.{post_of}

-- `old` with defaults in its first n slots
abbrev pub Emptied : {X : Type 0} → (X → Type 0) → ℕ → List X → List X → Type 0
Emptied {X} D n old new = (ds : List X) × AreDefaults D n ds × (new ≡ ds ++ drop n old)

module _ {X : Type 0} (D : X → Type 0) where
  -- none yet
  pub emptied_none : (old : List X) → Emptied D 0 old old
  emptied_none old = ([], (refl, All-nil D), refl)

  -- there are as many slots
  pub emptied_len : (old new : List X) (n : ℕ) → n ≤ length old → Emptied D n old new → length new ≡ length old
  emptied_len old new n le h = rw (h.2, length-append, length-drop, h.1.0) (omega arith)

module _ {X : Type 0} (D : X → Type 0) (old now : List X) (a : ℕ) (within : a ≤ length old) (before : Emptied D a old now) where
  abbrev rest : List X
  rest = take (length now - a) (drop a now)

  same_len : length now ≡ length old
  same_len = emptied_len D old now a within before

  -- the other items are there
  rest_same : rest ≡ drop a old
  rest_same = take_rest now a ∙ rw before.2 (drop_at before.0 (drop a old) a before.1.0)

  pub rest_len : length rest ≡ length now - a
  rest_len = rw (rest_same, length-drop, same_len)

  -- k items more were moved after the first ones
  pub moved_further : (front mid next : List X) (k : ℕ) → mid ≡ front ++ take a old → next ≡ mid ++ take k rest → next ≡ front ++ take (a + k) old
  moved_further front mid next k was is = rw (is, rest_same, was, append_assoc, take-add a k old)

  -- all others were
  pub moved_all : (front mid next : List X) → mid ≡ front ++ take a old → next ≡ mid ++ rest → next ≡ front ++ old
  moved_all front mid next was is = rw (is, rest_same, was, append_assoc, take-append-drop)

  -- n slots more were emptied
  pub emptied_further : (part : List X) (n : ℕ) → n ≤ length now - a → Emptied D n rest part
      → Emptied D (a + n) old (take a now ++ (part ++ post_of a (length now - a) now))
  emptied_further part n fits more =
      let ds : List X = before.0 in
      let es : List X = more.0 in
      let end : drop (a + n) (ds ++ drop a old) ≡ drop (a + n) old = rw (← drop-drop n a (ds ++ drop a old), drop_at ds (drop a old) a before.1.0, drop-drop) in (
        ds ++ es,
        (rw (length-append, before.1.0, more.1.0), All-append D ds es before.1.1 more.1.1),
        written_part now (ds ++ drop a old) es part a (length now - a) n before.2 more.2 fits (omega (arith, within, same_len))
            ∙ rw (take_at ds (drop a old) a before.1.0, end),
      )

  -- all others were
  pub emptied_all : (part : List X) → AreDefaults D (length rest) part
      → AreDefaults D (length old) (take a now ++ (part ++ post_of a (length now - a) now))
  emptied_all part h =
      let n = length rest in
      let none : part ≡ part ++ drop n rest = rw (drop_all n rest (omega arith), append-nil) in
      let all = emptied_further part n (omega (arith, rest_len)) (part, h, none) in
      let whole : take a now ++ (part ++ post_of a (length now - a) now) ≡ all.0 =
      all.2 ∙ rw (drop_all (a + n) old (omega (arith, rest_len, same_len)), append-nil) in (
        ap length whole ∙ all.1.0 ∙ omega (arith, rest_len, same_len, within),
        All-same D _ all.0 whole all.1.1,
      )
