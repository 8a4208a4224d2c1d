use Rattle.std.proofs.Common.{◌≡◌, ◌+◌, ◌++◌, ◌≤◌, ℕ, List, Ok, Err, inl, inr, length, refl, rules}
use Rattle.std.specs.Prelude.{Result, IsOk, OnOk, OnErr}
use Rattle.std.specs.Bool.{⊤}
use Rattle.std.proofs.lemmas.Str.{IsUtf8-append, chars-append}
use Rattle.tinyvec_slots.specs.Clones.{RefusedAt, AppendsAllOrNone}
use Rattle.tinyvec_slots.specs.Ranges.{range_start, range_end, items_within}
use Rattle.tinyvec.specs.Refused.{RefusedFor}
use Rattle.tinyvec.specs.TinyVec.{tiny_items, tiny_len, tiny_capacity, tiny_view}
use Rattle.tinyvec.specs.View.{Reserved, BecomesIn, place_for}
use Rattle.tinyvec_text.specs.InlineText.{Bytes}
use Rattle.tinyvec_text.proofs.Lists.{ListGrows, CutsAt, text_utf8, text_range, text_range_of, text_after, text_grows}
use Rattle.tinyvec_text.proofs.inline_text.InlineText.extend_from_within.Goals.{After-extend_from_within}
use Rattle.tinyvec_text.proofs.inline_text.InlineText.extend_from_within.Goals as goal

-- clones of bytes are they, and none can be refused
cloned : {X E : Type 0} {n : ℕ} (old new : Bytes n) (ys : List ℕ) (Q : ℕ → Type 0) (r : Result X E)
    → AppendsAllOrNone (λ x y. y ≡ x) ys r (tiny_items old) (tiny_items new)
    → OnOk r (BecomesIn (λ b. b ≡ 0) (tiny_view old) (tiny_view new) (tiny_items new) (place_for Reserved (tiny_len old + length ys) (tiny_view old).place))
    → OnErr r (RefusedFor (tiny_len old + length ys) ((j : ℕ) × RefusedAt (λ _. ⊤) ys j × Q j) (tiny_view old) (tiny_view new))
    → (tiny_len old + length ys ≤ tiny_capacity old → IsOk r)
    → ListGrows Reserved (tiny_len old + length ys) old new (tiny_items old ++ ys) r
cloned old new ys Q (Ok x) made ok err fits = record {
  ok = record { items = made.if_clones_equal (λ x y h. h); place = ok.place; slot_rule = ok.slot_rule; fits = ok.fits };
  refused = tt;
  succeeds = fits;
}
cloned old new ys Q (Err e) made ok (inl h) fits = record { ok = tt; refused = h.1; succeeds = fits }
cloned old new ys Q (Err e) made ok (inr h) fits = absurd (h.1.1.1 0 tt)

-- the range
cuts : (g : _) (c : After-extend_from_within g) → let n = tiny_len c.self.inside.list in let end = g.R.RangeBounds.end_bound c.args.range in
    let start = g.R.RangeBounds.start_bound c.args.range in CutsAt (tiny_items c.self.inside.list) c.args.self.now.bytes start end (range_start start) (range_end end n)
cuts g c =
    text_range c.self.inside.list c.args.self.now c.self.view_is c.self.invariant _ _ c.requires.start_le_end c.requires.start_boundary
    c.requires.end_boundary _ _ (tiny_len c.self.inside.list) refl refl refl

-- what the list became
grown : (g : _) (c : After-extend_from_within g) → let list = c.self.inside.list in
    let part = items_within (tiny_items list) (g.R.RangeBounds.start_bound c.args.range) (g.R.RangeBounds.end_bound c.args.range) in
    ListGrows Reserved (tiny_len list + length part) list c.extend_from_within.new.self (tiny_items list ++ part) c.extend_from_within.result
grown g c =
    let e = c.extend_from_within.ensures in
    cloned c.self.inside.list c.extend_from_within.new.self _ _ c.extend_from_within.result e.clones e.ok e.refused (λ room. e.succeeds room (search rules))

pub extend_from_within-requires-clause-in_list : goal.extend_from_within-requires-clause-in_list
extend_from_within-requires-clause-in_list g c =
    text_range_of c.self.inside.list c.args.self.now c.self.view_is (g.R.RangeBounds.start_bound c.args.range) (g.R.RangeBounds.end_bound c.args.range)
    c.requires.start_le_end c.requires.end_boundary

pub invariant_of-self : goal.invariant_of-self
invariant_of-self g c =
    let list = c.self.inside.list in
    let at = (goal.at.invariant_of-self g c).After-extend_from_within in
    text_after _ _ list c.extend_from_within.new.self _ c.extend_from_within.result (grown g at) c.self.invariant
    (IsUtf8-append _ _ (text_utf8 list c.self.invariant) (cuts g at).utf8.1)

pub returns : goal.returns
returns g c =
    let list = c.self.inside.list in
    rw (← c.self.view_is)
    (text_grows _ _ list c.extend_from_within.new.self _ _ c.extend_from_within.result (grown g (goal.at.returns g c).After-extend_from_within)
    (chars-append _ _ (text_utf8 list c.self.invariant)))
