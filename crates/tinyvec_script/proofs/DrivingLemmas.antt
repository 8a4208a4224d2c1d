-- Lemmas on a splice that is driven by a word of ends.
use Rattle.std.proofs.Common.{◌≡◌, ℕ, inl, inr, slice_range, if◌then◌else◌, ◌+◌, ◌-◌, ◌<◌, ◌≤◌, List, [], ◌∷◌, ◌++◌, length, take, drop, Option, Some, None, Result, Ok, Err, OnErr, Vec, Global, refl, sym, ap, subst, ◌∙◌, arith, true, false, length-append}
use Rattle.std.proofs.lemmas.Bool.{cases_lt, lt-ltb, le-ltb}
use Rattle.std.proofs.lemmas.List.{nil_from_length, length-take-le, length-drop}
use Rattle.std.specs.Iterator.{YieldsFirst, YieldsLast}
use Rattle.std.specs.Vec.Iter.{into_iter_items, into_iter_len, into_iter_steps, into_iter_steps_back}
use Rattle.std.specs.declared.vec.IntoIter.{IntoIter}
use Rattle.std.specs.declared.iter.Fuse.{Fuse}
use Rattle.std.specs.Iterator.Adapters.{fuse_steps}
use Rattle.std.specs.declared.ops.Bound.TheVariants.{Included, Excluded}
use Rattle.tinyvec_slots.specs.Ranges.{items_before, items_within, items_after}
use Rattle.tinyvec_slots.specs.Ends.{front, back, RunsWord, GivenByWord, TakesFromEnds, given_items}
use Rattle.tinyvec_slots.specs.Fused.{HasTwoEnds, fused_rest}
use Rattle.tinyvec_slots.specs.Splice.{splice_view, splice_left, SpliceKeeps, SpliceSteps, SpliceStepsBack}
use Rattle.tinyvec_slots.specs.AnySplice.{SpliceView, FinishesWith}
use Rattle.tinyvec_slots.specs.SplicedByWord.{IsSpliceRefused, SplicedByWord}
use Rattle.tinyvec_slots.specs.declared.no_room.NoRoom.{NoRoom}
use Rattle.tinyvec_slots.proofs.EndsLemmas.{RunsWord-then, items_given, given_is_taken}
use Rattle.tinyvec_slots.proofs.Lists.{length-slice_range}
use Rattle.tinyvec_slots.specs.declared.splice.Splice.{Splice}
use Rattle.tinyvec_slots.proofs.Fused.{fused_ends}
use Rattle.tinyvec_slots.proofs.SpliceLemmas.{RunsWord-splices}
use Rattle.tinyvec_slots.proofs.AnySpliceLemmas.{RunsWord-takes_removed, spliced_len, spliced_all, spliced_refused}
use Rattle.tinyvec_script.specs.Driving.{letter, word_of, TakesAt, refused_items, ListSplices, SpliceComputes, unplaced_from, unplaced_to}
use Rattle.tinyvec_script.specs.declared.call.Answer.{Answer}
use Rattle.tinyvec_script.specs.declared.call.Answer.TheVariants as answers
use Rattle.tinyvec_script.specs.declared.call.End.{End}
use Rattle.tinyvec_script.specs.declared.call.End.TheVariants.{Front, Back}

module _ {S T : Type 0} (gives gives_back : S → Option T → S → Type 0) where
  -- one letter more
  pub RunsWord-letter : (e : End) (s : S) (word : _) (answers : List (Option T)) (mid : S) (r : Option T) (to : S)
      → RunsWord gives gives_back s word answers mid → TakesAt gives gives_back e mid r to
      → RunsWord gives gives_back s (word ++ letter e ∷ []) (answers ++ r ∷ []) to
  RunsWord-letter Front s word answers mid r to asked step =
      RunsWord-then gives gives_back s word answers mid (front ∷ []) (r ∷ []) to asked (to, step, refl)
  RunsWord-letter Back s word answers mid r to asked step =
      RunsWord-then gives gives_back s word answers mid (back ∷ []) (r ∷ []) to asked (to, step, refl)

-- a vector's items have two ends
module _ {X Z : Type 0} where
  none_left : (s : IntoIter X Z) → into_iter_len s ≡ 0 → into_iter_items s ≡ []
  none_left s h = nil_from_length _ (sym s.rest.ok.0 ∙ h)

  first_item : (s : IntoIter X Z) (r : Option X) (t : IntoIter X Z) → into_iter_steps s r t → YieldsFirst into_iter_items s r t
  first_item s None t h = (none_left s h.0, none_left t h.1)
  first_item s (Some x) t h = h.0

  last_item : (s : IntoIter X Z) (r : Option X) (t : IntoIter X Z) → into_iter_steps_back s r t → YieldsLast into_iter_items s r t
  last_item s None t h = (none_left s h.0, none_left t h.1)
  last_item s (Some x) t h = h

  pub into_iter_ends : HasTwoEnds {S = IntoIter X Z} into_iter_steps into_iter_steps_back into_iter_items
  into_iter_ends = record { first = first_item; last = last_item }

-- a word is given no more items than there are
pub given_within : {T : Type 0} (xs : List T) (word : _) (answers : List (Option T)) (left : List T) → TakesFromEnds xs word answers left
    → length (given_items answers) ≤ length xs
given_within xs word answers left takes = let count = (items_given xs word answers left takes).count in omega (arith, count)

-- what calls by a word did to a splice whose replacement is a vector
module _ {V T Z : Type 0} (items : V → List T) (Kept : V → V → Type 0) (same : (v : V) → Kept v v) (onward : (u v w : V) → Kept u v → Kept v w → Kept u w)
    (s : Splice V (Fuse (IntoIter T Z))) (word : _) (answers : _) (t : Splice V (Fuse (IntoIter T Z)))
    (asks : RunsWord (SpliceSteps items Kept (fuse_steps into_iter_steps)) (SpliceStepsBack items Kept (fuse_steps into_iter_steps_back)) s word answers t) where
  pub spliced_along : SplicedByWord (splice_view items) (SpliceKeeps items Kept) (fused_rest into_iter_items) s word t
  spliced_along = RunsWord-splices items Kept same onward (fused_rest into_iter_items) _ _ (fused_ends _ _ _ into_iter_ends) s word answers t asks

  pub taken_along : TakesFromEnds (splice_left items s) word answers (splice_left items t)
  taken_along = RunsWord-takes_removed (splice_view items) (SpliceKeeps items Kept) _ _ s word answers t asks

-- what a splice along a word, then finished, made of a list
module _ {S I T : Type 0} (view : S → SpliceView I T) (keeps : S → S → Type 0) (rest : I → List T) (s t : S) (word : List End) (answers : List (Option T))
    (along : SplicedByWord view keeps rest s (word_of word) t) (takes : TakesFromEnds (view s).left (word_of word) answers (view t).left)
    (capacity : ℕ) (old new : List T) (start end : ℕ) (replacement : List T) (in_order : start ≤ end) (in_list : end ≤ length old)
    (ahead : (view s).front ≡ items_before old (Included start)) (left : (view s).left ≡ items_within old (Included start) (Excluded end))
    (behind : (view s).back ≡ items_after old (Excluded end)) (whole : rest (view s).replacement ≡ replacement) where
  yields_are : GivenByWord (items_within old (Included start) (Excluded end)) (word_of word) (given_items answers)
  yields_are =
      subst (λ xs. GivenByWord xs (word_of word) (given_items answers)) left (items_given (view s).left (word_of word) answers (view t).left takes)

  sum : length (view t).front + length (rest (view t).replacement) + length (view t).back ≡ start + length replacement + (length old - end)
  sum =
      let one = length-take-le start old (omega (arith, in_order, in_list)) in
      let two = length-drop end old in
      spliced_len view keeps rest s t (word_of word) new _ _ _ replacement along ahead left behind whole ∙ omega (arith, one, two)

  -- the list, and what found no room
  pub splices_finished : (result : Result Unit (NoRoom T I)) → FinishesWith rest capacity (view t) result new
      → ListSplices capacity old start end word replacement (given_items answers) (refused_items rest result) new
  splices_finished (Ok u) f =
      let fits = f.succeeds.0 refl in
      let is = spliced_all view keeps rest s t (word_of word) new _ _ _ replacement along ahead left behind whole f.all in record {
        yields_are = yields_are;
        placed = λ h. (refl, is);
        refused = λ more. absurd (omega (arith, fits, sum, more));
      }
  splices_finished (Err unplaced) f =
      let no : (length (view t).front + length (rest (view t).replacement) + length (view t).back ≤ capacity) → ⊥ = λ le. let e : false ≡ true = f.succeeds.1 le in cc in
      let h = f.refused in
      let n = length-slice_range old start end in_order in_list in
      let is = spliced_refused view keeps rest s t (word_of word) new _ _ _ replacement along ahead left behind whole h.0 unplaced.item (rest unplaced.rest) h.1 h.2 in record {
        yields_are = yields_are;
        placed = λ le. absurd (no (omega (arith, le, sum)));
        refused = λ over. (subst (λ k. IsSpliceRefused (word_of word) k (items_before old (Included start)) (items_after old (Excluded end)) replacement new (unplaced.item ∷ rest unplaced.rest)) n is, h.3);
      }

  -- it was refused where the list does not fit
  pub refused_over : {P : Type 0} (result : Result Unit (NoRoom T I)) → FinishesWith rest capacity (view t) result new → OnErr result P
      → capacity < start + length replacement + (length old - end) → P
  refused_over (Ok u) f p over = let fits = f.succeeds.0 refl in absurd (omega (arith, fits, sum, over))
  refused_over (Err unplaced) f p over = p

  -- what is handed back is no longer than the replacement
  pub rest_within : (result : Result Unit (NoRoom T I)) → FinishesWith rest capacity (view t) result new → length (refused_items rest result) ≤ length replacement
  rest_within (Ok u) f = omega arith
  rest_within (Err unplaced) f =
      let h = f.refused in
      let split = ap length h.1 ∙ length-append h.0 (unplaced.item ∷ rest unplaced.rest) in
      let all = sym (ap length whole) ∙ ap length along.replacement ∙ length-append along.in_front (rest (view t).replacement ++ along.at_back) in
      let some = length-append (rest (view t).replacement) along.at_back in
      omega (arith, split, all, some)

-- what a splice makes of a list, computed
module _ {T : Type 0} (capacity : ℕ) (old new : List T) (start end : ℕ) (word : List End) (replacement yields rest : List T)
    (in_order : start ≤ end) (in_list : end ≤ length old) where
  cut_at : (at : ℕ) (list : List T) → length list ≡ capacity → at < unplaced_to capacity old start end word replacement
      → list ≡ items_before old (Included start) ++ take at replacement ++ drop (unplaced_to capacity old start end word replacement) replacement
      ++ items_after old (Excluded end)
      → at ≡ unplaced_from capacity old start end word replacement
  cut_at at list full below is =
      let to = unplaced_to capacity old start end word replacement in
      let A = items_before old (Included start) in
      let B = take at replacement in
      let C = drop to replacement in
      let E = items_after old (Excluded end) in
      let all = ap length is in
      let one = length-append (A ++ B ++ C) E in
      let two = length-append (A ++ B) C in
      let three = length-append A B in
      let first = length-take-le start old (omega (arith, in_order, in_list)) in
      let middle = length-take-le at replacement (omega (arith, below)) in
      let last = length-drop to replacement in
      let behind = length-drop end old in
      omega (arith, full, below, all, one, two, three, first, middle, last, behind)

  pub splice_computes : ListSplices capacity old start end word replacement yields rest new
      → SpliceComputes capacity old start end word replacement yields rest new
  splice_computes h =
      let xs = old in
      let sum = start + length replacement + (length old - end) in
      let to = unplaced_to capacity xs start end word replacement in
      let at = unplaced_from capacity xs start end word replacement in
      let A = items_before xs (Included start) in
      let E = items_after xs (Excluded end) in
      let run = slice_range replacement at to in
      let cut = A ++ take at replacement ++ drop to replacement ++ E in
      let whole = A ++ replacement ++ E in
      let given = given_is_taken (items_within xs (Included start) (Excluded end)) (word_of word) yields h.yields_are in
      elim (cases_lt capacity sum) [
        | inl over ↦
            (let r = (h.refused over).0 in
            let is = cut_at r.at new (h.refused over).1 r.below r.list_is in
            let yes = sym (lt-ltb capacity sum over) in
            record {
              yields_are = given;
              rest_is = r.rest_is ∙ ap (λ n. slice_range replacement n to) is ∙ ap (λ b. if b then run else []) yes;
              list_is = r.list_is ∙ ap (λ n. A ++ take n replacement ++ drop to replacement ++ E) is ∙ ap (λ b. if b then cut else whole) yes;
            })
        | inr fits ↦
            (let placed = h.placed fits in
            let no = sym (le-ltb capacity sum fits) in
            record {
              yields_are = given;
              rest_is = placed.0 ∙ ap (λ b. if b then run else []) no;
              list_is = placed.1 ∙ ap (λ b. if b then cut else whole) no;
            })
      ]

-- what holds of the answer to a splice that was driven: that the list fits, or that it does not
pub splice_answers : {T : Type 0} (capacity : ℕ) (old new : List T) (start end : ℕ) (word : List End) (replacement : List T) (yields rest : Vec T Global)
    (answer : Answer T) → start ≤ end → end ≤ length old
    → (rest.items ≡ [] → answer ≡ answers.Items yields) → (0 < length rest.items → answer ≡ answers.Spliced yields rest)
    → ListSplices capacity old start end word replacement yields.items rest.items new
    → (Splices : List T → List T → Type 0) → Splices yields.items rest.items → (Holds : Answer T → Type 0)
    → (start + length replacement + (length old - end) ≤ capacity → Splices yields.items [] → Holds (answers.Items yields))
    → (capacity < start + length replacement + (length old - end) → Splices yields.items rest.items → Holds (answers.Spliced yields rest)) → Holds answer
splice_answers capacity old new start end word replacement yields rest answer in_order in_list all some h Splices did Holds placed refused =
    elim (cases_lt capacity (start + length replacement + (length old - end))) [
      | inl over ↦
          (let r = (h.refused over).0 in
          let to = unplaced_to capacity old start end word replacement in
          let long = length-slice_range replacement r.at to (omega (arith, r.below)) (omega arith) in
          subst Holds (sym (some (omega (arith, ap length r.rest_is, long, r.below)))) (refused over did))
      | inr fits ↦ (let none = (h.placed fits).0 in subst Holds (sym (all none)) (placed fits (subst (Splices yields.items) none did)))
    ]
