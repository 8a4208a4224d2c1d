-- Items that are read into slots, a block at a time.
use Rattle.std.proofs.Common.{◌≡◌, ◌∙◌, ap, sym, subst, ℕ, ◌+◌, ◌-◌, ◌<◌, ◌≤◌, List, [], ◌∷◌, ◌++◌, length, length-append, arith, refl, Bool, Option, Err, map, take, drop, slice_set, length-take-le, take_at, drop-drop, take-append-drop}
use Rattle.std.proofs.lemmas.List.{drop-set-lt, length-map, map-append, take_all, take_more_set}
use Rattle.std.specs.List.{AllByRecursion}
use Rattle.std.proofs.lemmas.Slice.{take-put_mid}
use borrow.Rule.Slice.PartMut.{put_mid}
use Rattle.tinyvec_borsh.specs.declared.borsh_error.BorshError.{BorshError}
use Rattle.tinyvec_borsh.specs.declared.borsh_error.BorshError.TheVariants.{Ended}
use Rattle.tinyvec_borsh.specs.Fronts.{FrontsAreCut}
use Rattle.tinyvec_borsh.specs.FrontsLaws.{cut-items}
use Rattle.tinyvec_borsh.specs.Items.{SpellsItems, AfterItems}
use Rattle.tinyvec_borsh.specs.Reading.{FailsFor, LeavesSlots, ReadsSpelling, TakesSome}
use Rattle.tinyvec_borsh.specs.TwoParts.{joined}
use Rattle.tinyvec_io.specs.Counted.{CountedView}
use Rattle.tinyvec_borsh.proofs.ItemByItem.{fails-after, fit-join, one-item, some-so, takes-items, takes-so}

module _ {C : Type 0} (Spells : C → List ℕ → Type 0) (Fits : C → Type 0) where
  -- these items were read
  pub record TookItems (cs : List C) (old new : Option (List ℕ)) : Type 0 where
    pub fit : AllByRecursion Fits cs
    pub taken : ReadsSpelling (SpellsItems Spells cs) old new

  -- a block was read behind the items so far
  pub took-block : (cs ds all : List C) (old mid new : Option (List ℕ)) → all ≡ cs ++ ds → TookItems cs old mid → ReadsSpelling (SpellsItems Spells ds) mid new → AllByRecursion Fits ds → TookItems all old new
  took-block cs ds all old mid new is w t f = subst (λ cs. TookItems cs old new) (sym is) (record { fit = fit-join Fits cs ds w.fit f; taken = takes-items Spells cs ds old mid new w.taken t })

  pub took-slot : {T : Type 0} (content : T → C) (xs : List T) (i : ℕ) (x : T) (old mid new : Option (List ℕ)) → i < length xs → TookItems (map content (take i xs)) old mid → ReadsSpelling (Spells (content x)) mid new → Fits (content x)
      → TookItems (map content (take (i + 1) (slice_set xs i x))) old new
  took-slot content xs i x old mid new within w t f =
      took-block (map content (take i xs)) (content x ∷ []) _ old mid new (ap (map content) (take_more_set xs i x within) ∙ map-append content (take i xs) (x ∷ [])) w (takes-so mid new (one-item Spells (content x)) t) (f, tt)

  -- a front of items is cut in one of them
  pub after-fronts : (Reason : BorshError → List ℕ → Type 0) → FrontsAreCut Spells Fits (Reason Ended) → (n : ℕ) (cs : List C) → length cs ≤ n → AllByRecursion Fits cs
      → (front back : List ℕ) → 0 < length back → SpellsItems Spells cs (front ++ back) → AfterItems Spells Fits Reason n Ended front
  after-fronts Reason fronts n cs few fit front back some p =
      let t = cut-items Spells Fits (Reason Ended) fronts cs front back some fit p in
      record { items = t.0.first; fewer = omega (arith, few, t.1, ap length t.0.all, length-append t.0.first t.0.more); fit = t.0.fit; parts = t.0.parts }

  -- an item was not read, and the input is so from it on
  pub fails-behind : {R T U : Type 0} {remaining : R → Option (List ℕ)} {old mid new : CountedView R} {e : BorshError} (Reason : BorshError → List ℕ → Type 0) → FrontsAreCut Spells Fits (Reason Ended) → (n : ℕ) (cs : List C)
      → TookItems cs (remaining old.inner) (remaining mid.inner) → length cs < n → old.faults ≤ mid.faults → mid.failed ≡ old.failed
      → FailsFor {T = T} remaining Reason mid new (Err e) → FailsFor {T = U} remaining (AfterItems Spells Fits Reason n) old new (Err e)
  fails-behind Reason fronts n cs w fewer grows same failed =
      fails-after (SpellsItems Spells cs) w.taken grows same (after-fronts Reason fronts n cs (omega (arith, fewer)) w.fit) (λ f input p. record { items = cs; fewer = fewer; fit = w.fit; parts = p }) failed

  -- what is wrong with the next items is wrong with all that are to come
  pub of-more : (Reason : BorshError → List ℕ → Type 0) (k n : ℕ) → k ≤ n → (e : BorshError) (input : List ℕ) → AfterItems Spells Fits Reason k e input → AfterItems Spells Fits Reason n e input
  of-more Reason k n fewer e input t = record { items = t.items; fewer = omega (arith, t.fewer, fewer); fit = t.fit; parts = t.parts }

  -- what is cut of one item is cut of more
  pub cut-first : (Reason : BorshError → List ℕ → Type 0) (n : ℕ) (old new : Option (List ℕ)) (e : BorshError) → TakesSome (Reason Ended) old new e → TakesSome (AfterItems Spells Fits Reason (n + 1) Ended) old new e
  cut-first Reason n old new e = some-so old new e (λ bytes cut. record { items = []; fewer = omega arith; fit = tt; parts = joined [] bytes refl cut })

-- lists that are the same from one place on are so from a later one on
pub further : {T : Type 0} (a b : ℕ) (xs ys : List T) → drop a xs ≡ drop a ys → drop (a + b) xs ≡ drop (a + b) ys
further a b xs ys same = sym (drop-drop b a xs) ∙ ap (drop b) same ∙ drop-drop b a ys

-- a slot was read
pub left-slot : {T : Type 0} (i : ℕ) (xs old : List T) (x : T) → drop i xs ≡ drop i old → drop (i + 1) (slice_set xs i x) ≡ drop (i + 1) old
left-slot i xs old x same = drop-set-lt (i + 1) xs i x (omega arith) ∙ further i 1 xs old same

-- the first i slots were read, and then it failed
pub left-at : {T C : Type 0} (content : T → C) (Spells : C → List ℕ → Type 0) (Fits : C → Type 0) (in_place : Bool) {IsCut : List ℕ → Type 0} {e : BorshError} (i : ℕ) (old now : List T) (was mid is : Option (List ℕ))
    → TookItems Spells Fits (map content (take i now)) was mid → TakesSome IsCut mid is e → length now ≡ length old → i < length old → drop i now ≡ drop i old
    → LeavesSlots content Spells Fits in_place IsCut old now was is e
left-at content Spells Fits in_place i old now was mid is t more same less kept =
    let long = length-take-le i now (omega (arith, same, less)) in
    record {
      read = take i now;
      rest = drop i now;
      slots = sym (take-append-drop i now);
      same_len = same;
      some_left = omega (arith, long, less);
      kept = λ _. kept ∙ ap (λ n. drop n old) (sym long);
      fit = t.fit;
      taken = (mid, t.taken, more);
    }

-- a list was made longer, and what was added was written
pub grown : {T : Type 0} (start end : ℕ) (old more mid ws xs : List T) → length old ≡ start → start ≤ end → mid ≡ take end old ++ more → length ws ≡ end → take end ws ≡ take start mid ++ xs → ws ≡ old ++ xs
grown start end old more mid ws xs long order is all e = rw (← take_all end ws (omega (arith, all)), e, is, take_all end old (omega (arith, long, order)), take_at old more start long)

pub length-mapped : {T C : Type 0} (content : T → C) (xs : List T) (n : ℕ) → n ≤ length xs → length (map content (take n xs)) ≡ n
length-mapped content xs n within = simp (length-map, length-take-le)

-- what was written from the start up to the end stands behind what stood before
pub take-block : {T : Type 0} (start end : ℕ) (xs ys : List T) → start ≤ end → end ≤ length xs → length ys ≡ end - start → take end (put_mid start (end - start) xs ys) ≡ take start xs ++ ys
take-block start end xs ys order fits long =
    take-put_mid start (end - start) xs ys end (omega (arith, long, order)) (omega (arith, order, fits))
