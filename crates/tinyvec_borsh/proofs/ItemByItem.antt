-- Lists that are written and read item after item.
use Rattle.std.proofs.Common.{◌≡◌, ◌∙◌, ap, sym, subst, ℕ, Bool, false, ◌+◌, ◌-◌, ◌^◌, max, ◌<◌, ◌≤◌, ◌⊎◌, inl, inr, List, [], ◌∷◌, ◌++◌, length, refl, arith, append-nil, length-append, Option, None, Some, Result, Ok, Err, le_refl, map, take, get_or}
use Rattle.std.proofs.lemmas.List.{map-append, map_more}
use Rattle.std.specs.Io.KnownBytes.{Appends, Consumes}
use Rattle.std.proofs.KnownBytes.{Appends-trans, Consumes-trans}
use Rattle.std.specs.List.{AllByRecursion}
use Rattle.tinyvec_borsh.specs.declared.borsh_error.BorshError.{BorshError}
use Rattle.tinyvec_borsh.specs.declared.borsh_error.BorshError.TheVariants.{Ended, InvalidLength, InvalidUtf8, Io, Memory}
use Rattle.tinyvec_borsh.specs.Items.{AfterItems, IsCount, SpellsItems, SpellsList, HasItems, InItem, HasTooMany, CountsAbove, ListReason, MayAllocate, TinyReason}
use Rattle.tinyvec_borsh.specs.Both.{IsBehind}
use Rattle.tinyvec_borsh.specs.Fronts.{FrontsAreCut}
use Rattle.tinyvec_borsh.specs.FrontsLaws.{counted-fronts, cut-place}
use Rattle.tinyvec_borsh.specs.Number.{TooFewBytes}
use Rattle.tinyvec_borsh.specs.TwoParts.{HasParts, group-first, joined, with-tail}
use Rattle.tinyvec_borsh.proofs.Parts.{first-so, group-rest, rest-so}
use Rattle.tinyvec_borsh.specs.Reading.{MayBe, ReadsSpelling, Fails, FailsFor, LeavesRest, TakesSome}
use Rattle.tinyvec_io.specs.Counted.{CountedView, CountsFault}

-- what was taken is so, as it was
pub takes-so : {P Q : List ℕ → Type 0} (old new : Option (List ℕ)) → ((bytes : List ℕ) → P bytes → Q bytes) → ReadsSpelling P old new → ReadsSpelling Q old new
takes-so old new then t = (t.0, then t.0 t.1, t.2)

-- one part was taken, and then another
pub takes-then : {P Q : List ℕ → Type 0} (old mid new : Option (List ℕ)) → ReadsSpelling P old mid → ReadsSpelling Q mid new → ReadsSpelling (HasParts P Q) old new
takes-then old mid new p q = (p.0 ++ q.0, joined p.0 q.0 p.1 q.1, Consumes-trans old mid new p.0 q.0 p.2 q.2)

-- what was read, and the input is so behind it
pub maybe-behind : {S : List ℕ → Type 0} (old new : Option (List ℕ)) (P Q : List ℕ → Type 0) → ReadsSpelling S old new → ((input : List ℕ) → HasParts S P input → Q input) → MayBe new P → MayBe old Q
maybe-behind None None P Q t then may = (t.0 ++ may.0, then (t.0 ++ may.0) (joined t.0 may.0 t.1 may.1))
maybe-behind None (Some y) P Q t then may = (t.0 ++ y, then (t.0 ++ y) (joined t.0 y t.1 may))
maybe-behind (Some x) None P Q t then may = absurd t.2
maybe-behind (Some x) (Some y) P Q t then may = then x (record { first = t.0; rest = y; is_first = t.1; is_rest = may; whole = t.2 })

pub maybe-so : (old : Option (List ℕ)) (P Q : List ℕ → Type 0) → ((input : List ℕ) → P input → Q input) → MayBe old P → MayBe old Q
maybe-so None P Q then may = (may.0, then may.0 may.1)
maybe-so (Some x) P Q then may = then x may

pub maybe-any : (old : Option (List ℕ)) → MayBe old (λ _. Unit {0})
maybe-any None = ([], tt)
maybe-any (Some x) = tt

-- calls that failed since a later state failed since an earlier one, if none did between
pub failed-since : {b : Bool} {f g h : ℕ} → g ≡ f → CountsFault b g h → CountsFault b f h
failed-since {b = b} {h = h} same failed = subst (λ n. CountsFault b n h) same failed

-- no call failed
pub none-failed : {old new : ℕ} → new ≡ old → CountsFault false old new
none-failed same = record { exact = same; grows = omega (arith, same) }

-- what is wrong with the rest of an input is wrong with the input
pub fails-so : (Reason All : BorshError → List ℕ → Type 0) (old mid : Option (List ℕ)) (before between after : ℕ) (e : BorshError) → before ≤ between → Fails Reason mid between after e
    → ((f : BorshError) → MayBe mid (Reason f) → MayBe old (All f)) → Fails All old before after e
fails-so Reason All old mid before between after Io grows f so = elim f [ inl less ↦ inl (omega (arith, less, grows)) | inr full ↦ inr full ]
fails-so Reason All old mid before between after Ended grows f so = so Ended f
fails-so Reason All old mid before between after InvalidLength grows f so = so InvalidLength f
fails-so Reason All old mid before between after InvalidUtf8 grows f so = so InvalidUtf8 f
fails-so Reason All old mid before between after Memory grows f so = so Memory f

module _ {IsCut All : List ℕ → Type 0} where
  -- what was taken before is taken too
  some-then : (old mid new : Option (List ℕ)) (bytes : List ℕ) (e : BorshError) → Consumes old mid bytes → ((front back : List ℕ) → 0 < length back → bytes ≡ front ++ back → All front)
      → ((rest : List ℕ) → IsCut rest → All (bytes ++ rest)) → TakesSome IsCut mid new e → TakesSome All old new e
  some-then old mid new bytes e before firsts cut t = record {
    bytes = bytes ++ t.bytes;
    taken = Consumes-trans old mid new bytes t.bytes before t.taken;
    end = t.end;
    needed = λ front back some is. elim (cut-place bytes t.bytes front back is) [
      | inl f ↦ firsts front f.0 f.2 f.1
      | inr s ↦ subst All (sym s.1) (cut s.0 (t.needed s.0 back some s.2))
    ];
    short = λ no. cut t.bytes (t.short no);
  }

  pub some-so : (old new : Option (List ℕ)) (e : BorshError) → ((bytes : List ℕ) → IsCut bytes → All bytes) → TakesSome IsCut old new e → TakesSome All old new e
  some-so old new e cut t = record { bytes = t.bytes; taken = t.taken; end = t.end; needed = λ front back some is. cut front (t.needed front back some is); short = λ no. cut t.bytes (t.short no) }

module _ {R T U : Type 0} {remaining : R → Option (List ℕ)} {Inner Outer : BorshError → List ℕ → Type 0} {old mid new : CountedView R} {e : BorshError} where
  -- a reading failed behind what was read
  pub fails-after : (S : List ℕ → Type 0) → ReadsSpelling S (remaining old.inner) (remaining mid.inner) → old.faults ≤ mid.faults → mid.failed ≡ old.failed
      → ((front back : List ℕ) → 0 < length back → S (front ++ back) → Outer Ended front)
      → ((f : BorshError) (input : List ℕ) → HasParts S (Inner f) input → Outer f input)
      → FailsFor {T = T} remaining Inner mid new (Err e) → FailsFor {T = U} remaining Outer old new (Err e)
  fails-after S t grows same firsts so failed = record {
    err = fails-so Inner Outer _ _ _ _ _ e grows failed.err (λ f may. maybe-behind _ _ (Inner f) (Outer f) t (so f) may);
    taken = some-then _ _ _ t.0 e t.2 (λ front back some is. firsts front back some (subst S is t.1)) (λ rest cut. so Ended (t.0 ++ rest) (joined t.0 rest t.1 cut)) failed.taken;
    grows = omega (arith, grows, failed.grows);
    failed = failed-since same failed.failed;
  }

module _ {R T U : Type 0} {remaining : R → Option (List ℕ)} {Inner Outer : BorshError → List ℕ → Type 0} {old new : CountedView R} {e : BorshError} where
  -- what is a reason for one reading is one for another
  pub fails-as : ((f : BorshError) (input : List ℕ) → Inner f input → Outer f input)
      → FailsFor {T = T} remaining Inner old new (Err e) → FailsFor {T = U} remaining Outer old new (Err e)
  fails-as so failed = record {
    err = fails-so Inner Outer _ _ _ _ _ e (le_refl _) failed.err (λ f may. maybe-so _ (Inner f) (Outer f) (so f) may);
    taken = some-so _ _ e (so Ended) failed.taken;
    grows = failed.grows;
    failed = failed.failed;
  }

module _ {R T : Type 0} {remaining : R → Option (List ℕ)} {Inner Outer : BorshError → List ℕ → Type 0} {old new : CountedView R} where
  -- the same of a last call, whose result is returned
  pub fails-like : (r : Result T BorshError) → ((f : BorshError) (input : List ℕ) → Inner f input → Outer f input) → FailsFor remaining Inner old new r → FailsFor remaining Outer old new r
  fails-like (Ok x) so told = record { err = tt; taken = tt; grows = told.grows; failed = told.failed }
  fails-like (Err e) so told = fails-as so told

-- One of the next k items was not read; or room was refused, where the list was full, for the first of them, once it was read, or
-- before, if it was the last.
abbrev pub WantsItem : {C : Type 0} (Spells : C → List ℕ → Type 0) (Fits : C → Type 0) (Reason : BorshError → List ℕ → Type 0) (k : ℕ) (IsFull IsLast : Type 0) → BorshError → List ℕ → Type 0
WantsItem Spells Fits Reason k IsFull IsLast error input = AfterItems Spells Fits Reason k error input ⊎ ((error ≡ Memory) × IsFull × (IsLast ⊎ IsBehind Spells Fits (λ _. Unit {0}) input))

module _ {C : Type 0} (Fits : C → Type 0) where
  pub fit-join : (cs ds : List C) → AllByRecursion Fits cs → AllByRecursion Fits ds → AllByRecursion Fits (cs ++ ds)
  fit-join [] ds p q = q
  fit-join (x ∷ cs) ds p q = (p.0, fit-join cs ds p.1 q)

  pub fit-more : (cs : List C) (c : C) → AllByRecursion Fits cs → Fits c → AllByRecursion Fits (cs ++ c ∷ [])
  fit-more cs c p q = fit-join cs (c ∷ []) p (q, tt)

module _ {C : Type 0} (Spells : C → List ℕ → Type 0) where
  pub items-join : (cs ds : List C) (bytes : List ℕ) → HasParts (SpellsItems Spells cs) (SpellsItems Spells ds) bytes → SpellsItems Spells (cs ++ ds) bytes
  items-join [] ds bytes p = subst (SpellsItems Spells ds) (sym (p.whole ∙ ap (λ l. l ++ p.rest) p.is_first)) p.is_rest
  items-join (x ∷ cs) ds bytes p =
      let q : HasParts (Spells x) (HasParts (SpellsItems Spells cs) (SpellsItems Spells ds)) bytes = group-rest p in
      rest-so q (items-join cs ds q.rest q.is_rest)

  pub one-item : (c : C) (bytes : List ℕ) → Spells c bytes → SpellsItems Spells (c ∷ []) bytes
  one-item c bytes p = record { first = bytes; rest = []; is_first = p; is_rest = refl; whole = sym (append-nil bytes) }

  pub items-more : (cs : List C) (c : C) (a b : List ℕ) → SpellsItems Spells cs a → Spells c b → SpellsItems Spells (cs ++ c ∷ []) (a ++ b)
  items-more cs c a b p q = items-join cs (c ∷ []) (a ++ b) (joined a b p (one-item c b q))

  pub takes-items : (cs ds : List C) (old mid new : Option (List ℕ)) → ReadsSpelling (SpellsItems Spells cs) old mid → ReadsSpelling (SpellsItems Spells ds) mid new → ReadsSpelling (SpellsItems Spells (cs ++ ds)) old new
  takes-items cs ds old mid new p q = takes-so old new (items-join cs ds) (takes-then old mid new p q)

  -- these items were written
  pub record WroteItems (cs : List C) (old new : Option (List ℕ)) : Type 0 where
    pub bytes : List ℕ
    pub spelled : SpellsItems Spells cs bytes
    pub appended : Appends old new bytes

  pub wrote-next : {T : Type 0} (content : T → C) (xs : List T) (i : ℕ) (x : T) (old mid new : Option (List ℕ)) → i < length xs → x ≡ get_or xs i x → WroteItems (map content (take i xs)) old mid
      → (bytes : List ℕ) × Spells (content x) bytes × Appends mid new bytes → WroteItems (map content (take (i + 1) xs)) old new
  wrote-next content xs i x old mid new within is w t = rw (map_more content xs i x within, ← is) (record {
    bytes = w.bytes ++ t.0;
    spelled = items-more (map content (take i xs)) (content x) w.bytes t.0 w.spelled t.1;
    appended = Appends-trans old mid new w.bytes t.0 w.appended t.2;
  })

  module _ (Fits : C → Type 0) where
    -- the count and these items were read
    pub record WasRead (n : ℕ) (cs : List C) (old new : Option (List ℕ)) : Type 0 where
      pub fit : AllByRecursion Fits cs
      pub taken : ReadsSpelling (HasParts (IsCount n) (SpellsItems Spells cs)) old new

    pub read-first : (n : ℕ) (old new : Option (List ℕ)) → ReadsSpelling (IsCount n) old new → WasRead n [] old new
    read-first n old new t = record { fit = tt; taken = (t.0, record { first = t.0; rest = []; is_first = t.1; is_rest = refl; whole = sym (append-nil t.0) }, t.2) }

    list-join : (n : ℕ) (cs ds : List C) (bytes : List ℕ) → HasParts (HasParts (IsCount n) (SpellsItems Spells cs)) (SpellsItems Spells ds) bytes → HasParts (IsCount n) (SpellsItems Spells (cs ++ ds)) bytes
    list-join n cs ds bytes p =
        let q : HasParts (IsCount n) (HasParts (SpellsItems Spells cs) (SpellsItems Spells ds)) bytes = group-rest p in
        rest-so q (items-join cs ds q.rest q.is_rest)

    -- and a block of items
    pub read-block : (n : ℕ) (cs ds : List C) (old mid new : Option (List ℕ)) → WasRead n cs old mid → ReadsSpelling (SpellsItems Spells ds) mid new → AllByRecursion Fits ds → WasRead n (cs ++ ds) old new
    read-block n cs ds old mid new w t f = record { fit = fit-join Fits cs ds w.fit f; taken = takes-so old new (list-join n cs ds) (takes-then old mid new w.taken t) }

    -- and one more item
    pub read-more : (n : ℕ) (cs : List C) (c : C) (old mid new : Option (List ℕ)) → WasRead n cs old mid → ReadsSpelling (Spells c) mid new → Fits c → WasRead n (cs ++ c ∷ []) old new
    read-more n cs c old mid new w t f = read-block n cs (c ∷ []) old mid new w (takes-so mid new (one-item c) t) (f, tt)

    pub read-appended : {T : Type 0} (content : T → C) (n : ℕ) (xs ys zs : List T) (old mid new : Option (List ℕ)) → zs ≡ xs ++ ys → WasRead n (map content xs) old mid → ReadsSpelling (SpellsItems Spells (map content ys)) mid new → AllByRecursion Fits (map content ys) → WasRead n (map content zs) old new
    read-appended content n xs ys zs old mid new appended w t f =
        subst (λ cs. WasRead n cs old new) (sym (ap (map content) appended ∙ map-append content xs ys)) (read-block n (map content xs) (map content ys) old mid new w t f)

    pub read-all : (n : ℕ) (cs : List C) (old new : Option (List ℕ)) → n ≡ length cs → WasRead n cs old new → ReadsSpelling (SpellsList Spells cs) old new
    read-all n cs old new long w = subst (λ m. ReadsSpelling (HasParts (IsCount m) (SpellsItems Spells cs)) old new) long w.taken

    abbrev has-items : {P : List ℕ → Type 0} (n : ℕ) (cs : List C) (input : List ℕ) → AllByRecursion Fits cs → HasParts (HasParts (IsCount n) (SpellsItems Spells cs)) P input → HasItems Spells Fits input
    has-items n cs input fit p = record {
      len = n;
      items = cs;
      count = p.is_first.first;
      bytes = p.is_first.rest;
      tail = p.rest;
      counted = p.is_first.is_first;
      spelled = p.is_first.is_rest;
      fit = fit;
      whole = p.whole ∙ with-tail p.is_first p.rest;
    }

    -- an item was not read, and the input is so from it on
    in-item : (P : List ℕ → Type 0) (room n : ℕ) (cs : List C) → AllByRecursion Fits cs → length cs < n → length cs ≤ room
        → (input : List ℕ) → HasParts (HasParts (IsCount n) (SpellsItems Spells cs)) P input → InItem Spells Fits P room input
    in-item P room n cs fit fewer few input p = record { has = has-items n cs input fit p; fewer = fewer; few = few; left = p.is_rest }

    -- of a block of k items one was not read
    in-block : (Reason : BorshError → List ℕ → Type 0) (e : BorshError) (room n k : ℕ) (cs : List C) → AllByRecursion Fits cs → length cs + k ≤ n → length cs + k ≤ room + 1
        → (input : List ℕ) → HasParts (HasParts (IsCount n) (SpellsItems Spells cs)) (AfterItems Spells Fits Reason k e) input → InItem Spells Fits (Reason e) room input
    in-block Reason e room n k cs fit more few input p =
        let so = p.is_rest in
        let q : HasParts (HasParts (HasParts (IsCount n) (SpellsItems Spells cs)) (SpellsItems Spells so.items)) (Reason e) input = group-first (rest-so p so.parts) in
        in-item (Reason e) room n (cs ++ so.items) (fit-join Fits cs so.items fit so.fit) (omega (arith, length-append cs so.items, so.fewer, more))
        (omega (arith, length-append cs so.items, so.fewer, few)) input (first-so q (list-join n cs so.items q.first q.is_first))

    -- one item more than the room was read
    pub too-many : (room n : ℕ) (cs : List C) (old new : Option (List ℕ)) → WasRead n cs old new → length cs ≡ room + 1 → room < n → MayBe old (HasTooMany Spells Fits room)
    too-many room n cs old new w over above =
        maybe-behind old new (λ _. Unit {0}) _ w.taken (λ input p. record { has = has-items n cs input w.fit p; over = over; above = above }) (maybe-any new)

    -- the count was above this
    above-count : (most n : ℕ) (cs : List C) → most < n → (input : List ℕ) → HasParts (HasParts (IsCount n) (SpellsItems Spells cs)) (λ _. Unit {0}) input → CountsAbove most input
    above-count most n cs above input p =
        let q : HasParts (IsCount n) (HasParts (SpellsItems Spells cs) (λ _. Unit {0})) input = group-rest p in
        (n, above, rest-so q tt)

    -- an item came, or is to come as the last, that finds no room
    outgrows : (slots n : ℕ) (cs : List C) → AllByRecursion Fits cs → max slots 1024 ≤ length cs → length cs < n → (input : List ℕ)
        → HasParts (HasParts (IsCount n) (SpellsItems Spells cs)) (λ rest. (length cs + 1 ≡ n) ⊎ IsBehind Spells Fits (λ _. Unit {0}) rest) input → MayAllocate Spells Fits slots input
    outgrows slots n cs fit most more input p = elim p.is_rest [
      | inl last ↦ inr (record { has = has-items n cs input fit p; many = most; few = omega (arith, more); last = λ is. omega (arith, last, is) })
      | inr next ↦
          let q : HasParts (HasParts (HasParts (IsCount n) (SpellsItems Spells cs)) (SpellsItems Spells (next.content ∷ []))) (λ _. Unit {0}) input =
          group-first (rest-so p (first-so next.parts (one-item next.content next.first next.is_first))) in
          let long = length-append cs (next.content ∷ []) in
          inr (record {
            has = has-items n (cs ++ next.content ∷ []) input (fit-more Fits cs next.content fit next.valid) (first-so q (list-join n cs (next.content ∷ []) q.first q.is_first));
            many = omega (arith, long, most);
            few = omega (arith, long, more);
            last = λ is. absurd (omega (arith, long, most, is));
          })
    ]

    module _ (Reason : BorshError → List ℕ → Type 0) (Allocates : List ℕ → Type 0) (room : ℕ) {R T U : Type 0} {remaining : R → Option (List ℕ)} {e : BorshError} where
      -- the count was not read
      pub fails-count : {old new : CountedView R} → FailsFor {T = T} remaining (TooFewBytes 8) old new (Err e)
          → FailsFor {T = U} remaining (ListReason Spells Fits Reason Allocates room) old new (Err e)
      fails-count failed = fails-as (λ f input few. subst (λ f. ListReason Spells Fits Reason Allocates room f input) (sym few.0) (inl few.1)) failed

      module _ (fronts : FrontsAreCut Spells Fits (Reason Ended)) (n : ℕ) (cs : List C) {old mid new : CountedView R} (w : WasRead n cs (remaining old.inner) (remaining mid.inner)) where
        -- an item was not read
        pub fails-item : length cs < n → length cs ≤ room → old.faults ≤ mid.faults → mid.failed ≡ old.failed
            → FailsFor {T = T} remaining Reason mid new (Err e) → FailsFor {T = U} remaining (ListReason Spells Fits Reason Allocates room) old new (Err e)
        fails-item more few grows same failed =
            fails-after (HasParts (IsCount n) (SpellsItems Spells cs)) w.taken grows same (counted-fronts Spells Fits (Reason Ended) fronts room n cs (omega (arith, more)) (omega (arith, few)) w.fit) (λ f input p. inr (in-item (Reason f) room n cs w.fit more few input p)) failed

        -- a block was not read
        pub fails-block : (k : ℕ) → length cs + k ≤ n → length cs + k ≤ room + 1 → old.faults ≤ mid.faults → mid.failed ≡ old.failed
            → FailsFor {T = T} remaining (AfterItems Spells Fits Reason k) mid new (Err e) → FailsFor {T = U} remaining (ListReason Spells Fits Reason Allocates room) old new (Err e)
        fails-block k more few grows same failed =
            fails-after (HasParts (IsCount n) (SpellsItems Spells cs)) w.taken grows same (counted-fronts Spells Fits (Reason Ended) fronts room n cs (omega (arith, more)) (omega (arith, few)) w.fit) (λ f input p. inr (in-block Reason f room n k cs w.fit more few input p)) failed

    module _ (Reason : BorshError → List ℕ → Type 0) (fronts : FrontsAreCut Spells Fits (Reason Ended)) (slots n : ℕ) (cs : List C) {R U : Type 0} {remaining : R → Option (List ℕ)} {old new : CountedView R} where
      -- room ahead was refused
      pub refused-ahead : Reason Ended [] → WasRead n cs (remaining old.inner) (remaining new.inner) → length cs < n → length cs ≤ 2 ^ 64 - 1 → slots < n → slots < 1024 → old.faults ≤ new.faults → new.failed ≡ old.failed
          → FailsFor {T = U} remaining (TinyReason Spells Fits Reason slots) old new (Err Memory)
      refused-ahead none w more few above less grows same = record {
        err = maybe-behind _ _ (λ _. Unit {0}) _ w.taken (λ input p. inl (inl (less, above-count slots n cs above input p))) (maybe-any _);
        taken = record {
          bytes = w.taken.0;
          taken = w.taken.2;
          end = λ is. cc;
          needed = λ front back some is. counted-fronts Spells Fits (Reason Ended) fronts (2 ^ 64 - 1) n cs (omega (arith, more)) (omega (arith, few)) w.fit front back some (subst (HasParts (IsCount n) (SpellsItems Spells cs)) is w.taken.1);
          short = λ _. inr (in-item (Reason Ended) (2 ^ 64 - 1) n cs w.fit more few w.taken.0 (record { first = w.taken.0; rest = []; is_first = w.taken.1; is_rest = none; whole = sym (append-nil w.taken.0) }));
        };
        grows = grows;
        failed = none-failed same;
      }

      -- an item was not read, or found no room
      pub fails-wanting : {T : Type 0} {mid : CountedView R} {e : BorshError} (k : ℕ) (IsFull : Type 0) → WasRead n cs (remaining old.inner) (remaining mid.inner) → length cs + k ≤ n → length cs < n → n < 2 ^ 64 → old.faults ≤ mid.faults → mid.failed ≡ old.failed → (IsFull → max slots 1024 ≤ length cs)
          → FailsFor {T = T} remaining (WantsItem Spells Fits Reason k IsFull (length cs + 1 ≡ n)) mid new (Err e)
          → FailsFor {T = U} remaining (TinyReason Spells Fits Reason slots) old new (Err e)
      fails-wanting k IsFull w more less counted grows same full failed =
          fails-after (HasParts (IsCount n) (SpellsItems Spells cs)) w.taken grows same (counted-fronts Spells Fits (Reason Ended) fronts (2 ^ 64 - 1) n cs (omega (arith, less)) (omega (arith, less, counted)) w.fit) (λ f input p. elim p.is_rest [
            | inl so ↦ inr (in-block Reason f (2 ^ 64 - 1) n k cs w.fit more (omega (arith, more, counted)) input (rest-so p so))
            | inr wanting ↦ subst (λ f. TinyReason Spells Fits Reason slots f input) (sym wanting.0) (inl (outgrows slots n cs w.fit (full wanting.1) less input (rest-so p wanting.2)))
          ]) failed

    module _ (room n : ℕ) (cs : List C) (old : Option (List ℕ)) where
      -- what is left of the input once one item more than the room was read
      pub rest-many : (HasLongItem : List ℕ → Type 0) (new : Option (List ℕ)) → WasRead n cs old new → length cs ≡ room + 1 → room < n
          → LeavesRest Spells HasLongItem room old new InvalidLength
      rest-many HasLongItem new w over above = inl (record { len = n; items = cs; over = over; above = above; taken = w.taken })

      module _ (Reason : BorshError → List ℕ → Type 0) (mid new : Option (List ℕ)) (f g : ℕ) (w : WasRead n cs old mid) where
        -- and where an item was not read
        pub rest-item : (e : BorshError) → length cs < n → length cs ≤ room → Fails Reason mid f g e
            → LeavesRest Spells (InItem Spells Fits (Reason InvalidLength) room) room old new e
        rest-item InvalidLength more few may = inr (maybe-behind old mid (Reason InvalidLength) _ w.taken (in-item (Reason InvalidLength) room n cs w.fit more few) may)
        rest-item Ended more few may = tt
        rest-item InvalidUtf8 more few may = tt
        rest-item Io more few may = tt
        rest-item Memory more few may = tt

        -- or a block of k items
        pub rest-block : (e : BorshError) (k : ℕ) → length cs + k ≤ n → length cs + k ≤ room + 1 → Fails (AfterItems Spells Fits Reason k) mid f g e
            → LeavesRest Spells (InItem Spells Fits (Reason InvalidLength) room) room old new e
        rest-block InvalidLength k more few may =
            inr (maybe-behind old mid (AfterItems Spells Fits Reason k InvalidLength) _ w.taken (in-block Reason InvalidLength room n k cs w.fit more few) may)
        rest-block Ended k more few may = tt
        rest-block InvalidUtf8 k more few may = tt
        rest-block Io k more few may = tt
        rest-block Memory k more few may = tt

pub fit-next : {T C : Type 0} (content : T → C) (Fits : C → Type 0) (xs : List T) (i : ℕ) (x : T) → i < length xs → x ≡ get_or xs i x → AllByRecursion Fits (map content (take i xs)) → Fits (content x)
    → AllByRecursion Fits (map content (take (i + 1) xs))
fit-next content Fits xs i x within is fit f = rw (map_more content xs i x within, ← is) (fit-more Fits (map content (take i xs)) (content x) fit f)
