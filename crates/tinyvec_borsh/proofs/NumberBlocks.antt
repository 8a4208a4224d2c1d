-- Numbers that are written and read in blocks.
use Rattle.std.proofs.Common.{◌≡◌, ◌∙◌, ap, sym, subst, ℕ, ◌+◌, ◌-◌, ◌*◌, ◌/◌, ◌<◌, ◌≤◌, zero, suc, inl, inr, List, [], ◌∷◌, ◌++◌, length, refl, arith, length-append, Option, Err, take, drop, get_or, slice_set, take-append-drop, length-take-le, length-drop, take-add}
use Rattle.std.proofs.Math.Nat.{div-mul-le_self, mul-le-mul_right}
use Rattle.std.proofs.lemmas.Bool.{cases_lt}
use Rattle.std.proofs.lemmas.List.{take_more, take_more_set}
use Rattle.std.proofs.lemmas.List.Elements.{All-drop, All-from_get_or, All-from_recursion, All-take, recursion_from_All}
use Rattle.std.specs.List.{All, AllByRecursion}
use Rattle.std.specs.Io.KnownBytes.{Appends}
use Rattle.std.proofs.KnownBytes.{Appends-trans}
use Rattle.tinyvec_borsh.specs.declared.borsh_error.BorshError.{BorshError}
use Rattle.tinyvec_borsh.specs.declared.borsh_error.BorshError.TheVariants.{Ended}
use Rattle.tinyvec_borsh.specs.Items.{SpellsItems, AfterItems}
use Rattle.tinyvec_borsh.specs.Number.{SpellsNumber, TooFewBytes}
use Rattle.tinyvec_borsh.specs.TwoParts.{HasParts, group-first, joined}
use Rattle.tinyvec_borsh.proofs.Parts.{first-so, rest-so}
use Rattle.tinyvec_borsh.specs.Reading.{FailsFor, FewBytes, TakesSome}
use Rattle.tinyvec_io.specs.Counted.{CountedView}
use Rattle.tinyvec_borsh.specs.Fronts.{FrontsAreCut}
use Rattle.tinyvec_borsh.proofs.Blocks.{TookItems, after-fronts, of-more}
use Rattle.tinyvec_borsh.proofs.ItemByItem.{WroteItems, fails-after, fit-join, fit-more, items-join, items-more, some-so}

-- a number more takes as many bytes more
one-more : (i width : ℕ) → (i + 1) * width ≡ i * width + width
one-more i width = omega arith

-- room for some numbers is room for each
pub next_within : (i n width : ℕ) → i < n → i * width + width ≤ n * width
next_within i n width within = grind arith

-- a block fits the room
pub block_within : (room count width : ℕ) → count ≤ room / width → count * width ≤ room
block_within room count width few =
    let most : count * width ≤ room / width * width = mul-le-mul_right width few in
    omega (arith, most, div-mul-le_self room width)

pub small_bytes : (bytes : List ℕ) → ((i : ℕ) → get_or bytes i 0 < 256) → AllByRecursion (λ byte. byte < 256) bytes
small_bytes bytes small = recursion_from_All (λ byte. byte < 256) bytes (All-from_get_or (λ byte. byte < 256) bytes 0 (λ i _. small i))

-- each byte spells itself
pub spells-bytes : (xs : List ℕ) → AllByRecursion (λ byte. byte < 256) xs → SpellsItems (SpellsNumber 1) xs xs
spells-bytes [] small = refl
spells-bytes (x ∷ xs) small = joined (x ∷ []) xs (record { many = refl; small = (small.0, tt); value = omega arith }) (spells-bytes xs small.1)

-- the first items, and the block behind them
pub until-end : {T : Type 0} (start count : ℕ) (xs : List T) → take (start + count) xs ≡ take start xs ++ take (start + count - start) (drop start xs)
until-end start count xs =
    let many : start + count - start ≡ count = omega arith in rw many (take-add start count xs)

module _ {C : Type 0} (Spells : C → List ℕ → Type 0) (Fits : C → Type 0) where
  -- the numbers of the first slots are spelled, and that of the next one
  pub spells-next : (width count : ℕ) (bytes : List ℕ) (xs : List C) (i : ℕ) (x : C) → i < length xs → count ≡ width → SpellsItems Spells (take i xs) (take (i * width) bytes)
      → Spells x (take count (drop (i * width) bytes)) → SpellsItems Spells (take (i + 1) (slice_set xs i x)) (take ((i + 1) * width) bytes)
  spells-next width count bytes xs i x within same before is = rw (take_more_set xs i x within, one-more i width, take-add (i * width) width bytes) (items-more Spells (take i xs) x _ _ before (rw same at is))

  pub fit-slot : (xs : List C) (i : ℕ) (x : C) → i < length xs → AllByRecursion Fits (take i xs) → Fits x → AllByRecursion Fits (take (i + 1) (slice_set xs i x))
  fit-slot xs i x within before fits = subst (AllByRecursion Fits) (sym (take_more_set xs i x within)) (fit-more Fits (take i xs) x before fits)

  -- the bytes of the first numbers were put into the room, and those of the next one
  pub spells-put : (width : ℕ) (xs : List C) (i : ℕ) (x : C) (room new bytes : List ℕ) → i < length xs → x ≡ get_or xs i x → take (i * width + width) new ≡ take (i * width) room ++ bytes
      → SpellsItems Spells (take i xs) (take (i * width) room) → Spells x bytes → SpellsItems Spells (take (i + 1) xs) (take ((i + 1) * width) new)
  spells-put width xs i x room new bytes within is put before next = rw (take_more xs i x within, ← is, one-more i width, put) (items-more Spells (take i xs) x _ bytes before next)

  pub fit-put : (xs : List C) (i : ℕ) (x : C) → i < length xs → x ≡ get_or xs i x → AllByRecursion Fits (take i xs) → Fits x → AllByRecursion Fits (take (i + 1) xs)
  fit-put xs i x within is before fits = rw (take_more xs i x within, ← is) (fit-more Fits (take i xs) x before fits)

  -- a block was put into the room and written behind the items so far
  pub wrote-block : (width n : ℕ) (xs ys zs : List C) (bytes room : List ℕ) (old mid new : Option (List ℕ)) → zs ≡ xs ++ ys → bytes ≡ take (n * width) room → n ≡ length ys → WroteItems Spells xs old mid
      → SpellsItems Spells ys (take (length ys * width) room) → Appends mid new bytes → WroteItems Spells zs old new
  wrote-block width n xs ys zs bytes room old mid new both is many w spelled added = subst (λ cs. WroteItems Spells cs old new) (sym both) (record {
    bytes = w.bytes ++ bytes;
    spelled = items-join Spells xs ys (w.bytes ++ bytes) (joined w.bytes bytes w.spelled (subst (SpellsItems Spells ys) (sym (is ∙ ap (λ m. take (m * width) room) many)) spelled));
    appended = Appends-trans old mid new w.bytes bytes w.appended added;
  })

  pub fit-block : (xs ys zs : List C) → zs ≡ xs ++ ys → AllByRecursion Fits xs → AllByRecursion Fits ys → AllByRecursion Fits zs
  fit-block xs ys zs both p q = subst (AllByRecursion Fits) (sym both) (fit-join Fits xs ys p q)

  -- an item of the block was not read, and the input is so from it on
  pub fails-behind-block : {R T U : Type 0} {remaining : R → Option (List ℕ)} {old mid new : CountedView R} {e : BorshError} (Reason : BorshError → List ℕ → Type 0) → FrontsAreCut Spells Fits (Reason Ended) → (k n : ℕ) (cs : List C)
      → TookItems Spells Fits cs (remaining old.inner) (remaining mid.inner) → length cs + k ≤ n → old.faults ≤ mid.faults → mid.failed ≡ old.failed
      → FailsFor {T = T} remaining (AfterItems Spells Fits Reason k) mid new (Err e) → FailsFor {T = U} remaining (AfterItems Spells Fits Reason n) old new (Err e)
  fails-behind-block Reason fronts k n cs w fewer grows same failed = fails-after (SpellsItems Spells cs) w.taken grows same (after-fronts Spells Fits Reason fronts n cs (omega (arith, fewer)) w.fit) (λ f input p.
      let so = p.is_rest in
      let q : HasParts (HasParts (SpellsItems Spells cs) (SpellsItems Spells so.items)) (Reason f) input = group-first (rest-so p so.parts) in
      record {
        items = cs ++ so.items;
        fewer = omega (arith, length-append cs so.items, so.fewer, fewer);
        fit = fit-join Fits cs so.items w.fit so.fit;
        parts = first-so q (items-join Spells cs so.items q.first q.is_first);
      }) failed

  module _ (width : ℕ) (of_bytes : List ℕ → C) (read : (bytes : List ℕ) → length bytes ≡ width → AllByRecursion (λ byte. byte < 256) bytes → Spells (of_bytes bytes) bytes × Fits (of_bytes bytes)) where
    -- of fewer bytes than so many numbers have, the last number that begins is cut
    few-numbers : (n : ℕ) (input : List ℕ) → All (λ byte. byte < 256) input → length input < n * width → AfterItems Spells Fits (TooFewBytes width) n Ended input
    few-numbers zero input small few = absurd (omega (arith, few))
    few-numbers (suc n) input small few = elim (cases_lt (length input) width) [
      | inl cut ↦ record { items = []; fewer = omega arith; fit = tt; parts = joined [] input refl (refl, cut) }
      | inr enough ↦
          let long = length-take-le width input enough in
          let one = read (take width input) long (recursion_from_All (λ byte. byte < 256) (take width input) (All-take (λ byte. byte < 256) width input small)) in
          let rest = few-numbers n (drop width input) (All-drop (λ byte. byte < 256) width input small) (omega (arith, length-drop width input, few, enough)) in
          record {
            items = of_bytes (take width input) ∷ rest.items;
            fewer = omega (arith, rest.fewer);
            fit = (one.1, rest.fit);
            parts = group-first (record { first = take width input; rest = drop width input; is_first = one.0; is_rest = rest.parts; whole = sym (take-append-drop width input) });
          }
    ]

    -- so many numbers have `many` bytes, which were not all there
    pub few-bytes : (n many : ℕ) → many ≡ n * width → (e : BorshError) (input : List ℕ) → FewBytes many e input → AfterItems Spells Fits (TooFewBytes width) n e input
    few-bytes n many is e input few =
        subst (λ f. AfterItems Spells Fits (TooFewBytes width) n f input) (sym few.0) (few-numbers n input (All-from_recursion (λ byte. byte < 256) input few.1) (omega (arith, few.2, is)))

    -- a block of k numbers was cut, and so were n, which are no fewer
    pub cut-block : (k n many : ℕ) → many ≡ k * width → k ≤ n → (old new : Option (List ℕ)) (e : BorshError) → TakesSome (FewBytes many Ended) old new e → TakesSome (AfterItems Spells Fits (TooFewBytes width) n Ended) old new e
    cut-block k n many is less old new e = some-so old new e (λ bytes cut. of-more Spells Fits (TooFewBytes width) k n less Ended bytes (few-bytes k many is Ended bytes cut))
