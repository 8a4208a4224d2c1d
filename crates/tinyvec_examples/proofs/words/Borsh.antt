-- Examples of the Borsh form, of contents that are bytes: each spells itself, and an input without a byte is cut.
use Rattle.std.proofs.Common.{◌≡◌, ℕ, ◌<◌, List, [], ◌∷◌, Option, Some, None, false, Ok, Err, inl, refl, ap, length, length-append, rules, arith}
use Rattle.std.specs.Prelude.{IsUtf8}
use Rattle.tinyvec_borsh.specs.Failed.{CountsIo}
use Rattle.tinyvec_borsh.specs.Items.{SpellsItems, SpellsList, ListFits, AfterItems, InItem, ListReason, CountsAbove, MayAllocate, TinyReason}
use Rattle.tinyvec.specs.View.{in_array, on_heap}
use Rattle.tinyvec_borsh.specs.Place.{place_read}
use Rattle.tinyvec_borsh.specs.Reading.{ReadsSpelling, FailsFor, LeavesRest, LeavesSlots, TakesSome}
use Rattle.tinyvec_borsh.specs.Writing.{WritesValue}
use Rattle.tinyvec_io.specs.Counted.{CountedView}
use Rattle.tinyvec_borsh.specs.declared.borsh_error.BorshError.TheVariants.{Ended, Io, Memory}
use Rattle.tinyvec_borsh.specs.declared.borsh_error.BorshError.{BorshError}
use Rattle.tinyvec_borsh.specs.Apart.{AreApart}
use Rattle.tinyvec_borsh.specs.Code.{IsCode}
use Rattle.tinyvec_borsh.specs.Number.{TooFewBytes}
use Rattle.tinyvec_borsh.specs.Text.{AreNoText, SpellsText, TextFits, TextReason}

-- a byte spells itself
abbrev pub Spells : ℕ → List ℕ → Type 0
Spells c bytes = bytes ≡ c ∷ []

-- every byte fits
abbrev pub Fits : ℕ → Type 0
Fits c = c < 256

abbrev pub Reason : BorshError → List ℕ → Type 0
Reason = TooFewBytes 1

abbrev pub IsNever : List ℕ → Type 0
IsNever input = ⊥

pub example-TooFewBytes : TooFewBytes 1 Ended []
example-TooFewBytes = (refl, omega arith)

pub example-IsCode : (spells : ℕ → List ℕ → Type 0) (bytes : List ℕ) → IsCode spells → spells 7 (1 ∷ []) → spells 7 bytes → bytes ≡ 1 ∷ []
example-IsCode spells bytes code one other = code.one_spelling 7 bytes (1 ∷ []) other one

pub example-AreApart : (spells : ℕ → List ℕ → Type 0) (fits : ℕ → Type 0) (reason : BorshError → List ℕ → Type 0)
    → AreApart spells fits reason → spells 7 (1 ∷ []) → reason Ended (1 ∷ 2 ∷ []) → ⊥
example-AreApart spells fits reason apart one cut = apart.spelled_or_cut 7 (1 ∷ []) (2 ∷ []) one cut

pub example-SpellsItems : SpellsItems Spells (7 ∷ 8 ∷ []) (7 ∷ 8 ∷ [])
example-SpellsItems = record { first = 7 ∷ []; rest = 8 ∷ []; is_first = refl; is_rest = record { first = 8 ∷ []; rest = []; is_first = refl; is_rest = refl; whole = refl }; whole = refl }

pub example-SpellsList : SpellsList Spells (7 ∷ []) (1 ∷ 0 ∷ 0 ∷ 0 ∷ 0 ∷ 0 ∷ 0 ∷ 0 ∷ 7 ∷ [])
example-SpellsList = record {
  first = 1 ∷ 0 ∷ 0 ∷ 0 ∷ 0 ∷ 0 ∷ 0 ∷ 0 ∷ [];
  rest = 7 ∷ [];
  is_first = search rules;
  is_rest = record { first = 7 ∷ []; rest = []; is_first = refl; is_rest = refl; whole = refl };
  whole = refl;
}

pub example-ListFits : ListFits Spells Fits 4 (7 ∷ 8 ∷ [])
example-ListFits = search rules

pub example-AfterItems : AfterItems Spells Fits Reason 2 Ended (7 ∷ [])
example-AfterItems = record {
  items = 7 ∷ [];
  fewer = omega arith;
  fit = search rules;
  parts = record { first = 7 ∷ []; rest = []; is_first = record { first = 7 ∷ []; rest = []; is_first = refl; is_rest = refl; whole = refl }; is_rest = example-TooFewBytes; whole = refl };
}

pub example-InItem : InItem Spells Fits (Reason Ended) 4 (2 ∷ 0 ∷ 0 ∷ 0 ∷ 0 ∷ 0 ∷ 0 ∷ 0 ∷ 7 ∷ [])
example-InItem = record {
  has = record {
    len = 2;
    items = 7 ∷ [];
    count = 2 ∷ 0 ∷ 0 ∷ 0 ∷ 0 ∷ 0 ∷ 0 ∷ 0 ∷ [];
    bytes = 7 ∷ [];
    tail = [];
    counted = search rules;
    spelled = record { first = 7 ∷ []; rest = []; is_first = refl; is_rest = refl; whole = refl };
    fit = search rules;
    whole = refl;
  };
  fewer = omega arith;
  few = omega arith;
  left = example-TooFewBytes;
}

pub example-ListReason : ListReason Spells Fits Reason IsNever 4 Ended (1 ∷ 0 ∷ [])
example-ListReason = inl (omega arith)

-- this count is above 4
counts_above : CountsAbove 4 (5 ∷ 0 ∷ 0 ∷ 0 ∷ 0 ∷ 0 ∷ 0 ∷ 0 ∷ 7 ∷ [])
counts_above = (5, omega arith, record { first = 5 ∷ 0 ∷ 0 ∷ 0 ∷ 0 ∷ 0 ∷ 0 ∷ 0 ∷ []; rest = 7 ∷ []; is_first = search rules; is_rest = _; whole = refl })

pub example-MayAllocate : MayAllocate Spells Fits 4 (5 ∷ 0 ∷ 0 ∷ 0 ∷ 0 ∷ 0 ∷ 0 ∷ 0 ∷ 7 ∷ [])
example-MayAllocate = inl (omega arith, counts_above)

pub example-TinyReason : TinyReason Spells Fits Reason 4 Memory (5 ∷ 0 ∷ 0 ∷ 0 ∷ 0 ∷ 0 ∷ 0 ∷ 0 ∷ 7 ∷ [])
example-TinyReason = inl example-MayAllocate

-- no byte was left
none_taken : TakesSome (Reason Ended) (Some []) (Some []) Ended
none_taken = record { bytes = []; taken = search rules; end = λ is. refl; needed = λ front back some is. absurd (omega (arith, some, ap length is, length-append front back)); short = λ no. absurd (no tt) }

-- of three slots one was read, and then the input ended
pub example-LeavesSlots : LeavesSlots (λ (n : ℕ). n) Spells Fits false (Reason Ended) (1 ∷ 2 ∷ 3 ∷ []) (7 ∷ 2 ∷ 3 ∷ []) (Some (7 ∷ [])) (Some []) Ended
example-LeavesSlots = record {
  read = 7 ∷ [];
  rest = 2 ∷ 3 ∷ [];
  slots = refl;
  same_len = refl;
  some_left = omega arith;
  kept = λ _. refl;
  fit = search rules;
  taken = (Some [], (7 ∷ [], record { first = 7 ∷ []; rest = []; is_first = refl; is_rest = refl; whole = refl }, search rules), none_taken);
}

-- room for all of a short list is made ahead
pub example-place_read : (place_read 4 4 ≡ in_array 4) × (place_read 4 5 ≡ on_heap 5)
example-place_read = (refl, refl)

pub example-ReadsSpelling : ReadsSpelling (λ bytes. bytes ≡ 7 ∷ []) (Some (7 ∷ 8 ∷ [])) (Some (8 ∷ []))
example-ReadsSpelling = (7 ∷ [], refl, search rules)

-- a reader with these bytes left, or a writer that has taken them, without a fault
abbrev pub holding : List ℕ → CountedView (List ℕ)
holding bytes = record { inner = bytes; faults = 0; last_fault = None; failed = 0; flushed = false }

abbrev pub known : List ℕ → Option (List ℕ)
known bytes = Some bytes

pub example-CountsIo : CountsIo {T = ℕ} 3 4 (Err Io)
example-CountsIo = record { exact = refl; grows = omega arith }

pub example-FailsFor : FailsFor {T = ℕ} known Reason (holding []) (holding []) (Err Ended)
example-FailsFor = record { err = example-TooFewBytes; taken = none_taken; grows = omega arith; failed = record { exact = refl; grows = omega arith } }

pub example-SpellsText : SpellsText (104 ∷ []) (1 ∷ 0 ∷ 0 ∷ 0 ∷ 0 ∷ 0 ∷ 0 ∷ 0 ∷ 104 ∷ [])
example-SpellsText = record {
  first = 1 ∷ 0 ∷ 0 ∷ 0 ∷ 0 ∷ 0 ∷ 0 ∷ 0 ∷ [];
  rest = 104 ∷ [];
  is_first = search rules;
  is_rest = record { first = 104 ∷ []; rest = []; is_first = search rules; is_rest = refl; whole = refl };
  whole = refl;
}

pub example-TextFits : TextFits (104 ∷ [])
unfolding lib.Utf8.encode
example-TextFits = (search rules, (104 ∷ [], (refl, refl)))

pub example-AreNoText : (IsUtf8 (255 ∷ []) → ⊥) → AreNoText (255 ∷ [])
example-AreNoText other = (search rules, other)

pub example-TextReason : TextReason 4 Ended (1 ∷ 0 ∷ [])
example-TextReason = inl (omega arith)

pub example-LeavesRest : LeavesRest Spells IsNever 4 None None Ended
example-LeavesRest = _

pub example-WritesValue : WritesValue {T = ℕ} known (λ bytes. bytes ≡ 7 ∷ []) (holding (1 ∷ [])) (holding (1 ∷ 7 ∷ [])) (Ok 0)
example-WritesValue = record { ok = (7 ∷ [], refl, search rules); err = tt; front = tt; grows = omega arith; failed = record { exact = refl; grows = omega arith } }
