-- What `Slots` says of an array and of a lent slice. A proof by name passes it to the lemmas, as `drained D d only (array_slots 4) ..`.
use Rattle.std.proofs.Common.{◌≡◌, ℕ, List, length, refl}
use Rattle.std.specs.Borrow.{GName, MutBor}
use Rattle.tinyvec_array.specs.declared.slots.Slots as Storage
use Rattle.tinyvec_array.specs.declared.bound.UpTo.{UpTo}
use Rattle.tinyvec_array.specs.UpTo.{up_to, up_to-len}

-- an array of n slots
abbrev pub array_slots : {T : Type 0} → (n : ℕ) → Storage.Ghosts (List T) T (UpTo n)
array_slots n = record {
  slots = λ a. a;
  Name = Unit;
  name = λ _. tt;
  with_slots = λ _ xs. xs;
  Counts = λ xs. length xs ≡ n;
  count = λ k. k.len;
  of_count = up_to n;
  count_of = λ k xs. up_to-len n k xs;
  slots_written = λ a xs. refl;
  rewritten = λ a xs ys. refl;
  name_kept = λ a xs. refl;
}

-- a slice that is lent for writing
abbrev pub lent_slots : {T : Type 0} → Storage.Ghosts (MutBor (List T)) T ℕ
lent_slots = record {
  slots = λ lent. lent.now;
  Name = GName;
  name = λ lent. lent.ghost_name;
  with_slots = λ lent xs. record lent { now = xs };
  Counts = λ xs. Unit;
  count = λ k. k;
  of_count = λ k. k;
  count_of = λ k xs all le. refl;
  slots_written = λ lent xs. refl;
  rewritten = λ lent xs ys. refl;
  name_kept = λ lent xs. refl;
}
