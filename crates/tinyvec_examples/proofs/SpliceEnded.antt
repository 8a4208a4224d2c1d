-- What a splice made of a list, once it was driven by a word of ends and finished.
use Rattle.std.proofs.Common.{◌≡◌, ℕ, ◌+◌, ◌-◌, ◌≤◌, List, [], ◌∷◌, ◌++◌, length, drop, Option, Some, None, Result, Ok, Err, IsOk, OnOk, IfErr, ◌↔◌, false, true, sym, ap, ◌∙◌, arith}
use Rattle.std.specs.declared.iter.Fuse.{Fuse}
use Rattle.tinyvec_slots.specs.Slots.{SlotRule}
use Rattle.tinyvec_slots.specs.Ends.{End}
use Rattle.tinyvec_slots.specs.AnySplice.{SpliceView, Splices, FinishesWith}
use Rattle.tinyvec_slots.specs.SplicedByWord.{IsSpliceRefused, SplicedByWord}
use Rattle.tinyvec_slots.specs.declared.no_room.NoRoom.{NoRoom}
use Rattle.tinyvec_slots.proofs.AnySpliceLemmas.{spliced_len, spliced_all, spliced_refused}
use Rattle.tinyvec_array.specs.ArrayVec.{view_of, slots_of}
use Rattle.tinyvec_array.specs.View.{view, view as slots_view}
use Rattle.tinyvec_array.specs.CutLaws.{KeptOf}
use Rattle.tinyvec_slots.specs.Splice.{splice_vec, SpliceKeeps}
use Rattle.tinyvec_array.proofs.ViewLemmas.{parts_of}
use Rattle.tinyvec_array.specs.declared.slots.Slots as Storage
use Rattle.tinyvec_array.specs.declared.array_vec.ArrayVec.{ArrayVec}
use Rattle.tinyvec_slots.specs.declared.splice.Splice.{Splice}

-- the list, where the replacement was known
module _ {S I T : Type 0} {view : S → SpliceView I T} {keeps : S → S → Type 0} (rest : I → List T) (capacity : ℕ) (s t : S) (word : List End) (list : List T)
    (before removed after replacement : List T) (along : SplicedByWord view keeps rest s word t)
    (ahead : (view s).front ≡ before) (left : (view s).left ≡ removed) (behind : (view s).back ≡ after) (whole : rest (view s).replacement ≡ replacement) where
  pub ended_fits : (result : Result Unit (NoRoom T I)) → FinishesWith rest capacity (view t) result list
      → IsOk result ↔ (length before + length replacement + length after ≤ capacity)
  ended_fits result f =
      let sum = spliced_len view keeps rest s t word list before removed after replacement along ahead left behind whole in
      (λ ok. let le = f.succeeds.0 ok in omega (arith, le, sum), λ le. f.succeeds.1 (omega (arith, le, sum)))

  pub ended_list : (result : Result Unit (NoRoom T I)) → FinishesWith rest capacity (view t) result list → OnOk result (list ≡ before ++ replacement ++ after)
  ended_list (Ok u) f = spliced_all view keeps rest s t word list before removed after replacement along ahead left behind whole f.all
  ended_list (Err refused) f = tt

  pub ended_refused : (result : Result Unit (NoRoom T I)) → FinishesWith rest capacity (view t) result list
      → IfErr result (λ refused. IsSpliceRefused word (length removed) before after replacement list (refused.item ∷ rest refused.rest))
  ended_refused (Ok u) f = tt
  ended_refused (Err refused) f =
      let h = f.refused in
      spliced_refused view keeps rest s t word list before removed after replacement along ahead left behind whole h.0 refused.item (rest refused.rest) h.1 h.2

  pub ended_all : (result : Result Unit (NoRoom T I)) → FinishesWith rest capacity (view t) result list → length before + length replacement + length after ≤ capacity
      → list ≡ before ++ replacement ++ after
  ended_all (Ok u) f le = ended_list (Ok u) f
  ended_all (Err refused) f le = absurd (let no : false ≡ true = (ended_fits (Err refused) f).1 le in cc)

-- the slot rule from the splice on
pub ended_slots : {S T L I : Type 0} (g : Storage.Ghosts S T L) (D : T → Type 0) (s t : Splice (ArrayVec S L) (Fuse I)) (old v : ArrayVec S L) → SpliceKeeps (λ v. (view g v).items) (KeptOf g) s t
    → splice_vec s ≡ old → SlotRule D (view_of g (splice_vec t)) (view_of g v) → SlotRule D (view_of g old) (view_of g v)
ended_slots g D s t old v keeps slots rule =
    let count : length (view g (splice_vec t)).items ≡ length (view g old).items = keeps.kept.1.1 ∙ ap (λ v. length (view g v).items) slots in
    let behind : (view g (splice_vec t)).spare ≡ (view g old).spare = keeps.kept.1.0 ∙ ap (λ v. (view g v).spare) slots in (
      rule.0,
      (rule.1.0 ∙ ap (λ n. n - length (view g v).items) count, rule.1.1),
      rule.2 ∙ ap (λ n. rule.0 ++ drop (length (view g v).items - n) (view g (splice_vec t)).spare) count ∙ ap (λ l. rule.0 ++ drop (length (view g v).items - length (view g old).items) l) behind,
    )

-- as many slots as at its start
pub ended_count : {S T L I : Type 0} (g : Storage.Ghosts S T L) (s t : Splice (ArrayVec S L) (Fuse I)) (old v : ArrayVec S L) → SpliceKeeps (λ v. (view g v).items) (KeptOf g) s t
    → splice_vec s ≡ old → (slots_view g v).place ≡ (slots_view g (splice_vec t)).place → length (slots_of g v) ≡ length (slots_of g old)
ended_count g s t old v keeps slots place =
    let count : length (view g (splice_vec t)).items ≡ length (view g old).items = keeps.kept.1.1 ∙ ap (λ v. length (view g v).items) slots in
    let behind : length (view g (splice_vec t)).spare ≡ length (view g old).spare = ap length (keeps.kept.1.0 ∙ ap (λ v. (view g v).spare) slots) in
    omega (arith, ap (λ p. p.capacity) place, count, behind, parts_of g (splice_vec t), parts_of g old)

-- what was taken from an end
module _ {S I T : Type 0} (view : S → SpliceView I T) (keeps : S → S → Type 0) (gives : I → Option T → I → Type 0) (s t : S) where
  pub first_taken : (r : Option T) (x : T) (xs : List T) → Splices view keeps gives s r t → (view s).left ≡ x ∷ xs → (r ≡ Some x) × ((view t).left ≡ xs)
  first_taken None x xs h is = absurd (let no : x ∷ xs ≡ [] = sym is ∙ h.0 in cc)
  first_taken (Some y) x xs h is = let same : y ∷ (view t).left ≡ x ∷ xs = sym h.0.left ∙ is in (cc, cc)
