-- An `ExtractIf` over the second and third item of [1, 2, 3, 4] that yielded 2, in a vector of any kind.
use Rattle.std.proofs.Common.{◌≡◌, ℕ, Bool, List, [], ◌∷◌, length, slice_range, None, refl, ap, ◌∙◌, arith}
use Rattle.std.specs.Borrow.{MutBor}
use Rattle.std.specs.Fn.{Mut}
use Rattle.tinyvec_slots.specs.Extracting.{extract_closure, extract_left, extract_rest, extract_back, ExtractLies, ExtractLeaves, ExtractSteps, Extracts}
use Rattle.tinyvec_slots.specs.declared.extracting.ExtractIf.{ExtractIf}

module _ {V F : Type 0} (items : V → List ℕ) (room : V → ℕ) (Truncated : V → V → Type 0) (g : Mut F (MutBor ℕ × Unit {0}) (Bool × (MutBor ℕ × Unit {0})))
    (e : ExtractIf V F ℕ) (vec : items e.vec.now ≡ 1 ∷ 0 ∷ 3 ∷ 4 ∷ []) (front : e.front ≡ 1) (gap : e.gap ≡ 1) (end : e.end ≡ 3) where
  pub example-extract_closure : extract_closure e ≡ e.pred
  example-extract_closure = refl

  pub example-extract_left : extract_left e ≡ 1
  example-extract_left = rw (front, gap, end) refl

  pub example-ExtractLies : ExtractLies items e
  example-ExtractLies = (omega (arith, front, gap, end), omega (arith, end, ap length vec))

  pub example-ExtractLeaves : (v : V) → ExtractLeaves items room Truncated e v → items v ≡ 1 ∷ 3 ∷ 4 ∷ []
  example-ExtractLeaves v h = h.items_are ∙ rw (vec, front, gap, end) refl

  pub example-ExtractSteps : (d : ExtractIf V F ℕ) → ExtractSteps items Truncated g e None d → extract_back items d ≡ 4 ∷ []
  example-ExtractSteps d h = h.keeps.back ∙ rw (vec, end) refl

  pub example-Extracts : (old : MutBor V) (f : F) → Extracts items Truncated g old 1 3 f e → extract_rest items e ≡ slice_range (items old.now) 1 3
  example-Extracts old f h = h.rest
