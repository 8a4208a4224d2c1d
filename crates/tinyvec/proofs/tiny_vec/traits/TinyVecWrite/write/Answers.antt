use Rattle.std.proofs.Common.{◌≡◌, ◌<◌, ℕ, List, inl, inr}
use Rattle.std.specs.Bool.{⊤}
use Rattle.tinyvec_slots.specs.Clones.{RefusedAt}
use Rattle.tinyvec.specs.Refused.{RefusedFor}
use Rattle.tinyvec_slots.proofs.CloneLemmas.{on_err}
use Rattle.tinyvec.specs.View.{TinyView}
use Rattle.tinyvec.specs.TinyVec.{view}
use Rattle.tinyvec.proofs.tiny_vec.traits.TinyVecWrite.write.Goals as goal

-- a clone that cannot be refused was not refused
not_refused : (I : ℕ → Type 0) → ((x : ℕ) → I x) → (xs : List ℕ) (j : ℕ) → RefusedAt I xs j → ⊥
not_refused I sure xs j h = h.1 0 (sure _)

for_memory : (I : ℕ → Type 0) → ((x : ℕ) → I x) → (xs : List ℕ) (need : ℕ) (Q : ℕ → Type 0) (old new : TinyView ℕ)
    → RefusedFor need ((j : ℕ) × RefusedAt I xs j × Q j) old new → (old.place.capacity < need) × (new ≡ old)
for_memory I sure xs need Q old new (inl h) = h
for_memory I sure xs need Q old new (inr h) = absurd (not_refused I sure xs h.1.0 h.1.1)

pub returns-in_err-extend_from_slice-clause-refused : goal.returns-in_err-extend_from_slice-clause-refused
returns-in_err-extend_from_slice-clause-refused g c =
    let h = for_memory (λ _. ⊤) (λ _. tt) c.args.buf.now _ _ (view g.A.Slots c.args.self.now) (view g.A.Slots c.extend_from_slice.new.self) c.in_err-extend_from_slice.ensures.refused in
    on_err c.from_residual.result h.1
