-- Examples of clones, one of which was refused.
use Rattle.std.proofs.Common.{[], ◌∷◌, refl, rules, arith}
use Rattle.std.specs.Prelude.{⊤, ℕ, Ok}
use Rattle.tinyvec_slots.specs.Clones.{ClonesAreEqual, AreClones, RefusedAt, ClonesOver, ClonesOverFrom, WritesClones, AddsClones, AppendsAllOrNone, ResizesByClones, ClonesBefore, CutsToClones, ClonesInPart}
use Rattle.tinyvec_examples.proofs.words.Shown.{D, C, I, over}

pub example-ClonesAreEqual : ClonesAreEqual C
example-ClonesAreEqual = λ x y h. h

pub example-AreClones : AreClones C (7 ∷ 8 ∷ []) (7 ∷ 8 ∷ [])
example-AreClones = record { each = (refl, (refl, tt)); len = refl; if_clones_equal = λ _. refl }

pub example-RefusedAt : RefusedAt I (7 ∷ 9 ∷ []) 1
example-RefusedAt = (omega arith, λ d h. h refl)

pub example-ClonesOver : ClonesOver C (7 ∷ 8 ∷ []) 2 (0 ∷ 0 ∷ 0 ∷ []) (7 ∷ 8 ∷ 0 ∷ [])
example-ClonesOver = record {
  made = 7 ∷ 8 ∷ [];
  clones = (refl, (refl, tt));
  count = refl;
  written = refl;
}

pub example-ClonesOverFrom : ClonesOverFrom C 1 (7 ∷ 8 ∷ []) 2 (1 ∷ 0 ∷ 0 ∷ 3 ∷ []) (1 ∷ 7 ∷ 8 ∷ 3 ∷ [])
example-ClonesOverFrom = record {
  made = 7 ∷ 8 ∷ [];
  clones = (refl, (refl, tt));
  count = refl;
  written = refl;
}

pub example-WritesClones : WritesClones {R = ℕ} {E = ℕ} (record { is_clone = C; is_infallible = I }) (λ xs n. ClonesOver C xs n (0 ∷ 0 ∷ 0 ∷ []) (7 ∷ 8 ∷ 0 ∷ [])) (7 ∷ 8 ∷ []) (Ok 0)
example-WritesClones = record { ok = example-ClonesOver; refused = tt; succeeds = λ _. refl }

pub example-AddsClones : AddsClones {R = ℕ} {E = ℕ} (record { is_clone = C; is_infallible = I }) (7 ∷ 8 ∷ []) (Ok 0) (over (1 ∷ []) (0 ∷ 0 ∷ 3 ∷ [])) (over (1 ∷ 7 ∷ 8 ∷ []) (3 ∷ []))
example-AddsClones = record {
  items = (7 ∷ 8 ∷ [], refl, (refl, (refl, tt)));
  len = refl;
  if_clones_equal = λ _. refl;
  spare = refl;
  kept = tt;
  refused = tt;
  succeeds = λ _. refl;
}

pub example-AppendsAllOrNone : AppendsAllOrNone {R = ℕ} {E = ℕ} C (7 ∷ []) (Ok 0) (1 ∷ []) (1 ∷ 7 ∷ [])
example-AppendsAllOrNone = record { items = (7 ∷ [], refl, (refl, tt)); len = refl; if_clones_equal = λ _. refl; kept = tt }

pub example-ResizesByClones : ResizesByClones {R = ℕ} {E = ℕ} (record { is_clone = C; is_infallible = I }) 3 7 (Ok 0) (over (1 ∷ []) (0 ∷ 0 ∷ 3 ∷ [])) (over (1 ∷ 7 ∷ 7 ∷ []) (3 ∷ []))
example-ResizesByClones = record {
  items = (7 ∷ 7 ∷ [], refl, (refl, (refl, tt)));
  len = refl;
  if_clones_equal = λ _. refl;
  spare = λ _. refl;
  kept = tt;
  refused = tt;
  succeeds = λ _. refl;
}

pub example-CutsToClones : CutsToClones {R = ℕ} {E = ℕ} (record { is_clone = C; is_infallible = I }) 1 7 (Ok 0) (over (1 ∷ 2 ∷ []) (3 ∷ [])) (over (1 ∷ []) (7 ∷ 3 ∷ []))
example-CutsToClones = record {
  items = refl;
  spare = (7 ∷ [], (refl, tt), refl);
  if_clones_equal = λ _. refl;
  refused = tt;
  succeeds = λ _. refl;
}

pub example-ClonesBefore : ClonesBefore C (7 ∷ []) (0 ∷ []) (7 ∷ 0 ∷ [])
example-ClonesBefore = (7 ∷ [], (refl, tt), refl)

pub example-ClonesInPart : ClonesInPart D I C (5 ∷ 9 ∷ []) (1 ∷ 2 ∷ 3 ∷ []) (5 ∷ 2 ∷ []) 2 ⊤ [] (0 ∷ [])
example-ClonesInPart = record {
  k = 1;
  j = 0;
  made = 5 ∷ [];
  within = omega arith;
  in_order = λ h. absurd (omega arith);
  refused_at = (omega arith, λ d h. h refl);
  clones = (refl, tt);
  listed = refl;
  left = λ _. (0 ∷ [], search rules, [], tt, refl);
}
