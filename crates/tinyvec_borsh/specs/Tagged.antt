-- A byte before an encoding, as the tag of a record.
use Rattle.std.specs.Prelude.{◌≡◌, ℕ, List, ◌∷◌}

-- the tag, and then the encoding
abbrev pub SpellsTagged : {C : Type 0} → ℕ → (C → List ℕ → Type 0) → C → List ℕ → Type 0
SpellsTagged tag Spells c bytes = (rest : List ℕ) × Spells c rest × (bytes ≡ tag ∷ rest)

-- The input has a tag, and is so after it.
abbrev pub IsTagged : ℕ → (List ℕ → Type 0) → List ℕ → Type 0
IsTagged tag P input = (rest : List ℕ) × (input ≡ tag ∷ rest) × P rest
