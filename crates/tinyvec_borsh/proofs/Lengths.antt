-- How many bytes a spelling has.
use Rattle.std.proofs.Common.{◌≡◌, ◌∙◌, ap, ℕ, ◌+◌, ◌*◌, ◌-◌, ◌^◌, ◌<◌, List, [], ◌∷◌, ◌++◌, length, min, refl, arith, map, take, get_or, append-nil}
use Rattle.std.proofs.lemmas.List.{map_more}
use Rattle.tinyvec_borsh.specs.Items.{SpellsItems, SpellsList}
use Rattle.tinyvec_borsh.specs.Number.{SpellsNumber}
use Rattle.tinyvec_borsh.specs.TwoParts.{HasParts, group-first, parts-length}
use Rattle.tinyvec_borsh.proofs.Parts.{rest-so}

numbers-length : (width : ℕ) (ns bytes : List ℕ) → SpellsItems (SpellsNumber width) ns bytes → length bytes ≡ width * length ns
numbers-length width [] bytes p = omega (arith, ap length p)
numbers-length width (n ∷ ns) bytes p = omega (arith, parts-length p, p.is_first.many, numbers-length width ns p.rest p.is_rest)

-- of a list of numbers
pub list-length : (width : ℕ) (ns bytes : List ℕ) → SpellsList (SpellsNumber width) ns bytes → length bytes ≡ 8 + width * length ns
list-length width ns bytes p = omega (arith, parts-length p, p.is_first.many, numbers-length width ns p.rest p.is_rest)

module _ {C : Type 0} (Spells : C → List ℕ → Type 0) where
  -- So long is each spelling of the items, up to the greatest number.
  abbrev pub HaveLength : List C → ℕ → Type 0
  HaveLength cs n = (bytes : List ℕ) → SpellsItems Spells cs bytes → n ≡ min (length bytes) (2 ^ 64 - 1)

  -- a spelling of a list is one of its front, and then one of the last
  parts : (cs : List C) (c : C) (bytes : List ℕ) → SpellsItems Spells (cs ++ c ∷ []) bytes → HasParts (SpellsItems Spells cs) (Spells c) bytes
  parts [] c bytes p = record { first = []; rest = p.first; is_first = refl; is_rest = p.is_first; whole = p.whole ∙ ap (λ l. p.first ++ l) p.is_rest ∙ append-nil p.first }
  parts (d ∷ cs) c bytes p = group-first (rest-so p (parts cs c p.rest p.is_rest))

  one-more : (cs : List C) (c : C) (n m : ℕ) → HaveLength cs n → ((bytes : List ℕ) → Spells c bytes → m ≡ min (length bytes) (2 ^ 64 - 1)) → HaveLength (cs ++ c ∷ []) (min (n + m) (2 ^ 64 - 1))
  one-more cs c n m have item bytes p =
      let t = parts cs c bytes p in
      omega (arith, have t.first t.is_first, item t.rest t.is_rest, parts-length t)

  pub next-length : {T : Type 0} (content : T → C) (xs : List T) (i : ℕ) (x : T) (n m k : ℕ) → i < length xs → x ≡ get_or xs i x → k ≡ min (n + m) (2 ^ 64 - 1) → HaveLength (map content (take i xs)) n
      → ((bytes : List ℕ) → Spells (content x) bytes → m ≡ min (length bytes) (2 ^ 64 - 1)) → HaveLength (map content (take (i + 1) xs)) k
  next-length content xs i x n m k within is sum have item = rw (map_more content xs i x within, ← is, sum) (one-more (map content (take i xs)) (content x) n m have item)
