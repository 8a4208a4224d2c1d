-- The equations of the text of squares, and what it has.
use Rattle.std.proofs.Common.{◌≡◌, ◌∙◌, ℕ, zero, suc, ◌+◌, ◌<◌, ◌≤◌, List, [], ◌∷◌, ◌++◌, take, drop, get_or, length, Bool, true, false, ◌==◌, ◌||◌, Option, None, Some, if◌then◌else◌, sym, ap, refl, arith, append_assoc}
use Rattle.std.proofs.lemmas.List.{append-nil, drop_more, length-append}
use Rattle.std.specs.Global.{Box}
use Rattle.tinyvec_array.specs.ArrayVec.{items}
use Rattle.tinyvec_array.specs.declared.array_vec.ArrayVec.{ArrayVec}
use Rattle.tinyvec_array.specs.declared.bound.UpTo.{UpTo}
use Rattle.example_nodes.specs.Squares.{squares_in}
use Rattle.example_nodes.specs.Parts.{parts_by, text_step, text_of, part_text, parts_text, vec_text}
use Rattle.example_nodes.specs.declared.squares.Square.{Square, fold-roll-Square}
use Rattle.example_nodes.specs.declared.squares.Square.TheVariants.{Parts as Whole, rolls-Parts}
use Rattle.example_nodes.specs.declared.squares.Square.TheOpen.{Square-F}
use Rattle.example_nodes.specs.declared.squares.Square.TheFolds.{map-Square}

abbrev pub Part : Type 0
Part = Option (Box Square)

abbrev pub Parts : Type 0
Parts = ArrayVec (List Part) (UpTo 4)

abbrev slots_in : Square-F (List ℕ) → List (Option (Box (List ℕ)))
slots_in (Square-F.Plain dark) = []
slots_in (Square-F.Parts parts) = parts.value.slots

abbrev mapped : Box Parts → List Part → List (Option (Box (List ℕ)))
mapped b ps = slots_in (map-Square Square (List ℕ) text_of (Square-F.Parts record { ptr = b.ptr; alloc = b.alloc; value = record { len = b.value.len; slots = ps } }))

each : (b : Box Parts) (n : ℕ) (ps : List Part) → parts_by (λ text. text) (take n (mapped b ps)) ≡ parts_text (take n ps)
each b zero ps = refl
each b (suc n) [] = refl
each b (suc n) (None ∷ ps) = ap (λ text. 95 ∷ text) (each b n ps)
each b (suc n) (Some p ∷ ps) = ap (λ text. text_of p.value ++ text) (each b n ps)

pub text_whole : (b : Box Parts) → text_of (Whole b) ≡ 91 ∷ (vec_text b.value ++ 93 ∷ [])
text_whole b =
    ap text_of (sym (rolls-Parts b))
    ∙ fold-roll-Square (List ℕ) text_step (Square-F.Parts b)
    ∙ ap (λ text. 91 ∷ (text ++ 93 ∷ [])) (each b b.value.len.len b.value.slots)

-- one part more
pub text_push : (ps : List Part) (p : Part) → parts_text (ps ++ p ∷ []) ≡ parts_text ps ++ part_text p
text_push [] p = append-nil (part_text p)
text_push (q ∷ ps) p = ap (λ text. part_text q ++ text) (text_push ps p) ∙ sym (append_assoc (part_text q) (parts_text ps) (part_text p))

-- the parts from one on
pub parts_from : (ps : List Part) (at : ℕ) (p : Part) → at < length ps → parts_text (drop at ps) ≡ part_text (get_or ps at p) ++ parts_text (drop (at + 1) ps)
parts_from ps at p inside = ap parts_text (drop_more ps at p inside)

at_most_one : (begins : Bool) → (if begins then 1 else 0) ≤ 1
at_most_one true = omega arith
at_most_one false = omega arith

pub squares_both : (xs ys : List ℕ) → squares_in (xs ++ ys) ≡ squares_in xs + squares_in ys
squares_both [] ys = omega arith
squares_both (x ∷ xs) ys = omega (arith, squares_both xs ys)

pub few_squares : (text : List ℕ) → squares_in text ≤ length text
few_squares [] = omega arith
few_squares (byte ∷ text) = omega (arith, few_squares text, at_most_one ((byte == 35) || ((byte == 46) || (byte == 91))))

-- the squares of the parts from one on
pub one_more : (ps : List Part) (at : ℕ) (p : Part) → at < length ps
    → squares_in (parts_text (drop at ps)) ≡ squares_in (part_text (get_or ps at p)) + squares_in (parts_text (drop (at + 1) ps))
one_more ps at p inside = ap squares_in (parts_from ps at p inside) ∙ squares_both (part_text (get_or ps at p)) (parts_text (drop (at + 1) ps))

-- no part has more than all
module _ (f : List ℕ → ℕ) (both : (xs ys : List ℕ) → f (xs ++ ys) ≡ f xs + f ys) where
  pub part_of_all : (ps : List Part) (at : ℕ) (p : Part) → at < length ps → f (part_text (get_or ps at p)) ≤ f (parts_text ps)
  part_of_all [] at p inside = absurd (omega (arith, inside))
  part_of_all (q ∷ ps) zero p inside = omega (arith, both (part_text q) (parts_text ps))
  part_of_all (q ∷ ps) (suc at) p inside = omega (arith, both (part_text q) (parts_text ps), part_of_all ps at p (omega (arith, inside)))

-- a square that has parts
module _ (s : Square) (b : Box Parts) (ps : List Part) (is : s ≡ Whole b) (all : ps ≡ items b.value) where
  whole_text : text_of s ≡ 91 ∷ (parts_text ps ++ 93 ∷ [])
  whole_text = ap text_of is ∙ text_whole b ∙ ap (λ qs. 91 ∷ (parts_text qs ++ 93 ∷ [])) (sym all)

  pub squares_whole : squares_in (text_of s) ≡ 1 + squares_in (parts_text ps)
  squares_whole = omega (arith, ap squares_in whole_text, squares_both (parts_text ps) (93 ∷ []))

  pub length_whole : length (text_of s) ≡ 2 + length (parts_text ps)
  length_whole = omega (arith, ap length whole_text, length-append (parts_text ps) (93 ∷ []))

  pub whole_written : (start opened full : List ℕ) → opened ≡ start ++ 91 ∷ [] → full ≡ opened ++ parts_text ps → full ++ 93 ∷ [] ≡ start ++ text_of s
  whole_written start opened full begins inside =
      let inner = parts_text ps in
      ap (λ text. text ++ 93 ∷ []) (inside ∙ ap (λ text. text ++ inner) begins)
      ∙ append_assoc (start ++ 91 ∷ []) inner (93 ∷ [])
      ∙ append_assoc start (91 ∷ []) (inner ++ 93 ∷ [])
      ∙ ap (λ text. start ++ text) (sym whole_text)
