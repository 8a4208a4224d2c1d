-- How much is said for bytes of a text.
use Rattle.std.proofs.Common.{◌≡◌, ℕ, ◌+◌, ◌<◌, ◌≤◌, ◌==◌, Bool, true, false, List, [], ◌∷◌, ◌++◌, ap, refl, sym, subst, map, length, arith, length-append}
use Rattle.std.specs.Str.Lines.{lines}
use Rattle.std.proofs.lemmas.Bool.{eqb-true, eqb-false}
use Rattle.tinyvec_io.specs.Lines.{IsLine, ended}
use Rattle.example_tidy.specs.Tidy.{Advances, TidiedUpTo, normal_line}
use Rattle.example_tidy.proofs.Feeding.{begun, nothing_yet, advances_none, advances_then, advances_byte, advances_line, ends_none, ends_last}
use Rattle.example_tidy.proofs.Lengths.{length-normal_line}
use Rattle.example_tidy.proofs.Lines.{tidied_is}

-- no more than this many bytes are said for these
abbrev pub SaysAtMost : List ℕ → List ℕ → ℕ → Type 0
SaysAtMost line bytes room = (said new : List ℕ) → Advances line bytes said new → length said ≤ room

-- something is said for any bytes
says : (line bytes : List ℕ) → (said new : List ℕ) × Advances line bytes said new
says line [] = ([], line, advances_none line)
says line (byte ∷ bytes) = by_test (byte == 10) refl (says [] bytes) (says (line ++ byte ∷ []) bytes)
  where
    by_test : (b : Bool) → (byte == 10) ≡ b → ((said new : List ℕ) × Advances [] bytes said new) → ((said new : List ℕ) × Advances (line ++ byte ∷ []) bytes said new)
        → (said new : List ℕ) × Advances line (byte ∷ bytes) said new
    by_test true is (said, new, ended') longer = (
      (normal_line line ++ 10 ∷ []) ++ said,
      new,
      subst (λ first. Advances line (first ∷ bytes) ((normal_line line ++ 10 ∷ []) ++ said) new) (sym (eqb-true byte 10 is))
          (advances_then line [] new (10 ∷ []) bytes (normal_line line ++ 10 ∷ []) said (advances_line line (normal_line line ++ 10 ∷ []) [] refl refl) ended'),
    )
    by_test false is behind (said, new, longer) =
        (said, new, advances_then line (line ++ byte ∷ []) new (byte ∷ []) bytes [] said (advances_byte line (line ++ byte ∷ []) byte (eqb-false byte 10 is) refl) longer)

-- a line that is ended next has its place in what is said
pub says_next : (old line bytes said front rest : List ℕ) (room : ℕ) → bytes ≡ front ++ 10 ∷ rest → Advances old front said line
    → SaysAtMost old bytes room → length said + length (normal_line line) < room
says_next old line bytes said front rest room whole so_far most =
    let text = normal_line line ++ 10 ∷ [] in
    let (more, new, left) = says [] rest in
    let ends : Advances line (10 ∷ rest) (text ++ more) new = advances_then line [] new (10 ∷ []) rest text more (advances_line line text [] refl refl) left in
    let bound = most (said ++ (text ++ more)) new
    (subst (λ all. Advances old all (said ++ (text ++ more)) new) (sym whole) (advances_then old line new front (10 ∷ rest) said (text ++ more) so_far ends)) in
    omega (arith, bound, length-append said (text ++ more), length-append text more, length-append (normal_line line) (10 ∷ []))

length-ended : (all : List (List ℕ)) → length (ended (map normal_line all)) ≤ length (ended all)
length-ended [] = omega arith
length-ended (line ∷ all) =
    let normal = normal_line line in
    omega (
      arith,
      length-ended all,
      length-normal_line line,
      length-append (normal ++ 10 ∷ []) (ended (map normal_line all)),
      length-append normal (10 ∷ []),
      length-append (line ++ 10 ∷ []) (ended all),
      length-append line (10 ∷ []),
    )

-- no more is said than comes
pub says_few : (line bytes : List ℕ) → IsLine line → SaysAtMost line bytes (length line + length bytes)
says_few line bytes whole said new advances =
    let now = advances line [] (begun line whole) in
    omega (arith, ap length now.says, ap length now.split.whole, length-ended now.all, length-append line bytes, length-append (ended now.all) new)

-- what is said for a text, and for its last line
pub says_last : (text said line : List ℕ) → TidiedUpTo text said line → 0 < length line
    → length said + length (normal_line line) < length (ended (map normal_line (lines text)))
says_last text said line so_far some =
    let last = normal_line line ++ 10 ∷ [] in
    omega (arith, ap length (tidied_is text (said ++ last) (ends_last line some text said so_far)), length-append said last, length-append (normal_line line) (10 ∷ []))

pub says_all : (text said line : List ℕ) → TidiedUpTo text said line → length said ≤ length (ended (map normal_line (lines text)))
says_all text said [] so_far =
    omega (arith, ap length (tidied_is text (said ++ []) (ends_none [] refl text said so_far)), length-append said [])
says_all text said (byte ∷ bytes) so_far = omega (arith, says_last text said (byte ∷ bytes) so_far (omega arith))

pub says_whole : (text empty : List ℕ) → empty ≡ [] → SaysAtMost empty text (length (ended (map normal_line (lines text))))
says_whole text empty none said new advances =
    says_all text said new (advances [] [] (subst (TidiedUpTo [] []) (sym none) nothing_yet))
