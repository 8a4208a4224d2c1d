-- Lines of a text that are short.
use Rattle.std.proofs.Common.{◌≡◌, ◌≢◌, ◌∙◌, ℕ, ◌+◌, ◌<◌, ◌≤◌, ◌==◌, Bool, false, List, [], ◌∷◌, ◌++◌, All, ap, refl, sym, subst, length, get_or, arith, append_assoc, append-nil, length-append}
use Rattle.std.specs.List.{slice_split, onto_first}
use Rattle.std.proofs.lemmas.List.Elements.{All-head, All-tail, All-push}
use Rattle.std.proofs.lemmas.List.Splits.{slice_split_at, slice_split_none, slice_split-cons_no, length-slice_split}
use Rattle.tinyvec_io.specs.Lines.{IsLine, ended}
use Rattle.tinyvec_io.proofs.LineLemmas.{uncut}
use Rattle.example_tidy.specs.Tidy.{Advances, AllShort, IsShort, TidiedUpTo}
use Rattle.example_tidy.proofs.Feeding.{begun}

-- a line that is ended is short, and so is what comes behind it
pub short_at : (line rest : List ℕ) → IsLine line → AllShort (line ++ 10 ∷ rest) → IsShort line × AllShort rest
short_at line rest whole each =
    let behind = slice_split (λ byte. byte == 10) rest in
    let parts : All IsShort (line ∷ behind) = subst (All IsShort) (slice_split_at (λ byte. byte == 10) line 10 rest (uncut line whole) refl) each in
    (All-head IsShort line behind parts, All-tail IsShort line behind parts)

-- the last line is short
pub short_last : (line : List ℕ) → IsLine line → AllShort line → IsShort line
short_last line whole each =
    All-head IsShort line [] (subst (All IsShort) (slice_split_none (λ byte. byte == 10) line (uncut line whole)) each)

length-onto_first : (x : ℕ) (parts : List (List ℕ)) → length (get_or (onto_first x parts) 0 []) ≡ length (get_or parts 0 []) + 1
length-onto_first x [] = refl
length-onto_first x (part ∷ parts) = omega arith

length-first : (p : ℕ → Bool) (xs ys : List ℕ) → All (λ x. p x ≡ false) xs → length xs ≤ length (get_or (slice_split p (xs ++ ys)) 0 [])
length-first p [] ys plain = omega arith
length-first p (x ∷ xs) ys plain =
    let cut = slice_split-cons_no p x (xs ++ ys) (All-head (λ y. p y ≡ false) x xs plain) in
    let rest = length-first p xs ys (All-tail (λ y. p y ≡ false) x xs plain) in
    omega (arith, ap (λ parts. length (get_or parts 0 [])) cut, length-onto_first x (slice_split p (xs ++ ys)), rest)

-- what has come of a short line has room
pub short_front : (line rest : List ℕ) → IsLine line → AllShort (line ++ rest) → length line ≤ 80
short_front line rest whole each =
    let cut = λ (byte : ℕ). byte == 10 in
    omega (arith, length-first cut line rest (uncut line whole), each 0 [] (omega (arith, length-slice_split cut (line ++ rest))))

-- a byte has room behind what has come of its line, or ends a short one
pub short_next : (line rest : List ℕ) (byte : ℕ) → IsLine line → AllShort (line ++ byte ∷ rest) → (byte ≢ 10 → length line < 80) × (byte ≡ 10 → IsShort line)
short_next line rest byte whole each = (
  λ other. omega (
    arith,
    length-append line (byte ∷ []),
    short_front (line ++ byte ∷ []) rest (All-push (λ b. b ≢ 10) line byte whole other) (subst AllShort (sym (append_assoc line (byte ∷ []) rest)) each),
  ),
  λ feed. (short_at line rest whole (subst (λ b. AllShort (line ++ b ∷ rest)) feed each)).0,
)

-- what comes behind complete lines
pub short_left : (all : List (List ℕ)) (rest : List ℕ) → All IsLine all → AllShort (ended all ++ rest) → AllShort rest
short_left [] rest whole each = each
short_left (line ∷ all) rest whole each =
    let text = append_assoc (line ++ 10 ∷ []) (ended all) rest ∙ append_assoc line (10 ∷ []) (ended all ++ rest) in
    short_left all rest (All-tail IsLine line all whole) (short_at line (ended all ++ rest) (All-head IsLine line all whole) (subst AllShort text each)).1

-- behind the complete lines too
pub short_behind : (input output line rest : List ℕ) → TidiedUpTo input output line → AllShort (input ++ rest) → AllShort (line ++ rest)
short_behind input output line rest so_far each =
    short_left so_far.all (line ++ rest) so_far.split.each
    (subst AllShort (ap (λ text. text ++ rest) so_far.split.whole ∙ append_assoc (ended so_far.all) line rest) each)

-- the last line too, which has come in part
pub short_end : (text output line : List ℕ) → TidiedUpTo text output line → AllShort text → IsShort line
short_end text output line so_far each =
    short_last line so_far.split.partial
    (subst AllShort (append-nil line) (short_behind text output line [] so_far (subst AllShort (sym (append-nil text)) each)))

-- what has come of the next line, and what comes behind it
pub short_fed : (old line bytes rest all said : List ℕ) → bytes ++ rest ≡ all → Advances old bytes said line → IsLine old → AllShort (old ++ all)
    → IsLine line × AllShort (line ++ rest)
short_fed old line bytes rest all said joined advances whole each =
    let now = advances old [] (begun old whole) in
    (now.split.partial, short_behind (old ++ bytes) said line rest now (subst AllShort (ap (λ back. old ++ back) (sym joined) ∙ sym (append_assoc old bytes rest)) each))
