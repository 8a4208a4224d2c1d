-- The lines of a text that comes byte by byte.
use Rattle.std.proofs.Common.{◌≡◌, ◌≢◌, ◌∙◌, ℕ, ◌<◌, ◌==◌, false, cond, List, [], ◌∷◌, ◌++◌, All, ap, refl, sym, map, length, arith, append-nil, append_assoc}
use Rattle.std.specs.List.{slice_split}
use Rattle.std.specs.Str.Lines.{lines, lines_of_parts, strip_carriage_return}
use Rattle.std.proofs.lemmas.Bool.{ne_eqb}
use Rattle.std.proofs.lemmas.Grind.{flat_map-append}
use Rattle.std.proofs.lemmas.List.Elements.{All-nil, All-append, All-head, All-tail, All-push, All-weaker}
use Rattle.std.proofs.lemmas.List.Splits.{slice_split_at, slice_split_none, length-slice_split}
use Rattle.tinyvec_io.specs.Lines.{IsLine, ended, last_line, Splits}

-- a line that is ended is one line more
pub ended_more : (all : List (List ℕ)) (line : List ℕ) → ended (all ++ line ∷ []) ≡ ended all ++ (line ++ 10 ∷ [])
ended_more all line = flat_map-append (λ each. each ++ 10 ∷ []) all (line ∷ []) ∙ ap (λ last. ended all ++ last) (append-nil (line ++ 10 ∷ []))

-- a line, of which nothing else has come
pub Splits-line : (line : List ℕ) → IsLine line → Splits line [] line
Splits-line line whole = record { whole = refl; each = All-nil IsLine; partial = whole }

-- bytes that end no line
pub Splits-piece : (text : List ℕ) (all : List (List ℕ)) (rest piece : List ℕ) → IsLine piece → Splits text all rest
    → Splits (text ++ piece) all (rest ++ piece)
Splits-piece text all rest piece inner so_far = record {
  whole = ap (λ front. front ++ piece) so_far.whole ∙ append_assoc (ended all) rest piece;
  each = so_far.each;
  partial = All-append (λ b. b ≢ 10) rest piece so_far.partial inner;
}

-- a byte that ends no line
pub Splits-byte : (text : List ℕ) (all : List (List ℕ)) (rest : List ℕ) (byte : ℕ) → byte ≢ 10 → Splits text all rest
    → Splits (text ++ byte ∷ []) all (rest ++ byte ∷ [])
Splits-byte text all rest byte inner so_far =
    Splits-piece text all rest (byte ∷ []) (All-push (λ b. b ≢ 10) [] byte (All-nil (λ b. b ≢ 10)) inner) so_far

-- a line feed
pub Splits-ended : (text : List ℕ) (all : List (List ℕ)) (rest : List ℕ) → Splits text all rest → Splits (text ++ 10 ∷ []) (all ++ rest ∷ []) []
Splits-ended text all rest so_far = record {
  whole = ap (λ front. front ++ 10 ∷ []) so_far.whole ∙ append_assoc (ended all) rest (10 ∷ []) ∙ sym (ended_more all rest) ∙ sym (append-nil _);
  each = All-push IsLine all rest so_far.each so_far.partial;
  partial = All-nil (λ byte. byte ≢ 10);
}

-- where a text is cut at its line feeds, a line is not
pub uncut : (line : List ℕ) → IsLine line → All (λ byte. (byte == 10) ≡ false) line
uncut line whole = All-weaker (λ byte. byte ≢ 10) (λ byte. (byte == 10) ≡ false) (λ byte. ne_eqb byte 10) line whole

parts_then : (part : List ℕ) (parts : List (List ℕ)) → 0 < length parts → lines_of_parts (part ∷ parts) ≡ strip_carriage_return part ∷ lines_of_parts parts
parts_then part [] some = absurd (omega arith)
parts_then part (next ∷ parts) some = refl

-- a line that no line feed stands in, and a line feed behind it
pub lines_then : (line rest : List ℕ) → IsLine line → lines (line ++ 10 ∷ rest) ≡ strip_carriage_return line ∷ lines rest
lines_then line rest whole =
    ap lines_of_parts (slice_split_at (λ b. b == 10) line 10 rest (uncut line whole) refl)
    ∙ parts_then line (slice_split (λ b. b == 10) rest) (omega (arith, length-slice_split (λ b. b == 10) rest))

lines_of_last : (rest : List ℕ) → IsLine rest → lines rest ≡ last_line rest
lines_of_last rest partial =
    ap lines_of_parts (slice_split_none (λ b. b == 10) rest (uncut rest partial)) ∙ by_end rest
  where
    by_end : (rest : List ℕ) → lines_of_parts (rest ∷ []) ≡ last_line rest
    by_end [] = refl
    by_end (byte ∷ bytes) = ap (λ b. cond b [] ((byte ∷ bytes) ∷ [])) (ne_eqb (length (byte ∷ bytes)) 0 (omega arith))

lines_whole : (all : List (List ℕ)) (rest : List ℕ) → All IsLine all → IsLine rest → lines (ended all ++ rest) ≡ map strip_carriage_return all ++ last_line rest
lines_whole [] rest each partial = lines_of_last rest partial
lines_whole (line ∷ all) rest each partial =
    ap lines (append_assoc (line ++ 10 ∷ []) (ended all) rest ∙ append_assoc line (10 ∷ []) (ended all ++ rest))
    ∙ lines_then line (ended all ++ rest) (All-head IsLine line all each)
    ∙ ap (λ more. strip_carriage_return line ∷ more) (lines_whole all rest (All-tail IsLine line all each) partial)

-- the lines that Rust's `str::lines` gives of the text
pub Splits-lines : (text : List ℕ) (all : List (List ℕ)) (rest : List ℕ) → Splits text all rest → lines text ≡ map strip_carriage_return all ++ last_line rest
Splits-lines text all rest split = ap lines split.whole ∙ lines_whole all rest split.each split.partial
