-- The lines of a text whose lines were joined.
use Rattle.std.proofs.Common.{◌≡◌, ◌≢◌, ◌∙◌, ℕ, ◌-◌, cond, List, [], ◌∷◌, ◌++◌, ap, refl, sym, map, length, take, get_or, All, arith, append_assoc, subst}
use Rattle.std.specs.Str.Lines.{lines, strip_carriage_return}
use Rattle.std.proofs.lemmas.Bool.{ne_eqb}
use Rattle.std.proofs.lemmas.Grind.{flat_map-append}
use Rattle.std.proofs.lemmas.List.{map-append}
use Rattle.example_tidy.proofs.Stripped.{normal_line_stripped}
use Rattle.std.proofs.lemmas.List.Elements.{All-head, All-tail, All-weaker, All-map}
use Rattle.tinyvec_io.specs.Lines.{ended, last_line, Splits}
use Rattle.tinyvec_io.proofs.LineLemmas.{lines_then, Splits-lines}
use Rattle.example_tidy.specs.Tidy.{Tidied, normal_line}
use Rattle.example_tidy.proofs.NormalForms.{EndsNone, ends_none, normal_line_twice}

-- no carriage return is stripped where none is
unstripped : (line : List ℕ) → All EndsNone line → strip_carriage_return line ≡ line
unstripped [] plain = refl
unstripped (byte ∷ bytes) plain =
    let line = byte ∷ bytes in
    ap (λ is. cond is (take (length line - 1) line) line) (ne_eqb (get_or line (length line - 1) 0) 13 (plain (length line - 1) 0 (omega arith)).1)

-- lines in which no line ends are found again where they were ended
pub lines_ended : (all : List (List ℕ)) → All (All EndsNone) all → lines (ended all) ≡ all
lines_ended [] each = refl
lines_ended (line ∷ all) each =
    let plain = All-head (All EndsNone) line all each in
    ap lines (append_assoc line (10 ∷ []) (ended all))
    ∙ lines_then line (ended all) (All-weaker EndsNone (λ b. b ≢ 10) (λ b h. h.0) line plain)
    ∙ ap (λ first. first ∷ lines (ended all)) (unstripped line plain)
    ∙ ap (λ rest. line ∷ rest) (lines_ended all (All-tail (All EndsNone) line all each))

-- the normal forms of the lines, each ended, are the one normal form of a text
pub tidied_ended : (input : List ℕ) → Tidied input (ended (map normal_line (lines input)))
tidied_ended input =
    let again = lines_ended (map normal_line (lines input)) (All-map (All EndsNone) normal_line (lines input) (λ k d inside. ends_none (get_or (lines input) k d))) in
    record { lines_of = again; ended_by = ap ended (sym again) }

pub tidied_is : (input output : List ℕ) → Tidied input output → output ≡ ended (map normal_line (lines input))
tidied_is input output tidied = tidied.ended_by ∙ ap ended tidied.lines_of

normal_lines_twice : (all : List (List ℕ)) → map normal_line (map normal_line all) ≡ map normal_line all
normal_lines_twice [] = refl
normal_lines_twice (line ∷ all) =
    ap (λ first. first ∷ map normal_line (map normal_line all)) (normal_line_twice line)
    ∙ ap (λ rest. normal_line line ∷ rest) (normal_lines_twice all)

-- a normal form is its own normal form
pub tidied_again : (input output : List ℕ) → Tidied input output → Tidied output output
tidied_again input output tidied = record {
  lines_of = tidied.lines_of ∙ sym (normal_lines_twice (lines input)) ∙ ap (map normal_line) (sym tidied.lines_of);
  ended_by = tidied.ended_by;
}

normal_lines_stripped : (all : List (List ℕ)) → map normal_line (map strip_carriage_return all) ≡ map normal_line all
normal_lines_stripped [] = refl
normal_lines_stripped (line ∷ all) =
    ap (λ first. first ∷ map normal_line (map strip_carriage_return all)) (normal_line_stripped line)
    ∙ ap (λ rest. normal_line line ∷ rest) (normal_lines_stripped all)

-- complete lines, and a rest that may have no bytes
pub tidied_whole : (all : List (List ℕ)) (rest input output : List ℕ) → Splits input all rest
    → output ≡ ended (map normal_line all) ++ ended (map normal_line (last_line rest)) → Tidied input output
tidied_whole all rest input output split says =
    let normal : map normal_line (lines input) ≡ map normal_line all ++ map normal_line (last_line rest) =
    ap (map normal_line) (Splits-lines input all rest split) ∙ map-append normal_line (map strip_carriage_return all) (last_line rest)
    ∙ ap (λ front. front ++ map normal_line (last_line rest)) (normal_lines_stripped all) in
    let joined : output ≡ ended (map normal_line (lines input)) =
    says ∙ sym (flat_map-append (λ line. line ++ 10 ∷ []) (map normal_line all) (map normal_line (last_line rest))) ∙ ap ended (sym normal) in
    subst (Tidied input) (sym joined) (tidied_ended input)
