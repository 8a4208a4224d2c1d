-- What a byte of the input does to what was said.
use Rattle.std.proofs.Common.{◌≡◌, ◌≢◌, ◌∙◌, ℕ, List, [], ◌∷◌, ◌++◌, inl, inr, ap, refl, sym, subst, map, ◌<◌, length, append-nil, append_assoc, arith, Result, Ok, Err, OnOk, OnErr}
use Rattle.std.proofs.lemmas.List.{map-append}
use Rattle.std.proofs.lemmas.List.Elements.{All-nil}
use Rattle.tinyvec_io.specs.Lines.{IsLine, ended, Splits}
use Rattle.tinyvec_io.proofs.LineLemmas.{ended_more, Splits-line, Splits-piece, Splits-byte, Splits-ended}
use Rattle.example_tidy.specs.Tidy.{Tidied, TidiedFront, TidiedUpTo, Advances, Ends, EndsSome, IsBegun, Refuses, normal_line}
use Rattle.example_tidy.proofs.Lines.{tidied_whole}

-- where part of a line has come nothing is said
pub begun : (line : List ℕ) → IsLine line → TidiedUpTo line [] line
begun line whole = record { all = []; split = Splits-line line whole; says = refl }

-- at the beginning nothing has come
pub nothing_yet : TidiedUpTo [] [] []
nothing_yet = begun [] (All-nil (λ byte. byte ≢ 10))

pub advances_none : (line : List ℕ) → Advances line [] [] line
advances_none line input output so_far =
    subst (λ read. TidiedUpTo read (output ++ []) line) (sym (append-nil input)) (subst (λ said. TidiedUpTo input said line) (sym (append-nil output)) so_far)

pub advances_then : (a b c bytes more said next : List ℕ) → Advances a bytes said b → Advances b more next c → Advances a (bytes ++ more) (said ++ next) c
advances_then a b c bytes more said next first second input output so_far =
    subst (λ read. TidiedUpTo read (output ++ (said ++ next)) c) (append_assoc input bytes more)
    (subst (λ text. TidiedUpTo ((input ++ bytes) ++ more) text c) (append_assoc output said next)
    (second (input ++ bytes) (output ++ said) (first input output so_far)))

-- a byte that ends no line
pub advances_byte : (line grown : List ℕ) (byte : ℕ) → byte ≢ 10 → grown ≡ line ++ byte ∷ [] → Advances line (byte ∷ []) [] grown
advances_byte line grown byte inner is input output so_far = record {
  all = so_far.all;
  split = subst (Splits (input ++ byte ∷ []) so_far.all) (sym is) (Splits-byte input so_far.all line byte inner so_far.split);
  says = append-nil output ∙ so_far.says;
}

-- bytes that end no line
pub advances_piece : (line piece : List ℕ) → IsLine piece → Advances line piece [] (line ++ piece)
advances_piece line piece inner input output so_far = record {
  all = so_far.all;
  split = Splits-piece input so_far.all line piece inner so_far.split;
  says = append-nil output ∙ so_far.says;
}

-- a line feed
pub advances_line : (line said next : List ℕ) → said ≡ normal_line line ++ 10 ∷ [] → next ≡ [] → Advances line (10 ∷ []) said next
advances_line line said next is none input output so_far = record {
  all = so_far.all ++ line ∷ [];
  split = subst (Splits (input ++ 10 ∷ []) (so_far.all ++ line ∷ [])) (sym none) (Splits-ended input so_far.all line so_far.split);
  says =
      ap (λ front. front ++ said) so_far.says ∙ ap (λ back. ended (map normal_line so_far.all) ++ back) is
      ∙ sym (ended_more (map normal_line so_far.all) (normal_line line)) ∙ ap ended (sym (map-append normal_line so_far.all (line ∷ [])));
}

-- the rest of a line, and a line feed
pub advances_end : (line end said next : List ℕ) → IsLine end → said ≡ normal_line (line ++ end) ++ 10 ∷ [] → next ≡ [] → Advances line (end ++ 10 ∷ []) said next
advances_end line end said next inner is none =
    advances_then line (line ++ end) next end (10 ∷ []) [] said (advances_piece line end inner) (advances_line (line ++ end) said next is none)

-- from the beginning on
pub advanced : (empty line text none output said : List ℕ) → empty ≡ [] → none ≡ [] → output ≡ none ++ said → Advances empty text said line
    → TidiedUpTo text output line
advanced empty line text none output said begins silent grown advances =
    subst (λ spoken. TidiedUpTo text spoken line) (sym (grown ∙ ap (λ front. front ++ said) silent))
    (advances [] [] (subst (λ left. TidiedUpTo [] [] left) (sym begins) nothing_yet))

-- what was said of the bytes so far stays true, whatever comes
pub ends_some : (old new bytes rest all said : List ℕ) → bytes ++ rest ≡ all → Advances old bytes said new → EndsSome old all said
ends_some old new bytes rest all said joined advances input output so_far =
    let now = advances input output so_far in
    record {
      all = now.all;
      rest = new ++ rest;
      whole = ap (λ more. input ++ more) (sym joined) ∙ sym (append_assoc input bytes rest) ∙ ap (λ read. read ++ rest) now.split.whole ∙ append_assoc (ended now.all) new rest;
      each = now.split.each;
      says = now.says;
    }

-- what is said at the end, behind nothing
pub ends_text : (line empty text said : List ℕ) → empty ≡ [] → text ≡ empty ++ said → Ends line said → Ends line text
ends_text line empty text said none grown ends = subst (Ends line) (sym (grown ∙ ap (λ front. front ++ said) none)) ends

-- The end of the input: it ended behind a line feed, or has no bytes.
pub ends_none : (line : List ℕ) → length line ≡ 0 → Ends line []
ends_none [] none input output so_far =
    tidied_whole so_far.all [] input (output ++ []) so_far.split (ap (λ front. front ++ []) so_far.says)
ends_none (byte ∷ bytes) none input output so_far = absurd (omega arith)

-- Or it ended within a line.
pub ends_last : (line : List ℕ) → 0 < length line → Ends line (normal_line line ++ 10 ∷ [])
ends_last [] some input output so_far = absurd (omega arith)
ends_last (byte ∷ bytes) some input output so_far =
    let said = normal_line (byte ∷ bytes) ++ 10 ∷ [] in
    tidied_whole so_far.all (byte ∷ bytes) input (output ++ said) so_far.split
    (ap (λ front. front ++ said) so_far.says ∙ ap (λ back. ended (map normal_line so_far.all) ++ back) (sym (append-nil said)))

-- what was fed, whether memory was refused or not
pub ends_either : {T E : Type 0} (r : Result T E) (old new bytes empty text : List ℕ) (line_room room : ℕ) → empty ≡ []
    → OnOk r ((said : List ℕ) × (text ≡ empty ++ said) × Advances old bytes said new)
    → OnErr r ((said kept : List ℕ) × (text ≡ empty ++ said) × Refuses old bytes said kept line_room room)
    → EndsSome old bytes text
ends_either (Ok done) old new bytes empty text line_room room none fed refused =
    subst (EndsSome old bytes) (sym (fed.1 ∙ ap (λ front. front ++ fed.0) none)) (ends_some old new bytes [] bytes fed.0 (append-nil bytes) fed.2)
ends_either (Err error) old new bytes empty text line_room room none fed refused =
    let at : Refuses old bytes refused.0 refused.1 line_room room = refused.3 in
    subst (EndsSome old bytes) (sym (refused.2 ∙ ap (λ front. front ++ refused.0) none))
    (ends_some old refused.1 at.front (at.byte ∷ at.rest) bytes refused.0 (sym at.whole) at.advances)

-- a front of what ends some lines was written
pub begun_front : (input output said missing : List ℕ) → TidiedFront input (output ++ (said ++ missing)) → IsBegun input (output ++ said)
begun_front input output said missing front = (missing, inl (subst (TidiedFront input) (sym (append_assoc output said missing)) front))

-- a front of what ends the input was written
pub begun_whole : (input output said missing : List ℕ) → Tidied input (output ++ (said ++ missing)) → IsBegun input (output ++ said)
begun_whole input output said missing tidied = (missing, inr (subst (Tidied input) (sym (append_assoc output said missing)) tidied))
