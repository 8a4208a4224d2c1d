-- The labels of a name: how long they are on the wire, and how they are spelled.
use Rattle.std.proofs.Common.{◌≡◌, ◌≢◌, inl, inr, ◌∙◌, ℕ, ◌+◌, ◌-◌, ◌<◌, ◌==◌, Bool, true, false, if◌then◌else◌, List, [], ◌∷◌, ◌++◌, All, Some, None, ap, sym, refl, length, take, slice_index, arith, length-append}
use Rattle.std.proofs.lemmas.List.{take_more, take_all}
use Rattle.std.proofs.lemmas.List.Elements.{All-nil}
use Rattle.std.proofs.lemmas.Bool.{eqb-true}
use Rattle.std.proofs.lemmas.List.Splits.{slice_split-cons_yes, slice_split-cons_no, join_with_byte-slice_split}
use Rattle.std.specs.List.{flat_map, onto_first}
use Rattle.example_dns_query.specs.Name.{Spells, labels_in, labels_of, label_wire, name_wire}
use Rattle.example_dns_query.specs.Parts.{parts}
use Rattle.example_dns_query.proofs.PartsLemmas.{some_part, Lacks-parts}

-- how many bytes the labels have on the wire
abbrev pub wire_len : List (List ℕ) → ℕ
wire_len labels = length (flat_map label_wire labels)

wire_len-onto_first : (byte : ℕ) (labels : List (List ℕ)) → 0 < length labels → wire_len (onto_first byte labels) ≡ wire_len labels + 1
wire_len-onto_first byte [] some = absurd (omega arith)
wire_len-onto_first byte (label ∷ labels) some = omega arith

wire_len-more : (byte : ℕ) (text : List ℕ) (b : Bool) → (byte == 46) ≡ b → wire_len (parts 46 text) ≡ length text + 1
    → wire_len (parts 46 (byte ∷ text)) ≡ length text + 2
wire_len-more byte text true is before = rw (slice_split-cons_yes (λ byte. byte == 46) byte text is) (omega arith)
wire_len-more byte text false is before = rw (slice_split-cons_no (λ byte. byte == 46) byte text is) (omega (arith, wire_len-onto_first byte (parts 46 text) (some_part 46 text)))

-- each label takes a byte more than in the text, where it has a dot, but for the last one
pub wire_len-parts : (text : List ℕ) → wire_len (parts 46 text) ≡ length text + 1
wire_len-parts [] = refl
wire_len-parts (byte ∷ text) = wire_len-more byte text (byte == 46) refl (wire_len-parts text) ∙ omega arith

-- the first label takes its bytes and one more
pub wire_len-cut : (label : List ℕ) (labels more : List (List ℕ)) → labels ≡ label ∷ more → wire_len labels ≡ length label + 1 + wire_len more
wire_len-cut label labels more cut = ap wire_len cut ∙ omega (arith, length-append label (flat_map label_wire more))

-- the whole name has a zero behind them
pub length-name_wire : (text : List ℕ) → length (name_wire (parts 46 text)) ≡ length text + 2
length-name_wire text = length-append (flat_map label_wire (parts 46 text)) (0 ∷ []) ∙ omega (arith, wire_len-parts text)

-- a text of one dot
one_dot : (text : List ℕ) → length text ≡ 1 → slice_index text 0 ≡ 46 → text ≡ 46 ∷ []
one_dot [] one dot = absurd (omega arith)
one_dot (byte ∷ []) one dot = ap (λ byte. byte ∷ []) dot
one_dot (byte ∷ next ∷ text) one dot = absurd (omega arith)

-- a text with a dot at its end
last_dot : (text : List ℕ) → slice_index text (length text - 1) ≡ 46 → text ≡ take (length text - 1) text ++ 46 ∷ []
last_dot [] dot = absurd (omega arith)
last_dot (byte ∷ text) dot =
    let all = byte ∷ text in
    let i = length all - 1 in
    let e : i + 1 ≡ length all = omega arith in
    sym (take_all (i + 1) all (omega arith)) ∙ take_more all i 0 (omega arith) ∙ ap (λ byte. take i all ++ byte ∷ []) dot

whole : (text : List ℕ) → Spells text (parts 46 text)
whole text = record { joined = inl (sym (join_with_byte-slice_split 46 text)); undotted = Lacks-parts 46 text }

spells_by : (text : List ℕ) (is_one is_dot ends : Bool) → (length text == 1) ≡ is_one → (slice_index text 0 == 46) ≡ is_dot
    → (slice_index text (length text - 1) == 46) ≡ ends
    → Spells text (labels_in (if is_one then (if is_dot then None else Some text) else Some (if ends then take (length text - 1) text else text)))
spells_by text true true ends one dot last = record {
  joined = inr (one_dot text (eqb-true (length text) 1 one) (eqb-true (slice_index text 0) 46 dot));
  undotted = All-nil (All (λ byte. byte ≢ 46));
}
spells_by text true false ends one dot last = whole text
spells_by text false is_dot true one dot last =
    let body = take (length text - 1) text in
    record {
      joined = inr (last_dot text (eqb-true (slice_index text (length text - 1)) 46 last) ∙ ap (λ body. body ++ 46 ∷ []) (sym (join_with_byte-slice_split 46 body)));
      undotted = Lacks-parts 46 body;
    }
spells_by text false is_dot false one dot last = whole text

pub spells : (text : List ℕ) → Spells text (labels_of text)
spells text = spells_by text (length text == 1) (slice_index text 0 == 46) (slice_index text (length text - 1) == 46) refl refl refl
