-- A name is a list of labels. How it is spelled in text, and what is wrong with it.
use Rattle.std.specs.Prelude.{◌⊎◌, ◌≢◌, ◌≡◌, ℕ, ◌-◌, ◌<◌, ◌≤◌, ◌==◌, if◌then◌else◌, nat_lt, List, [], ◌∷◌, ◌++◌, length, take, All, Option, None, Some, slice_index}
use Rattle.std.specs.List.{join_with_byte, flat_map}
use Rattle.example_dns_query.specs.Parts.{parts_left}
use Rattle.example_dns_query.specs.declared.query.QueryError.{QueryError}
use Rattle.example_dns_query.specs.declared.query.QueryError.TheVariants.{EmptyLabel, LongLabel}

-- a character that is printed in ASCII, and is no blank
abbrev pub IsPrinted : ℕ → Type 0
IsPrinted byte = (33 ≤ byte) × (byte ≤ 126)

-- the text, without a dot at its end
abbrev pub without_last_dot : List ℕ → List ℕ
without_last_dot text = if slice_index text (length text - 1) == 46 then take (length text - 1) text else text

-- the text of the labels, with a dot between two. The name that is spelled by one dot has none: it is the root
abbrev pub body_of : List ℕ → Option (List ℕ)
body_of text =
    if length text == 1 then (if slice_index text 0 == 46 then None else Some text)
    else Some (without_last_dot text)

-- the labels in such a text
abbrev pub labels_in : Option (List ℕ) → List (List ℕ)
labels_in body = parts_left 46 body

-- the labels of the name that a text spells
abbrev pub labels_of : List ℕ → List (List ℕ)
labels_of text = labels_in (body_of text)

-- the text is the labels with a dot between two, and perhaps a dot after them. No label has a dot
pub record Spells (text : List ℕ) (labels : List (List ℕ)) : Type 0 where
  pub joined : (text ≡ join_with_byte 46 labels) ⊎ (text ≡ join_with_byte 46 labels ++ 46 ∷ [])
  pub undotted : All (All (λ byte. byte ≢ 46)) labels

-- a label has 1 to 63 bytes
abbrev pub IsLabel : List ℕ → Type 0
IsLabel label = (0 < length label) × (length label ≤ 63)

-- what is wrong with the first label that has no byte or more than 63
abbrev pub first_fault : List (List ℕ) → Option QueryError
first_fault [] = None
first_fault (label ∷ labels) =
    if length label == 0 then Some EmptyLabel
    else if nat_lt 63 (length label) then Some LongLabel
    else first_fault labels

-- the text spells these labels, and no others with 1 to 63 bytes each
pub record SpellsOnly (text : List ℕ) (labels : List (List ℕ)) : Type 0 where
  pub spelled : Spells text labels
  pub only : (others : List (List ℕ)) → 0 < length others → All IsLabel others → Spells text others → labels ≡ others

-- a label on the wire: how long it is, then its bytes
abbrev pub label_wire : List ℕ → List ℕ
label_wire label = length label ∷ label

-- a name on the wire: its labels, then a zero
abbrev pub name_wire : List (List ℕ) → List ℕ
name_wire labels = flat_map label_wire labels ++ 0 ∷ []

-- the text spells a name: each byte is printed, each label has 1 to 63 of them, and the wire form has at most 255
pub record IsName (text : List ℕ) : Type 0 where
  pub printed : All IsPrinted text
  pub labels : All IsLabel (labels_of text)
  pub short : length (name_wire (labels_of text)) ≤ 255
