-- Bytes that are written piece by piece.
use Rattle.std.proofs.Common.{◌≡◌, ◌∙◌, ap, sym, append_assoc, ℕ, List, ◌++◌, take, drop, take-append-drop, Option}
use Rattle.std.specs.Io.KnownBytes.{Appends}
use Rattle.std.proofs.KnownBytes.{Appends-trans}
use Rattle.tinyvec_io.specs.Counted.{AppendsFront}

-- a front of the bytes was appended, and the rest is left
abbrev pub AppendsUpTo : Option (List ℕ) → Option (List ℕ) → List ℕ → List ℕ → Type 0
AppendsUpTo old new bytes rest = (front : List ℕ) × (bytes ≡ front ++ rest) × Appends old new front

-- a piece more
pub AppendsUpTo-piece : (old mid new : Option (List ℕ)) (bytes rest : List ℕ) (count : ℕ) → AppendsUpTo old mid bytes rest → Appends mid new (take count rest) → AppendsUpTo old new bytes (drop count rest)
AppendsUpTo-piece old mid new bytes rest count (front, whole, before) piece = (
  front ++ take count rest,
  whole ∙ ap (λ l. front ++ l) (sym (take-append-drop count rest)) ∙ sym (append_assoc front (take count rest) (drop count rest)),
  Appends-trans old mid new front (take count rest) before piece,
)

-- bytes were written, and then a front of those behind them
pub AppendsFront-then : (old mid new : Option (List ℕ)) (bytes more : List ℕ) → Appends old mid bytes → AppendsFront mid new more → AppendsFront old new (bytes ++ more)
AppendsFront-then old mid new bytes more written front =
    (bytes ++ front.0, front.1, ap (λ l. bytes ++ l) front.2 ∙ sym (append_assoc bytes front.0 front.1), Appends-trans old mid new bytes front.0 written front.3)

-- a front of bytes is one of more bytes
pub AppendsFront-longer : (old new : Option (List ℕ)) (bytes more : List ℕ) → AppendsFront old new bytes → AppendsFront old new (bytes ++ more)
AppendsFront-longer old new bytes more front = (front.0, front.1 ++ more, ap (λ l. l ++ more) front.2 ∙ append_assoc front.0 front.1 more, front.3)
