-- Bytes in two parts.
use Rattle.std.proofs.Common.{◌≡◌, ◌∙◌, ap, sym, ℕ, ◌+◌, List, ◌++◌, length, refl, append_assoc, length-append}

-- The bytes are a first part and a rest, each of which is so.
pub record HasParts (IsFirst IsRest : List ℕ → Type 0) (bytes : List ℕ) : Type 0 where
  pub first : List ℕ
  pub rest : List ℕ
  pub is_first : IsFirst first
  pub is_rest : IsRest rest
  pub whole : bytes ≡ first ++ rest

pub joined : {P Q : List ℕ → Type 0} (first rest : List ℕ) → P first → Q rest → HasParts P Q (first ++ rest)
joined first rest p q = record { first = first; rest = rest; is_first = p; is_rest = q; whole = refl }

-- what follows the bytes follows the rest
pub with-tail : {P Q : List ℕ → Type 0} {bytes : List ℕ} (p : HasParts P Q bytes) (tail : List ℕ) → bytes ++ tail ≡ p.first ++ (p.rest ++ tail)
with-tail p tail = ap (λ l. l ++ tail) p.whole ∙ append_assoc p.first p.rest tail

-- of three parts the one in the middle is taken with the first
pub group-first : {P Q R : List ℕ → Type 0} {bytes : List ℕ} → HasParts P (HasParts Q R) bytes → HasParts (HasParts P Q) R bytes
group-first p =
    let q = p.is_rest in
    record { first = p.first ++ q.first; rest = q.rest; is_first = joined p.first q.first p.is_first q.is_first; is_rest = q.is_rest; whole = p.whole ∙ ap (λ l. p.first ++ l) q.whole ∙ sym (append_assoc p.first q.first q.rest) }

-- the lengths add up
pub parts-length : {P Q : List ℕ → Type 0} {bytes : List ℕ} (p : HasParts P Q bytes) → length bytes ≡ length p.first + length p.rest
parts-length p = ap length p.whole ∙ length-append p.first p.rest
