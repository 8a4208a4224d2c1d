-- Lemmas on bytes in two parts.
use Rattle.std.proofs.Common.{◌∙◌, ℕ, List, ◌++◌}
use Rattle.tinyvec_borsh.specs.TwoParts.{HasParts, joined, with-tail}

-- something else is known of the first part
pub first-so : {P Q R : List ℕ → Type 0} {bytes : List ℕ} (p : HasParts P R bytes) → Q p.first → HasParts Q R bytes
first-so p q = record { first = p.first; rest = p.rest; is_first = q; is_rest = p.is_rest; whole = p.whole }

-- something else is known of the rest
pub rest-so : {P Q R : List ℕ → Type 0} {bytes : List ℕ} (p : HasParts P Q bytes) → R p.rest → HasParts P R bytes
rest-so p r = record { first = p.first; rest = p.rest; is_first = p.is_first; is_rest = r; whole = p.whole }

-- of three parts the one in the middle is taken with the rest
pub group-rest : {P Q R : List ℕ → Type 0} {bytes : List ℕ} → HasParts (HasParts P Q) R bytes → HasParts P (HasParts Q R) bytes
group-rest p =
    let q = p.is_first in
    record { first = q.first; rest = q.rest ++ p.rest; is_first = q.is_first; is_rest = joined q.rest p.rest q.is_rest p.is_rest; whole = p.whole ∙ with-tail q p.rest }
