-- What holds of an outcome, from what else does.
use Rattle.std.proofs.Common.{Result, Ok, Err, OnOk, OnErr, IfErr}

pub on-both : {T E P Q R : Type 0} (r : Result T E) → (P → Q → R) → OnOk r P → OnOk r Q → OnOk r R
on-both (Ok x) f p q = f p q
on-both (Err e) f p q = tt

pub err-both : {T E P : Type 0} {Q R : E → Type 0} (r : Result T E) → ((e : E) → P → Q e → R e) → OnErr r P → IfErr r Q → IfErr r R
err-both (Ok x) f p q = tt
err-both (Err e) f p q = f e p q
