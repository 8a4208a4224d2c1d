-- A range was moved to the first spare slots, and its items were taken there.
use Rattle.std.proofs.Common.{◌≡◌, ℕ, ◌+◌, List, ◌++◌, length, drop, ap, sym, ◌∙◌, arith, length-append, drop_at}
use Rattle.tinyvec_slots.specs.Slots.{AreDefaults}
use Rattle.tinyvec_array.specs.ArrayVec.{SameLender}
use Rattle.tinyvec_array.specs.View.{view, Becomes}
use Rattle.tinyvec_array.specs.ViewLaws.{becomes, same_place}
use Rattle.tinyvec_array.specs.declared.array_vec.ArrayVec.{ArrayVec}
use Rattle.tinyvec_array.specs.declared.slots.Slots as Storage
use Rattle.tinyvec_array.proofs.RuleLemmas.{rule_freed}
use Rattle.tinyvec_array.proofs.ViewLemmas.{SameLender-then, put_back, back_parts, back_lender}

-- `cut` has the range `moved` of `v` in its spare slots, of which `ws` are then written
module _ {S T L : Type 0} (g : Storage.Ghosts S T L) (D : T → Type 0) (v cut : ArrayVec S L) (moved left ws : List T) (n : ℕ) where
  pub range_taken : SameLender g v cut → (view g cut).items ≡ left → (view g cut).spare ≡ moved ++ (view g v).spare → length moved ≡ n
      → length (view g v).items ≡ length left + length moved → (ds : List T) × AreDefaults D n ds × (ws ≡ ds ++ drop n (view g cut).spare)
      → Becomes D (view g v) (view g (put_back g cut ws)) left
  range_taken lent listed behind count fewer taken =
      let new = put_back g cut ws in
      let S = (view g v).spare in
      let ds = taken.0 in
      let as_many : length ds ≡ length moved = taken.1.0 ∙ sym count in
      let written = taken.2 ∙ ap (λ l. ds ++ drop n l) behind ∙ ap (λ l. ds ++ l) (drop_at moved S n count) in
      let long : length ws ≡ length (view g cut).spare = omega (arith, ap length written, length-append ds S, as_many, length-append moved S, ap length behind) in
      let parts = back_parts g cut ws long in
      let lender = SameLender-then g v cut new lent (back_lender g cut ws long) in
      let list = parts.0 ∙ listed in
      becomes g D v new (same_place g v new lender) (rule_freed D _ _ _ _ (length moved) (omega (arith, fewer, ap length list)) (ds, (as_many, taken.1.1), parts.1 ∙ written)) _ list
