-- Examples of calls as values, of runs and of scripts.
use Rattle.std.proofs.Common.{◌≡◌, ℕ, true, false, List, [], ◌∷◌, ◌++◌, length, refl, rules, arith}
use Rattle.tinyvec_slots.specs.Slots.{Slots, items_in, split_at, SlotRule}
use Rattle.tinyvec.specs.View.{TinyView, in_array}
use Rattle.tinyvec_script.specs.declared.call.Call.TheVariants.{Push, Pop, Splice}
use Rattle.tinyvec_script.specs.declared.call.Answer.TheVariants as answers
use Rattle.tinyvec_script.specs.declared.call.End.TheVariants.{Front}
use Rattle.tinyvec_script.specs.Step.{ArrayStep, SliceStep, Run}
use Rattle.tinyvec_script.specs.TinyCalls.{TinyStep}
use Rattle.tinyvec_script.specs.Driving.{DrivenSplices, SpliceComputes}
use Rattle.tinyvec_script.specs.Failed.{is_read, is_write}
use Rattle.tinyvec_script.specs.Script.{Script, CompleteLines}
use Rattle.tinyvec_script.specs.declared.script.RunError.TheVariants.{TooLong, Write}

-- the items are numbers, whose default is 0
abbrev pub D : ℕ → Type 0
D x = x ≡ 0

-- a list and the spare slots after it
abbrev pub over : List ℕ → List ℕ → Slots ℕ
over xs ys = split_at (length xs) (xs ++ ys)

-- the same in an array of four slots
abbrev pub inline : List ℕ → List ℕ → TinyView ℕ
inline xs ys = record { items = xs; spare = ys; place = in_array 4 }

pub example-ArrayStep : ArrayStep D 4 (over (1 ∷ []) (0 ∷ 0 ∷ 0 ∷ [])) (Push 2) answers.Done (over (1 ∷ 2 ∷ []) (0 ∷ 0 ∷ []))
example-ArrayStep = search rules

pub example-SliceStep : (word : _) (numbers : _) → SliceStep D (over [] (0 ∷ 0 ∷ [])) (Splice 0 0 word numbers) answers.Unfit (over [] (0 ∷ 0 ∷ []))
example-SliceStep word numbers = refl

pub example-TinyStep : TinyStep D 4 (inline [] (0 ∷ 0 ∷ 0 ∷ 0 ∷ [])) Pop answers.None (inline [] (0 ∷ 0 ∷ 0 ∷ 0 ∷ []))
example-TinyStep = search rules

pub example-Run : Run (ArrayStep D 2) (over [] (0 ∷ 0 ∷ [])) (Pop ∷ Pop ∷ []) (answers.None ∷ answers.None ∷ []) (over [] (0 ∷ 0 ∷ []))
example-Run = search rules

pub example-SpliceComputes : SpliceComputes {T = ℕ} 8 (1 ∷ 2 ∷ 3 ∷ 4 ∷ []) 1 3 (Front ∷ []) (7 ∷ []) (2 ∷ []) [] (1 ∷ 7 ∷ 4 ∷ [])
example-SpliceComputes = search rules

pub example-DrivenSplices : (yields rest : List ℕ) (new : Slots ℕ) → DrivenSplices items_in (SlotRule D) 8 (over (1 ∷ 2 ∷ 3 ∷ 4 ∷ []) (0 ∷ [])) 1 3 (Front ∷ []) (7 ∷ []) yields rest new → rest ≡ []
example-DrivenSplices yields rest new h = (h.list.placed (omega arith)).0

pub example-Script : Script [] []
example-Script = search rules

pub example-CompleteLines : CompleteLines [] []
example-CompleteLines = search rules

pub example-is_read : is_read TooLong ≡ false
example-is_read = refl

pub example-is_write : is_write Write ≡ true
example-is_write = refl
