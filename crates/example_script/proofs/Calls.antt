-- The call that a line spells, and what answers it.
use Rattle.std.proofs.Common.{◌≡◌, ℕ, ◌+◌, ◌-◌, ◌<◌, ◌^◌, List, [], ◌∷◌, ◌++◌, length, drop, get_or, replicate, nat_eq, false, ℤ, pos, codes, ◌≤◌, FitsSigned, refl, sym, ap, subst, ◌∙◌, arith, length-append}
use Rattle.std.specs.Fmt.{signed_decimal}
use Rattle.std.specs.Int.{w32}
use Rattle.std.specs.Int.Signed.{mag}
use Rattle.std.proofs.lemmas.Fmt.{signed_decimal_injective}
use Rattle.std.proofs.lemmas.List.{same_from_push}
use Rattle.tinyvec_slots.specs.Slots.{Slots, items_in, spare_in, len_in, SlotRule}
use Rattle.tinyvec_slots.proofs.SlotsLemmas.{defaults_are}
use Rattle.tinyvec_script.specs.Command.{IsCommand, spelling, name_text}
use Rattle.tinyvec_script.specs.Spelled.{NeedsMemory}
use Rattle.tinyvec_script.specs.Script.{State, Steps, Answered, IsZero, text_of}
use Rattle.tinyvec_script.specs.Step.{ArrayStep}
use Rattle.tinyvec_script.specs.Text.{answer_text, state_text, vector_text}
use Rattle.tinyvec_script.specs.TextCalls.{TextCall, IsTextCommand}
use Rattle.tinyvec_script.specs.declared.call.Answer.{Answer}
use Rattle.tinyvec_script.specs.declared.call.Answer.TheVariants as answers
use Rattle.tinyvec_script.specs.declared.call.Call.{Call}
use Rattle.tinyvec_script.specs.declared.call.Call.TheVariants.{Push, Pop}
use Rattle.tinyvec_script.specs.declared.command.Name.{Name}
use Rattle.tinyvec_script.specs.declared.command.Name.TheVariants.{A, S, T}
use Rattle.tinyvec_script.proofs.Numbers.{mag_small}

-- two texts that differ in a byte are not one
pub differ : {P : Type 0} (i : ℕ) (xs ys : List ℕ) → xs ≡ ys → nat_eq (get_or xs i 0) (get_or ys i 0) ≡ false → P
differ i xs ys e other =
    let same : get_or xs i 0 ≡ get_or ys i 0 = ap (λ l. get_or l i 0) e in
    absurd (grind (arith, same, other))

pub spelled : (line : List ℕ) (name : Name) (call : Call ℤ) → IsCommand line name call → line ≡ name_text name ++ spelling call
spelled line name call is = is.named ∙ ap (λ text. name_text name ++ text) is.called.spelled

abbrev pub SpellsOnly : List ℕ → Name → Call ℤ → Type 0
SpellsOnly line name call = (other : Name) (made : Call ℤ) → IsCommand line other made → (other ≡ name) × (made ≡ call)

pub only_push : (n : ℤ) → mag n < 2 ^ 63 → SpellsOnly (codes "A push " ++ signed_decimal n) A (Push n)
only_push n small A (Push m) is =
    let same : signed_decimal n ≡ signed_decimal m = ap (drop 7) (spelled _ A (Push m) is) in
    (refl, ap Push (sym (signed_decimal_injective n m small (mag_small m is.called.valid) same)))
only_push n small A made is = differ 3 _ _ (spelled _ A made is) refl
only_push n small S made is = differ 0 _ _ (spelled _ S made is) refl
only_push n small T made is = differ 0 _ _ (spelled _ T made is) refl

pub only_pop : SpellsOnly (codes "A pop") A Pop
only_pop A Pop is = (refl, refl)
only_pop A made is = differ 3 _ _ (spelled _ A made is) refl
only_pop S made is = differ 0 _ _ (spelled _ S made is) refl
only_pop T made is = differ 0 _ _ (spelled _ T made is) refl

-- a line that spells a call, and nothing else, is answered by a step
pub called : (old new : State) (line text : List ℕ) (name : Name) (call : Call ℤ) → IsCommand line name call → SpellsOnly line name call
    → ((other : Name) → NeedsMemory line other → ⊥) → ((said : TextCall) → IsTextCommand line said → ⊥) → Answered old line text new
    → (answer : Answer ℤ) × Steps name old call answer new × (text ≡ answer_text answer ++ codes " " ++ text_of name new)
called old new line text name call is only asks says h = elim h [
  | Answered.done other made answer command steps e ↦
      (let same = only other made command in
      (answer, subst (λ m. Steps name old m answer new) same.1 (subst (λ o. Steps o old made answer new) same.0 steps), subst (λ o. text ≡ answer_text answer ++ codes " " ++ text_of o new) same.0 e))
  | Answered.memory other memory e same ↦ absurd (asks other memory)
  | Answered.text_done said answer command steps e ↦ absurd (says said command)
  | Answered.bad none no_text e same ↦ absurd (none name call is)
]

-- what a push and a pop of `A` may be answered
pub pushed : (old new : Slots ℤ) (n : ℤ) (answer : Answer ℤ) → len_in old < 4 → ArrayStep IsZero 4 old (Push n) answer new
    → (answer ≡ answers.Done) × (items_in new ≡ items_in old ++ n ∷ []) × SlotRule IsZero old new
pushed old new n answers.Done room step = (refl, step.1, step.2)
pushed old new n answers.Full room step = absurd (omega (arith, room, step.0))
pushed old new n answer room step = absurd step

-- the spare slots, by the slot rule
pub spare_is : (old new : Slots ℤ) → SlotRule IsZero old new
    → spare_in new ≡ replicate (len_in old - len_in new) (pos 0) ++ drop (len_in new - len_in old) (spare_in old)
spare_is old new rule =
    rule.2 ∙ ap (λ zeros. zeros ++ drop (len_in new - len_in old) (spare_in old)) (defaults_are IsZero (pos 0) (λ x h. h) _ rule.0 rule.1)

-- a command of `A` is none of the text, and allocates only if it is a splice
module _ (rest : List ℕ) where
  no_push_asks : (other : Name) → NeedsMemory (codes "A push " ++ rest) other → ⊥
  no_push_asks A asks = differ 3 _ _ (asks.named ∙ ap (λ text. codes "A " ++ text) asks.spelled.spelled) refl
  no_push_asks S asks = differ 0 _ _ asks.named refl
  no_push_asks T asks = differ 0 _ _ asks.named refl

no_pop_asks : (other : Name) → NeedsMemory (codes "A pop") other → ⊥
no_pop_asks A asks = differ 3 _ _ (asks.named ∙ ap (λ text. codes "A " ++ text) asks.spelled.spelled) refl
no_pop_asks S asks = differ 0 _ _ asks.named refl
no_pop_asks T asks = differ 0 _ _ asks.named refl

-- What a line with a push to `A` shows, and what it leaves.
module _ (old new : State) (n : ℤ) (fits : FitsSigned w32 n) (digits : List ℕ) (printed : signed_decimal n ≡ digits)
    (short : length (codes "A push " ++ digits) ≤ 128) (text : List ℕ) (xs zs : List ℤ) (held : items_in old.a ≡ xs) (behind : spare_in old.a ≡ zs)
    (room : length xs < 4) (answered : Answered old (codes "A push " ++ digits) text new) where
  push_step : (answer : Answer ℤ) × Steps A old (Push n) answer new × (text ≡ answer_text answer ++ codes " " ++ text_of A new)
  push_step =
      called old new (codes "A push " ++ digits) text A (Push n)
      (record {
        text = codes "push " ++ digits;
        named = refl;
        called = record { spelled = ap (λ d. codes "push " ++ d) (sym printed); valid = fits };
        has = tt;
        short = short;
      })
      (subst (λ d. SpellsOnly (codes "A push " ++ d) A (Push n)) printed (only_push n (mag_small n fits))) (no_push_asks digits) (λ said is. differ 0 _ _ is.spelled refl) answered

  push_done : (push_step.0 ≡ answers.Done) × (items_in new.a ≡ items_in old.a ++ n ∷ []) × SlotRule IsZero old.a new.a
  push_done = pushed old.a new.a n push_step.0 (omega (arith, ap length held, room)) push_step.1.0

  pub push_items : items_in new.a ≡ xs ++ n ∷ []
  push_items = push_done.1 ∙ ap (λ l. l ++ n ∷ []) held

  pub push_spare : spare_in new.a ≡ drop 1 zs
  push_spare =
      let longer : len_in new.a ≡ len_in old.a + 1 = ap length push_done.1 ∙ length-append (items_in old.a) (n ∷ []) in
      let none : len_in old.a - len_in new.a ≡ 0 = omega (arith, longer) in
      let one : len_in new.a - len_in old.a ≡ 1 = omega (arith, longer) in
      spare_is old.a new.a push_done.2
      ∙ ap (λ k. replicate k (pos 0) ++ drop (len_in new.a - len_in old.a) (spare_in old.a)) none
      ∙ ap (λ k. drop k (spare_in old.a)) one
      ∙ ap (drop 1) behind

  pub push_text : text ≡ codes "ok " ++ state_text (xs ++ n ∷ []) (drop 1 zs)
  push_text =
      push_step.2
      ∙ ap (λ answer. answer_text answer ++ codes " " ++ vector_text new.a) push_done.0
      ∙ ap (λ l. codes "ok " ++ state_text l (spare_in new.a)) push_items
      ∙ ap (λ l. codes "ok " ++ state_text (xs ++ n ∷ []) l) push_spare

popped : (old new : Slots ℤ) (answer : Answer ℤ) → 0 < len_in old → ArrayStep IsZero 4 old Pop answer new
    → (x : ℤ) × (answer ≡ answers.Some x) × (items_in old ≡ items_in new ++ x ∷ []) × SlotRule IsZero old new
popped old new (answers.Some x) some step = (x, refl, step.0, step.1)
popped old new answers.None some step = absurd (omega (arith, some, ap length step.0))
popped old new answer some step = absurd step

-- and a line with a pop
module _ (old new : State) (text : List ℕ) (xs zs : List ℤ) (last : ℤ) (held : items_in old.a ≡ xs ++ last ∷ []) (behind : spare_in old.a ≡ zs)
    (answered : Answered old (codes "A pop") text new) where
  pop_step : (answer : Answer ℤ) × Steps A old Pop answer new × (text ≡ answer_text answer ++ codes " " ++ text_of A new)
  pop_step =
      called old new _ text A Pop
      (record { text = codes "pop"; named = refl; called = record { spelled = refl; valid = tt }; has = tt; short = omega arith })
      only_pop no_pop_asks (λ said is. differ 0 _ _ is.spelled refl) answered

  pop_done : (x : ℤ) × (pop_step.0 ≡ answers.Some x) × (items_in old.a ≡ items_in new.a ++ x ∷ []) × SlotRule IsZero old.a new.a
  pop_done = popped old.a new.a pop_step.0 (omega (arith, ap length held, length-append xs (last ∷ []))) pop_step.1.0

  parts : (items_in new.a ≡ xs) × (pop_done.0 ≡ last)
  parts = same_from_push (items_in new.a) xs pop_done.0 last (sym pop_done.2 ∙ held)

  pub pop_items : items_in new.a ≡ xs
  pop_items = parts.0

  pub pop_spare : spare_in new.a ≡ pos 0 ∷ zs
  pop_spare =
      let longer : len_in old.a ≡ len_in new.a + 1 = ap length pop_done.2 ∙ length-append (items_in new.a) (pop_done.0 ∷ []) in
      let one : len_in old.a - len_in new.a ≡ 1 = omega (arith, longer) in
      let none : len_in new.a - len_in old.a ≡ 0 = omega (arith, longer) in
      spare_is old.a new.a pop_done.3
      ∙ ap (λ k. replicate k (pos 0) ++ drop (len_in new.a - len_in old.a) (spare_in old.a)) one
      ∙ ap (λ k. pos 0 ∷ drop k (spare_in old.a)) none
      ∙ ap (λ l. pos 0 ∷ l) behind

  pub pop_text : text ≡ codes "some " ++ signed_decimal last ++ codes " " ++ state_text xs (pos 0 ∷ zs)
  pop_text =
      pop_step.2
      ∙ ap (λ answer. answer_text answer ++ codes " " ++ vector_text new.a) (pop_done.1 ∙ ap answers.Some parts.1)
      ∙ ap (λ l. (codes "some " ++ signed_decimal last) ++ codes " " ++ state_text l (spare_in new.a)) pop_items
      ∙ ap (λ l. (codes "some " ++ signed_decimal last) ++ codes " " ++ state_text xs l) pop_spare
