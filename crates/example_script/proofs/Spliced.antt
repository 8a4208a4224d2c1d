-- A splice that returns a rest.
use Rattle.std.proofs.Common.{◌≡◌, ◌≢◌, ◌⊎◌, inl, inr, ℕ, ◌-◌, ◌<◌, ◌^◌, List, [], ◌∷◌, ◌++◌, length, drop, replicate, All, ℤ, pos, FitsSigned, codes, Vec, Global, refl, sym, ap, subst, ◌∙◌, arith, rules}
use Rattle.std.specs.Int.{w32}
use Rattle.std.specs.Fmt.{decimal, signed_decimal}
use Rattle.std.specs.List.{AllByRecursion}
use Rattle.std.proofs.lemmas.Fmt.{decimal_digit, decimal_injective, signed_decimal_injective}
use Rattle.std.proofs.lemmas.List.Elements.{All-head, All-tail}
use denote.RawPtr.{Ptr}
use Rattle.tinyvec_slots.specs.Slots.{Slots, items_in, spare_in, len_in, split_at}
use Rattle.tinyvec_io.specs.Lines.{ended}
use Rattle.tinyvec_script.specs.Command.{IsCommand, splice_text, word_text, numbers_text}
use Rattle.tinyvec_script.specs.Spelled.{NeedsMemory}
use Rattle.tinyvec_script.specs.Script.{State, start, Answered, Script, IsZero, Steps, text_of}
use Rattle.tinyvec_script.specs.Step.{ArrayStep}
use Rattle.tinyvec_script.specs.Text.{answer_text, list_text, state_text, vector_text}
use Rattle.tinyvec_script.specs.declared.call.Answer.{Answer}
use Rattle.tinyvec_script.specs.declared.call.Answer.TheVariants as answers
use Rattle.tinyvec_script.specs.declared.call.Call.{Call}
use Rattle.tinyvec_script.specs.declared.call.Call.TheVariants.{Splice, SetLen}
use Rattle.tinyvec_script.specs.declared.call.End.{End}
use Rattle.tinyvec_script.specs.declared.call.End.TheVariants.{Front, Back}
use Rattle.tinyvec_script.specs.declared.command.Name.{Name}
use Rattle.tinyvec_script.specs.declared.command.Name.TheVariants.{A, S, T}
use Rattle.tinyvec_script.proofs.DrivingLemmas.{splice_computes}
use Rattle.tinyvec_script.proofs.Indices.{decimal_is_word}
use Rattle.tinyvec_script.proofs.Numbers.{mag_small}
use Rattle.tinyvec_script.proofs.SpliceText.{numbers_blank, number_is_word, word_has_no_blank}
use Rattle.tinyvec_script.proofs.Words.{one_cut, one_split}
use Rattle.example_script.specs.Scripts.{spliced, spliced_answers, refused_answers}
use Rattle.example_script.proofs.Calls.{differ, spelled, SpellsOnly, called, spare_is}
use Rattle.example_script.proofs.Cut.{IsWhole, answers_of}

-- numbers are spelled in one way
numbers_one : (ns ms : List ℤ) → All (FitsSigned w32) ns → All (FitsSigned w32) ms → numbers_text ns ≡ numbers_text ms → ns ≡ ms
numbers_one [] [] small fits e = refl
numbers_one [] (m ∷ ms) small fits e = absurd (let no : [] ≡ 32 ∷ (signed_decimal m ++ numbers_text ms) = e in cc)
numbers_one (n ∷ ns) [] small fits e = absurd (let no : 32 ∷ (signed_decimal n ++ numbers_text ns) ≡ [] = e in cc)
numbers_one (n ∷ ns) (m ∷ ms) small fits e =
    let both : signed_decimal n ++ numbers_text ns ≡ signed_decimal m ++ numbers_text ms = ap (drop 1) e in
    let a = All-head (FitsSigned w32) n ns small in
    let b = All-head (FitsSigned w32) m ms fits in
    let parts = one_split _ (signed_decimal n) (numbers_text ns) (signed_decimal m) (numbers_text ms) refl (number_is_word n a) (numbers_blank ns) both (number_is_word m b) (numbers_blank ms) in
    let head = signed_decimal_injective n m (mag_small n a) (mag_small m b) parts.0 in
    let tail = numbers_one ns ms (All-tail (FitsSigned w32) n ns small) (All-tail (FitsSigned w32) m ms fits) parts.1 in
    cc

dash : (word : List End) → codes "-" ≡ word_text word → word ≡ []
dash [] e = refl
dash (Front ∷ word) e = differ 0 _ _ e refl
dash (Back ∷ word) e = differ 0 _ _ e refl

-- a list, as a vector that holds it
abbrev vec_of : {T : Type 0} → Global → (items : List T) → length items < 2 ^ 63 → Vec T Global
vec_of alloc items small =
    record { ptr = Ptr.null_ptr; len = length items; cap = length items; alloc = alloc; items = items; ok = (refl, omega arith); small = small }

whole : AllByRecursion IsWhole spliced
whole = search (rules, arith)

four_fit : All (FitsSigned w32) (pos 1 ∷ pos 2 ∷ pos 3 ∷ pos 4 ∷ [])
four_fit = search (rules, arith)

four_text : numbers_text (pos 1 ∷ pos 2 ∷ pos 3 ∷ pos 4 ∷ []) ≡ codes " 1 2 3 4"
four_text = rw (decimal_digit 1 (omega arith), decimal_digit 2 (omega arith), decimal_digit 3 (omega arith), decimal_digit 4 (omega arith)) refl

splice_is : codes "0 1 - 1 2 3 4" ≡ splice_text 0 1 [] (pos 1 ∷ pos 2 ∷ pos 3 ∷ pos 4 ∷ [])
splice_is = rw (decimal_digit 0 (omega arith), four_text, decimal_digit 1 (omega arith)) refl

-- the text of the splice is spelled by this alone
splice_parts : (start end : ℕ) (word : List End) (numbers : List ℤ) → start < 2 ^ 64 → end < 2 ^ 64 → All (FitsSigned w32) numbers
    → codes "0 1 - 1 2 3 4" ≡ splice_text start end word numbers
    → (start ≡ 0) × (end ≡ 1) × (word ≡ []) × (numbers ≡ pos 1 ∷ pos 2 ∷ pos 3 ∷ pos 4 ∷ [])
splice_parts start end word numbers small_start small_end fits is =
    let zero_is = decimal_digit 0 (omega arith) in
    let one_is = decimal_digit 1 (omega arith) in
    let a = one_cut (codes "0 1 - 1 2 3 4") (codes "0") (codes "1 - 1 2 3 4") (decimal start) (decimal end ++ 32 ∷ (word_text word ++ numbers_text numbers))
    refl (subst (All (λ byte. byte ≢ 32)) zero_is (decimal_is_word 0 (omega arith))) is (decimal_is_word start small_start) in
    let b = one_cut (codes "1 - 1 2 3 4") (codes "1") (codes "- 1 2 3 4") (decimal end) (word_text word ++ numbers_text numbers)
    refl (subst (All (λ byte. byte ≢ 32)) one_is (decimal_is_word 1 (omega arith))) a.1 (decimal_is_word end small_end) in
    let c = one_split (codes "- 1 2 3 4") (codes "-") (codes " 1 2 3 4") (word_text word) (numbers_text numbers)
    refl (word_has_no_blank []) refl b.1 (word_has_no_blank word) (numbers_blank numbers) in (
      decimal_injective start 0 small_start (omega arith) (sym a.0 ∙ sym zero_is),
      decimal_injective end 1 small_end (omega arith) (sym b.0 ∙ sym one_is),
      dash word c.0,
      numbers_one numbers (pos 1 ∷ pos 2 ∷ pos 3 ∷ pos 4 ∷ []) fits four_fit (sym c.1 ∙ sym four_text),
    )

-- a call that puts these numbers in the place of the first item
record Puts (call : Call ℤ) : Type 0 where
  word : Vec End Global
  numbers : Vec ℤ Global
  call_is : call ≡ Splice 0 1 word numbers
  no_letter : word.items ≡ []
  numbers_are : numbers.items ≡ pos 1 ∷ pos 2 ∷ pos 3 ∷ pos 4 ∷ []

only_splice : (other : Name) (made : Call ℤ) → IsCommand (codes "A splice 0 1 - 1 2 3 4") other made → (other ≡ A) × Puts made
only_splice A (Splice start end word numbers) is =
    let fits = is.called.valid in
    let parts = splice_parts start end word.items numbers.items fits.0 fits.1 fits.2 (ap (drop 9) (spelled _ A (Splice start end word numbers) is)) in (
      refl,
      record {
        word = word;
        numbers = numbers;
        call_is = ap (λ n. Splice n end word numbers) parts.0 ∙ ap (λ n. Splice 0 n word numbers) parts.1;
        no_letter = parts.2;
        numbers_are = parts.3;
      },
    )
only_splice A made is = differ 3 _ _ (spelled _ A made is) refl
only_splice S made is = differ 0 _ _ (spelled _ S made is) refl
only_splice T made is = differ 0 _ _ (spelled _ T made is) refl

asks_of_A : (other : Name) → NeedsMemory (codes "A splice 0 1 - 1 2 3 4") other → other ≡ A
asks_of_A A asks = refl
asks_of_A S asks = differ 0 _ _ asks.named refl
asks_of_A T asks = differ 0 _ _ asks.named refl

-- what it writes where memory is granted
abbrev Shown : List ℕ → Type 0
Shown text = text
    ≡ (codes "items " ++ list_text [] ++ codes " rest " ++ list_text (pos 4 ∷ [])) ++ codes " " ++ state_text (pos 1 ∷ pos 2 ∷ pos 3 ∷ pos 0 ∷ []) []

-- what such a call may be answered, where it finds two zeros
puts_numbers : (old new : Slots ℤ) (word : Vec End Global) (numbers : Vec ℤ Global) (answer : Answer ℤ) → items_in old ≡ pos 0 ∷ pos 0 ∷ []
    → spare_in old ≡ pos 0 ∷ pos 0 ∷ [] → word.items ≡ [] → numbers.items ≡ pos 1 ∷ pos 2 ∷ pos 3 ∷ pos 4 ∷ []
    → ArrayStep IsZero 4 old (Splice 0 1 word numbers) answer new
    → Shown (answer_text answer ++ codes " " ++ vector_text new) ⊎ ((answer ≡ answers.Memory) × (new ≡ old))
puts_numbers old new word numbers answers.Memory held behind no_letter are step = inr (refl, step.1.1)
puts_numbers old new word numbers answers.Range held behind no_letter are step = absurd (step.0 (omega arith, omega (arith, ap length held)))
puts_numbers old new word numbers (answers.Items given) held behind no_letter are step =
    absurd (omega (arith, step.1.0, ap length held, ap length are))
puts_numbers old new word numbers (answers.Spliced given rest) held behind no_letter are step =
    let list = rw (held, no_letter, are) at step.1.1.list in
    let made = splice_computes 4 (pos 0 ∷ pos 0 ∷ []) (items_in new) 0 1 [] (pos 1 ∷ pos 2 ∷ pos 3 ∷ pos 4 ∷ []) given.items rest.items (omega arith) (omega arith) list in
    let more : len_in old - len_in new ≡ 0 = omega (arith, ap length held, ap length made.list_is) in
    let used : len_in new - len_in old ≡ 2 = omega (arith, ap length held, ap length made.list_is) in
    let none : spare_in new ≡ [] =
    spare_is old new step.1.1.grown
    ∙ ap (λ n. replicate n (pos 0) ++ drop (len_in new - len_in old) (spare_in old)) more
    ∙ ap (λ n. drop n (spare_in old)) used
    ∙ ap (drop 2) behind in
    inl (ap (λ l. (codes "items " ++ list_text l ++ codes " rest " ++ list_text rest.items) ++ codes " " ++ state_text (items_in new) (spare_in new)) made.yields_are
    ∙ ap (λ l. (codes "items " ++ list_text [] ++ codes " rest " ++ list_text l) ++ codes " " ++ state_text (items_in new) (spare_in new)) made.rest_is
    ∙ ap (λ l. (codes "items " ++ list_text [] ++ codes " rest " ++ list_text (pos 4 ∷ [])) ++ codes " " ++ state_text l (spare_in new)) made.list_is
    ∙ ap (λ l. (codes "items " ++ list_text [] ++ codes " rest " ++ list_text (pos 4 ∷ [])) ++ codes " " ++ state_text (pos 1 ∷ pos 2 ∷ pos 3 ∷ pos 0 ∷ []) l) none)
puts_numbers old new word numbers answer held behind no_letter are step = absurd step.1

shown : Shown (codes "items [] rest [4] [1, 2, 3, 0] []")
unfolding state_text list_text
shown = rw (decimal_digit 0 (omega arith), decimal_digit 1 (omega arith), decimal_digit 2 (omega arith), decimal_digit 3 (omega arith), decimal_digit 4 (omega arith)) refl

shown_zeros : state_text (pos 0 ∷ pos 0 ∷ []) (pos 0 ∷ pos 0 ∷ []) ≡ codes "[0, 0] [0, 0]"
unfolding state_text list_text
shown_zeros = rw (decimal_digit 0 (omega arith)) refl

-- The first line.
only_setlen : SpellsOnly (codes "A setlen 2") A (SetLen 2)
only_setlen A (SetLen n) is =
    let same : codes "2" ≡ decimal n = ap (drop 9) (spelled _ A (SetLen n) is) in
    (refl, ap SetLen (decimal_injective n 2 is.called.valid (omega arith) (sym same ∙ sym (decimal_digit 2 (omega arith)))))
only_setlen A made is = differ 4 _ _ (spelled _ A made is) refl
only_setlen S made is = differ 0 _ _ (spelled _ S made is) refl
only_setlen T made is = differ 0 _ _ (spelled _ T made is) refl

no_setlen_asks : (other : Name) → NeedsMemory (codes "A setlen 2") other → ⊥
no_setlen_asks A asks = differ 3 _ _ (asks.named ∙ ap (λ text. codes "A " ++ text) asks.spelled.spelled) refl
no_setlen_asks S asks = differ 0 _ _ asks.named refl
no_setlen_asks T asks = differ 0 _ _ asks.named refl

set_len_done : (new : Slots ℤ) (answer : Answer ℤ) → ArrayStep IsZero 4 start.a (SetLen 2) answer new
    → (answer ≡ answers.Done) × (new ≡ split_at 2 (replicate 4 (pos 0)))
set_len_done new answers.Done step = (refl, step.1)
set_len_done new answers.Range step = absurd (let small = step.0 in omega arith)
set_len_done new answer step = absurd step

two_zeros : (new : State) (text : List ℕ) → Answered start (codes "A setlen 2") text new
    → (text ≡ codes "ok [0, 0] [0, 0]") × (new.a ≡ split_at 2 (replicate 4 (pos 0)))
two_zeros new text answered =
    let made = called start new (codes "A setlen 2") text A (SetLen 2)
    (record {
      text = codes "setlen 2";
      named = refl;
      called = record { spelled = ap (λ d. codes "setlen " ++ d) (sym (decimal_digit 2 (omega arith))); valid = omega arith };
      has = tt;
      short = omega arith;
    })
    only_setlen no_setlen_asks (λ said is. differ 0 _ _ is.spelled refl) answered in
    let done = set_len_done new.a made.0 made.1.0 in (
      made.2 ∙ ap (λ a. answer_text a ++ codes " " ++ vector_text new.a) done.0 ∙ ap (λ v. codes "ok" ++ codes " " ++ vector_text v) done.1
          ∙ ap (λ l. codes "ok " ++ l) shown_zeros,
      done.1,
    )

-- The second.
splice_line : Global → (old new : State) (text : List ℕ) → old.a ≡ split_at 2 (replicate 4 (pos 0))
    → Answered old (codes "A splice 0 1 - 1 2 3 4") text new
    → (text ≡ codes "items [] rest [4] [1, 2, 3, 0] []") ⊎ (text ≡ codes "memory [0, 0] [0, 0]")
splice_line alloc old new text held h = elim h [
  | Answered.done name call answer command steps e ↦
      (let is = only_splice name call command in
      let own = subst (λ n. Steps n old call answer new) is.0 steps in
      let shows : text ≡ answer_text answer ++ codes " " ++ vector_text new.a = subst (λ n. text ≡ answer_text answer ++ codes " " ++ text_of n new) is.0 e in
      let step = subst (λ c. ArrayStep IsZero 4 old.a c answer new.a) is.1.call_is own.0 in
      elim (puts_numbers old.a new.a is.1.word is.1.numbers answer (ap items_in held) (ap spare_in held) is.1.no_letter is.1.numbers_are step) [
        | inl made ↦ inl (shows ∙ made ∙ sym shown)
        | inr refused ↦
            inr (shows ∙ ap (λ a. answer_text a ++ codes " " ++ vector_text new.a) refused.0
            ∙ ap (λ v. codes "memory " ++ vector_text v) (refused.1 ∙ held)
            ∙ ap (λ l. codes "memory " ++ l) shown_zeros)
      ])
  | Answered.memory name asks e same ↦
      inr (subst (λ n. text ≡ codes "memory" ++ codes " " ++ text_of n old) (asks_of_A name asks) e
      ∙ ap (λ v. codes "memory " ++ vector_text v) held
      ∙ ap (λ l. codes "memory " ++ l) shown_zeros)
  | Answered.text_done said answer command steps e ↦ differ 0 _ _ command.spelled refl
  | Answered.bad none no_text e same ↦
      (let call = Splice 0 1 (vec_of alloc [] (omega arith)) (vec_of alloc (pos 1 ∷ pos 2 ∷ pos 3 ∷ pos 4 ∷ []) (omega arith)) in
      let digits = ap (λ d. codes "splice " ++ d) splice_is in
      absurd (none A call (record {
        text = codes "splice 0 1 - 1 2 3 4";
        named = refl;
        called = record { spelled = digits; valid = (omega arith, omega arith, four_fit) };
        has = tt;
        short = omega arith;
      })))
]

pub splice_then_rest : Global → (output : List ℕ) → Script (ended spliced) output → (output ≡ ended spliced_answers) ⊎ (output ≡ ended refused_answers)
splice_then_rest alloc output script =
    let first = (answers_of spliced output whole script).1 in
    let second = first.5 in
    let one = two_zeros first.1 first.0 first.3 in
    let both = first.4 ∙ ap (λ text. text ++ 10 ∷ first.2) one.0
    ∙ ap (λ rest. codes "ok [0, 0] [0, 0]" ++ 10 ∷ rest) (second.4 ∙ ap (λ rest. second.0 ++ 10 ∷ rest) second.5.0) in
    elim (splice_line alloc first.1 second.1 second.0 one.1 second.3) [
      | inl made ↦ inl (both ∙ ap (λ text. codes "ok [0, 0] [0, 0]" ++ 10 ∷ (text ++ 10 ∷ [])) made)
      | inr refused ↦ inr (both ∙ ap (λ text. codes "ok [0, 0] [0, 0]" ++ 10 ∷ (text ++ 10 ∷ [])) refused)
    ]
