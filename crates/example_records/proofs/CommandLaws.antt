-- What a line commands, that it is one command, and what was done for it.
use Rattle.std.proofs.Common.{◌≡◌, ◌≢◌, ◌∙◌, ap, ap₂, sym, subst, refl, ℕ, ◌+◌, ◌<◌, ◌≤◌, ◌^◌, inl, inr, ◌⊎◌, nat_lt, ◌==◌, Bool, true, false, if◌then◌else◌, List, [], ◌∷◌, ◌++◌, length, map, take, slice_index, codes, Option, None, Some, Ok, Err, Result, arith, append_assoc, length-append, length-drop}
use Rattle.std.specs.List.{AllByRecursion, after_first, position_or_len}
use Rattle.std.specs.Str.Parse.{IsNumeral, digits_value, without_leading_plus}
use Rattle.std.proofs.lemmas.Bool.{ltb-true}
use Rattle.example_records.specs.Commands.{Answers, AreNumbers, AreSamples, Command, Does, HasTag, IsDecimal, IsRead, IsReadOfCopy, IsRecord, Says, behind_comma, part_of, rest_of, word_of}
use Rattle.example_records.specs.Commands.Command.{Add, Hex, Cut, Read, Copy}
use Rattle.example_records.specs.Hex.{HasByte, bytes_of}
use Rattle.example_stream.specs.Readings.{ReadingFits, Said, SamplesFit, said}
use Rattle.example_stream.specs.Stream.{BeginsWith, Gives, IsEnd, SpellsFrame, SpellsStream, StandsBehind}
use Rattle.example_stream.specs.declared.stream.Recovered.{Recovered}
use Rattle.example_records.specs.declared.command_error.CommandError.{CommandError}
use Rattle.example_records.specs.declared.command_error.CommandError.TheVariants.{Hex as NoHex, Memory}
use Rattle.example_stream.specs.declared.stream_error.StreamError.{StreamError}
use Rattle.example_stream.specs.declared.stream_error.StreamError.TheVariants.{Cut, Io, Memory as NoMemory, TooManySamples, WrongTag}
use Rattle.example_records.proofs.HexLaws.{bytes_more}
use Rattle.example_stream.proofs.WholeStreams.{gives-all}

-- ---- numbers

-- a text spells one number
same_decimal : (text : List ℕ) (a b : ℕ) → IsDecimal text a → IsDecimal text b → a ≡ b
same_decimal text a b p q = sym p.value ∙ q.value

-- one list of numbers
pub same_numbers : (text : Option (List ℕ)) (a b : List ℕ) → AreNumbers text a → AreNumbers text b → a ≡ b
same_numbers None [] [] p q = refl
same_numbers None [] (y ∷ b) p q = absurd q
same_numbers None (x ∷ a) b p q = absurd p
same_numbers (Some text) [] b p q = absurd p
same_numbers (Some text) (x ∷ a) [] p q = absurd q
same_numbers (Some text) (x ∷ a) (y ∷ b) p q = ap₂ (λ n ns. n ∷ ns) (same_decimal (part_of text) x y p.0 q.0) (same_numbers (behind_comma text) a b p.1 q.1)

-- a dash is no number
no_dash : (numbers : List ℕ) → AreNumbers (Some (codes "-")) numbers → ⊥
no_dash [] p = p
no_dash (x ∷ numbers) p = let digit = p.0.numeral.1.0 in omega (arith, digit)

same_samples : (word : List ℕ) (a b : List ℕ) → AreSamples word a → AreSamples word b → a ≡ b
same_samples word a b (inl p) (inl q) = p.1 ∙ sym q.1
same_samples word a b (inl p) (inr q) = absurd (no_dash b (subst (λ word. AreNumbers (Some word) b) p.0 q))
same_samples word a b (inr p) (inl q) = absurd (no_dash a (subst (λ word. AreNumbers (Some word) a) q.0 p))
same_samples word a b (inr p) (inr q) = same_numbers (Some word) a b p q

pub is_decimal : (number : ℕ) (part word : List ℕ) → part ≡ word → IsNumeral 10 (without_leading_plus part) → number ≡ digits_value 10 (without_leading_plus part) → IsDecimal word number
is_decimal number part word same numeral value = subst (λ word. IsDecimal word number) same (record { numeral = numeral; value = sym value })

pub not_decimal : (most : ℕ) (part word : List ℕ) → part ≡ word → ((IsNumeral 10 (without_leading_plus part) × (digits_value 10 (without_leading_plus part) < most)) → ⊥)
    → (number : ℕ) → IsDecimal word number → number < most → ⊥
not_decimal most part word same none number is small =
    none (subst (λ word. IsNumeral 10 (without_leading_plus word) × (digits_value 10 (without_leading_plus word) < most)) (sym same) (is.numeral, subst (λ n. n < most) (sym is.value) small))

-- and one record
same_record : (text : List ℕ) (c d : Said) → IsRecord text c → IsRecord text d → c ≡ d
same_record text c d p q =
    let station = same_decimal (word_of text) (c.0) (d.0) p.station q.station in
    let samples = same_samples (word_of (rest_of text)) (c.1.0) (d.1.0) p.samples q.samples in
    ap₂ (λ n rest. (n, rest)) station (ap₂ (λ ns note. (ns, note)) samples (p.note ∙ sym q.note))

-- ---- the loop over samples

-- the numbers of a text are these and those of what is left of it
abbrev pub AreBefore : (text numbers : List ℕ) → Option (List ℕ) → Type 0
AreBefore text numbers left = (all : List ℕ) → AreNumbers (Some text) all → (more : List ℕ) × (all ≡ numbers ++ more) × AreNumbers left more

abbrev pub AreWith : (text numbers : List ℕ) → Option (List ℕ) → Type 0
AreWith text numbers left = (more : List ℕ) → AreNumbers left more → AreNumbers (Some text) (numbers ++ more)

abbrev pub text_left : Option (List ℕ) → ℕ
text_left None = 0
text_left (Some text) = length text + 1

shorter_by : (text : List ℕ) (b : Bool) → nat_lt (position_or_len (λ byte. byte == 44) text) (length text) ≡ b
    → text_left (if b then Some (after_first (λ byte. byte == 44) text) else None) < length text + 1
shorter_by text true is =
    let inside = ltb-true (position_or_len (λ byte. byte == 44) text) (length text) is in
    omega (arith, inside, length-drop (position_or_len (λ byte. byte == 44) text + 1) text)
shorter_by text false is = omega arith

pub shorter : (text : List ℕ) → text_left (behind_comma text) < length text + 1
shorter text = shorter_by text (nat_lt (position_or_len (λ byte. byte == 44) text) (length text)) refl

before_by : (text numbers left : List ℕ) (number : ℕ) → IsDecimal (part_of left) number → (all more : List ℕ) → all ≡ numbers ++ more → AreNumbers (Some left) more
    → (further : List ℕ) × (all ≡ (numbers ++ number ∷ []) ++ further) × AreNumbers (behind_comma left) further
before_by text numbers left number p all [] e are = absurd are
before_by text numbers left number p all (x ∷ more) e are =
    (more, e ∙ ap (λ n. numbers ++ n ∷ more) (same_decimal (part_of left) x number are.0 p) ∙ sym (append_assoc numbers (number ∷ []) more), are.1)

pub before_next : (text numbers left : List ℕ) (number : ℕ) → IsDecimal (part_of left) number → AreBefore text numbers (Some left) → AreBefore text (numbers ++ number ∷ []) (behind_comma left)
before_next text numbers left number p before all are = let b = before all are in before_by text numbers left number p all (b.0) (b.1) (b.2)

pub with_next : (text numbers left : List ℕ) (number : ℕ) → IsDecimal (part_of left) number → AreWith text numbers (Some left) → AreWith text (numbers ++ number ∷ []) (behind_comma left)
with_next text numbers left number p with more are =
    subst (AreNumbers (Some text)) (sym (append_assoc numbers (number ∷ []) more)) (with (number ∷ more) (p, are))

-- ---- what is no record

fits_at : (numbers more : List ℕ) (number : ℕ) → AllByRecursion (λ n. n < 2 ^ 16) (numbers ++ number ∷ more) → number < 2 ^ 16
fits_at [] more number fit = fit.0
fits_at (x ∷ numbers) more number fit = fits_at numbers more number fit.1

refused_number : (numbers left all more : List ℕ) → ((number : ℕ) → IsDecimal (part_of left) number → number < 2 ^ 16 → ⊥)
    → all ≡ numbers ++ more → AreNumbers (Some left) more → SamplesFit all → ⊥
refused_number numbers left all [] none e are fit = are
refused_number numbers left all (x ∷ more) none e are fit = none x are.0 (fits_at numbers more x (subst (AllByRecursion (λ n. n < 2 ^ 16)) e fit.items))

refused_full : (numbers left all more : List ℕ) → 8 ≤ length numbers → all ≡ numbers ++ more → AreNumbers (Some left) more → SamplesFit all → ⊥
refused_full numbers left all [] full e are fit = are
refused_full numbers left all (x ∷ more) full e are fit = let few = fit.few in let long = ap length e ∙ length-append numbers (x ∷ more) in omega (arith, full, few, long)

pub no_number : (text numbers left : List ℕ) → text ≢ codes "-" → AreBefore text numbers (Some left) → ((number : ℕ) → IsDecimal (part_of left) number → number < 2 ^ 16 → ⊥)
    → (samples : List ℕ) → AreSamples text samples → SamplesFit samples → ⊥
no_number text numbers left other before none samples (inl are) fit = other are.0
no_number text numbers left other before none samples (inr are) fit = let b = before samples are in refused_number numbers left samples (b.0) none (b.1) (b.2) fit

pub no_room : (text numbers left : List ℕ) → text ≢ codes "-" → AreBefore text numbers (Some left) → 8 ≤ length numbers
    → (samples : List ℕ) → AreSamples text samples → SamplesFit samples → ⊥
no_room text numbers left other before full samples (inl are) fit = other are.0
no_room text numbers left other before full samples (inr are) fit = let b = before samples are in refused_full numbers left samples (b.0) full (b.1) (b.2) fit

-- ---- what the commands did

pub added : (text old new : List ℕ) (c : Said) (frame : List ℕ) → IsRecord text c → ReadingFits c → SpellsFrame c frame → new ≡ old ++ frame
    → (command : Command) → Says (codes "add") text command → Does command old new (Ok None)
added text old new c frame is fits spelled e (Add d) says = inl (refl, (frame, subst (λ c. SpellsFrame c frame) (same_record text c d is says.1.0) spelled, e))
added text old new c frame is fits spelled e (Hex bytes) says = let w : 97 ≡ 104 = ap (λ word. slice_index word 0) says.0 in absurd (omega (arith, w))
added text old new c frame is fits spelled e (Cut len) says = let w : 97 ≡ 99 = ap (λ word. slice_index word 0) says.0 in absurd (omega (arith, w))
added text old new c frame is fits spelled e Read says = let w : 97 ≡ 114 = ap (λ word. slice_index word 0) says.0 in absurd (omega (arith, w))
added text old new c frame is fits spelled e Copy says = let w : 97 ≡ 99 = ap (λ word. slice_index word 0) says.0 in absurd (omega (arith, w))

pub hex_added : (text old new bytes : List ℕ) → bytes_of text ≡ Some bytes → new ≡ old ++ bytes
    → (command : Command) → Says (codes "hex") text command → Does command old new (Ok None)
hex_added text old new bytes is e (Add d) says = let w : 104 ≡ 97 = ap (λ word. slice_index word 0) says.0 in absurd (omega (arith, w))
hex_added text old new bytes is e (Hex others) says = inl (refl, cc)
hex_added text old new bytes is e (Cut len) says = let w : 104 ≡ 99 = ap (λ word. slice_index word 0) says.0 in absurd (omega (arith, w))
hex_added text old new bytes is e Read says = let w : 104 ≡ 114 = ap (λ word. slice_index word 0) says.0 in absurd (omega (arith, w))
hex_added text old new bytes is e Copy says = let w : 104 ≡ 99 = ap (λ word. slice_index word 0) says.0 in absurd (omega (arith, w))

pub cut_to : (text old new : List ℕ) (len : ℕ) → IsDecimal text len → len ≤ length old → new ≡ take len old
    → (command : Command) → Says (codes "cut") text command → Does command old new (Ok None)
cut_to text old new len is inside e (Add d) says = let w : 99 ≡ 97 = ap (λ word. slice_index word 0) says.0 in absurd (omega (arith, w))
cut_to text old new len is inside e (Hex bytes) says = let w : 99 ≡ 104 = ap (λ word. slice_index word 0) says.0 in absurd (omega (arith, w))
cut_to text old new len is inside e (Cut other) says =
    let same = same_decimal text len other is says.1 in
    inl (omega (arith, same, inside), refl, e ∙ ap (λ n. take n old) same)
cut_to text old new len is inside e Read says = let w : 99 ≡ 114 = ap (λ word. slice_index word 0) says.0 in absurd (omega (arith, w))
cut_to text old new len is inside e Copy says = let w : 117 ≡ 111 = ap (λ word. slice_index word 1) says.0 in absurd (omega (arith, w))

pub read_as : (rest stream : List ℕ) (recovered : Recovered) → IsRead stream (map said recovered.records.items) recovered.end
    → (command : Command) → Says (codes "read") rest command → Does command stream stream (Ok (Some recovered))
read_as rest stream recovered is (Add d) says = let w : 114 ≡ 97 = ap (λ word. slice_index word 0) says.0 in absurd (omega (arith, w))
read_as rest stream recovered is (Hex bytes) says = let w : 114 ≡ 104 = ap (λ word. slice_index word 0) says.0 in absurd (omega (arith, w))
read_as rest stream recovered is (Cut len) says = let w : 114 ≡ 99 = ap (λ word. slice_index word 0) says.0 in absurd (omega (arith, w))
read_as rest stream recovered is Read says = inl (refl, (recovered, refl, is))
read_as rest stream recovered is Copy says = let w : 114 ≡ 99 = ap (λ word. slice_index word 0) says.0 in absurd (omega (arith, w))

pub copied_as : (rest stream : List ℕ) (recovered : Recovered) → IsReadOfCopy stream (map said recovered.records.items) recovered.end
    → (command : Command) → Says (codes "copy") rest command → Does command stream stream (Ok (Some recovered))
copied_as rest stream recovered is (Add d) says = let w : 99 ≡ 97 = ap (λ word. slice_index word 0) says.0 in absurd (omega (arith, w))
copied_as rest stream recovered is (Hex bytes) says = let w : 99 ≡ 104 = ap (λ word. slice_index word 0) says.0 in absurd (omega (arith, w))
copied_as rest stream recovered is (Cut len) says = let w : 111 ≡ 117 = ap (λ word. slice_index word 1) says.0 in absurd (omega (arith, w))
copied_as rest stream recovered is Read says = let w : 99 ≡ 114 = ap (λ word. slice_index word 0) says.0 in absurd (omega (arith, w))
copied_as rest stream recovered is Copy says = inl (refl, (recovered, refl, is))

-- ---- where memory was refused

hex_refused : (text stream : List ℕ) → HasByte text → (command : Command) → Says (codes "hex") text command → Does command stream stream (Err Memory)
hex_refused text stream has (Add c) says = let w : 104 ≡ 97 = ap (λ word. slice_index word 0) says.0 in absurd (omega (arith, w))
hex_refused text stream has (Hex bytes) says = inr (bytes_more text bytes has says.1, (refl, refl))
hex_refused text stream has (Cut len) says = let w : 104 ≡ 99 = ap (λ word. slice_index word 0) says.0 in absurd (omega (arith, w))
hex_refused text stream has Read says = let w : 104 ≡ 114 = ap (λ word. slice_index word 0) says.0 in absurd (omega (arith, w))
hex_refused text stream has Copy says = let w : 104 ≡ 99 = ap (λ word. slice_index word 0) says.0 in absurd (omega (arith, w))

-- where the text is no bytes
no_hex : (text stream : List ℕ) → bytes_of text ≡ None → (command : Command) → Says (codes "hex") text command → Does command stream stream (Err NoHex)
no_hex text stream none (Add c) says = let w : 104 ≡ 97 = ap (λ word. slice_index word 0) says.0 in absurd (omega (arith, w))
no_hex text stream none (Hex bytes) says = let some = says.1 in absurd (cc (none, some))
no_hex text stream none (Cut len) says = let w : 104 ≡ 99 = ap (λ word. slice_index word 0) says.0 in absurd (omega (arith, w))
no_hex text stream none Read says = let w : 104 ≡ 114 = ap (λ word. slice_index word 0) says.0 in absurd (omega (arith, w))
no_hex text stream none Copy says = let w : 104 ≡ 99 = ap (λ word. slice_index word 0) says.0 in absurd (omega (arith, w))

pub hex_fails : (text stream : List ℕ) (error : CommandError) → ((error ≡ Memory) × HasByte text) ⊎ ((error ≡ NoHex) × (bytes_of text ≡ None)) → Answers (Says (codes "hex") text) stream stream (Err error)
hex_fails text stream error (inl memory) =
    subst (λ e. Answers (Says (codes "hex") text) stream stream (Err e)) (sym memory.0) record { carried_out = hex_refused text stream memory.1; is_command = tt; refused = refl }
hex_fails text stream error (inr none) =
    subst (λ e. Answers (Says (codes "hex") text) stream stream (Err e)) (sym none.0) record { carried_out = no_hex text stream none.1; is_command = tt; refused = refl }

-- ---- a stream that is read

-- where no read failed, no fault was reported
without_faults : (cs read : List Said) (told end : Result (Unit {0}) StreamError) (before after : ℕ) → (end ≢ Err Io) → Gives cs told before after read end → Gives cs told 0 0 read end
without_faults cs read told (Ok done) before after none g = g
without_faults cs read told (Err Io) before after none g = absurd (none refl)
without_faults cs read told (Err NoMemory) before after none g = g
without_faults cs read told (Err Cut) before after none g = g
without_faults cs read told (Err WrongTag) before after none g = g
without_faults cs read told (Err TooManySamples) before after none g = g

pub is_read : (stream given : List ℕ) (before after : ℕ) (read : List Said) (end : Result (Unit {0}) StreamError) → given ≡ stream → (end ≢ Err Io)
    → BeginsWith read (StandsBehind end) given → AllByRecursion ReadingFits read
    → ((cs : List Said) (bytes tail : List ℕ) (told : Result (Unit {0}) StreamError) → AllByRecursion ReadingFits cs → SpellsStream cs bytes → IsEnd told tail
    → Some given ≡ Some (bytes ++ tail) → Gives cs told before after read end)
    → IsRead stream read end
is_read stream given before after read end same none stands fit all = record {
  stands = subst (BeginsWith read (StandsBehind end)) same stands;
  fit = fit;
  no_fault = none;
  all = λ cs bytes tail told fit_cs spelled is whole. without_faults cs read told end before after none (all cs bytes tail told fit_cs spelled is (ap Some (same ∙ whole)));
}

-- no record is there
read_none : (stream : List ℕ) (end : Result (Unit {0}) StreamError) → StandsBehind end stream → (end ≢ Err Io) → IsRead stream [] end
read_none stream end is none =
    let stands : BeginsWith [] (StandsBehind end) stream = record { first = []; rest = stream; is_first = refl; is_rest = is; whole = refl } in
    is_read stream stream 0 0 [] end refl none stands tt (λ cs bytes tail told fit spelled is_told whole. gives-all 0 0 cs [] fit tt told end (Some stream) bytes tail spelled is_told whole (λ fault. absurd (none fault)) stands)

pub read_empty : IsRead [] [] (Ok tt)
read_empty = read_none [] (Ok tt) refl (λ same. cc same)

pub read_no_tag : (stream : List ℕ) → 0 < length stream → (HasTag stream → ⊥) → IsRead stream [] (Err WrongTag)
read_no_tag [] some none = absurd (omega (arith, some))
read_no_tag (byte ∷ rest) some none = read_none (byte ∷ rest) (Err WrongTag) (record { byte = byte; rest = rest; other = λ is. none (omega arith, is); whole = refl }) (λ same. cc same)

pub copy_none : (stream : List ℕ) → (HasTag stream → ⊥) → IsReadOfCopy stream [] (Ok tt)
copy_none [] none = record { records = []; records_end = Ok tt; first = read_empty; told = λ same. cc same; copied = refl }
copy_none (byte ∷ rest) none = record { records = []; records_end = Err WrongTag; first = read_no_tag (byte ∷ rest) (omega arith) none; told = λ same. cc same; copied = refl }

-- memory was refused
pub read_refused : (rest stream : List ℕ) → HasTag stream → (command : Command) → Says (codes "read") rest command → Does command stream stream (Err Memory)
read_refused rest stream has (Add d) says = let w : 114 ≡ 97 = ap (λ word. slice_index word 0) says.0 in absurd (omega (arith, w))
read_refused rest stream has (Hex bytes) says = let w : 114 ≡ 104 = ap (λ word. slice_index word 0) says.0 in absurd (omega (arith, w))
read_refused rest stream has (Cut len) says = let w : 114 ≡ 99 = ap (λ word. slice_index word 0) says.0 in absurd (omega (arith, w))
read_refused rest stream has Read says = inr (has, (refl, refl))
read_refused rest stream has Copy says = let w : 114 ≡ 99 = ap (λ word. slice_index word 0) says.0 in absurd (omega (arith, w))
