use Rattle.std.proofs.Common.{◌≡◌, ◌∙◌, ◌++◌, ◌==◌, false, if◌then◌else◌, codes, ap, arith, append_assoc, length, length-append, rules}
use Rattle.std.specs.Fmt.{decimal}
use Rattle.std.proofs.lemmas.Fmt.{length-decimal-le}
use Rattle.example_records.specs.Shown.{len_text}
use Rattle.example_records.proofs.answer.push_len.Goals as goal

pub push_digits-requires : goal.push_digits-requires
push_digits-requires c = let few = length-decimal-le 20 c.args.len (omega arith) (search rules) (search rules) in omega (arith, few, c.requires)

pub returns : goal.returns
returns c =
    let few = length-decimal-le 20 c.args.len (omega arith) (search rules) (search rules) in
    let digits = c.push_digits.ensures.items in
    let long = ap length digits ∙ length-append c.args.text.now.items (decimal c.args.len) in
    let more = c.extend_from_slice-done-2.ensures in
    let yes = more.succeeds (omega (arith, few, long, c.push_digits.ensures.capacity, c.requires, c.args.text.now.ok.0, c.push_digits.new.text.ok.0)) in
    let no : (c.args.len == 1) ≡ false = search rules in
    let text : len_text c.args.len ≡ decimal c.args.len ++ codes " bytes" =
    ap (λ b. if b then codes "1 byte" else decimal c.args.len ++ codes " bytes") no in
    rw text ((rw yes at more.items) ∙ ap (λ xs. xs ++ codes " bytes\n") digits ∙ simp append_assoc)
