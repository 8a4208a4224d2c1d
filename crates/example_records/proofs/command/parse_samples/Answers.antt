use Rattle.std.proofs.Common.{◌≡◌, ◌≢◌, ◌≤◌, ◌<◌, ◌^◌, ◌++◌, ◌+◌, ◌∷◌, [], Some, None, ◌∙◌, ap, append-nil, arith, codes, drop, inr, length, length-drop, option_copied, rules, subst, subst₂, sym}
use Rattle.std.proofs.lemmas.Grind.{common_steps}
use Rattle.std.proofs.lemmas.List.{length_push}
use Rattle.tinyvec_array.specs.ArrayVec.{items, items_len, spare}
use Rattle.example_records.specs.Commands.{AreNumbers, behind_comma, part_of}
use Rattle.example_records.proofs.CommandLaws.{AreBefore, AreWith, before_next, is_decimal, no_number, no_room, not_decimal, shorter, text_left, with_next}
use Rattle.example_records.proofs.command.parse_samples.Goals as goal

pub returns-in_default-parse-clause-refused : goal.returns-in_default-parse-clause-refused
returns-in_default-parse-clause-refused c =
    let other : c.args.text.now ≢ codes "-" = first_of (search rules, grind (arith, common_steps)) in
    let first : AreBefore c.args.text.now (items c.loop-rest.samples) (Some c.in-Some.text.now) =
    subst (λ rest. AreBefore c.args.text.now (items c.loop-rest.samples) (option_copied rest)) c.in-Some.is c.loop-rest.invariant.before in
    no_number c.args.text.now (items c.loop-rest.samples) c.in-Some.text.now other first
    (not_decimal (2 ^ 16) c.first_part.result.0.now (part_of c.in-Some.text.now) c.first_part.ensures.part c.in_default-parse.ensures.value.0)

pub returns-then-is_some-clause-refused : goal.returns-then-is_some-clause-refused
returns-then-is_some-clause-refused c =
    let other : c.args.text.now ≢ codes "-" = first_of (search rules, grind (arith, common_steps)) in
    let first : AreBefore c.args.text.now (items c.loop-rest.samples) (Some c.in-Some.text.now) =
    subst (λ rest. AreBefore c.args.text.now (items c.loop-rest.samples) (option_copied rest)) c.in-Some.is c.loop-rest.invariant.before in
    let none : length (spare c.loop-rest.samples) ≡ 0 = first_of (search rules, grind (arith, common_steps)) in
    let full : 8 ≤ items_len c.loop-rest.samples = omega (arith, none, c.loop-rest.invariant.slots) in
    no_room c.args.text.now (items c.loop-rest.samples) c.in-Some.text.now other first full

pub loop-rest-smaller : goal.loop-rest-smaller
loop-rest-smaller c =
    let left : text_left (option_copied c.first_part.result.1) ≡ text_left (behind_comma c.in-Some.text.now) = ap text_left c.first_part.ensures.behind in
    let was : text_left (option_copied c.loop-rest.rest) ≡ length c.in-Some.text.now + 1 = ap (λ rest. text_left (option_copied rest)) c.in-Some.is in
    subst₂ (λ a b. a < b) (sym left) (sym was) (shorter c.in-Some.text.now)

pub loop-rest-preserved : goal.loop-rest-preserved
loop-rest-preserved c =
    let text = c.args.text.now in
    let numbers = items c.loop-rest.samples in
    let rest = c.in-Some.text.now in
    let pushed : items c.try_push.new.self ≡ items c.loop-rest.samples ++ c.in-Ok.sample ∷ [] = first_of (search rules, grind (arith, common_steps)) in
    let used : spare c.try_push.new.self ≡ drop 1 (spare c.loop-rest.samples) = first_of (search rules, grind (arith, common_steps)) in
    let room : 0 < length (spare c.loop-rest.samples) = first_of (search rules, grind (arith, common_steps)) in
    let behind = c.first_part.ensures.behind in
    let parsed = c.in-Ok.ensures.value.0 in
    let is = is_decimal c.in-Ok.sample c.first_part.result.0.now (part_of rest) c.first_part.ensures.part parsed.0.0 parsed.1 in
    let before = subst (λ rest. AreBefore text numbers (option_copied rest)) c.in-Some.is c.loop-rest.invariant.before in
    let with = subst (λ rest. AreWith text numbers (option_copied rest)) c.in-Some.is c.loop-rest.invariant.with in
    record {
      before = subst₂ (AreBefore text) (sym pushed) (sym behind) (before_next text numbers rest c.in-Ok.sample is before);
      with = subst₂ (AreWith text) (sym pushed) (sym behind) (with_next text numbers rest c.in-Ok.sample is with);
      slots = omega (
        arith,
        room,
        c.loop-rest.invariant.slots,
        ap length pushed ∙ length_push numbers c.in-Ok.sample,
        ap length used ∙ length-drop 1 (spare c.loop-rest.samples),
      );
    }

pub returns-clause-ok : goal.returns-clause-ok
returns-clause-ok c =
    let none : c.loop-rest.rest ≡ None = first_of (search rules, grind (arith, common_steps)) in
    let with : AreWith c.args.text.now (items c.loop-rest.samples) None =
    subst (λ rest. AreWith c.args.text.now (items c.loop-rest.samples) (option_copied rest)) none c.loop-rest.invariant.with in
    inr (subst (AreNumbers (Some c.args.text.now)) (append-nil (items c.loop-rest.samples)) (with [] tt))
