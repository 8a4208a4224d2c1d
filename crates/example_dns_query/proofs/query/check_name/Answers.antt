use Rattle.std.proofs.Common.{◌≡◌, ◌∙◌, refl, ap, sym, arith, rules, length, All, Some}
use Rattle.example_dns_query.specs.Name.{IsPrinted, IsLabel, labels_in, labels_of, first_fault, name_wire}
use Rattle.example_dns_query.proofs.Faults.{fault_cases, no_fault, fault_not_labels}
use Rattle.example_dns_query.proofs.query.check_name.Goals as goal

found : (c : goal.In-Some) → first_fault (labels_of c.args.name.now) ≡ Some c.in-Some.fault
found c = ap (λ body. first_fault (labels_in body)) (sym c.body_of-body.ensures) ∙ sym c.label_fault.ensures ∙ c.in-Some.is

pub returns-in-Some-clause-bad_byte : goal.returns-in-Some-clause-bad_byte
returns-in-Some-clause-bad_byte c =
    let printed : All IsPrinted c.args.name.now = search rules in
    (λ same. absurd (fault_cases (labels_of c.args.name.now) _ (found c) (λ e. cc) (λ e. cc)), λ bad. absurd (bad printed))

pub returns-in-Some-clause-long_name : goal.returns-in-Some-clause-long_name
returns-in-Some-clause-long_name c =
    (λ same. absurd (fault_cases (labels_of c.args.name.now) _ (found c) (λ e. cc) (λ e. cc)), λ long. absurd (fault_not_labels _ _ (found c) long.1))

pub returns-in-Some-clause-refused : goal.returns-in-Some-clause-refused
returns-in-Some-clause-refused c = λ name. fault_not_labels _ _ (found c) name.labels

pub returns-in-Some-clause-not_full : goal.returns-in-Some-clause-not_full
returns-in-Some-clause-not_full c = λ same. fault_cases (labels_of c.args.name.now) _ (found c) (λ e. cc) (λ e. cc)

pub returns-then-name_len-gt255-clause-long_name : goal.returns-then-name_len-gt255-clause-long_name
returns-then-name_len-gt255-clause-long_name c =
    let name = c.args.name.now in
    let printed : All IsPrinted name = search rules in
    let labels : All IsLabel (labels_of name) = no_fault (labels_of name) (λ fault is. c.in_default.not-Some fault (c.label_fault.ensures ∙ ap (λ body. first_fault (labels_in body)) c.body_of-body.ensures ∙ is)) in
    let len = c.name_len.ensures ∙ ap (λ body. length (name_wire (labels_in body))) c.body_of-body.ensures in
    (λ same. (printed, labels, omega (arith, len)), λ long. refl)

pub returns-clause-is_name : goal.returns-clause-is_name
returns-clause-is_name c =
    let name = c.args.name.now in
    let len = c.name_len.ensures ∙ ap (λ body. length (name_wire (labels_in body))) c.body_of-body.ensures in
    record {
      printed = search rules;
      labels = no_fault (labels_of name) (λ fault is. c.in_default.not-Some fault (c.label_fault.ensures ∙ ap (λ body. first_fault (labels_in body)) c.body_of-body.ensures ∙ is));
      short = omega (arith, len);
    }
