use Rattle.std.proofs.Common.{◌≡◌, ◌∙◌, ◌+◌, ◌++◌, ap, arith, rules, length, drop}
use Rattle.tinyvec_array.specs.SliceVec.{slice_slots}
use Rattle.tinyvec_array.specs.Appends.{Appends}
use Rattle.example_dns_query.specs.Name.{labels_of, labels_in, name_wire}
use Rattle.example_dns_query.specs.Message.{query}
use Rattle.tinyvec_array.proofs.AppendsLemmas.{owner_sees_appended}
use Rattle.example_dns_query.proofs.SpellingLemmas.{spells_only}
use Rattle.example_dns_query.proofs.MessageLemmas.{length-query}
use Rattle.example_dns_query.proofs.query.write_query.Goals as goal

pub returns-in_err-check_name-clause-full : goal.returns-in_err-check_name-clause-full
returns-in_err-check_name-clause-full c =
    (λ same. absurd (c.in_err-check_name.ensures.not_full (search rules)), λ full. absurd (c.in_err-check_name.ensures.refused full.0))

pub returns-clause-written : goal.returns-clause-written
returns-clause-written c =
    let old = c.args.slice.now in
    let v = c.push_query.new.message in
    let made = c.from_slice_len-message.ensures in
    let labels = labels_of c.args.name.now in
    let wire = query c.args.id labels c.args.record_type in
    let long = c.name_len.ensures ∙ ap (λ body. length (name_wire (labels_in body))) c.body_of-body.ensures in
    let len : length wire ≡ 12 + c.name_len.result + 4 = omega (arith, long, length-query c.args.id labels c.args.record_type) in
    let step : Appends wire c.from_slice_len-message.result v = rw c.body_of-body.ensures at c.push_query.ensures in
    let whole : slice_slots v ≡ wire ++ drop (length wire) old = owner_sees_appended wire old _ v made.items made.spare step in
    let seen : slice_slots v ≡ wire ++ drop (12 + c.name_len.result + 4) old = whole ∙ ap (λ n. wire ++ drop n old) len in
    search rules

pub returns-clause-spelling : goal.returns-clause-spelling
returns-clause-spelling c = spells_only c.args.name.now

pub returns-in_err-check_name-clause-spelling : goal.returns-in_err-check_name-clause-spelling
returns-in_err-check_name-clause-spelling c = spells_only c.args.name.now

pub returns-then-slice-len-clause-spelling : goal.returns-then-slice-len-clause-spelling
returns-then-slice-len-clause-spelling c = spells_only c.args.name.now
