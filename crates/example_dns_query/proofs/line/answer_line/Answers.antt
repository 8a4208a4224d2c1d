use Rattle.std.proofs.Common.{◌≡◌, refl, rules, Err, length}
use Rattle.example_dns_query.specs.Message.{query}
use Rattle.example_dns_query.specs.Name.{labels_of}
use Rattle.example_dns_query.proofs.LineFaults.{tells_fault, same_fault}
use Rattle.example_dns_query.proofs.line.answer_line.Goals as goal

pub returns-in_err-question-clause-succeeds : goal.returns-in_err-question-clause-succeeds
returns-in_err-question-clause-succeeds c = λ id name record_type small asks is_name fits. absurd (c.in_err-question.ensures.refused id name record_type small asks)

pub returns-in_err-question-clause-query : goal.returns-in_err-question-clause-query
returns-in_err-question-clause-query c = λ fault. (
  λ same. absurd (c.in_err-question.ensures.of_the_line fault (search rules)),
  λ asked. absurd (c.in_err-question.ensures.refused asked.id asked.name asked.record_type asked.small asked.asks),
)

pub returns-in-Ok-clause-answers : goal.returns-in-Ok-clause-answers
returns-in-Ok-clause-answers c =
    let question = c.in_ok-question.question in
    record {
      message = query question.id (labels_of question.name.now) question.record_type;
      asked = record {
        id = question.id;
        name = question.name.now;
        record_type = question.record_type;
        asks = c.in_ok-question.ensures.asks;
        is_name = c.in-Ok.ensures.is_name;
        whole = refl;
      };
      long = c.in-Ok.ensures.len;
      written = c.in-Ok.ensures.written;
    }

pub returns-in-Ok-clause-query : goal.returns-in-Ok-clause-query
returns-in-Ok-clause-query c =
    let question = c.in_ok-question.question in
    let told = c.write_query.ensures in
    let room = length c.args.slice.now in
    λ fault. (
      λ same. absurd cc,
      λ asked.
          let faulty = same_fault c.args.line.now asked.id question.id asked.name question.name.now asked.record_type question.record_type room fault asked.asks c.in_ok-question.ensures.asks asked.faulty in
          let is : c.write_query.result ≡ Err fault = (tells_fault question.id question.name.now question.record_type room c.write_query.result
          told.bad_byte told.empty_label told.long_label told.long_name told.full fault).1 faulty in
          absurd cc,
    )

pub returns-in-Err-clause-query : goal.returns-in-Err-clause-query
returns-in-Err-clause-query c =
    let question = c.in_ok-question.question in
    let told = c.write_query.ensures in
    let room = length c.args.slice.now in
    λ fault. (
      λ same. record {
        id = question.id;
        name = question.name.now;
        record_type = question.record_type;
        small = search rules;
        asks = c.in_ok-question.ensures.asks;
        faulty = (tells_fault question.id question.name.now question.record_type room c.write_query.result
            told.bad_byte told.empty_label told.long_label told.long_name told.full fault).0 (search rules);
      },
      λ asked.
          let faulty = same_fault c.args.line.now asked.id question.id asked.name question.name.now asked.record_type question.record_type room fault asked.asks c.in_ok-question.ensures.asks asked.faulty in
          let is : c.write_query.result ≡ Err fault = (tells_fault question.id question.name.now question.record_type room c.write_query.result
          told.bad_byte told.empty_label told.long_label told.long_name told.full fault).1 faulty in
          cc,
    )
