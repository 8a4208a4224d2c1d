use Rattle.std.proofs.Common.{◌≡◌, ◌∙◌, ◌+◌, ◌<◌, ◌≤◌, [], ◌∷◌, ◌++◌, ap, append-nil, append_assoc, get_or, length, map, refl, take, sym, subst, rules, Result, Ok, Err, OnErr, ℕ, List}
use Rattle.std.specs.Prelude.{string_bytes}
use Rattle.std.proofs.lemmas.List.{map-append, take_all, take_more}
use Rattle.example_stream.specs.Readings.{said}
use Rattle.example_records.proofs.Showing.{GrewBy, GrewBy-push}
use Rattle.example_records.proofs.command.push_shown.Goals as goal

-- what holds anyhow holds at an error
at_error : {X E : Type 0} (r : Result X E) (old new some : List ℕ) → new ≡ old ++ some → OnErr r ((some : List ℕ) × (new ≡ old ++ some))
at_error (Ok x) old new some h = tt
at_error (Err e) old new some h = (some, h)

pub loop-reading-init : goal.loop-reading-init
loop-reading-init c = record { lines = ([], refl, sym (append-nil c.args.text.now.items)) }

pub loop-reading-preserved : goal.loop-reading-preserved
loop-reading-preserved c =
    let readings = c.args.recovered.now.records.items in
    let i = c.loop-reading.reading-index in
    let reading = c.reading-item.result in
    let old = c.args.text.now.items in
    let mid = c.loop-reading.text.items in
    let new = c.extend_from_slice.new.self.items in
    let line = string_bytes c.show_reading.new.text in
    let grown : new ≡ mid ++ line = search rules in
    let inside : i < length readings = subst (λ rs. i < length rs) c.deref-reading-items.ensures.value c.loop-reading-test.true in
    let is : reading ≡ get_or readings i reading = search rules in
    let next : take (i + 1) readings ≡ take i readings ++ reading ∷ [] = take_more readings i reading inside ∙ ap (λ r. take i readings ++ r ∷ []) (sym is) in
    let shown = GrewBy-push (map said (take i readings)) (said reading) old mid new line c.loop-reading.invariant.lines c.in_ok-show_reading.ensures grown in record {
      lines = subst (λ cs. GrewBy cs old new) (sym (ap (map said) next ∙ map-append said (take i readings) (reading ∷ []))) shown;
    }

pub returns-clause-ok : goal.returns-clause-ok
returns-clause-ok c =
    let readings = c.args.recovered.now.records.items in
    let i = c.loop-reading.reading-index in
    let past : length readings ≤ i = subst (λ rs. length rs ≤ i) c.deref-reading-items.ensures.value c.loop-reading-test.false in
    let all = subst (λ rs. GrewBy (map said rs) c.args.text.now.items c.loop-reading.text.items) (take_all i readings past) c.loop-reading.invariant.lines in
    let last = string_bytes c.show_end.new.text in
    let grown : c.extend_from_slice-2.new.self.items ≡ c.loop-reading.text.items ++ last = search rules in (
      all.0 ++ last,
      grown ∙ ap (λ text. text ++ last) all.2 ∙ append_assoc c.args.text.now.items all.0 last,
      record { lines = all.0; last = last; are = all.1; is_end = c.in_ok-show_end.ensures; whole = refl },
    )

pub returns-in_err-show_reading-clause-refused : goal.returns-in_err-show_reading-clause-refused
returns-in_err-show_reading-clause-refused c = let all = c.loop-reading.invariant.lines in at_error _ _ _ all.0 all.2

pub returns-in_err-extend_from_slice-clause-refused : goal.returns-in_err-extend_from_slice-clause-refused
returns-in_err-extend_from_slice-clause-refused c =
    let all = c.loop-reading.invariant.lines in
    let same : c.extend_from_slice.new.self.items ≡ c.loop-reading.text.items = search rules in at_error _ _ _ all.0 (same ∙ all.2)

pub returns-in_err-show_end-clause-refused : goal.returns-in_err-show_end-clause-refused
returns-in_err-show_end-clause-refused c = let all = c.loop-reading.invariant.lines in at_error _ _ _ all.0 all.2

pub returns-in_err-extend_from_slice-2-clause-refused : goal.returns-in_err-extend_from_slice-2-clause-refused
returns-in_err-extend_from_slice-2-clause-refused c =
    let all = c.loop-reading.invariant.lines in
    let same : c.extend_from_slice-2.new.self.items ≡ c.loop-reading.text.items = search rules in at_error _ _ _ all.0 (same ∙ all.2)
