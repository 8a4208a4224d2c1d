use Rattle.std.proofs.Common.{rules, arith, below_more, ◌≡◌, ◌<◌, ◌∙◌, refl, ap, length}
use Rattle.std.proofs.lemmas.List.{length-map, length_push}
use Rattle.std.proofs.lemmas.List.Elements.{All-push, All-same}
use Rattle.tinyvec_array.specs.ArrayVec.{items, items_len, spare}
use Rattle.example_fields.specs.Fields.{bytes_of, IsIn}
use Rattle.example_fields.proofs.Parts.{pushed, pushed_last, fewer, are_all}
use Rattle.example_fields.proofs.split.Goals as goal
use Rattle.example_fields.proofs.split.Goals.{then-byte-separator+else-is_full, else-byte-separator}

-- a full vector, at a separator
pub returns-then-is_full-clause-refused : goal.returns-then-is_full-clause-refused
returns-then-is_full-clause-refused c =
    let none : length (spare c.loop-index.fields) ≡ 0 = search rules in
    let full : items_len c.loop-index.fields ≡ 8 = omega (arith, none, are_all c.loop-index.fields, c.is_full.ensures.slot_count) in
    let less = fewer c.args.separator c.args.line.now _ (items c.loop-index.fields) c.loop-index.invariant.so_far in
    (λ _. omega arith, λ _. refl)

-- a turn of the loop: a field was pushed, or the byte is no separator
pub loop-index-preserved : goal.loop-index-preserved
loop-index-preserved c =
    let line = c.args.line.now in
    let inv = c.loop-index.invariant in
    elim c.if-byte-separator.branch [
      | then-byte-separator+else-is_full w ↦ rw (w.fields-is, w.start-is) record {
        so_far = pushed c.args.separator line _ _ c.loop-index.start c.loop-index.index inv.order (omega arith) inv.none_since w.if-byte-separator.true w.push.ensures.items inv.so_far;
        none_since = λ k below behind. absurd (omega arith);
        order = omega arith;
        in_line = All-same (IsIn line) _ _ w.push.ensures.items (All-push (IsIn line) _ _ inv.in_line (omega arith, omega arith));
      }
      | else-byte-separator w ↦ rw (w.fields-is, w.start-is) record {
        so_far = inv.so_far;
        none_since = below_more _ _ inv.none_since (λ _. w.if-byte-separator.false);
        order = omega arith;
        in_line = inv.in_line;
      }
    ]

-- a full vector, at the end of the line
pub returns-then-is_full-2-clause-refused : goal.returns-then-is_full-2-clause-refused
returns-then-is_full-2-clause-refused c =
    let none : length (spare c.loop-index.fields) ≡ 0 = search rules in
    let full : items_len c.loop-index.fields ≡ 8 = omega (arith, none, are_all c.loop-index.fields, c.is_full-2.ensures.slot_count) in
    let less = fewer c.args.separator c.args.line.now _ (items c.loop-index.fields) c.loop-index.invariant.so_far in
    (λ _. omega arith, λ _. refl)

-- the last field was pushed
pub returns-clause-fields : goal.returns-clause-fields
returns-clause-fields c =
    let line = c.args.line.now in
    let inv = c.loop-index.invariant in
    let ended : c.loop-index.index ≡ length line = omega arith in
    pushed_last c.args.separator line _ _ c.loop-index.start (omega arith) (λ k below behind. inv.none_since k (omega arith) behind) c.push-2.ensures.items inv.so_far

pub returns-clause-in_line : goal.returns-clause-in_line
returns-clause-in_line c =
    let line = c.args.line.now in
    let inv = c.loop-index.invariant in
    All-same (IsIn line) _ _ c.push-2.ensures.items (All-push (IsIn line) _ _ inv.in_line (omega arith, omega arith))

-- as many parts as fields, and eight of these at the most
pub returns-clause-refused : goal.returns-clause-refused
returns-clause-refused c =
    let count = ap length (returns-clause-fields c) in
    let mapped = length-map (items c.push-2.new.self) (bytes_of c.args.line.now) in
    let some : 0 < length (spare c.loop-index.fields) = search rules in
    let long = ap length c.push-2.ensures.items ∙ length_push (items c.loop-index.fields) _ in
    let all = are_all c.loop-index.fields in
    (λ wrong. absurd (cc), λ more. absurd (omega (arith, more, count, mapped, some, all, c.is_full-2.ensures.slot_count, long)))
