use Rattle.std.proofs.Common.{◌≡◌, ◌∙◌, ◌+◌, ◌-◌, ◌*◌, ◌/◌, ◌++◌, ap, arith, drop, length, length-append, length-drop, length-take-le, rules, subst, sym, take, false}
use Rattle.std.specs.Int.{byte_len}
use Rattle.std.specs.List.{AllByRecursion}
use Rattle.std.proofs.lemmas.List.{map-id, take_all}
use Rattle.std.proofs.lemmas.Nat.{le-div}
use Rattle.std.proofs.lemmas.Slice.{drop-put_mid}
use Rattle.std.proofs.lemmas.Result.{err_from_is_err_and}
use Rattle.tinyvec_borsh.specs.Items.{SpellsItems}
use Rattle.tinyvec_borsh.specs.NumberLaws.{apart_by_length, bytes-of}
use Rattle.tinyvec_borsh.proofs.Blocks.{TookItems, further, left-at, take-block, took-block}
use Rattle.tinyvec_borsh.proofs.NumberBlocks.{block_within, cut-block, fails-behind-block, few-bytes}
use Rattle.tinyvec_borsh.proofs.ItemByItem.{fails-as}
use Rattle.tinyvec_borsh.proofs.numbers.number.read_blocks.Goals as goal

pub loop-start-preserved : goal.loop-start-preserved
loop-start-preserved g c =
    let end = c.loop-start.start + c.min-count.result in
    let n = c.min-count.result * c.CAPACITY-width.result in
    let fits = block_within g.row.MOST c.min-count.result c.CAPACITY-width.result (omega arith) in
    let long = length-take-le n c.loop-start.room (omega (arith, fits)) in
    let room : length (c.read_bytes.new.buf ++ drop n c.loop-start.room) ≡ g.row.MOST = omega (arith, long, fits, c.read_bytes.auto.buf, length-append c.read_bytes.new.buf (drop n c.loop-start.room), length-drop n c.loop-start.room) in
    let joined = take-block c.loop-start.start end c.loop-start.slots c.decode.new.slots (omega arith) (omega arith) (search rules) in
    record {
      read = took-block g.T.FixedWidth.form.Spells g.T.FixedWidth.form.Fits _ _ _ _ _ _ joined c.loop-start.invariant.read (c.read_bytes.new.buf, c.decode.ensures.spelled, c.in_ok-read_bytes.ensures.ok) c.decode.ensures.valid;
      room = room;
      kept = drop-put_mid c.loop-start.start (end - c.loop-start.start) c.loop-start.slots c.decode.new.slots end (omega arith) (omega arith) (search rules) ∙ further c.loop-start.start c.min-count.result c.loop-start.slots c.args.slots.now c.loop-start.invariant.kept;
      many = search rules;
      within = search rules;
      grows = omega arith;
      failed = c.in_ok-read_bytes.ensures.fails.failed.exact ∙ c.loop-start.invariant.failed;
    }

pub returns-clause-ok : goal.returns-clause-ok
returns-clause-ok g c =
    let taken = c.loop-start.invariant.read.taken in
    let all = take_all c.loop-start.start c.loop-start.slots (omega arith) in
    (taken.0, subst (λ xs. SpellsItems g.T.FixedWidth.form.Spells xs taken.0) all taken.1, taken.2)

pub returns-clause-valid : goal.returns-clause-valid
returns-clause-valid g c = subst (AllByRecursion g.T.FixedWidth.form.Fits) (take_all c.loop-start.start c.loop-start.slots (omega arith)) c.loop-start.invariant.read.fit

pub returns-in_err-read_bytes-clause-fails : goal.returns-in_err-read_bytes-clause-fails
returns-in_err-read_bytes-clause-fails g c =
    let p = err_from_is_err_and c.from_residual.result c.from_residual.ensures.1 in
    let count = c.min-count.result in
    let fits = block_within g.row.MOST count c.CAPACITY-width.result (omega arith) in
    let many = length-take-le (count * c.CAPACITY-width.result) c.loop-start.room (omega (arith, fits)) ∙ ap (λ width. count * width) (c.CAPACITY-width.ensures ∙ g.met.T.FixedWidth.sized) in
    let before = length-take-le c.loop-start.start c.loop-start.slots (omega arith) in
    rw (p.1, p.2) (fails-behind-block g.T.FixedWidth.form.Spells g.T.FixedWidth.form.Fits {T = Unit {0}} _
    (apart_by_length (byte_len g.T.FixedWidth.form.width) (bytes-of g.T.FixedWidth.form.width).1 g.T.FixedWidth.form.Spells g.T.FixedWidth.form.Fits g.T.FixedWidth.form.many).front_is_cut count (length c.args.slots.now) _ c.loop-start.invariant.read (omega (arith, before)) c.loop-start.invariant.grows c.loop-start.invariant.failed
    (fails-as (few-bytes g.T.FixedWidth.form.Spells g.T.FixedWidth.form.Fits (byte_len g.T.FixedWidth.form.width) _ g.T.FixedWidth.form.read count _ many) c.in_err-read_bytes.ensures.fails))

pub whole_as_front-bytes : goal.whole_as_front-bytes
whole_as_front-bytes g c = (block_within g.row.MOST c.min-count.result c.CAPACITY-width.result (omega arith), omega (arith, c.requires.few))

pub returns-in_err-read_bytes-clause-left : goal.returns-in_err-read_bytes-clause-left
returns-in_err-read_bytes-clause-left g c =
    let p = err_from_is_err_and c.from_residual.result c.from_residual.ensures.1 in
    let width = byte_len g.T.FixedWidth.form.width in
    let count = c.min-count.result in
    let fits = block_within g.row.MOST count c.CAPACITY-width.result (omega arith) in
    let same : count * c.CAPACITY-width.result ≡ count * width = ap (λ width. count * width) (c.CAPACITY-width.ensures ∙ g.met.T.FixedWidth.sized) in
    let many = length-take-le (count * c.CAPACITY-width.result) c.loop-start.room (omega (arith, fits)) ∙ same in
    let few = le-div count 1024 width (bytes-of g.T.FixedWidth.form.width).1 (omega (arith, fits, same, c.requires.few)) in
    let told = cut-block g.T.FixedWidth.form.Spells g.T.FixedWidth.form.Fits width _ g.T.FixedWidth.form.read count (1024 / width + 1) _ many (omega (arith, few)) _ _ _ c.in_err-read_bytes.ensures.fails.taken in
    let read = subst (λ xs. TookItems g.T.FixedWidth.form.Spells g.T.FixedWidth.form.Fits xs (g.R.Read.remaining c.args.reader.now.inner) (g.R.Read.remaining c.loop-start.reader.inner)) (sym (map-id (take c.loop-start.start c.loop-start.slots))) c.loop-start.invariant.read in
    rw (p.1, p.2) (left-at (λ n. n) g.T.FixedWidth.form.Spells g.T.FixedWidth.form.Fits false c.loop-start.start c.args.slots.now c.loop-start.slots _ _ _ read told
    c.loop-start.invariant.many (omega (arith, c.loop-start.invariant.many)) c.loop-start.invariant.kept)
