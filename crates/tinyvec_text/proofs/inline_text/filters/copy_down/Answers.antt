use Rattle.std.proofs.Common.{◌≡◌, ◌+◌, arith, sym, subst, set, get_or, rules}
use Rattle.tinyvec_text.proofs.Filters.{CopiedDown, copied_none, copied_more}
use Rattle.tinyvec_text.proofs.inline_text.filters.copy_down.Goals as goal

pub loop-i-init : goal.loop-i-init
loop-i-init c = copied_none c.args.bytes.now c.args.to c.args.from

pub loop-i-preserved : goal.loop-i-preserved
loop-i-preserved c =
    let more = c.loop-i-test.true in
    let within = c.requires.in_bounds in
    copied_more c.args.bytes.now c.loop-i.bytes c.args.to c.args.from c.loop-i.i c.requires.downward (omega (arith, more, within)) c.loop-i.invariant

pub returns : goal.returns
returns c =
    let past = c.loop-i-test.false in
    let up = c.loop-i.auto.i-end in
    let all : c.loop-i.i ≡ c.args.n = omega (arith, past, up) in
    let copied = subst (CopiedDown c.args.bytes.now c.loop-i.bytes c.args.to c.args.from) all c.loop-i.invariant in
    record { front = copied.front; rest = copied.rest }

pub returns-then-n-eq1 : goal.returns-then-n-eq1
returns-then-n-eq1 c =
    let xs = c.args.bytes.now in
    let to = c.args.to in
    let from = c.args.from in
    let one : c.args.n ≡ 1 = search rules in
    let place : to + 0 ≡ to = omega arith in
    let source : from + 0 ≡ from = omega arith in
    let within = c.requires.in_bounds in
    let copied = copied_more xs xs to from 0 c.requires.downward (omega (arith, within, one)) (copied_none xs to from) in
    let is = subst (CopiedDown xs (set xs to (get_or xs from 0)) to from) (sym one)
    (subst (λ ys. CopiedDown xs ys to from 1) (λ i. set xs (place i) (get_or xs (source i) 0)) copied) in
    record { front = is.front; rest = is.rest }
