use Rattle.std.proofs.Common.{sym, ap, ◌∙◌, ◌+ℤ◌, arith}
use Rattle.value_acts.proofs.SliceLaws.{at_start, one_more, rest_begins, rest_ends, rest_goes, rest_stops, rest_many}
use Rattle.value_acts.proofs.slices.bits_between.Goals as goal

pub loop-turn-init : goal.loop-turn-init
loop-turn-init c =
    let w = c.args.way in
    record { here = at_start w.start w.step; rest = rest_begins c.args.width w.start w.stop w.step c.new-all.result c.new-all.ensures }

pub returns-then-not-comes_before : goal.returns-then-not-comes_before
returns-then-not-comes_before c =
    let w = c.args.way in
    rest_ends c.args.width w.start w.stop w.step c.loop-turn.all c.loop-turn._turn c.loop-turn.at c.loop-turn.invariant.here (sym c.if-not-comes_before.ensures) c.loop-turn.invariant.rest

pub returns-in-Err : goal.returns-in-Err
returns-in-Err c =
    let w = c.args.way in
    let i = c.loop-turn._turn in
    let rest = rest_goes c.args.width w.start w.stop w.step c.loop-turn.all c.push_bit.new.all i c.loop-turn.at c.bit_at.result c.loop-turn.invariant.here (sym c.if-not-comes_before.ensures) c.bit_at.ensures c.in-Ok.ensures c.loop-turn.invariant.rest in
    rest_stops c.args.width w.start w.stop w.step c.push_bit.new.all i c.loop-turn.at c.note_kept.ensures c.note_kept-2.ensures c.loop-turn.invariant.here c.in-Err.ensures rest

pub loop-turn-preserved : goal.loop-turn-preserved
loop-turn-preserved c =
    let w = c.args.way in
    let i = c.loop-turn._turn in
    let rest = rest_goes c.args.width w.start w.stop w.step c.loop-turn.all c.push_bit.new.all i c.loop-turn.at c.bit_at.result c.loop-turn.invariant.here (sym c.if-not-comes_before.ensures) c.bit_at.ensures c.in-Ok.ensures c.loop-turn.invariant.rest in
    record {
      here = c.in-Ok-add.ensures.1 ∙ ap (λ z. z +ℤ w.step) c.loop-turn.invariant.here ∙ one_more w.start w.step i;
      rest = rest;
    }

pub returns : goal.returns
returns c =
    let w = c.args.way in
    rest_many c.args.width w.start w.stop w.step c.loop-turn.all c.loop-turn._turn (omega (arith, c.loop-turn-test.false)) (omega (arith, c.ranges.width.fits)) c.requires.start c.requires.stop c.loop-turn.invariant.rest
