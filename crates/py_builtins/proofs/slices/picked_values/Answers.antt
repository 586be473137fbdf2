use Rattle.std.proofs.Common.{Ok, ap}
use Rattle.py_builtins.proofs.SliceLaws.{picks_start, picks_turn, picks_end}
use Rattle.py_builtins.proofs.slices.picked_values.Goals as goal

pub loop-i-init : goal.loop-i-init
loop-i-init c = picks_start c.new-all.result c.args.row.now c.args.count c.args.r.now c.new-all.ensures

pub loop-i-preserved : goal.loop-i-preserved
loop-i-preserved c =
    picks_turn c.loop-i.all c.push_value.new.all _ c.args.row.now c.args.count c.loop-i.i c.args.r.now c.span_number.result c.value_at.result c.loop-i-test.true c.span_number.ensures c.value_at.ensures c.in-Ok.ensures c.loop-i.invariant

pub returns : goal.returns
returns c = ap Ok (picks_end c.loop-i.all _ c.args.row.now c.args.count c.loop-i.i c.args.r.now c.loop-i-test.false c.loop-i.invariant)
