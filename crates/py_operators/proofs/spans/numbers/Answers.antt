use Rattle.std.proofs.Common.{Ok, ap, ◌∙◌}
use Rattle.py_operators.proofs.ElementLaws.{values_turn, values_end, values_start}
use Rattle.py_operators.proofs.spans.numbers.Goals as goal

pub loop-i-preserved : goal.loop-i-preserved
loop-i-preserved c =
    values_turn c.loop-i.all c.push.new.self _ c.args.count c.loop-i.i c.args.r.now c.of.result c.loop-i-test.true (c.of.ensures ∙ c.span_number.ensures) c.in-Ok.ensures.ok c.loop-i.invariant

pub loop-i-init : goal.loop-i-init
loop-i-init c = values_start c.new-all.result c.args.count c.args.r.now c.new-all.ensures

pub returns : goal.returns
returns c = ap Ok (values_end c.loop-i.all _ c.args.count c.loop-i.i c.args.r.now c.loop-i-test.false c.loop-i.invariant)
