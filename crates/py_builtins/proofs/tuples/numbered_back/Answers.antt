use Rattle.std.proofs.Common.{◌∙◌}
use Rattle.py_builtins.proofs.TupleLaws.{numbered_start, numbered_turn}
use Rattle.py_builtins.proofs.tuples.numbered_back.Goals as goal

pub loop-i-init : goal.loop-i-init
loop-i-init c = numbered_start c.args.n c.args.xs.now c.new-rows.result.items c.new-rows.ensures.items

pub loop-i-preserved : goal.loop-i-preserved
loop-i-preserved c =
    numbered_turn c.args.n c.of-number.result c.args.xs.now c.loop-i.i c.index-xs-k.result c.in-Ok.row c.loop-i.rows.items c.push.new.self.items c.loop-i-test.true (c.of-number.ensures ∙ c.number_behind.ensures) c.index-xs-k.is c.in-Ok.ensures c.in-Ok-push.ensures.items c.loop-i.invariant
