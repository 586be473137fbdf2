use Rattle.std.proofs.Common.{arith}
use Rattle.std.proofs.lemmas.List.Edits.{map_over_more}
use Rattle.fsm_lowering.specs.States.{entered_as}
use Rattle.fsm_lowering.proofs.states.enter_each.Goals as goal

pub loop-s-preserved : goal.loop-s-preserved
loop-s-preserved c =
    rw (c.enter.ensures, ← c.s-item.is) (map_over_more (entered_as c.args.name.now c.args.condition) c.args.states.now c.loop-s.states c.loop-s.s-index c.s-item.result (omega arith) c.loop-s.invariant c.s-item.is)
