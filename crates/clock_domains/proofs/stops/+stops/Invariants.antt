use Rattle.std.proofs.Common.{◌≡◌, drop}
use Rattle.design_ir.specs.Statements.{statement_of, block_of, choices_of}
use Rattle.design_ir.specs.Trees.{block_size, choices_size, statement_size}
use Rattle.fragment_walks.specs.Numbers.{bounded}
use Rattle.clock_domains.specs.Stops.{block_stop, choices_stop, target_stop}
use Rattle.clock_domains.proofs.stops.+stops.Given as goal

abbrev pub decreases-choices_stop : goal.decreases-choices_stop
decreases-choices_stop l = choices_size l.arms.now

abbrev pub decreases-block_stop : goal.decreases-block_stop
decreases-block_stop l = block_size l.body.now

abbrev pub decreases-statement_stop : goal.decreases-statement_stop
decreases-statement_stop l = statement_size (statement_of l.statement.now)

abbrev pub invariant-block_stop-loop-statement : goal.invariant-block_stop-loop-statement
invariant-block_stop-loop-statement l = block_stop (target_stop l.on_inputs (bounded l.number l.leasts)) l.fn.body ≡ block_stop (target_stop l.on_inputs (bounded l.number l.leasts)) (block_of (drop l.statement-index l.statement-items))

abbrev pub invariant-choices_stop-loop-arm : goal.invariant-choices_stop-loop-arm
invariant-choices_stop-loop-arm l = choices_stop (target_stop l.on_inputs (bounded l.number l.leasts)) l.fn.arms ≡ choices_stop (target_stop l.on_inputs (bounded l.number l.leasts)) (choices_of (drop l.arm-index l.arm-items))
