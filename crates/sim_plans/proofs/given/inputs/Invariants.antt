use Rattle.std.proofs.Common.{false}
use Rattle.design_ir.specs.Circuits.{is_input}
use Rattle.sim_plans.specs.Reading.{AreFirst}
use Rattle.sim_plans.proofs.given.inputs.Given as goal

abbrev pub invariant-loop-s : goal.invariant-loop-s
invariant-loop-s l = AreFirst false (is_input l.design) l.s l.given.items
