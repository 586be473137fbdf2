use Rattle.delta_sim.specs.Standing.{IsSimOf}
use Rattle.design_table.proofs.events.lines_said.Given as goal

abbrev pub invariant-loop-k : goal.invariant-loop-k
invariant-loop-k l = IsSimOf l.design l.sim
