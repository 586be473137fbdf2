use Rattle.std.proofs.Common.{◌-◌, length, take}
use Rattle.design_ir.specs.Named.{named}
use Rattle.sim_plans.specs.Marks.{AreMarked}
use Rattle.delta_sim.proofs.evaluation.first_missing.Given as goal

abbrev pub invariant-loop-name : goal.invariant-loop-name
invariant-loop-name l = AreMarked l.found.marks (take l.place (named l.e))

abbrev pub decreases-loop-name : goal.decreases-loop-name
decreases-loop-name l = length (named l.e) - l.place
