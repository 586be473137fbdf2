use Rattle.std.proofs.Common.{◌≡◌, take, ℕ}
use Rattle.design_ir.specs.Circuits.{is_among}
use Rattle.sim_plans.specs.Driven.{numbers_of}
use Rattle.sim_plans.specs.Marks.{is_marked}
use Rattle.sim_plans.proofs.tables.listed.Given as goal

abbrev pub invariant-loop-s : goal.invariant-loop-s
invariant-loop-s l = (t : ℕ) → is_among (numbers_of l.list) t ≡ is_marked (take l.s l.marks) t
