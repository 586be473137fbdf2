use Rattle.std.proofs.Common.{◌≡◌, ◌++◌, drop}
use Rattle.std.specs.Prelude.{map}
use Rattle.design_ir.specs.declared.memory.Memory.{Memory}
use Rattle.delta_sim.proofs.sim.first_rows.Given as goal

abbrev pub invariant-loop-m : goal.invariant-loop-m
invariant-loop-m l = l.all.items ++ map (λ (m : Memory). m.rows) (drop l.m-index l.m-items) ≡ map (λ (m : Memory). m.rows) l.design.memories
