use Rattle.std.proofs.Common.{◌≤◌, ◌-◌, length, take}
use Rattle.design_ir.specs.PoolRules.{IsPool}
use Rattle.flat_design.specs.Growing.{IsMore}
use Rattle.flat_design.specs.Adding.{AreParts}
use Rattle.flat_design.proofs.sources.joined.Given as goal

abbrev pub invariant-loop-done : goal.invariant-loop-done
invariant-loop-done l = record {
  more : IsMore l.initial.pool l.pool;
  rules : IsPool l.pool;
  within : l.done ≤ length l.sources;
  parts : AreParts l.pool (take l.done l.sources) l.parts;
}

abbrev pub decreases-loop-done : goal.decreases-loop-done
decreases-loop-done l = length l.sources - l.done
