use Rattle.std.proofs.Common.{take}
use Rattle.flat_design.specs.Growing.{IsMore}
use Rattle.flat_design.specs.Flat.{AreFlatProcesses}
use Rattle.flat_design.proofs.flattening.flatten.Given as goal

abbrev pub invariant-loop-p : goal.invariant-loop-p
invariant-loop-p l = IsMore l.design.pool l.pool × AreFlatProcesses l.design.pool l.pool (take l.p-index l.p-items) l.processes
