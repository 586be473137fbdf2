use Rattle.flat_design.proofs.Extending.{AreExtended}
use Rattle.flat_design.proofs.sources.extension.Given as goal

abbrev pub invariant-loop-bit : goal.invariant-loop-bit
invariant-loop-bit l = AreExtended l.pool l.value l.from l.bit l.bits
