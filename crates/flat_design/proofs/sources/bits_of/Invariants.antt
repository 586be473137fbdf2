use Rattle.flat_design.specs.Adding.{AreBits}
use Rattle.flat_design.proofs.sources.bits_of.Given as goal

abbrev pub invariant-loop-i : goal.invariant-loop-i
invariant-loop-i l = AreBits l.expr l.i l.bits
