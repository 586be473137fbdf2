use Rattle.std.proofs.Common.{◌≡◌, take, drop}
use Rattle.elab_eval.specs.Clocks.{refused_clock, clock_refused}
use Rattle.elab_eval.proofs.clocks.clock_refused.Given as goal

abbrev pub invariant-loop-i : goal.invariant-loop-i
invariant-loop-i l = refused_clock l.design (take l.i l.clocks) (drop l.i l.clocks) ≡ clock_refused l.design l.clocks
