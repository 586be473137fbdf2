use Rattle.delta_sim.proofs.Flags.{AreCalled}
use Rattle.delta_sim.proofs.wake.mark_ports.Given as goal

abbrev pub invariant-loop-i : goal.invariant-loop-i
invariant-loop-i l = AreCalled l.first l.plan.reads l.changed.marks l.initial.waits.marks l.i l.waits.marks
