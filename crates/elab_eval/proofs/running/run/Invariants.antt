use Rattle.std.proofs.Common.{◌≤◌, ◌-◌, ◌^◌}
use Rattle.std.specs.Option.{option_copied}
use Rattle.py_tree.specs.Programs.{program_of}
use Rattle.py_machine.specs.Lives.{IsOf}
use Rattle.elab_eval.specs.Running.{IsRunning}
use Rattle.elab_store.specs.Held.{held_of}
use Rattle.elab_eval.proofs.running.run.Given as goal

abbrev pub decreases-loop-next : goal.decreases-loop-next
decreases-loop-next g l = 2 ^ 64 - l.machine.going.state.taken

abbrev pub invariant-loop-next : goal.invariant-loop-next
invariant-loop-next g l = record {
  of : IsOf (program_of l.program) l.machine;
  running : IsRunning (program_of l.program) (option_copied l.top) l.budget l.machine (held_of l.elaboration) l.answer l.left.left;
  ticks : l.fn.steps ≤ l.steps;
}
