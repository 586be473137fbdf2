use Rattle.std.proofs.Common.{◌≡◌, ◌++◌, List, drop}
use Rattle.elab_store.specs.declared.simulation.Testbench.{Testbench}
use Rattle.bench_run.specs.Standing.{AreAnew}
use Rattle.bench_run.proofs.begin.testbenches_of.Given as goal

-- those so far, and those that are left
abbrev pub invariant-loop-x : goal.invariant-loop-x
invariant-loop-x l = (done : List Testbench) × AreAnew l.frozen l.ctx done l.testbenches.items × (done ++ drop l.x-index l.added ≡ l.added)
