use Rattle.std.proofs.Common.{◌≡◌}
use Rattle.bench_run.specs.Runs.{next_ready}
use Rattle.bench_run.specs.Standing.{stands_in}
use Rattle.bench_run.proofs.testbench.next_ready.Given as goal

-- none was ready so far
abbrev pub invariant-loop-i : goal.invariant-loop-i
invariant-loop-i l = next_ready l.i (stands_in l.testbenches) ≡ next_ready l.fn.from (stands_in l.testbenches)
