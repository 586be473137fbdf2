use Rattle.std.proofs.Common.{◌≡◌, drop}
use Rattle.std.specs.List.{list_all}
use Rattle.bench_run.specs.declared.testbench.Running.{Running}
use Rattle.bench_run.specs.Runs.{is_over}
use Rattle.bench_run.proofs.moments.are_over.Given as goal

-- those so far are over
abbrev pub invariant-loop-x : goal.invariant-loop-x
invariant-loop-x l = list_all (λ (y : Running). is_over y.background y.stand) (drop l.x-index l.testbenches) ≡ list_all (λ (y : Running). is_over y.background y.stand) l.testbenches
