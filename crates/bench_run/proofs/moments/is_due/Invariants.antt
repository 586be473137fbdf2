use Rattle.std.proofs.Common.{◌≡◌, drop}
use Rattle.std.specs.List.{list_any}
use Rattle.bench_run.specs.Runs.{is_due}
use Rattle.bench_run.specs.Standing.{stands_in}
use Rattle.bench_run.proofs.moments.is_due.Given as goal

-- none was due so far
abbrev pub invariant-loop-x : goal.invariant-loop-x
invariant-loop-x l = list_any (is_due l.now) (stands_in (drop l.x-index l.testbenches)) ≡ list_any (is_due l.now) (stands_in l.testbenches)
