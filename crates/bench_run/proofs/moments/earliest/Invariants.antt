use Rattle.std.proofs.Common.{◌≡◌, ◌<◌, drop}
use Rattle.std.specs.Prelude.{◌^◌, IfSome}
use Rattle.bench_run.specs.Runs.{earliest}
use Rattle.bench_run.specs.Standing.{stands_in}
use Rattle.bench_run.proofs.moments.earliest.Given as goal

-- that of those left, from what was found so far
abbrev pub invariant-loop-x : goal.invariant-loop-x
invariant-loop-x l = record {
  least : earliest l.least (stands_in (drop l.x-index l.testbenches)) ≡ earliest l.fn.toggle (stands_in l.testbenches);
  below : IfSome l.least (λ t. t < 2 ^ 63);
}
