use Rattle.std.proofs.Common.{◌≡◌, ◌++◌, map, take, drop}
use Rattle.bench_run.specs.Standing.{woken_in}
use Rattle.bench_run.proofs.moments.wake.Given as goal

-- those so far were woken
abbrev pub invariant-loop-i : goal.invariant-loop-i
invariant-loop-i l = take l.i l.testbenches.items ++ map (woken_in l.now) (drop l.i l.testbenches.items) ≡ map (woken_in l.now) l.fn.testbenches.items
