use Rattle.std.proofs.Common.{◌≡◌, ◌++◌, map, drop}
use Rattle.std.specs.List.{AllByRecursion}
use Rattle.elab_store.specs.Held.{held_of}
use Rattle.elab_store.specs.Sound.{IsSample}
use Rattle.bench_run.specs.Runs.{samples_of, value_at}
use Rattle.bench_run.proofs.ticks.samples.Given as goal

-- those so far, and those that are left
abbrev pub invariant-loop-x : goal.invariant-loop-x
invariant-loop-x l = record {
  same : l.sim ≡ l.fn.sim;
  there : AllByRecursion (IsSample l.bench.held.pool) (drop l.x-index l.tick.samples);
  vals : l.vals ++ map (value_at (held_of l.bench.held) l.fn.sim.env) (drop l.x-index l.tick.samples) ≡ l.fn.vals ++ samples_of (held_of l.bench.held) l.fn.sim.env l.tick;
}
