use Rattle.std.proofs.Common.{◌≡◌, ◌++◌, map, take, drop}
use Rattle.elab_store.specs.Held.{held_of}
use Rattle.bench_run.specs.Standing.{ticked_in}
use Rattle.bench_run.proofs.ticks.tick_all.Given as goal

-- those so far were answered
abbrev pub invariant-loop-i : goal.invariant-loop-i
invariant-loop-i l = record {
  same : l.sim ≡ l.fn.sim;
  ticked : take l.i l.testbenches.items ++ map (ticked_in l.bench.design (held_of l.bench.held) l.fn.sim.env l.toggled) (drop l.i l.testbenches.items)
      ≡ map (ticked_in l.bench.design (held_of l.bench.held) l.fn.sim.env l.toggled) l.fn.testbenches.items;
}
