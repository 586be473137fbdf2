use Rattle.std.proofs.Common.{◌≡◌, ◌+◌, ℕ, length, take}
use Rattle.fragment_walks.specs.Marks.{marked}
use Rattle.fragment_walks.specs.Numbers.{bounded, process_targets}
use Rattle.clock_domains.proofs.firsts.number_targets.Given as goal

abbrev pub invariant-loop-number : goal.invariant-loop-number
invariant-loop-number l = record {
  size : length l.targets.items ≡ length l.pool.exprs;
  each : (i : ℕ) → bounded (i + 1) l.targets.items ≡ marked (process_targets (take i (take l.number l.processes))) (bounded (i + 1) l.fn.targets.items);
}
