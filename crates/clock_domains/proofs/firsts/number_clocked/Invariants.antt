use Rattle.std.proofs.Common.{◌≡◌, ℕ, length, take}
use Rattle.std.specs.List.{filter}
use Rattle.fragment_walks.specs.Marks.{marked}
use Rattle.fragment_walks.specs.Numbers.{bounded, process_targets}
use Rattle.clock_domains.specs.Resolved.{is_clocked}
use Rattle.clock_domains.proofs.firsts.number_clocked.Given as goal

abbrev pub invariant-loop-number : goal.invariant-loop-number
invariant-loop-number l = record {
  size : length l.targets.items ≡ length l.pool.exprs;
  each : (i : ℕ) → bounded i l.targets.items ≡ marked (process_targets (filter is_clocked (take i (take l.number l.processes)))) (bounded i l.fn.targets.items);
}
