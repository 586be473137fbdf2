use Rattle.std.proofs.Common.{◌≡◌, ◌<◌, ℕ, [], length, get_or}
use Rattle.std.specs.List.{filter, range_with_len}
use Rattle.std.specs.Prelude.{◌==◌}
use Rattle.sim_plans.specs.Groups.{label_of}
use Rattle.sim_plans.proofs.group.gather.Given as goal

abbrev pub invariant-loop-i : goal.invariant-loop-i
invariant-loop-i l = record {
  count : length l.groups.items ≡ length l.labels;
  each : (g : ℕ) → g < length l.labels → get_or l.groups.items g [] ≡ filter (λ j. label_of l.labels j == g) (range_with_len 0 l.i);
}
