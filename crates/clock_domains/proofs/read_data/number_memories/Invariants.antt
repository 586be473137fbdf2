use Rattle.std.proofs.Common.{◌≡◌, ◌+◌, ℕ, take, length}
use Rattle.std.specs.Prelude.{option_map}
use Rattle.fragment_walks.specs.Numbers.{first_at, lesser}
use Rattle.clock_domains.specs.Firsts.{first_memory}
use Rattle.clock_domains.proofs.read_data.number_memories.Given as goal

abbrev pub invariant-loop-number : goal.invariant-loop-number
invariant-loop-number l = record {
  size : length l.sites.items ≡ 16384;
  each : (s : ℕ) → first_at l.sites.items s ≡ lesser (first_at l.fn.sites.items s) (option_map (λ (k : ℕ). l.processes + k) (first_memory (take l.number l.memories) s));
}
