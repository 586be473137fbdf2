use Rattle.std.proofs.Common.{◌≡◌, ◌&&◌, ◌||◌, ℕ, nat_lt, length}
use Rattle.fragment_walks.specs.Marks.{is_marked}
use Rattle.clock_domains.proofs.read_data.mark_data.Given as goal

abbrev pub invariant-loop-s : goal.invariant-loop-s
invariant-loop-s l = record {
  size : length l.driven.items ≡ 16384;
  each : (t : ℕ) → is_marked l.driven.items t ≡ (is_marked l.fn.driven.items t || (nat_lt t l.s && is_marked l.given t));
}
