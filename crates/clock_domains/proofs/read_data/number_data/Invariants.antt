use Rattle.std.proofs.Common.{◌≡◌, ◌&&◌, ℕ, Some, cond, nat_lt, length}
use Rattle.fragment_walks.specs.Numbers.{first_at}
use Rattle.fragment_walks.specs.Marks.{is_marked}
use Rattle.clock_domains.proofs.read_data.number_data.Given as goal

abbrev pub invariant-loop-s : goal.invariant-loop-s
invariant-loop-s l = record {
  size : length l.firsts.items ≡ 16384;
  each : (t : ℕ) → first_at l.firsts.items t ≡ cond (nat_lt t l.s && is_marked l.given t) (Some 0) (first_at l.fn.firsts.items t);
}
