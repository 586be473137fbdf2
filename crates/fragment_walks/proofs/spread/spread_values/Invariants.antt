use Rattle.std.proofs.Common.{◌≡◌, ℕ, ◌<◌, ◌-◌, length}
use Rattle.fragment_walks.specs.Marks.{comes_out}
use Rattle.fragment_walks.specs.Reads.{signals_in}
use Rattle.fragment_walks.proofs.spread.spread_values.Given as goal

abbrev pub invariant-loop-i : goal.invariant-loop-i
invariant-loop-i l = record {
  values : length l.values.items ≡ length l.pool.exprs;
  signals : length l.read.items ≡ 16384;
  read : (s : ℕ) → s < 16384 → comes_out (signals_in l.pool) l.values.items l.read.items (length l.pool.exprs - l.i) s ≡ comes_out (signals_in l.pool) l.fn.values.items l.fn.read.items (length l.pool.exprs) s;
}
