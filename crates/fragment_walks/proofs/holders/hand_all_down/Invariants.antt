use Rattle.std.proofs.Common.{◌≡◌, ℕ, ◌<◌, ◌-◌, length}
use Rattle.fragment_walks.specs.Held.{inside}
use Rattle.fragment_walks.specs.Marks.{comes_out}
use Rattle.fragment_walks.specs.Numbers.{bounded}
use Rattle.fragment_walks.proofs.holders.hand_all_down.Given as goal

abbrev pub invariant-loop-i : goal.invariant-loop-i
invariant-loop-i l = record {
  size : length l.holders.items ≡ length l.pool.exprs;
  held : (b k : ℕ) → k < length l.pool.exprs → comes_out (inside l.pool) (bounded b l.holders.items) (bounded b l.holders.items) (length l.pool.exprs - l.i) k ≡ comes_out (inside l.pool) (bounded b l.fn.holders.items) (bounded b l.fn.holders.items) (length l.pool.exprs) k;
}
