use Rattle.std.proofs.Common.{◌≡◌, ℕ, ◌<◌, ◌-◌, length}
use Rattle.fragment_walks.specs.Marks.{comes_out}
use Rattle.domain_transforms.specs.Renamed.{inside}
use Rattle.domain_transforms.proofs.roots.spread_all.Given as goal

abbrev pub invariant-loop-i : goal.invariant-loop-i
invariant-loop-i l = record {
  size : length l.marks.items ≡ length l.pool.exprs;
  reach : (n : ℕ) → n < length l.pool.exprs → comes_out (inside l.pool) l.marks.items l.marks.items (length l.pool.exprs - l.i) n ≡ comes_out (inside l.pool) l.fn.marks.items l.fn.marks.items (length l.pool.exprs) n;
}
