use Rattle.std.proofs.Common.{◌≡◌, ℕ, ◌<◌, ◌-◌, length}
use Rattle.design_ir.specs.Targets.{target_signals}
use Rattle.fragment_walks.specs.Marks.{comes_out}
use Rattle.fragment_walks.specs.Reads.{offsets_in}
use Rattle.fragment_walks.proofs.spread.spread_targets.Given as goal

abbrev pub invariant-loop-i : goal.invariant-loop-i
invariant-loop-i l = record {
  targets : length l.roots.targets.items ≡ length l.pool.exprs;
  values : length l.roots.values.items ≡ length l.pool.exprs;
  signals : length l.driven.items ≡ 16384;
  driven : (s : ℕ) → s < 16384 → comes_out (target_signals l.pool) l.roots.targets.items l.driven.items (length l.pool.exprs - l.i) s ≡ comes_out (target_signals l.pool) l.fn.roots.targets.items l.fn.driven.items (length l.pool.exprs) s;
  read : (k : ℕ) → k < length l.pool.exprs → comes_out (offsets_in l.pool) l.roots.targets.items l.roots.values.items (length l.pool.exprs - l.i) k ≡ comes_out (offsets_in l.pool) l.fn.roots.targets.items l.fn.roots.values.items (length l.pool.exprs) k;
}
