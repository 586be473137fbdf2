use Rattle.std.proofs.Common.{◌≡◌, ℕ, ◌<◌, ◌-◌, length}
use Rattle.design_ir.specs.Targets.{target_signals}
use Rattle.fragment_walks.specs.Marks.{comes_out}
use Rattle.fragment_walks.specs.Numbers.{bounded}
use Rattle.clock_domains.proofs.firsts.hand_all_down.Given as goal

abbrev pub invariant-loop-i : goal.invariant-loop-i
invariant-loop-i l = record {
  targets : length l.targets.items ≡ length l.pool.exprs;
  signals : length l.signals.items ≡ 16384;
  driven : (b s : ℕ) → s < 16384 → comes_out (target_signals l.pool) (bounded b l.targets.items) (bounded b l.signals.items) (length l.pool.exprs - l.i) s ≡ comes_out (target_signals l.pool) (bounded b l.fn.targets.items) (bounded b l.fn.signals.items) (length l.pool.exprs) s;
}
