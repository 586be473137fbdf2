use Rattle.std.proofs.Common.{◌≡◌, length, drop}
use Rattle.amh_bits.specs.Patterns.{pattern}
use Rattle.design_ir.specs.Put.{put_bits, put_number}
use Rattle.design_ir.specs.Targets.{target_bits}
use Rattle.delta_sim.proofs.write.put_bits.Given as goal

abbrev pub invariant-loop-i : goal.invariant-loop-i
invariant-loop-i l = record {
  signals : length l.cur ≡ length l.design.pool.signals;
  bits : put_bits l.design.pool (drop l.i (target_bits l.design.pool l.env l.target.0)) (pattern (length (target_bits l.design.pool l.env l.target.0)) l.fn.n) l.i l.cur ≡ put_number l.design.pool (target_bits l.design.pool l.env l.target.0) l.fn.n l.fn.cur;
}
