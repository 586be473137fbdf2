use Rattle.std.proofs.Common.{◌≡◌, ◌<◌, ◌≤◌, ◌+◌, suc, length}
use Rattle.std.specs.Prelude.{slice_get}
use Rattle.design_ir.specs.Values.{form}
use Rattle.bench_acts.specs.Targets.{bits_within, input_bits}
use Rattle.bench_acts.proofs.targets.input_bits.Given as goal

abbrev pub invariant-loop-s : goal.invariant-loop-s
invariant-loop-s l = record {
  there : l.part.0 < length l.design.pool.exprs;
  room : l.low + l.width ≤ (form l.design.pool l.part.0).width;
  bits : bits_within l.design (suc l.part.0) (slice_get l.design.pool.exprs l.part.0) l.low l.width ≡ input_bits l.design l.fn.e;
}

abbrev pub decreases-loop-s : goal.decreases-loop-s
decreases-loop-s l = l.part.0
