use Rattle.std.proofs.Common.{◌≡◌, [], false, drop, length}
use Rattle.design_ir.specs.Pools.{answers}
use Rattle.domain_transforms.specs.Renamed.{renamed_test}
use Rattle.domain_transforms.proofs.remaking.touched_marks.Given as goal

abbrev pub invariant-loop-k : goal.invariant-loop-k
invariant-loop-k l = record {
  size : length l.marks.items ≡ l.k;
  rest : answers false (renamed_test l.names) l.marks.items (drop l.k l.pool.exprs) ≡ answers false (renamed_test l.names) [] l.pool.exprs;
}
