use Rattle.std.proofs.Common.{◌++◌, drop, length, slice_index_or, []}
use Rattle.std.specs.List.{flat_map}
use Rattle.design_ir.specs.declared.ids.ExprId.{ExprId}
use Rattle.design_ir.specs.Named.{AllBelow}
use Rattle.sim_plans.specs.Driven.{IsLike, numbers_of}
use Rattle.sim_plans.proofs.targets.joined.Given as goal

abbrev pub invariant-loop-e : goal.invariant-loop-e
invariant-loop-e l = record {
  there : AllBelow (length l.all) (drop l.e-index l.e-items);
  like : IsLike (numbers_of l.signals ++ flat_map (λ (e : ExprId). numbers_of (slice_index_or l.all e.0 [])) (drop l.e-index l.e-items)) (flat_map (λ (e : ExprId). numbers_of (slice_index_or l.all e.0 [])) l.items);
}
