use Rattle.std.proofs.Common.{◌≡◌, map, take}
use Rattle.design_ir.specs.declared.ids.ExprId.{ExprId}
use Rattle.netlist_laws.specs.Module.{expr_value}
use Rattle.netlist_cells.proofs.expressions.expr_values.Given as goal

abbrev pub invariant-loop-e : goal.invariant-loop-e
invariant-loop-e l = l.values.items ≡ map (λ (e : ExprId). expr_value l.design e.0) (take l.e-index l.es)
