use Rattle.std.proofs.Common.{◌≡◌, ◌++◌, drop}
use Rattle.std.specs.List.{list_any, AllByRecursion}
use Rattle.value_acts.specs.Joins.{is_no_operand, operands_of}
use Rattle.amh_things.specs.Operands.{IsOperand}
use Rattle.value_acts.proofs.joins.operands_of.Given as goal

abbrev pub invariant-loop-v : goal.invariant-loop-v
invariant-loop-v g l = record {
  all : l.all ++ operands_of (g.P.Exprs.pooled l.pool) l.values (drop l.v-index l.vals) ≡ operands_of (g.P.Exprs.pooled l.pool) l.values l.vals;
  none : list_any (is_no_operand (g.P.Exprs.pooled l.pool) l.values) (drop l.v-index l.vals) ≡ list_any (is_no_operand (g.P.Exprs.pooled l.pool) l.values) l.vals;
  sound : AllByRecursion (IsOperand (g.P.Exprs.pooled l.pool)) l.all;
}
