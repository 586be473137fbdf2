use Rattle.std.proofs.Common.{◌≡◌, ◌+◌, ◌≤◌, ◌++◌, length, drop}
use Rattle.amh_things.specs.Operands.{constants, operand_ids}
use Rattle.value_acts.proofs.joins.drafted_all.Given as goal

abbrev pub invariant-loop-x : goal.invariant-loop-x
invariant-loop-x l = record {
  exprs : l.exprs ++ constants (drop l.x-index l.xs) ≡ constants l.xs;
  ids : l.ids ++ operand_ids (l.next + length l.exprs) (drop l.x-index l.xs) ≡ operand_ids l.next l.xs;
  few : length l.exprs ≤ l.x-index;
}
