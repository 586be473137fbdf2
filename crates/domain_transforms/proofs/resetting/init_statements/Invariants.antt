use Rattle.std.proofs.Common.{◌≡◌, ◌≤◌, List, Option, length, take}
use Rattle.design_ir.specs.declared.ids.ExprId.{ExprId}
use Rattle.domain_transforms.specs.Making.{each_in}
use Rattle.domain_transforms.specs.Placed.{ArePlaces}
use Rattle.domain_transforms.specs.Resetting.{init_block, init_statement}
use Rattle.domain_transforms.proofs.resetting.init_statements.Given as goal

abbrev pub invariant-loop-register : goal.invariant-loop-register
invariant-loop-register l = record {
  more : length l.fn.pool.exprs ≤ length l.pool.exprs;
  places : (places : List (Option ExprId)) → ArePlaces l.fn.pool.exprs places → ArePlaces l.pool.exprs places;
  made : (l.body, l.pool) ≡ init_block (each_in init_statement l.fn.pool (take l.register-index l.registers));
}
