use Rattle.std.specs.Prelude.{◌≡◌, true, take}
use Rattle.design_ir.specs.Statements.{block_of}
use Rattle.design_ir.specs.Fixed.{is_plain}
use Rattle.flat_design.proofs.plain.plain_copy.Given as goal

abbrev pub invariant-loop-statement : goal.invariant-loop-statement
invariant-loop-statement l = record {
  copy : l.copy ≡ block_of (take l.statement-index l.statement-items);
  plain : is_plain l.design.pool l.copy ≡ true;
}
