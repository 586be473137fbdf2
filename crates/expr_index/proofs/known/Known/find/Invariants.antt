use Rattle.std.proofs.Common.{◌≡◌, drop}
use Rattle.std.specs.List.{find}
use Rattle.expr_index.specs.First.{first_number}
use Rattle.expr_index.proofs.NumberLaws.{is_at}
use Rattle.expr_index.proofs.known.Known.find.Given as goal

abbrev pub invariant-loop-number : goal.invariant-loop-number
invariant-loop-number g l = find (is_at (g.P.Exprs.pooled l.pool).exprs l.e) (drop l.number-index l.number-items) ≡ first_number (g.P.Exprs.pooled l.pool).exprs l.e
