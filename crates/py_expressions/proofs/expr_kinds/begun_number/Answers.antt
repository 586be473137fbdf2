use Rattle.std.proofs.Common.{ap}
use Rattle.py_tree.specs.Seen.{tree}
use Rattle.py_values.specs.declared.val.Val.TheVariants as val
use Rattle.py_frames.proofs.ExprKinds.{number_begins}
use Rattle.py_expressions.proofs.expr_kinds.begun_number.Goals as goal

pub returns-clause-moves : goal.returns-clause-moves
returns-clause-moves c = number_begins _ _ _ _ c.args.e.now.place c.args.n (tree c.args.e.now) (val.Int c.of_u128.result) c.requires (ap (λ z. val.Int z) c.of_u128.ensures)
