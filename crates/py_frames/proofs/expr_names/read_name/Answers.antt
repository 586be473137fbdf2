use Rattle.py_frames.proofs.ExprKinds.{read_found}
use Rattle.py_frames.proofs.expr_names.read_name.Goals as goal

pub returns-in-Some-clause-moves : goal.returns-in-Some-clause-moves
returns-in-Some-clause-moves c = read_found _ _ _ _ c.args.name.now c.args.place c.in-Some.v c.in-Some.ensures
