-- A statement that is no `for` goes over nothing.
use Rattle.std.proofs.Common.{sym, ◌∙◌}
use Rattle.py_tree.specs.Programs.{step_of}
use Rattle.py_walks.proofs.ForLaws.{bound_other}
use Rattle.py_walks.proofs.for_turns.for_body.Goals as goal

pub returns-clause-moves : goal.returns-clause-moves
returns-clause-moves c = bound_other c.args.functions.now c.args.frozen.now c.args.going.now c.args.budget (step_of c.args.s.now) c.args.walk (sym c.is_for-turns.ensures ∙ c.if-turns.false)
