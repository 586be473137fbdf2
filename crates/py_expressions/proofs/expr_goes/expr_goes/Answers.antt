use Rattle.py_expressions.proofs.ExprArms.{frame_as, items_came, pairs_came}
use Rattle.py_expressions.proofs.expr_goes.expr_goes.Goals as goal

pub returns-in-Key-clause-moves : goal.returns-in-Key-clause-moves
returns-in-Key-clause-moves c = frame_as _ _ _ _ _ _ _ _ _ c.in-Key.is c.pair_value.ensures.moves

pub returns-in-Base-clause-moves : goal.returns-in-Base-clause-moves
returns-in-Base-clause-moves c = frame_as _ _ _ _ _ _ _ _ _ c.in-Base.is c.next_exponent.ensures.moves

pub returns-in-Right-clause-moves : goal.returns-in-Right-clause-moves
returns-in-Right-clause-moves c = frame_as _ _ _ _ _ _ _ _ _ c.in-Right.is c.operand_came.ensures.moves

pub returns-in-Single-clause-moves : goal.returns-in-Single-clause-moves
returns-in-Single-clause-moves c = frame_as _ _ _ _ _ _ _ _ _ c.in-Single.is c.single_came.ensures.moves

pub returns-in-Linked-clause-moves : goal.returns-in-Linked-clause-moves
returns-in-Linked-clause-moves c = frame_as _ _ _ _ _ _ _ _ _ c.in-Linked.is c.next_link.ensures.moves

pub returns-in-Compared-clause-moves : goal.returns-in-Compared-clause-moves
returns-in-Compared-clause-moves c = frame_as _ _ _ _ _ _ _ _ _ c.in-Compared.is c.next_comparison.ensures.moves

pub returns-in-Comparing-clause-moves : goal.returns-in-Comparing-clause-moves
returns-in-Comparing-clause-moves c = frame_as _ _ _ _ _ _ _ _ _ c.in-Comparing.is c.comparing.ensures.moves

pub returns-in-Decided-clause-moves : goal.returns-in-Decided-clause-moves
returns-in-Decided-clause-moves c = frame_as _ _ _ _ _ _ _ _ _ c.in-Decided.is c.comparison_came.ensures.moves

pub returns-in-Seeking-clause-moves : goal.returns-in-Seeking-clause-moves
returns-in-Seeking-clause-moves c = frame_as _ _ _ _ _ _ _ _ _ c.in-Seeking.is c.element_compared.ensures.moves

pub returns-in-Joined-clause-moves : goal.returns-in-Joined-clause-moves
returns-in-Joined-clause-moves c = frame_as _ _ _ _ _ _ _ _ _ c.in-Joined.is c.next_joined.ensures.moves

pub returns-in-Chosen-clause-moves : goal.returns-in-Chosen-clause-moves
returns-in-Chosen-clause-moves c = frame_as _ _ _ _ _ _ _ _ _ c.in-Chosen.is c.chosen.ensures.moves

pub returns-in-Ok-clause-moves : goal.returns-in-Ok-clause-moves
returns-in-Ok-clause-moves c = items_came _ _ _ _ _ _ _ _ _ _ _ _ c.in-Items.is c.in-Ok.ensures.ok c.next_item.ensures.moves

pub returns-in-Ok-push_pair-clause-moves : goal.returns-in-Ok-push_pair-clause-moves
returns-in-Ok-push_pair-clause-moves c = pairs_came _ _ _ _ _ _ _ _ _ _ _ _ _ c.in-PairValue.is c.in-Ok-push_pair.ensures.ok c.pair_came.ensures.moves
