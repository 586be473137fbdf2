use Rattle.py_frames.proofs.ExprLaws.{dict_told}
use Rattle.py_turns.proofs.expr_values.new_dict.Goals as goal

pub returns-clause-moves : goal.returns-clause-moves
returns-clause-moves c = rw c.told.ensures (dict_told c.args.functions.now c.args.frozen.now c.dict-given.result c.args.going.now c.dict-given.new.self c.args.place c.args.budget c.args.row c.dict-given.ensures)
