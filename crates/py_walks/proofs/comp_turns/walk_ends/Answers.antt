-- What the elements become, in the scope of before.
use Rattle.std.proofs.Common.{ap}
use Rattle.py_walks.specs.Walk_parts.{item_seen}
use Rattle.py_walks.proofs.CompLaws.{ends_list, ends_dict}
use Rattle.py_walks.proofs.comp_turns.walk_ends.Goals as goal

pub returns-in-One-clause-moves : goal.returns-in-One-clause-moves
returns-in-One-clause-moves c = ends_list c.args.functions.now c.args.frozen.now c.new_list.result c.args.going.now c.new_list.new.going c.args.budget (item_seen c.args.parts.now.item) _ c.args.parts.now.place c.args.outer c.args.done (ap item_seen c.in-One.is) c.new_list.ensures.moves

pub returns-in-Two-clause-moves : goal.returns-in-Two-clause-moves
returns-in-Two-clause-moves c = ends_dict c.args.functions.now c.args.frozen.now c.new_dict.result c.args.going.now c.new_dict.new.going c.args.budget (item_seen c.args.parts.now.item) _ _ c.args.parts.now.place c.args.outer c.args.done (ap item_seen c.in-Two.is) c.new_dict.ensures.moves
