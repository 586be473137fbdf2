-- Where there is no condition, it is on with the walk.
use Rattle.std.proofs.Common.{ap}
use Rattle.std.specs.Option.{option_map}
use Rattle.py_tree.specs.Seen.{tree}
use Rattle.py_tree.specs.Tree.{perhaps}
use Rattle.py_walks.specs.Walk_parts.{comp_seen}
use Rattle.py_walks.proofs.CompLaws.{tested_always}
use Rattle.py_walks.proofs.comp_turns.tested.Goals as goal

pub returns-in-None-clause-moves : goal.returns-in-None-clause-moves
returns-in-None-clause-moves c = tested_always c.args.functions.now c.args.frozen.now c.walks_on.result c.args.going.now c.walks_on.new.going c.args.budget (comp_seen c.args.parts.now) c.args.walk c.args.outer c.args.done c.args.v (ap (λ o. perhaps (option_map tree o)) c.in-None.is) c.walks_on.ensures.moves
