-- There is an element more.
use Rattle.std.proofs.Common.{◌≡◌, arith}
use Rattle.py_tree.specs.Seen.{tree}
use Rattle.py_tree.specs.Programs.{steps_of}
use Rattle.py_walks.proofs.ForLaws.{for_more}
use Rattle.py_walks.proofs.for_turns.for_turns.Goals as goal

pub returns-in-Some-clause-moves : goal.returns-in-Some-clause-moves
returns-in-Some-clause-moves c =
    let ne : (c.args.walk.now.turns ≡ 0 → ⊥) = λ e. omega arith in
    let q : c.row_size.result ≡ c.args.walk.now.size = omega arith in
    for_more c.args.functions.now c.args.frozen.now c.for_turn.result c.args.going.now c.for_turn.new.going c.args.budget c.row_size.result c.args.stmt.now.place (tree c.args.targets.now) (steps_of c.args.body.now) c.args.walk.now c.in-Some.v ne c.row_size.ensures q c.in-Some.ensures c.for_turn.ensures.moves
