-- One may go over the value.
use Rattle.std.proofs.Common.{refl, sym, ◌∙◌}
use Rattle.py_tree.specs.Seen.{tree}
use Rattle.py_tree.specs.Programs.{steps_of}
use Rattle.py_frames.specs.Asking.{most}
use Rattle.py_walks.proofs.ForLaws.{loop_goes}
use Rattle.py_walks.proofs.for_turns.for_loop.Goals as goal

pub returns-then-fits-clause-moves : goal.returns-then-fits-clause-moves
returns-then-fits-clause-moves c = loop_goes c.args.functions.now c.args.frozen.now c.for_turns.result c.args.going.now c.for_turns.new.going c.args.budget c.row_size-size.result c.args.stmt.now.place (tree c.args.targets.now) (steps_of c.args.body.now) c.args.row (record { over = c.args.row; next = 0; size = c.row_size-size.result; turns = most }) (sym c.is_row-fits.ensures ∙ c.if-fits.true) c.row_size-size.ensures refl c.for_turns.ensures.moves
