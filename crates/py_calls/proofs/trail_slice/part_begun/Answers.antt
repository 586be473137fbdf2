use Rattle.py_tree.specs.Seen.{tree}
use Rattle.py_calls.proofs.SliceLaws.{part_waits}
use Rattle.py_calls.proofs.trail_slice.part_begun.Goals as goal

pub returns-clause-moves : goal.returns-clause-moves
returns-clause-moves c = part_waits _ _ _ _ _ _ _ c.in-Ok-share.node _ _ _ c.in-Ok.parts (tree c.args.part.now) c.requires.here c.in-Ok.ensures c.in-Ok-share.ensures c.wait_for.ensures.moves
