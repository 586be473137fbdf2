use Rattle.py_tree.specs.Seen.{tree}
use Rattle.py_frames.specs.Parts.{place_of, trailers_from}
use Rattle.py_frames.specs.Call_frames.{trailers_of}
use Rattle.py_calls.proofs.SliceLaws.{slice_goes}
use Rattle.py_calls.proofs.trail_slice.part_came.Goals as goal

pub returns-clause-moves : goal.returns-clause-moves
returns-clause-moves c = slice_goes c.args.functions.now c.args.frozen.now c.part_behind.result c.args.going.now c.part_behind.new.going c.args.budget c.args.over c.args.parts c.as_slice.result.now c.args.v (trailers_from c.args.trailer (trailers_of (tree c.args.node.now))) (place_of (tree c.args.node.now)) c.as_slice.ensures c.part_behind.ensures.moves
