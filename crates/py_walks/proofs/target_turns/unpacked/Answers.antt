-- A value has as many elements as there are targets, or that is refused.
use Rattle.py_tree.specs.Seen.{tree}
use Rattle.py_walks.proofs.TargetLaws.{unpack_goes, unpack_stops, unpack_differs}
use Rattle.py_walks.proofs.target_turns.unpacked.Goals as goal

pub returns-in-Ok-clause-moves : goal.returns-in-Ok-clause-moves
returns-in-Ok-clause-moves c = unpack_goes c.args.functions.now c.args.frozen.now c.unpacked_to.result c.args.going.now c.unpacked_to.new.going c.args.budget c.target_count-count.result c.place_of-place.result (tree c.args.node) c.args.row c.in-Ok.vals c.counts_to-fits.result c.target_count-count.ensures c.place_of-place.ensures c.counts_to-fits.ensures c.if-fits.true c.in-Ok.ensures c.unpacked_to.ensures.moves

pub returns-in-Err-clause-moves : goal.returns-in-Err-clause-moves
returns-in-Err-clause-moves c = unpack_stops c.args.functions.now c.args.frozen.now c.in-Err.halt c.args.going.now c.args.budget c.target_count-count.result c.place_of-place.result (tree c.args.node) c.args.row c.counts_to-fits.result c.target_count-count.ensures c.place_of-place.ensures c.counts_to-fits.ensures c.if-fits.true c.in-Err.ensures

pub returns-clause-moves : goal.returns-clause-moves
returns-clause-moves c = rw c.stopped.ensures (unpack_differs c.args.functions.now c.args.frozen.now c.args.going.now c.args.budget c.target_count-count.result c.place_of-place.result (tree c.args.node) c.args.row c.counts_to-fits.result c.target_count-count.ensures c.place_of-place.ensures c.counts_to-fits.ensures c.if-fits.false)
