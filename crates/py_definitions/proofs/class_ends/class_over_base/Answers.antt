use Rattle.std.proofs.Common.{◌≡◌, true, false}
use Rattle.py_heap.specs.Heaps.{seen}
use Rattle.py_frames.specs.Statements.{are_keywords, over_thing}
use Rattle.py_definitions.proofs.ClassEnds.{checked_lacks}
use Rattle.py_definitions.proofs.class_ends.class_over_base.Goals as goal

pub returns-then-not-over_thing-clause-moves : goal.returns-then-not-over_thing-clause-moves
returns-then-not-over_thing-clause-moves c =
    let e1 : are_keywords c.args.keywords ≡ true = cc in
    let e2 : over_thing (seen c.args.frozen.now c.args.going.now.state.heap) c.args.base ≡ false = cc in
    checked_lacks c.args.functions.now c.args.frozen.now c.stops.result c.args.going.now c.args.going.now c.args.budget c.args.s.now.place c.args.name.now c.args.scope c.args.base c.args.keywords c.args.notes c.args.bindings e1 e2 c.stops.ensures
