use Rattle.std.proofs.Common.{◌≡◌, refl, true, false}
use Rattle.py_heap.specs.Heaps.{seen}
use Rattle.py_frames.specs.Statements.{over_thing}
use Rattle.py_definitions.proofs.ClassEnds.{built_over, built_plain, built_refused}
use Rattle.py_definitions.proofs.class_ends.class_built.Goals as goal

pub returns-then-over_thing-clause-moves : goal.returns-then-over_thing-clause-moves
returns-then-over_thing-clause-moves c =
    let e : over_thing (seen c.args.frozen.now c.args.going.now.state.heap) c.args.base ≡ true = cc in
    built_over c.args.functions.now c.args.frozen.now c.class_over.result c.args.going.now c.class_over.new.going c.args.budget c.args.s.now.place c.args.name.now c.args.scope c.args.base c.args.keywords c.args.notes c.args.bindings e c.class_over.ensures.moves

pub returns-in-Ok-clause-moves : goal.returns-in-Ok-clause-moves
returns-in-Ok-clause-moves c =
    let e : over_thing (seen c.args.frozen.now c.args.going.now.state.heap) c.args.base ≡ false = cc in
    built_plain c.args.functions.now c.args.frozen.now c.name_bound.result c.args.going.now c.name_bound.new.going c.args.budget c.args.s.now.place c.args.name.now c.as_str.result.now c.args.scope c.args.base c.args.keywords c.args.notes c.args.bindings c.as_base.result c.in-Ok.c c.known_class.new.heap c.as_str.ensures e c.as_base.ensures c.in-Ok.ensures c.name_bound.ensures.moves

pub returns-clause-moves : goal.returns-clause-moves
returns-clause-moves c =
    let e : over_thing (seen c.args.frozen.now c.args.going.now.state.heap) c.args.base ≡ false = cc in
    rw c.refused.ensures (built_refused c.args.functions.now c.args.frozen.now c.args.going.now _ c.args.budget c.args.s.now.place c.args.name.now c.args.scope c.args.base c.args.keywords c.args.notes c.args.bindings c.as_base.result c.in-Err.stop c.known_class.new.heap e c.as_base.ensures c.in-Err.ensures refl)
