use Rattle.std.proofs.Common.{◌≡◌, Some, None}
use Rattle.py_heap.specs.Heaps.{seen, row_at}
use Rattle.py_heap.specs.Objects.{attributes, attribute_in}
use Rattle.py_callables.proofs.AttributeLaws.{object_has, object_lacks}
use Rattle.py_callables.proofs.attribute.object_attribute.Goals as goal

pub returns-in-Some-clause-moves : goal.returns-in-Some-clause-moves
returns-in-Some-clause-moves c =
    let e : Some c.in-Some.v ≡ attribute_in (seen c.args.frozen.now c.args.going.now.state.heap) c.args.name.now (attributes (row_at (seen c.args.frozen.now c.args.going.now.state.heap) c.args.o.0)) = cc (c.attribute.ensures, c.in-Some.is, c.as_str.ensures) in
    object_has c.args.functions.now c.args.frozen.now c.give.result c.args.going.now _ c.args.budget c.args.rounds c.args.o.0 c.args.name.now c.args.place c.in-Some.v e c.give.ensures

pub returns-clause-moves : goal.returns-clause-moves
returns-clause-moves c =
    let e : None ≡ attribute_in (seen c.args.frozen.now c.args.going.now.state.heap) c.args.name.now (attributes (row_at (seen c.args.frozen.now c.args.going.now.state.heap) c.args.o.0)) = cc (c.attribute.ensures, c.in_default.is, c.as_str.ensures) in
    object_lacks c.args.functions.now c.args.frozen.now c.of_class.result c.args.going.now c.of_class.new.going c.args.budget c.args.rounds c.args.o.0 c.args.name.now c.args.place c.first_of_row-class.result e c.first_of_row-class.ensures c.of_class.ensures.moves
