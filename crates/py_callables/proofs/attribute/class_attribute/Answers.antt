use Rattle.std.proofs.Common.{◌≡◌}
use Rattle.py_heap.specs.Heaps.{seen}
use Rattle.py_heap.specs.Objects.{inherited as inherits}
use Rattle.py_callables.proofs.AttributeLaws.{class_read}
use Rattle.py_callables.proofs.attribute.class_attribute.Goals as goal

pub returns-clause-moves : goal.returns-clause-moves
returns-clause-moves c =
    let e : c.inherited-found.result ≡ inherits (seen c.args.frozen.now c.args.going.now.state.heap) c.args.name.now c.args.o = cc (c.inherited-found.ensures, c.as_str.ensures) in
    class_read c.args.functions.now c.args.frozen.now c.found_in.result c.args.going.now c.found_in.new.going c.args.budget c.args.rounds c.args.o.0 c.args.name.now c.args.place c.inherited-found.result e c.found_in.ensures.moves
