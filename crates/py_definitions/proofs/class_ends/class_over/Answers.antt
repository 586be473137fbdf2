use Rattle.std.proofs.Common.{◌≡◌, refl, ap, ◌∙◌}
use Rattle.py_tree.specs.Programs.{step_of, steps_of}
use Rattle.py_frames.specs.Statements.{as_base}
use Rattle.py_definitions.proofs.ClassEnds.{over_asks, over_refused}
use Rattle.py_definitions.proofs.class_ends.class_over.Goals as goal

pub returns-in-Err-clause-moves : goal.returns-in-Err-clause-moves
returns-in-Err-clause-moves c =
    let o : c.as_base.result ≡ as_base c.args.base = c.as_base.ensures ∙ ap as_base c.copied.ensures in
    rw c.refused.ensures (over_refused c.args.functions.now c.args.frozen.now c.args.going.now _ c.args.budget c.args.s.now.place c.args.name.now c.args.scope c.args.base c.args.keywords c.args.notes c.args.bindings c.as_base.result c.in-Err.stop c.known_class.new.heap o c.in-Err.ensures refl)

pub returns-clause-moves : goal.returns-clause-moves
returns-clause-moves c =
    let o : c.as_base.result ≡ as_base c.args.base = c.as_base.ensures ∙ ap as_base c.copied.ensures in
    over_asks c.args.functions.now c.args.frozen.now c.ask_under.result c.args.going.now c.ask_under.new.going c.args.budget c.args.s.now.place c.args.name.now c.as_str.result.now _ (steps_of c.args._body.now) (step_of c.args.s.now) c.in-Ok.stmt c.args.scope c.args.base c.args.keywords c.args.notes c.args.bindings c.as_base.result c.in-Ok-known_class.c c.known_class.new.heap c.in-Ok-class_request.request c.as_str.ensures c.requires c.in-Ok.ensures o c.in-Ok-known_class.ensures c.in-Ok-class_request.ensures c.ask_under.ensures.moves
