use Rattle.std.proofs.Common.{ap, ◌∙◌, Some, None, List, []}
use Rattle.py_tree.specs.Programs.{steps_of}
use Rattle.py_frames.specs.declared.request.NamedVal.{NamedVal}
use Rattle.py_frames.specs.declared.state.Here.{Here}
use Rattle.py_definitions.proofs.ClassLaws.{class_runs}
use Rattle.py_definitions.proofs.classes.class_inside.Goals as goal

pub returns-clause-moves : goal.returns-clause-moves
returns-clause-moves c =
    let here : List NamedVal → List NamedVal → Here = λ b z. record { scope = c.args.scope; first = None; body = Some (record { scope = c.args.scope; bindings = b }); notes = z; room = c.args.going.now.state.here.room } in
    class_runs c.args.functions.now c.args.frozen.now c.block_under.result c.args.going.now c.block_under.new.going c.args.budget c.args.s.now.place c.args._name.now _ (steps_of c.args.body.now) _ c.in-Ok.stmt c.args.keywords c.args.base c.args.scope c.replace-outer.new.dest c.in-Ok-new.outer c.requires c.in-Ok.ensures (c.replace-outer.ensures.after ∙ ap (λ b. here b c.new-2.result) c.new.ensures ∙ ap (here []) c.new-2.ensures) (c.in-Ok-new.ensures ∙ c.replace-outer.ensures.value) c.block_under.ensures.moves
