use Rattle.std.proofs.Common.{◌≡◌, ap, ◌∙◌, map, rules}
use Rattle.py_tree.specs.declared.expr.Trailer.{the_lemmas}
use Rattle.py_tree.specs.Seen.{tree, trailer_of, argument_of, each_of}
use Rattle.py_tree.specs.Programs.{step_of, steps_of}
use Rattle.py_tree.specs.Tree.{Trailer as Trailing, Call, CallOf, arguments}
use Rattle.py_tree.specs.Steps.{Step, Class, bases}
use Rattle.py_definitions.proofs.ClassLaws.{brackets_call, brackets_list}
use Rattle.py_definitions.proofs.class_arguments.begun_brackets.Goals as goal

pub returns-in-Call-clause-moves : goal.returns-in-Call-clause-moves
returns-in-Call-clause-moves c =
    let in_brackets : Trailing → Step = λ z. Class c.args.s.now.place c.args._name.now (bases z) (steps_of c.args._body.now) in
    let e : trailer_of c.args.brackets.now ≡ Call (arguments (map argument_of c.in-Call.field-0.items)) = rw c.in-Call.is (search (rules, the_lemmas)) in
    brackets_call c.args.functions.now c.args.frozen.now c.class_arguments_turn.result c.args.going.now c.class_arguments_turn.new.going c.args.budget c.args.s.now.place c.args._name.now (arguments (map argument_of c.in-Call.field-0.items)) (steps_of c.args._body.now) (step_of c.args.s.now) c.new-vals.result c.new-keywords.result (c.requires ∙ ap in_brackets e) c.new-vals.ensures c.new-keywords.ensures c.class_arguments_turn.ensures.moves

pub returns-in-CallOf-clause-moves : goal.returns-in-CallOf-clause-moves
returns-in-CallOf-clause-moves c =
    let in_brackets : Trailing → Step = λ z. Class c.args.s.now.place c.args._name.now (bases z) (steps_of c.args._body.now) in
    let e : trailer_of c.args.brackets.now ≡ CallOf (tree c.in-CallOf.element) (each_of c.in-CallOf.each) = rw c.in-CallOf.is (search (rules, the_lemmas)) in
    brackets_list c.args.functions.now c.args.frozen.now c.class_list.result c.args.going.now c.class_list.new.going c.args.budget c.args.s.now.place c.args._name.now (tree c.in-CallOf.element) (each_of c.in-CallOf.each) (steps_of c.args._body.now) (step_of c.args.s.now) (c.requires ∙ ap in_brackets e) c.class_list.ensures.moves
