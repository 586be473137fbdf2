use Rattle.std.proofs.Common.{suc, [], ◌∷◌, ◌++◌}
use Rattle.py_tree.specs.Seen.{tree}
use Rattle.py_values.specs.declared.val.Val.{Val}
use Rattle.py_frames.specs.declared.frame.Purpose.TheVariants.{Plain}
use Rattle.py_frames.specs.Doing.{Known, Doing}
use Rattle.py_frames.specs.Parts.{place_of, trailers_from, arguments_from}
use Rattle.py_frames.specs.Expressions.{arguments_then, call_for}
use Rattle.py_frames.specs.Call_frames.{trailers_of, call_arguments}
use Rattle.py_turns.proofs.AtOnceLaws.{at_once_goes}
use Rattle.py_calls.proofs.ArgumentLaws.{positional_next}
use Rattle.py_calls.proofs.call_arguments.positional_begun.Goals as goal

pub returns-clause-moves : goal.returns-clause-moves
returns-clause-moves c =
    let on : Known → Val → Doing = λ k v. arguments_then k (place_of (tree c.args.node.now)) (c.args.vals ++ v ∷ []) c.args.keywords (arguments_from (suc c.args.at) (call_arguments (trailers_from c.args.trailer (trailers_of (tree c.args.node.now))))) (λ us names. call_for k c.args.purpose.now c.args.callee us names (place_of (tree c.args.node.now))) in
    positional_next c.args.functions.now c.args.frozen.now _ c.args.going.now c.positional_given.new.going c.args.budget (place_of (tree c.args.node.now)) c.args.vals c.args.keywords c.args.at (call_arguments (trailers_from c.args.trailer (trailers_of (tree c.args.node.now)))) c.args.callee c.args.purpose.now (tree c.args.part.now) c.requires.here
    (at_once_goes c.args.functions.now c.args.frozen.now c.positional_given.result c.args.going.now c.positional_given.new.going c.args.budget Plain (tree c.args.part.now) c.in-Some.found on c.in-Some.ensures.value c.in-Some.ensures.room c.positional_given.ensures.grows c.positional_given.ensures.moves)
