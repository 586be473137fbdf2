-- One of a new name goes on.
use Rattle.std.proofs.Common.{◌≡◌, ◌∙◌, ap, ℕ, List}
use Rattle.py_tree.specs.Seen.{tree}
use Rattle.py_frames.specs.declared.request.NamedVal.{NamedVal}
use Rattle.py_frames.specs.Functions.{is_given}
use Rattle.py_frames.specs.Parts.{place_of, trailers_from}
use Rattle.py_frames.specs.Call_frames.{trailers_of, call_arguments}
use Rattle.py_calls.proofs.ArgumentLaws.{came_keyword}
use Rattle.py_calls.proofs.call_arguments.keyword_came.Goals as goal

pub returns-clause-moves : goal.returns-clause-moves
returns-clause-moves c =
    let e : c.is_given-given.result ≡ is_given c.args.name.now c.args.keywords = c.is_given-given.ensures ∙ ap (λ (z : List ℕ). is_given z c.as_slice.result.now) c.as_str.ensures ∙ ap (λ (z : List NamedVal). is_given c.args.name.now z) c.as_slice.ensures in
    came_keyword c.args.functions.now c.args.frozen.now c.keyword_next.result c.args.going.now c.keyword_next.new.going c.args.budget (place_of (tree c.args.node.now)) c.args.vals c.args.keywords c.args.at (call_arguments (trailers_from c.args.trailer (trailers_of (tree c.args.node.now)))) c.args.v c.args.callee c.args.purpose.now (tree c.args._part.now) c.args.name.now c.is_given-given.result c.requires.here e c.if-given.false c.keyword_next.ensures.moves
