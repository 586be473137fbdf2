use Rattle.py_frames.specs.Parts.{place_of, trailers_from, arguments_from}
use Rattle.std.proofs.Common.{suc}
use Rattle.py_tree.specs.Seen.{tree}
use Rattle.py_frames.specs.Call_frames.{trailers_of, call_arguments}
use Rattle.py_calls.proofs.ArgumentLaws.{elements_ok, elements_err_at}
use Rattle.py_calls.proofs.call_arguments.elements_spread.Goals as goal

pub returns-in-Ok-clause-moves : goal.returns-in-Ok-clause-moves
returns-in-Ok-clause-moves c = elements_ok c.args.functions.now c.args.frozen.now c.elements_given.result c.args.going.now c.elements_given.new.going c.args.budget (place_of (tree c.args.node.now)) c.args.vals c.in-Ok.elements c.args.keywords (arguments_from (suc c.args.at) (call_arguments (trailers_from c.args.trailer (trailers_of (tree c.args.node.now))))) c.args.row c.args.callee c.args.purpose.now c.in-Ok.ensures c.elements_given.ensures.moves

pub returns-in-Err-clause-moves : goal.returns-in-Err-clause-moves
returns-in-Err-clause-moves c = elements_err_at c.args.functions.now c.args.frozen.now c.told.result c.args.going.now c.args.budget c.place_at-place.result (place_of (tree c.args.node.now)) c.args.vals c.args.keywords (arguments_from (suc c.args.at) (call_arguments (trailers_from c.args.trailer (trailers_of (tree c.args.node.now))))) c.args.row c.args.callee c.args.purpose.now c.in-Err.e c.place_at-place.ensures c.told.ensures c.in-Err.ensures
