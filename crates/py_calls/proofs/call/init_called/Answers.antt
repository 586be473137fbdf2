use Rattle.std.proofs.Common.{refl}
use Rattle.py_frames.specs.declared.frame.Frame.TheVariants as frame
use Rattle.py_frames.specs.declared.frame.CallFrame.TheVariants as call
use Rattle.py_frames.specs.Values.{method_called}
use Rattle.py_frames.proofs.CallLaws.{pushed_as}
use Rattle.py_callables.proofs.CalledLaws.{init_begun}
use Rattle.py_calls.proofs.call.init_called.Goals as goal

pub returns-in-Ok-push-clause-moves : goal.returns-in-Ok-push-clause-moves
returns-in-Ok-push-clause-moves c =
    init_begun c.args.functions.now c.args.frozen.now c.method_called.result c.args.going.now c.method_called.new.going c.args.budget c.args.o c.args.v c.args._c c.in-Ok.method c.args.args c.args.keywords c.args.place c.method_val.new.heap c.in-Ok.ensures
    (pushed_as c.args.functions.now c.args.frozen.now c.method_called.result (record c.args.going.now { state = record c.args.going.now.state { heap = c.method_val.new.heap } }) c.method_called.new.going c.args.budget (frame.Call (call.Initialised c.args.o c.args.place)) c.push.new.self (λ k. method_called k c.in-Ok.method c.args.args c.args.keywords c.args.place) refl c.in-Ok-push.ensures c.method_called.ensures.moves)
