use Rattle.std.proofs.Common.{◌≡◌, ◌∙◌, ap, sym, arith, [], map, drop, None}
use Rattle.std.proofs.lemmas.List.{drop_all}
use Rattle.py_tree.specs.Programs.{parameter_of}
use Rattle.py_callables.specs.Meeting.{meeting_on}
use Rattle.py_callables.proofs.MeetLaws.{meeting_more}
use Rattle.py_callables.proofs.call_meet.parameters_met.Goals as goal

pub returns-then-meeting-args : goal.returns-then-meeting-args
returns-then-meeting-args c =
    let m = c.loop-param.meeting in
    let none : meeting_on m c.args.args.now c.args.defaults.now [] ≡ None = meeting_more m c.args.args.now c.args.defaults.now (omega arith) in
    let ends : drop c.loop-param.param-index c.args.params.now ≡ [] = drop_all c.loop-param.param-index c.args.params.now (omega arith) in
    sym none ∙ ap (λ z. meeting_on m c.args.args.now c.args.defaults.now (map parameter_of z)) (sym ends) ∙ c.loop-param.invariant.met
