use Rattle.std.proofs.Common.{◌<◌, length, arith}
use Rattle.std.specs.Option.{option_map}
use Rattle.py_tree.specs.Seen.{tree}
use Rattle.py_tree.specs.Tree.{perhaps}
use Rattle.py_callables.proofs.MeetLaws.{star_more, named_taken}
use Rattle.py_callables.proofs.call_meet.Meeting.take.Goals as goal

pub returns-in-Star-clause-met : goal.returns-in-Star-clause-met
returns-in-Star-clause-met c =
    let h : c.args.self.now.next < length c.args.args.now = omega (arith, c.if-self-args.true) in
    rw c.in-Star.is (λ ps. star_more c.args.self.now c.args.args.now c.args.defaults.now c.in-Star.field-0 ps h)

pub returns-in-Named-clause-met : goal.returns-in-Named-clause-met
returns-in-Named-clause-met c =
    rw c.in-Named.is (named_taken c.meet_named.result c.args.self.now c.meet_named.new.self c.args.args.now c.args.defaults.now c.in-Named.place c.in-Named.name (perhaps (option_map tree c.in-Named.annotation)) (perhaps (option_map tree c.in-Named.default)) c.meet_named.ensures.met)
