use Rattle.std.proofs.Common.{◌≡◌, ◌<◌, length, arith, true}
use Rattle.std.specs.Option.{option_map}
use Rattle.py_tree.specs.Seen.{tree}
use Rattle.py_tree.specs.Tree.{perhaps}
use Rattle.py_frames.specs.Functions.{is_given}
use Rattle.py_callables.proofs.MeetLaws.{named_twice}
use Rattle.py_callables.proofs.call_meet.Meeting.meet_named.Goals as goal

pub returns-then-is_given-clause-met : goal.returns-then-is_given-clause-met
returns-then-is_given-clause-met c =
    let h : c.args.self.now.next < length c.args.args.now = omega (arith, c.if-self-args.false, c.requires.next) in
    let q : is_given c.args.name.now c.args.self.now.keywords ≡ true = cc (c.is_given.ensures, c.as_str.ensures, c.as_slice.ensures, c.if-is_given.true) in
    λ p a ps. named_twice c.args.self.now c.args.args.now c.args.defaults.now p c.args.name.now a (perhaps (option_map tree c.args.default.now)) ps h q
