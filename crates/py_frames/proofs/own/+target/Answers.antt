use Rattle.std.proofs.Common.{◌∙◌, ◌≤◌, ◌++◌, ap, length, take_all, arith}
use Rattle.std.specs.List.{flat_map}
use Rattle.py_frames.proofs.OwnLaws.{names_of_target, flat_map_targets}
use Rattle.py_frames.proofs.own.+target.Goals as goal

pub add_targets-returns : goal.add_targets-returns
add_targets-returns t c =
    let end : length c.args.targets.now ≤ c.loop-target.target-index = omega (arith, c.loop-target-test.false) in
    c.loop-target.invariant ∙ ap (λ z. c.args.names.now ++ flat_map names_of_target z) (take_all c.loop-target.target-index c.args.targets.now end) ∙ ap (λ z. c.args.names.now ++ z) (flat_map_targets c.args.targets.now)
