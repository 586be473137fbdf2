use Rattle.std.proofs.Common.{◌∙◌, ◌≤◌, ◌++◌, ap, length, take_all, arith}
use Rattle.std.specs.List.{flat_map}
use Rattle.py_frames.proofs.OwnLaws.{names_of_param, flat_map_params}
use Rattle.py_frames.proofs.own.add_params.Goals as goal

pub returns : goal.returns
returns c =
    let end : length c.args.params.now ≤ c.loop-param.param-index = omega (arith, c.loop-param-test.false) in
    c.loop-param.invariant ∙ ap (λ z. c.args.names.now ++ flat_map names_of_param z) (take_all c.loop-param.param-index c.args.params.now end) ∙ ap (λ z. c.args.names.now ++ z) (flat_map_params c.args.params.now)
