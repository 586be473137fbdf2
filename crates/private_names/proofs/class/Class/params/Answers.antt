use Rattle.std.proofs.Common.{◌∙◌, arith}
use Rattle.private_names.proofs.Rows.{all_made, parameter_within, parameters_within}
use Rattle.private_names.proofs.class.Class.params.Goals as goal

pub returns : goal.returns
returns c = let class = c.args.self.now.name in all_made (parameter_within class) c.as_slice-param-items.result.now c.args.all.now.items c.loop-param.param-index _ c.as_slice-param-items.ensures.value (omega (arith, c.loop-param-test.false)) c.loop-param.invariant ∙ parameters_within class c.args.all.now.items
