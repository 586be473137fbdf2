use Rattle.std.proofs.Common.{◌∙◌}
use Rattle.private_names.proofs.Names.{without_underscores_same}
use Rattle.private_names.proofs.class.without_underscores.Goals as goal

pub returns : goal.returns
returns c = without_underscores_same c.loop-behind.rest.now c.in_default.ensures.cases ∙ c.loop-behind.invariant.1
