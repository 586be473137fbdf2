use Rattle.std.proofs.Common.{◌∙◌, ap}
use Rattle.std.specs.Prelude.{replicate}
use Rattle.delta_sim.proofs.sim.zeros.Goals as goal

pub returns : goal.returns
returns c = c.in_ok-vec.ensures.items_if_clones_equal (λ y h. h) ∙ ap (replicate c.args.count) c.of_u128.ensures
