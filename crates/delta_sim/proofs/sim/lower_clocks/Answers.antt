use Rattle.std.proofs.Common.{ap, ◌∙◌}
use Rattle.std.specs.Prelude.{slice_set}
use Rattle.delta_sim.proofs.Lives.{lows_turn}
use Rattle.delta_sim.proofs.sim.lower_clocks.Goals as goal

pub loop-d-preserved : goal.loop-d-preserved
loop-d-preserved c =
    lows_turn c.args.design.now.domains c.loop-d.d c.domain.result.now c.loop-d.held c.set_number.new.numbers _ c.domain.ensures
    (c.set_number.ensures ∙ ap (slice_set c.loop-d.held c.domain.result.now.clk.0) c.of_u128.ensures) c.loop-d.invariant
