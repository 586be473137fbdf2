use Rattle.std.proofs.Common.{◌∙◌, ap, arith, length, pos}
use Rattle.std.specs.Prelude.{replicate}
use Rattle.sim_plans.specs.Settling.{nobody}
use Rattle.delta_sim.proofs.Beginning.{zeros_long}
use Rattle.delta_sim.proofs.sim.spare_room.Goals as goal

pub returns-clause-numbers : goal.returns-clause-numbers
returns-clause-numbers c = c.in_ok-zeros.ensures ∙ ap (λ n. replicate n (pos 0)) c.count.ensures.value

pub returns-clause-noted : goal.returns-clause-noted
returns-clause-noted c = omega (arith, ap length c.in_ok-zeros-2.ensures ∙ zeros_long 64)

pub returns-clause-changed : goal.returns-clause-changed
returns-clause-changed c = c.in_ok-new-4.ensures ∙ ap nobody (c.len.ensures ∙ ap length c.memories.ensures)

pub returns-clause-moved : goal.returns-clause-moved
returns-clause-moved c = c.in_ok-new-5.ensures ∙ ap nobody c.signals.ensures
