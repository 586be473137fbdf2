use Rattle.design_ir.proofs.RisingLaws.{active_is_rising, nothing_is_cleared, steps_are_moves}
use Rattle.design_ir.proofs.laws.rising_steps.Goals as goal

pub returns-clause-active : goal.returns-clause-active
returns-clause-active c = active_is_rising

pub returns-clause-cleared : goal.returns-clause-cleared
returns-clause-cleared c = nothing_is_cleared

pub returns-clause-moved : goal.returns-clause-moved
returns-clause-moved c = steps_are_moves
