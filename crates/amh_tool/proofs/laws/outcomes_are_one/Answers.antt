use Rattle.amh_tool.proofs.OneOutcome.{outcome_once}
use Rattle.amh_tool.proofs.laws.outcomes_are_one.Goals as goal

pub returns : goal.returns
returns c = outcome_once c.outcome_is_one.ensures c.programs_are_exact.ensures.one_program c.programs_are_exact.ensures.front_of_front c.runs_are_one.ensures
