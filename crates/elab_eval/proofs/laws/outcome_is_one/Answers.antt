use Rattle.elab_eval.proofs.Unique.{one_outcome}
use Rattle.elab_eval.proofs.laws.outcome_is_one.Goals as goal

pub returns : goal.returns
returns c = one_outcome
