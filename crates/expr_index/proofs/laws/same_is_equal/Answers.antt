use Rattle.expr_index.proofs.SameLaws.{same_is_equal}
use Rattle.expr_index.proofs.laws.same_is_equal.Goals as goal

pub returns : goal.returns
returns c = same_is_equal
