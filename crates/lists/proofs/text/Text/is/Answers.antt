use Rattle.lists.proofs.TextLaws.{by_equal}
use Rattle.lists.proofs.text.Text.is.Goals as goal

pub returns : goal.returns
returns c = by_equal _ _ _ c.equals.ensures
