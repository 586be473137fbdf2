use Rattle.lists.proofs.TextLaws.{by_equal}
use Rattle.elab_store.proofs.names.is_text.Goals as goal

pub returns : goal.returns
returns c = by_equal _ _ _ c.equals.ensures
