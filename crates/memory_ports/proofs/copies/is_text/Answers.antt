use Rattle.lists.proofs.TextLaws.{by_equal}
use Rattle.memory_ports.proofs.copies.is_text.Goals as goal

pub returns : goal.returns
returns c = by_equal _ _ _ c.equals.ensures
