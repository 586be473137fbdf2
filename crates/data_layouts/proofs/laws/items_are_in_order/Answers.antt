use Rattle.data_layouts.proofs.LayoutLaws.{item_in_place}
use Rattle.data_layouts.proofs.laws.items_are_in_order.Goals as goal

pub returns : goal.returns
returns c = item_in_place
