use Rattle.data_layouts.proofs.LayoutLaws.{filled_structure}
use Rattle.data_layouts.proofs.laws.structures_are_filled.Goals as goal

pub returns : goal.returns
returns c = filled_structure
