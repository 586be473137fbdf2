use Rattle.data_layouts.proofs.LayoutLaws.{filled_array}
use Rattle.data_layouts.proofs.laws.arrays_are_filled.Goals as goal

pub returns : goal.returns
returns c = filled_array
