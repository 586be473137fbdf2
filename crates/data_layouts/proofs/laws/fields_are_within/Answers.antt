use Rattle.data_layouts.proofs.LayoutLaws.{within_structure, within_widest, within_array}
use Rattle.data_layouts.proofs.laws.fields_are_within.Goals as goal

pub returns : goal.returns
returns c = record { structures = within_structure; unions = within_widest; arrays = within_array }
