use Rattle.data_layouts.proofs.LayoutLaws.{kept_structure, kept_union}
use Rattle.data_layouts.proofs.laws.members_are_kept.Goals as goal

pub returns : goal.returns
returns c = record { structures = kept_structure 0; unions = kept_union }
