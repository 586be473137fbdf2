use Rattle.data_layouts.proofs.NameLaws.{twins_or_distinct}
use Rattle.data_layouts.proofs.laws.twins_are_repeated.Goals as goal

pub returns : goal.returns
returns c = twins_or_distinct
