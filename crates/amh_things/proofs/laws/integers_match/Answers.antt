use Rattle.amh_things.proofs.MeaningLaws.{integers_matched}
use Rattle.amh_things.proofs.laws.integers_match.Goals as goal

pub returns : goal.returns
returns c = integers_matched
