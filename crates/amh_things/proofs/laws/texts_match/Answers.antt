use Rattle.amh_things.proofs.MeaningLaws.{texts_matched}
use Rattle.amh_things.proofs.laws.texts_match.Goals as goal

pub returns : goal.returns
returns c = texts_matched
