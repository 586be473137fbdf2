use Rattle.domain_transforms.proofs.RenamedMeaning.{expressions_stay, statements_drive, statements_stay}
use Rattle.domain_transforms.proofs.laws.new_names_keep_meaning.Goals as goal

pub returns-clause-expressions : goal.returns-clause-expressions
returns-clause-expressions c = expressions_stay

pub returns-clause-statements : goal.returns-clause-statements
returns-clause-statements c = statements_stay

pub returns-clause-drives : goal.returns-clause-drives
returns-clause-drives c = statements_drive
