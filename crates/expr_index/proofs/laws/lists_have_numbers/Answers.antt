use Rattle.expr_index.proofs.ListLaws.{lists_have_numbers, flags_are_resets}
use Rattle.expr_index.proofs.laws.lists_have_numbers.Goals as goal

pub returns-clause-numbers : goal.returns-clause-numbers
returns-clause-numbers c = lists_have_numbers

pub returns-clause-flags : goal.returns-clause-flags
returns-clause-flags c = flags_are_resets
