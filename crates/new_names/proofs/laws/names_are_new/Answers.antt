use Rattle.new_names.proofs.GivenNames.{fresh_is_new, fresh_is_public, given_are_distinct, distinct_stay}
use Rattle.new_names.proofs.laws.names_are_new.Goals as goal

pub returns-clause-new : goal.returns-clause-new
returns-clause-new c = fresh_is_new

pub returns-clause-public : goal.returns-clause-public
returns-clause-public c = fresh_is_public

pub returns-clause-distinct : goal.returns-clause-distinct
returns-clause-distinct c = given_are_distinct

pub returns-clause-stay : goal.returns-clause-stay
returns-clause-stay c = distinct_stay
