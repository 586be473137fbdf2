-- The laws of moments.
use Rattle.calendar.proofs.Turns.{tests_are_toggles, phases_are_first, next_is_a_half_away, last_is_last}
use Rattle.calendar.proofs.Nexts.{next_is_one, none_is_passed, turns_are_in_order}
use Rattle.calendar.proofs.laws.moments_are_toggles.Goals as goal

pub returns-clause-tests : goal.returns-clause-tests
returns-clause-tests c = tests_are_toggles

pub returns-clause-first : goal.returns-clause-first
returns-clause-first c = phases_are_first

pub returns-clause-next : goal.returns-clause-next
returns-clause-next c = next_is_a_half_away

pub returns-clause-last : goal.returns-clause-last
returns-clause-last c = last_is_last

pub returns-clause-turns : goal.returns-clause-turns
returns-clause-turns c = turns_are_in_order

pub returns-clause-one : goal.returns-clause-one
returns-clause-one c = next_is_one

pub returns-clause-none_passed : goal.returns-clause-none_passed
returns-clause-none_passed c = none_is_passed
