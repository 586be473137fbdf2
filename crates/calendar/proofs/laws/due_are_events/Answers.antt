-- The laws of what is due.
use Rattle.calendar.proofs.DueLaws.{due_is_moment, due_have_clocks, due_are_some, due_are_an_event}
use Rattle.calendar.proofs.laws.due_are_events.Goals as goal

pub returns-clause-moment : goal.returns-clause-moment
returns-clause-moment c = due_is_moment

pub returns-clause-clocks : goal.returns-clause-clocks
returns-clause-clocks c = due_have_clocks

pub returns-clause-some : goal.returns-clause-some
returns-clause-some c = due_are_some

pub returns-clause-event : goal.returns-clause-event
returns-clause-event c = due_are_an_event
