use Rattle.py_operators.proofs.ChargeLaws.{done_equality, done_membership, done_free}
use Rattle.py_operators.proofs.operators.operated.Goals as goal

pub returns-in-Equality : goal.returns-in-Equality
returns-in-Equality c = done_equality _ _ _ _ _ _ _ _ _ c.in-Equality.ensures c.shown_or.ensures c.equal.ensures

pub returns-in-Membership : goal.returns-in-Membership
returns-in-Membership c = done_membership _ _ _ _ _ _ _ _ _ c.in-Membership.ensures c.shown_or-in-Membership.ensures c.member.ensures

pub returns-in-Neither : goal.returns-in-Neither
returns-in-Neither c = done_free _ _ _ _ _ _ c.in-Neither.ensures c.requires c.operated_free.ensures
