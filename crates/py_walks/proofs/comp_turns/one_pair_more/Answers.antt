-- What may be no key is refused.
use Rattle.std.proofs.Common.{refl, sym, ◌∙◌}
use Rattle.py_walks.specs.Walk_parts.{comp_seen}
use Rattle.py_walks.proofs.CompLaws.{key_refused}
use Rattle.py_walks.proofs.comp_turns.one_pair_more.Goals as goal

pub returns-clause-moves : goal.returns-clause-moves
returns-clause-moves c = rw c.stopped.ensures (key_refused c.args.functions.now c.args.frozen.now c.args.going.now c.args.budget (comp_seen c.args.parts.now) c.args.walk c.args.outer c.args.done c.args.key c.args.v c.args.parts.now.place refl (sym c.may_be_key-may_be.ensures ∙ c.if-may_be.false))
