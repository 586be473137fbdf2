-- One may go over the value, or that is refused.
use Rattle.std.proofs.Common.{refl}
use Rattle.py_walks.specs.Walk_parts.{comp_seen}
use Rattle.py_walks.proofs.CompLaws.{over_refused}
use Rattle.py_walks.proofs.comp_turns.comp_row.Goals as goal

pub returns-clause-moves : goal.returns-clause-moves
returns-clause-moves c = rw c.stopped.ensures (over_refused c.args.functions.now c.args.frozen.now c.args.going.now c.args.budget (comp_seen c.args.parts.now) c.args.row c.args.parts.now.place c.is_row-fits.result refl c.is_row-fits.ensures c.if-fits.false)
