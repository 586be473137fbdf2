-- The elements of a source are waited for.
use Rattle.std.proofs.Common.{refl}
use Rattle.py_walks.specs.Walk_parts.{comp_seen, row_over}
use Rattle.py_walks.proofs.CompLaws.{comp_lacks, row_waits}
use Rattle.py_walks.proofs.comprehensions.source_came.Goals as goal

pub returns-in-Past-clause-moves : goal.returns-in-Past-clause-moves
returns-in-Past-clause-moves c = comp_lacks c.args.functions.now c.args.frozen.now c.args.going.now c.args.budget c.args.comp (λ k. row_over k c.args.v) c.in-Past.ensures

pub returns-in-Ok-clause-moves : goal.returns-in-Ok-clause-moves
returns-in-Ok-clause-moves c = row_waits c.args.functions.now c.args.frozen.now c.as_row.result c.args.going.now c.as_row.new.going c.args.budget c.args.comp (comp_seen c.in-Part.parts) c.args.v c.in-Part.parts.place _ c.in-Part.ensures refl c.in-Ok.ensures c.as_row.ensures.moves
