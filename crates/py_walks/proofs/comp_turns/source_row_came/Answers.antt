-- A comprehension goes over what has come.
use Rattle.py_frames.specs.Walk_frames.{comp_over}
use Rattle.py_walks.specs.Walk_parts.{comp_seen}
use Rattle.py_walks.proofs.CompLaws.{comp_lacks, over_found}
use Rattle.py_walks.proofs.comp_turns.source_row_came.Goals as goal

pub returns-in-Past-clause-moves : goal.returns-in-Past-clause-moves
returns-in-Past-clause-moves c = comp_lacks c.args.functions.now c.args.frozen.now c.args.going.now c.args.budget c.args.comp (λ k x. comp_over k x c.args.row) c.in-Past.ensures

pub returns-in-Part-clause-moves : goal.returns-in-Part-clause-moves
returns-in-Part-clause-moves c = over_found c.args.functions.now c.args.frozen.now c.comp_row.result c.args.going.now c.comp_row.new.going c.args.budget c.args.comp (comp_seen c.in-Part.parts) c.args.row c.in-Part.ensures c.comp_row.ensures.moves
