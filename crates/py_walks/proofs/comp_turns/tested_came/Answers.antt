-- An element is made where the condition is true.
use Rattle.py_frames.specs.Walk_frames.{tested_by, condition_of}
use Rattle.py_walks.specs.Walk_parts.{comp_seen}
use Rattle.py_walks.proofs.CompLaws.{comp_lacks, tested_found}
use Rattle.py_walks.proofs.comp_turns.tested_came.Goals as goal

pub returns-in-Past-clause-moves : goal.returns-in-Past-clause-moves
returns-in-Past-clause-moves c = comp_lacks c.args.functions.now c.args.frozen.now c.args.going.now c.args.budget c.args.comp (λ k x. tested_by k x c.args.walk c.args.outer c.args.done (condition_of x.source) c.args.v) c.in-Past.ensures

pub returns-in-Part-clause-moves : goal.returns-in-Part-clause-moves
returns-in-Part-clause-moves c = tested_found c.args.functions.now c.args.frozen.now c.tested.result c.args.going.now c.tested.new.going c.args.budget c.args.comp (comp_seen c.in-Part.parts) c.args.walk c.args.outer c.args.done c.args.v c.in-Part.ensures c.tested.ensures.moves
