-- A key and its value more.
use Rattle.py_frames.specs.Walk_frames.{pair_came}
use Rattle.py_walks.specs.Walk_parts.{comp_seen}
use Rattle.py_walks.proofs.CompLaws.{comp_lacks, pair_done}
use Rattle.py_walks.proofs.comp_turns.pair_made_came.Goals as goal

pub returns-in-Past-clause-moves : goal.returns-in-Past-clause-moves
returns-in-Past-clause-moves c = comp_lacks c.args.functions.now c.args.frozen.now c.args.going.now c.args.budget c.args.comp (λ k x. pair_came k x c.args.walk c.args.outer c.args.done c.args.key c.args.v) c.in-Past.ensures

pub returns-in-Part-clause-moves : goal.returns-in-Part-clause-moves
returns-in-Part-clause-moves c = pair_done c.args.functions.now c.args.frozen.now c.one_pair_more.result c.args.going.now c.one_pair_more.new.going c.args.budget c.args.comp (comp_seen c.in-Part.parts) c.args.walk c.args.outer c.args.done c.args.key c.args.v c.in-Part.ensures c.one_pair_more.ensures.moves
