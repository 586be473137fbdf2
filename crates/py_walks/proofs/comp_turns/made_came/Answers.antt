-- An element more, or the value of a key is waited for.
use Rattle.std.proofs.Common.{ap}
use Rattle.py_frames.specs.Walk_frames.{made_came}
use Rattle.py_walks.specs.Walk_parts.{item_seen, comp_seen}
use Rattle.py_walks.proofs.CompLaws.{comp_lacks, one_came, key_came}
use Rattle.py_walks.proofs.comp_turns.made_came.Goals as goal

pub returns-in-Past-clause-moves : goal.returns-in-Past-clause-moves
returns-in-Past-clause-moves c = comp_lacks c.args.functions.now c.args.frozen.now c.args.going.now c.args.budget c.args.comp (λ k x. made_came k x x.element c.args.walk c.args.outer c.args.done c.args.v) c.in-Past.ensures

pub returns-in-One-clause-moves : goal.returns-in-One-clause-moves
returns-in-One-clause-moves c = one_came c.args.functions.now c.args.frozen.now c.one_more.result c.args.going.now c.one_more.new.going c.args.budget c.args.comp (comp_seen c.in-Part.parts) c.args.walk c.args.outer c.args.done c.args.v _ c.in-Part.ensures (ap item_seen c.in-One.is) c.one_more.ensures.moves

pub returns-clause-moves : goal.returns-clause-moves
returns-clause-moves c = key_came c.args.functions.now c.args.frozen.now c.value_begun.result c.args.going.now c.value_begun.new.going c.args.budget c.args.comp (comp_seen c.in-Part.parts) c.args.walk c.args.outer c.args.done c.args.v _ _ c.in-Part.ensures (ap item_seen c.in-Two.is) c.value_begun.ensures.moves
