-- A block goes on under its frame.
use Rattle.py_turns.proofs.BlockLaws.{block_waited}
use Rattle.py_turns.proofs.block.block_under.Goals as goal

pub returns-in-Ok-clause-moves : goal.returns-in-Ok-clause-moves
returns-in-Ok-clause-moves c = block_waited c.args.functions.now c.args.frozen.now c.run_block.result c.args.going.now c.run_block.new.going c.args.budget c.args.frame _ c.args.block.now c.requires c.in-Ok.ensures c.run_block.ensures.moves
