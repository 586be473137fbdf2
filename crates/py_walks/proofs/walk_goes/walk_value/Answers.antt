-- Each kind of frame goes on with its value.
use Rattle.py_frames.specs.declared.state.Got.TheVariants.{Next}
use Rattle.py_frames.proofs.StmtLaws.{came_goes}
use Rattle.py_walks.proofs.WalkGoes.{value_as, pair_as}
use Rattle.py_walks.proofs.walk_goes.walk_value.Goals as goal

pub returns-in-Source-clause-moves : goal.returns-in-Source-clause-moves
returns-in-Source-clause-moves c = value_as _ _ _ _ _ _ _ _ _ c.in-Source.is c.source_came.ensures.moves

pub returns-in-SourceRow-clause-moves : goal.returns-in-SourceRow-clause-moves
returns-in-SourceRow-clause-moves c = value_as _ _ _ _ _ _ _ _ _ c.in-SourceRow.is c.source_row_came.ensures.moves

pub returns-in-Tested-clause-moves : goal.returns-in-Tested-clause-moves
returns-in-Tested-clause-moves c = value_as _ _ _ _ _ _ _ _ _ c.in-Tested.is c.tested_came.ensures.moves

pub returns-in-Made-clause-moves : goal.returns-in-Made-clause-moves
returns-in-Made-clause-moves c = value_as _ _ _ _ _ _ _ _ _ c.in-Made.is c.made_came.ensures.moves

pub returns-in-PairMade-clause-moves : goal.returns-in-PairMade-clause-moves
returns-in-PairMade-clause-moves c = pair_as _ _ _ _ _ _ _ _ c.in-PairMade.walk _ _ _ _ _ c.in-PairMade.is c.into_inner.ensures c.pair_made_came.ensures.moves

pub returns-in-Unpacked-clause-moves : goal.returns-in-Unpacked-clause-moves
returns-in-Unpacked-clause-moves c = value_as _ _ _ _ _ _ _ _ _ c.in-Unpacked.is c.unpacked.ensures.moves

pub returns-in-StoredAt-clause-moves : goal.returns-in-StoredAt-clause-moves
returns-in-StoredAt-clause-moves c = value_as _ _ _ _ _ _ _ _ _ c.in-StoredAt.is c.store_index.ensures.moves

pub returns-in-Bound-clause-moves : goal.returns-in-Bound-clause-moves
returns-in-Bound-clause-moves c = value_as _ _ _ _ _ _ _ _ _ c.in-Bound.is (came_goes c.args.functions.now c.args.frozen.now c.args.going.now c.args.budget Next)

pub returns-clause-moves : goal.returns-clause-moves
returns-clause-moves c = value_as _ _ _ _ _ _ _ _ _ c.in-Unpacking.is (came_goes c.args.functions.now c.args.frozen.now c.args.going.now c.args.budget Next)
