use Rattle.py_definitions.proofs.DefGoes.{class_goes, file_goes}
use Rattle.py_definitions.proofs.def_goes.def_left.Goals as goal

pub returns-in-ClassBody-clause-moves : goal.returns-in-ClassBody-clause-moves
returns-in-ClassBody-clause-moves c = class_goes _ _ _ _ _ _ _ _ _ _ _ _ _ _ c.in-ClassBody.is c.into_inner.ensures c.class_left.ensures.moves

pub returns-in-FileBody-clause-moves : goal.returns-in-FileBody-clause-moves
returns-in-FileBody-clause-moves c = file_goes _ _ _ _ _ _ _ _ c.in-FileBody.is c.file_left.ensures.moves
