use Rattle.py_callables.proofs.attribute.attribute_by.Goals as goal

pub returns-in-Object-clause-moves : goal.returns-in-Object-clause-moves
returns-in-Object-clause-moves c = rw c.in-Object.is c.object_attribute.ensures.moves

pub returns-in-Class-clause-moves : goal.returns-in-Class-clause-moves
returns-in-Class-clause-moves c = rw c.in-Class.is c.class_attribute.ensures.moves

pub returns-in-Func-clause-moves : goal.returns-in-Func-clause-moves
returns-in-Func-clause-moves c = rw c.in-Func.is c.func_attribute.ensures.moves

pub returns-in-List-clause-moves : goal.returns-in-List-clause-moves
returns-in-List-clause-moves c = rw c.in-List.is c.list_attribute.ensures.moves

pub returns-in-Dict-clause-moves : goal.returns-in-Dict-clause-moves
returns-in-Dict-clause-moves c = rw c.in-Dict.is c.dict_attribute.ensures.moves
