use Rattle.py_grammar.proofs.Whole.{read_is_derived, derived_is_read, read_once}
use Rattle.py_grammar.proofs.laws.expressions_are_exact.Goals as goal

pub returns-clause-read_is_derived : goal.returns-clause-read_is_derived
returns-clause-read_is_derived c = read_is_derived

pub returns-clause-derived_is_read : goal.returns-clause-derived_is_read
returns-clause-derived_is_read c = derived_is_read

pub returns-clause-one_tree : goal.returns-clause-one_tree
returns-clause-one_tree c = read_once
