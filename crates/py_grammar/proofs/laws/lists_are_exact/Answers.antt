use Rattle.py_grammar.proofs.Whole.{exprs_read_is_derived, exprs_derived_is_read, exprs_read_once}
use Rattle.py_grammar.proofs.laws.lists_are_exact.Goals as goal

pub returns-clause-read_is_derived : goal.returns-clause-read_is_derived
returns-clause-read_is_derived c = exprs_read_is_derived

pub returns-clause-derived_is_read : goal.returns-clause-derived_is_read
returns-clause-derived_is_read c = exprs_derived_is_read

pub returns-clause-one_tree : goal.returns-clause-one_tree
returns-clause-one_tree c = exprs_read_once
