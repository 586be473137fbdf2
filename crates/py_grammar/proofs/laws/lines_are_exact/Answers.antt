use Rattle.py_grammar.proofs.Lines.{line_read_is_derived, line_derived_is_read, one_line_form}
use Rattle.py_grammar.proofs.laws.lines_are_exact.Goals as goal

pub returns-clause-read_is_derived : goal.returns-clause-read_is_derived
returns-clause-read_is_derived c = line_read_is_derived

pub returns-clause-derived_is_read : goal.returns-clause-derived_is_read
returns-clause-derived_is_read c = line_derived_is_read

pub returns-clause-one_form : goal.returns-clause-one_form
returns-clause-one_form c = one_line_form
