use Rattle.py_grammar.proofs.BlocksExact.{program_read, program_derived, program_once, program_refused, fronts_closed}
use Rattle.py_grammar.proofs.laws.programs_are_exact.Goals as goal

pub returns-clause-read_is_derived : goal.returns-clause-read_is_derived
returns-clause-read_is_derived c = program_read

pub returns-clause-derived_is_read : goal.returns-clause-derived_is_read
returns-clause-derived_is_read c = program_derived

pub returns-clause-one_program : goal.returns-clause-one_program
returns-clause-one_program c = program_once

pub returns-clause-refused_is_first : goal.returns-clause-refused_is_first
returns-clause-refused_is_first c = program_refused

pub returns-clause-front_of_front : goal.returns-clause-front_of_front
returns-clause-front_of_front c = fronts_closed
