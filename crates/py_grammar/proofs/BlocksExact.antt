-- The laws of files, from those of lines.
use Rattle.py_grammar.specs.Line_reading.{line_of}
use Rattle.py_grammar.specs.Block_reading.{program}
use Rattle.py_grammar.specs.Block_laws.{ProgramReadIsDerived, ProgramDerivedIsRead, OneProgram, RefusedIsFirst, FrontOfFront}
use Rattle.py_grammar.proofs.Lines.{line_read_is_derived, line_derived_is_read}
use Rattle.py_grammar.proofs.BlockLines.{Exact_form}
use Rattle.py_grammar.proofs.BlockLeads.{form_leads}
use Rattle.py_grammar.proofs.BlockFiles.{file_read, file_derived, file_once, file_refused, front_closed}

exact_lines : Exact_form (line_of 64)
exact_lines = record {
  sound = line_read_is_derived 64;
  complete = line_derived_is_read 64;
  elif_leads = λ ws f h. (form_leads 64 ws f h).elif_leads;
  else_leads = λ ws f h. (form_leads 64 ws f h).else_leads;
}

pub program_read : ProgramReadIsDerived
unfolding program
program_read lines body h = file_read (line_of 64) exact_lines lines body h

pub program_derived : ProgramDerivedIsRead
unfolding program
program_derived lines body d = file_derived (line_of 64) exact_lines lines body d

pub program_once : OneProgram
program_once lines body other d e = file_once (line_of 64) exact_lines lines body other d e

pub program_refused : RefusedIsFirst
unfolding program
program_refused lines line h = file_refused (line_of 64) exact_lines lines line h

pub fronts_closed : FrontOfFront
fronts_closed before after d = front_closed (line_of 64) exact_lines before after d
