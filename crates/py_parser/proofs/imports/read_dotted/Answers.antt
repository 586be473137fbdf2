use Rattle.std.proofs.Common.{rules}
use Rattle.py_parser.proofs.Runs.{dotted_made}
use Rattle.py_parser.proofs.imports.read_dotted.Goals as goal

pub returns-in_err-first-clause-reads : goal.returns-in_err-first-clause-reads
returns-in_err-first-clause-reads c = rw dotted_made (search rules)

pub returns-in_err-others-clause-reads : goal.returns-in_err-others-clause-reads
returns-in_err-others-clause-reads c = rw dotted_made (search rules)

pub returns-clause-reads : goal.returns-clause-reads
returns-clause-reads c = rw dotted_made (search rules)
