use Rattle.std.proofs.Common.{rules}
use Rattle.py_parser.proofs.Runs.{commas_made}
use Rattle.py_parser.proofs.params.read_listed.Goals as goal

pub returns-in_err-first-clause-reads : goal.returns-in_err-first-clause-reads
returns-in_err-first-clause-reads c = rw commas_made (search rules)

pub returns-in_err-others-clause-reads : goal.returns-in_err-others-clause-reads
returns-in_err-others-clause-reads c = rw commas_made (search rules)

pub returns-clause-reads : goal.returns-clause-reads
returns-clause-reads c = rw commas_made (search rules)
