use Rattle.py_parser.proofs.BlockWholes.{judges}
use Rattle.py_parser.proofs.block_file.read_program.Goals as goal

pub returns-clause-judges : goal.returns-clause-judges
returns-clause-judges g c = judges c.programs_are_exact.ensures.read_is_derived c.programs_are_exact.ensures.refused_is_first c.args.lines.now c.read_all.result c.read_all.ensures
