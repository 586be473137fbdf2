use Rattle.py_parser.proofs.BlockLines.{found_comes}
use Rattle.py_parser.proofs.block_parts.line_at.Goals as goal

pub returns : goal.returns
returns c = found_comes (λ l. l.now) c.args.lines.now c.args.at c.get.result c.get.ensures.lookup.3
