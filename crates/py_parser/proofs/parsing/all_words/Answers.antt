use Rattle.py_parser.specs.Files.{line_seen}
use Rattle.py_parser.specs.Parsing.{words_line}
use Rattle.py_parser.proofs.Mapped.{mapped-more}
use Rattle.py_parser.proofs.parsing.all_words.Goals as goal

pub loop-i-preserved : goal.loop-i-preserved
loop-i-preserved c =
    mapped-more line_seen (words_line c.args.text.now) c.loop-i.all.items c.push.new.self.items c.args.lines.now c.loop-i.i c.in_ok-words_in.field-0 c.line.result.now c.line.ensures c.in_ok-words_in.ensures c.loop-i.invariant c.in_ok-push.ensures.items
