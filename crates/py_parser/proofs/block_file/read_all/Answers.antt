use Rattle.std.proofs.Common.{rules, ◌≡◌, ◌∙◌, ap, sym, length}
use Rattle.py_tree.specs.Programs.{steps_of}
use Rattle.py_tree.specs.Steps.{Steps, last}
use Rattle.py_grammar.specs.Block_reading.{Whole}
use Rattle.py_parser.proofs.BlockWholes.{no_lines}
use Rattle.py_parser.proofs.block_file.read_all.Goals as goal

pub returns-then-is_empty : goal.returns-then-is_empty
returns-then-is_empty g c =
    let none : length c.args.lines.now ≡ 0 = search rules in
    let empty : steps_of c.in_ok-body.body ≡ last = search rules in
    no_lines c.args.lines.now none ∙ ap (λ (z : Steps). Whole z) (sym empty)
