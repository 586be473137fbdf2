use Rattle.std.proofs.Common.{arith, length, rules}
use Rattle.std.specs.Prelude.{codes}
use Rattle.py_grammar.specs.Words.{name_of, next_sign}
use Rattle.py_grammar.specs.Readers.{made, one, sign, ◌▹◌}
use Rattle.py_parser.specs.Line_forms.{name_behind}
use Rattle.py_phrases.proofs.Loops.{made_reads, then_reads}
use Rattle.py_parser.proofs.Runs.{push_turn}
use Rattle.py_parser.proofs.imports.read_dots.Goals as goal

pub loop-turn-preserved : goal.loop-turn-preserved
loop-turn-preserved c = record {
  reads = push_turn (next_sign (codes ".")) (made name_behind (sign (codes ".") ▹ one name_of)) (length c.args.words.now) c.loop-turn._turn c.loop-turn.path.items c.push.new.self.items c.in_ok-name.name c.loop-turn.rest.now c.in_ok-name.after.now _ c.loop-turn.invariant.reads c.loop-turn-test.true c.in_ok-push.ensures.items (search rules) (made_reads name_behind (sign (codes ".") ▹ one name_of) c.loop-turn.rest.now c.in_ok-name.after.now _ (then_reads (sign (codes ".")) (one name_of) c.loop-turn.rest.now c.in_ok-after.after.now c.in_ok-name.after.now _ _ c.in_ok-after.ensures.reads c.in_ok-name.ensures.reads));
  shorter = omega (arith, c.loop-turn.invariant.shorter, c.in_ok-name.ensures.shorter, c.in_ok-after.ensures.shorter);
}
