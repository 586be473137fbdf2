use Rattle.std.proofs.Common.{arith, length, map, rules}
use Rattle.std.specs.Prelude.{codes}
use Rattle.py_tree.specs.Programs.{parameter_of}
use Rattle.py_grammar.specs.Readers.{made, sign, ◌▹◌}
use Rattle.py_grammar.specs.Reading.{inner, comma_then}
use Rattle.py_grammar.specs.Line_reading.{param, param_next}
use Rattle.py_parser.specs.Line_forms.{second}
use Rattle.py_words.proofs.Lists.{map_pushed}
use Rattle.py_phrases.proofs.Loops.{made_reads, then_reads}
use Rattle.py_parser.proofs.Runs.{push_turn}
use Rattle.py_parser.proofs.params.read_other_params.Goals as goal

pub loop-turn-preserved : goal.loop-turn-preserved
loop-turn-preserved c = record {
  reads = push_turn (comma_then param_next) (made second (sign (codes ",") ▹ param (inner c.args.room))) (length c.args.words.now) c.loop-turn._turn (map parameter_of c.loop-turn.params.items) (map parameter_of c.push.new.self.items) (parameter_of c.in_ok-param.param) c.loop-turn.rest.now c.in_ok-param.after.now _ c.loop-turn.invariant.reads c.loop-turn-test.true (map_pushed parameter_of _ _ _ c.in_ok-push.ensures.items) (search rules) (made_reads second (sign (codes ",") ▹ param (inner c.args.room)) c.loop-turn.rest.now c.in_ok-param.after.now _ (then_reads (sign (codes ",")) (param (inner c.args.room)) c.loop-turn.rest.now c.in_ok-after.after.now c.in_ok-param.after.now _ _ c.in_ok-after.ensures.reads c.in_ok-param.ensures.reads));
  shorter = omega (arith, c.loop-turn.invariant.shorter, c.in_ok-param.ensures.shorter, c.in_ok-after.ensures.shorter);
}
