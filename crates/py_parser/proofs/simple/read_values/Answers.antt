use Rattle.std.proofs.Common.{arith, length, map, rules, refl, ◌++◌, ◌∷◌, []}
use Rattle.std.specs.Prelude.{codes}
use Rattle.py_tree.specs.Seen.{tree}
use Rattle.py_grammar.specs.Words.{next_sign}
use Rattle.py_grammar.specs.Readers.{sign, ◌▹◌}
use Rattle.py_grammar.specs.Reading.{inner}
use Rattle.py_grammar.specs.Line_reading.{exprs}
use Rattle.py_words.specs.Phrases.{seen_of}
use Rattle.py_parser.specs.Line_forms.{one_more}
use Rattle.py_words.proofs.Lists.{map_pushed}
use Rattle.py_phrases.proofs.Loops.{then_reads}
use Rattle.py_parser.proofs.Runs.{add_turn}
use Rattle.py_parser.proofs.Assigned.{pair_same}
use Rattle.py_parser.proofs.simple.read_values.Goals as goal

pub loop-turn-preserved : goal.loop-turn-preserved
loop-turn-preserved c = record {
  reads = add_turn (next_sign (codes "=")) (sign (codes "=") ▹ exprs (inner c.args.room)) one_more (length c.args.words.now) c.loop-turn._turn (map tree c.loop-turn.before.items, tree c.loop-turn.last) (map tree c.push.new.self.items, tree c.in_ok-next.next.expr) _ c.loop-turn.rest.now c.in_ok-next.after.now _ c.loop-turn.invariant.reads c.loop-turn-test.true (pair_same (map tree c.push.new.self.items) (map tree c.loop-turn.before.items ++ tree c.loop-turn.last ∷ []) (tree c.in_ok-next.next.expr) (tree c.in_ok-next.next.expr) (map_pushed tree _ _ _ c.in_ok-push.ensures.items) refl) (search rules) (then_reads (sign (codes "=")) (exprs (inner c.args.room)) c.loop-turn.rest.now c.in_ok-after.after.now c.in_ok-next.after.now c.in_ok-after.field-0-0 (seen_of c.in_ok-next.next) c.in_ok-after.ensures.reads c.in_ok-next.ensures.reads);
  shorter = omega (arith, c.loop-turn.invariant.shorter, c.in_ok-next.ensures.shorter, c.in_ok-after.ensures.shorter);
}
