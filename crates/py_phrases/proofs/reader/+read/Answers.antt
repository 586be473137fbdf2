use Rattle.std.proofs.Common.{rules, arith, length}
use Rattle.std.specs.Prelude.{codes}
use Rattle.py_tree.specs.Seen.{tree, link_tree, pair_tree, trailer_of, argument_of}
use Rattle.py_grammar.specs.Seen.{after_comma}
use Rattle.py_grammar.specs.Readers.{made, sign, ◌▹◌}
use Rattle.py_grammar.specs.Reading.{inner, operand, link, is_operator, trail, trails, plain_of, pair, arg, begins, begins_argument, comma_then}
use Rattle.py_words.specs.Phrases.{seen_of, deep_of}
use Rattle.py_phrases.proofs.Loops.{repeat_turn, repeat_turn_as, link_reads, comma_reads, plain_reads}
use Rattle.py_phrases.proofs.reader.+read.Goals as goal

pub read_links-loop-turn-preserved : goal.read_links-loop-turn-preserved
read_links-loop-turn-preserved t c = record {
  reads = repeat_turn_as link_tree (is_operator c.args.k) (link c.args.k (operand (inner c.args.room) c.args.room c.args.k)) (length c.args.words.now) c.loop-turn._turn c.loop-turn.item.items c.push.new.self.items c.loop-turn.depth c.max-depth.result _ (c.in_ok-operator.operator, tree c.in_ok-operand.operand.expr) c.in_ok-operand.operand.depth c.loop-turn.rest.now c.in_ok-operand.after.now _ c.loop-turn.invariant.reads c.loop-turn-test.true c.in_ok-push.ensures.items c.link.ensures (search rules) (link_reads c.args.k (operand (inner c.args.room) c.args.room c.args.k) c.loop-turn.rest.now c.in_ok-operator.after.now c.in_ok-operand.after.now c.in_ok-operator.operator (seen_of c.in_ok-operand.operand) c.in_ok-operator.ensures.reads c.in_ok-operand.ensures.reads) c.max-depth.ensures;
  shorter = omega (arith, c.loop-turn.invariant.shorter, c.in_ok-operand.ensures.shorter, c.in_ok-operator.ensures.shorter);
  shallow = omega (arith, c.loop-turn.invariant.shallow, c.in_ok-operand.ensures.shallow, c.max-depth.ensures);
}

pub read_trails-loop-turn-preserved : goal.read_trails-loop-turn-preserved
read_trails-loop-turn-preserved t c = record {
  reads = repeat_turn trailer_of trails (trail (inner c.args.room)) (length c.args.words.now) c.loop-turn._turn c.loop-turn.item.items c.push.new.self.items c.loop-turn.depth c.max-depth.result _ c.in_ok-trailer.trailer.depth c.loop-turn.rest.now c.in_ok-trailer.after.now _ c.loop-turn.invariant.reads c.loop-turn-test.true c.in_ok-push.ensures.items (search rules) c.in_ok-trailer.ensures.reads c.max-depth.ensures;
  shorter = omega (arith, c.loop-turn.invariant.shorter, c.in_ok-trailer.ensures.shorter);
  shallow = omega (arith, c.loop-turn.invariant.shallow, c.in_ok-trailer.ensures.shallow, c.max-depth.ensures);
}

pub read_arguments-loop-turn-preserved : goal.read_arguments-loop-turn-preserved
read_arguments-loop-turn-preserved t c = record {
  reads = repeat_turn argument_of (comma_then begins_argument) (made after_comma (sign (codes ",") ▹ arg (inner c.args.room))) (length c.args.words.now) c.loop-turn._turn c.loop-turn.item.items c.push.new.self.items c.loop-turn.depth c.max-depth.result _ c.in_ok-next.next.depth c.loop-turn.rest.now c.in_ok-next.after.now _ c.loop-turn.invariant.reads c.loop-turn-test.true c.in_ok-push.ensures.items (search rules) (comma_reads (arg (inner c.args.room)) c.loop-turn.rest.now c.in_ok-after.after.now c.in_ok-next.after.now _ (deep_of argument_of c.in_ok-next.next) c.in_ok-after.ensures.reads c.in_ok-next.ensures.reads) c.max-depth.ensures;
  shorter = omega (arith, c.loop-turn.invariant.shorter, c.in_ok-next.ensures.shorter, c.in_ok-after.ensures.shorter);
  shallow = omega (arith, c.loop-turn.invariant.shallow, c.in_ok-next.ensures.shallow, c.max-depth.ensures);
}

pub read_exprs-loop-turn-preserved : goal.read_exprs-loop-turn-preserved
read_exprs-loop-turn-preserved t c = record {
  reads = repeat_turn tree (comma_then begins) (made after_comma (sign (codes ",") ▹ plain_of (inner c.args.room c.args.kind))) (length c.args.words.now) c.loop-turn._turn c.loop-turn.item.items c.push.new.self.items c.loop-turn.depth c.max-depth.result _ c.in_ok-next.next.depth c.loop-turn.rest.now c.in_ok-next.after.now _ c.loop-turn.invariant.reads c.loop-turn-test.true c.in_ok-push.ensures.items (search rules) (comma_reads (plain_of (inner c.args.room c.args.kind)) c.loop-turn.rest.now c.in_ok-after.after.now c.in_ok-next.after.now _ (tree c.in_ok-next.next.expr, c.in_ok-next.next.depth) c.in_ok-after.ensures.reads (plain_reads (inner c.args.room c.args.kind) c.in_ok-after.after.now c.in_ok-next.after.now (seen_of c.in_ok-next.next) c.in_ok-next.ensures.reads)) c.max-depth.ensures;
  shorter = omega (arith, c.loop-turn.invariant.shorter, c.in_ok-next.ensures.shorter, c.in_ok-after.ensures.shorter);
  shallow = omega (arith, c.loop-turn.invariant.shallow, c.in_ok-next.ensures.shallow, c.max-depth.ensures);
}

pub read_pairs-loop-turn-preserved : goal.read_pairs-loop-turn-preserved
read_pairs-loop-turn-preserved t c = record {
  reads = repeat_turn pair_tree (comma_then begins) (made after_comma (sign (codes ",") ▹ pair (inner c.args.room))) (length c.args.words.now) c.loop-turn._turn c.loop-turn.item.items c.push.new.self.items c.loop-turn.depth c.max-depth.result _ c.in_ok-next.next.depth c.loop-turn.rest.now c.in_ok-next.after.now _ c.loop-turn.invariant.reads c.loop-turn-test.true c.in_ok-push.ensures.items (search rules) (comma_reads (pair (inner c.args.room)) c.loop-turn.rest.now c.in_ok-after.after.now c.in_ok-next.after.now _ (deep_of pair_tree c.in_ok-next.next) c.in_ok-after.ensures.reads c.in_ok-next.ensures.reads) c.max-depth.ensures;
  shorter = omega (arith, c.loop-turn.invariant.shorter, c.in_ok-next.ensures.shorter, c.in_ok-after.ensures.shorter);
  shallow = omega (arith, c.loop-turn.invariant.shallow, c.in_ok-next.ensures.shallow, c.max-depth.ensures);
}
