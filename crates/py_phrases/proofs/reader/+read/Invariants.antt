use Rattle.std.proofs.Common.{◌≡◌, ◌≤◌, ◌+◌, ◌*◌, ◌-◌, map, [], length}
use Rattle.std.specs.Prelude.{codes}
use Rattle.py_tree.specs.Seen.{tree, link_tree, pair_tree, trailer_of, argument_of}
use Rattle.py_grammar.specs.Seen.{and_one, after_comma}
use Rattle.py_grammar.specs.Readers.{repeat, made, sign, ◌▹◌}
use Rattle.py_grammar.specs.Reading.{inner, operand, link, is_operator, trail, trails, plain_of, pair, arg, begins, begins_argument, comma_then}
use Rattle.py_phrases.proofs.reader.+read.Given as goal

abbrev pub decreases-read_inner : goal.decreases-read_inner
decreases-read_inner l = 64 * length l.words.now + (36)

abbrev pub decreases-read_target : goal.decreases-read_target
decreases-read_target l = 64 * length l.words.now + (5)

abbrev pub decreases-read_expr : goal.decreases-read_expr
decreases-read_expr l = 64 * length l.words.now + (35)

abbrev pub decreases-read_either : goal.decreases-read_either
decreases-read_either l = 64 * length l.words.now + (34)

abbrev pub decreases-read_chain : goal.decreases-read_chain
decreases-read_chain l = 64 * length l.words.now + (3 * l.k + 9)

abbrev pub decreases-read_operand : goal.decreases-read_operand
decreases-read_operand l = 64 * length l.words.now + (3 * l.k + 8)

abbrev pub decreases-read_links : goal.decreases-read_links
decreases-read_links l = 64 * length l.words.now + (1)

abbrev pub decreases-read_negated : goal.decreases-read_negated
decreases-read_negated l = 64 * length l.words.now + (28)

abbrev pub decreases-read_unary : goal.decreases-read_unary
decreases-read_unary l = 64 * length l.words.now + (7)

abbrev pub decreases-read_power : goal.decreases-read_power
decreases-read_power l = 64 * length l.words.now + (6)

abbrev pub decreases-read_awaited : goal.decreases-read_awaited
decreases-read_awaited l = 64 * length l.words.now + (5)

abbrev pub decreases-read_primary : goal.decreases-read_primary
decreases-read_primary l = 64 * length l.words.now + (4)

abbrev pub decreases-read_trails : goal.decreases-read_trails
decreases-read_trails l = 64 * length l.words.now + (3)

abbrev pub decreases-read_trail : goal.decreases-read_trail
decreases-read_trail l = 64 * length l.words.now + (2)

abbrev pub decreases-read_call : goal.decreases-read_call
decreases-read_call l = 64 * length l.words.now + (1)

abbrev pub decreases-read_argument : goal.decreases-read_argument
decreases-read_argument l = 64 * length l.words.now + (37)

abbrev pub decreases-read_arguments : goal.decreases-read_arguments
decreases-read_arguments l = 64 * length l.words.now + (1)

abbrev pub decreases-read_exprs : goal.decreases-read_exprs
decreases-read_exprs l = 64 * length l.words.now + (1)

abbrev pub decreases-read_other_arguments : goal.decreases-read_other_arguments
decreases-read_other_arguments l = 64 * length l.words.now + (2)

abbrev pub decreases-read_other_exprs : goal.decreases-read_other_exprs
decreases-read_other_exprs l = 64 * length l.words.now + (2)

abbrev pub decreases-read_other_pairs : goal.decreases-read_other_pairs
decreases-read_other_pairs l = 64 * length l.words.now + (2)

abbrev pub decreases-read_items : goal.decreases-read_items
decreases-read_items l = 64 * length l.words.now + (37)

abbrev pub decreases-read_comp : goal.decreases-read_comp
decreases-read_comp l = 64 * length l.words.now + (1)

abbrev pub decreases-read_pair : goal.decreases-read_pair
decreases-read_pair l = 64 * length l.words.now + (37)

abbrev pub decreases-read_pairs : goal.decreases-read_pairs
decreases-read_pairs l = 64 * length l.words.now + (1)

abbrev pub decreases-read_part : goal.decreases-read_part
decreases-read_part l = 64 * length l.words.now + (37)

abbrev pub decreases-read_index : goal.decreases-read_index
decreases-read_index l = 64 * length l.words.now + (38)

abbrev pub decreases-read_atom : goal.decreases-read_atom
decreases-read_atom l = 64 * length l.words.now + (3)

abbrev pub decreases-read_bracketed : goal.decreases-read_bracketed
decreases-read_bracketed l = 64 * length l.words.now + (2)

abbrev pub decreases-read_round : goal.decreases-read_round
decreases-read_round l = 64 * length l.words.now + (1)

abbrev pub decreases-read_square : goal.decreases-read_square
decreases-read_square l = 64 * length l.words.now + (1)

abbrev pub decreases-read_curly : goal.decreases-read_curly
decreases-read_curly l = 64 * length l.words.now + (1)

abbrev pub invariant-read_links-loop-turn : goal.invariant-read_links-loop-turn
invariant-read_links-loop-turn l = record {
  reads : repeat (is_operator l.k) (link l.k (operand (inner l.room) l.room l.k)) and_one (length l.words - l._turn) (map link_tree l.item.items, l.depth) l.rest ≡ repeat (is_operator l.k) (link l.k (operand (inner l.room) l.room l.k)) and_one (length l.words) ([], 0) l.words;
  shorter : length l.rest ≤ length l.words;
  shallow : l.depth ≤ l.room;
}

abbrev pub invariant-read_trails-loop-turn : goal.invariant-read_trails-loop-turn
invariant-read_trails-loop-turn l = record {
  reads : repeat trails (trail (inner l.room)) and_one (length l.words - l._turn) (map trailer_of l.item.items, l.depth) l.rest ≡ repeat trails (trail (inner l.room)) and_one (length l.words) ([], 0) l.words;
  shorter : length l.rest ≤ length l.words;
  shallow : l.depth ≤ l.room;
}

abbrev pub invariant-read_arguments-loop-turn : goal.invariant-read_arguments-loop-turn
invariant-read_arguments-loop-turn l = record {
  reads : repeat (comma_then begins_argument) (made after_comma (sign (codes ",") ▹ arg (inner l.room))) and_one (length l.words - l._turn) (map argument_of l.item.items, l.depth) l.rest ≡ repeat (comma_then begins_argument) (made after_comma (sign (codes ",") ▹ arg (inner l.room))) and_one (length l.words) ([], 0) l.words;
  shorter : length l.rest ≤ length l.words;
  shallow : l.depth ≤ l.room - 1;
}

abbrev pub invariant-read_exprs-loop-turn : goal.invariant-read_exprs-loop-turn
invariant-read_exprs-loop-turn l = record {
  reads : repeat (comma_then begins) (made after_comma (sign (codes ",") ▹ plain_of (inner l.room l.kind))) and_one (length l.words - l._turn) (map tree l.item.items, l.depth) l.rest ≡ repeat (comma_then begins) (made after_comma (sign (codes ",") ▹ plain_of (inner l.room l.kind))) and_one (length l.words) ([], 0) l.words;
  shorter : length l.rest ≤ length l.words;
  shallow : l.depth ≤ l.room - 1;
}

abbrev pub invariant-read_pairs-loop-turn : goal.invariant-read_pairs-loop-turn
invariant-read_pairs-loop-turn l = record {
  reads : repeat (comma_then begins) (made after_comma (sign (codes ",") ▹ pair (inner l.room))) and_one (length l.words - l._turn) (map pair_tree l.item.items, l.depth) l.rest ≡ repeat (comma_then begins) (made after_comma (sign (codes ",") ▹ pair (inner l.room))) and_one (length l.words) ([], 0) l.words;
  shorter : length l.rest ≤ length l.words;
  shallow : l.depth ≤ l.room - 1;
}
