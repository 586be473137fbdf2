-- each loop: what is made so far are the parts so far within the class
use Rattle.std.proofs.Common.{◌≡◌, map, take}
use Rattle.py_tree.specs.Seen.{tree, link_tree, pair_tree, trailer_of, argument_of}
use Rattle.private_names.proofs.Rows.{tree_within, link_within, pair_within, trailer_within, argument_within}
use Rattle.private_names.proofs.class.Class.+expr.Given as goal

abbrev pub invariant-exprs-loop-e : goal.invariant-exprs-loop-e
invariant-exprs-loop-e l = map tree l.made.items ≡ map (tree_within l.self.name) (take l.e-index l.e-items)

abbrev pub invariant-links-loop-link : goal.invariant-links-loop-link
invariant-links-loop-link l = map link_tree l.made.items ≡ map (link_within l.self.name) (take l.link-index l.link-items)

abbrev pub invariant-pairs-loop-pair : goal.invariant-pairs-loop-pair
invariant-pairs-loop-pair l = map pair_tree l.made.items ≡ map (pair_within l.self.name) (take l.pair-index l.pair-items)

abbrev pub invariant-trailers-loop-trailer : goal.invariant-trailers-loop-trailer
invariant-trailers-loop-trailer l = map trailer_of l.made.items ≡ map (trailer_within l.self.name) (take l.trailer-index l.trailer-items)

abbrev pub invariant-arguments-loop-argument : goal.invariant-arguments-loop-argument
invariant-arguments-loop-argument l = map argument_of l.made.items ≡ map (argument_within l.self.name) (take l.argument-index l.argument-items)
