use Rattle.std.proofs.Common.{◌≡◌, map, drop, false}
use Rattle.py_tree.specs.Tree.{trailers}
use Rattle.py_tree.specs.Seen.{trailer_of}
use Rattle.py_grammar.specs.Seen.{ends_in_place}
use Rattle.py_words.proofs.target.last_is_assignable.Given as goal

abbrev pub invariant-loop-trailer : goal.invariant-loop-trailer
invariant-loop-trailer l = ends_in_place l.last (trailers (map trailer_of (drop l.trailer-index l.trailers))) ≡ ends_in_place false (trailers (map trailer_of l.trailers))
