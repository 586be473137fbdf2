use Rattle.std.proofs.Common.{◌≡◌, false, map, drop}
use Rattle.py_tree.specs.Seen.{trailer_of}
use Rattle.py_tree.specs.Tree.{trailers}
use Rattle.py_frames.specs.Trailing.{ended}
use Rattle.py_frames.proofs.trail_leaf.last_is_call.Given as goal

abbrev pub invariant-loop-t : goal.invariant-loop-t
invariant-loop-t l = ended l.is (trailers (map trailer_of (drop l.t-index l.list))) ≡ ended false (trailers (map trailer_of l.list))
