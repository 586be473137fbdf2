use Rattle.std.proofs.Common.{◌≡◌, drop}
use Rattle.py_frames.specs.Functions.{is_given}
use Rattle.py_frames.proofs.keyword.is_given.Given as goal

abbrev pub invariant-loop-x : goal.invariant-loop-x
invariant-loop-x l = is_given l.name (drop l.x-index l.keywords) ≡ is_given l.name l.keywords
