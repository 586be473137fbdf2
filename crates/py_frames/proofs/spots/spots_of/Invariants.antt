use Rattle.std.proofs.Common.{take}
use Rattle.py_frames.proofs.TableLaws.{AreFirst}
use Rattle.py_frames.proofs.spots.spots_of.Given as goal

abbrev pub invariant-loop-known : goal.invariant-loop-known
invariant-loop-known l = AreFirst l.spots.keys l.known-index (take l.known-index l.table)
