use Rattle.std.proofs.Common.{◌+◌, ◌*◌, length}
use denote.Shadow.{shadow}
use denote.Text.{Utf8}
use Rattle.machine_table.proofs.shown.Shown.+shown.Given as goal

abbrev pub decreases-within : goal.decreases-within
decreases-within l = 4 * l.depth

abbrev pub decreases-listed : goal.decreases-listed
decreases-listed l = 4 * l.depth + 1

abbrev pub decreases-bracketed : goal.decreases-bracketed
decreases-bracketed l = 4 * l.depth + 2

abbrev pub decreases-tuple : goal.decreases-tuple
decreases-tuple l = 4 * l.depth + 3

abbrev pub decreases-dict : goal.decreases-dict
decreases-dict l = 4 * l.depth + 1

abbrev pub decreases-class : goal.decreases-class
decreases-class l = 4 * l.depth + 2

abbrev pub decreases-object : goal.decreases-object
decreases-object l = 4 * l.depth + 2

abbrev pub decreases-attributes : goal.decreases-attributes
decreases-attributes l = 4 * l.depth + 1

abbrev pub decreases-dict-loop-rest : goal.decreases-dict-loop-rest
decreases-dict-loop-rest l = length l.rest

abbrev pub decreases-attributes-loop-rest : goal.decreases-attributes-loop-rest
decreases-attributes-loop-rest l = length l.rest

-- what stands between two values is text

abbrev pub invariant-listed-loop-v : goal.invariant-listed-loop-v
invariant-listed-loop-v l = shadow (Utf8 l.between)

abbrev pub invariant-dict-loop-rest : goal.invariant-dict-loop-rest
invariant-dict-loop-rest l = shadow (Utf8 l.between)

abbrev pub invariant-attributes-loop-rest : goal.invariant-attributes-loop-rest
invariant-attributes-loop-rest l = shadow (Utf8 l.between)
