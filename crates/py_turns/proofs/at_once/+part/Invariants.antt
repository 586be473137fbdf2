-- Each step goes a level down, or on to the parts of one.
use Rattle.std.proofs.Common.{◌+◌, ◌*◌}
use Rattle.py_turns.proofs.at_once.+part.Given as goal

abbrev pub decreases-part_at_once : goal.decreases-part_at_once
decreases-part_at_once l = 3 * l.depth

abbrev pub decreases-link_at_once : goal.decreases-link_at_once
decreases-link_at_once l = 3 * l.depth + 1

abbrev pub decreases-item_at_once : goal.decreases-item_at_once
decreases-item_at_once l = 3 * l.depth + 1

abbrev pub decreases-trailer_at_once : goal.decreases-trailer_at_once
decreases-trailer_at_once l = 3 * l.depth + 2
