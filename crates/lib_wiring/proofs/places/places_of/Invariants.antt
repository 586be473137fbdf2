use Rattle.std.proofs.Common.{◌≡◌, ◌≤◌, ℕ, List, length, drop}
use Rattle.std.specs.List.{position_from}
use Rattle.std.specs.BTreeMap.{get_by_text}
use Rattle.lib_wiring.specs.Wiring.{is_at}
use Rattle.lib_wiring.proofs.places.places_of.Given as goal

abbrev pub invariant-loop-i : goal.invariant-loop-i
invariant-loop-i l = record { within : l.i ≤ length l.leaves; places : (path : List ℕ) → get_by_text l.places path ≡ position_from (is_at path) l.i (drop l.i l.leaves) }

abbrev pub decreases-loop-i : goal.decreases-loop-i
decreases-loop-i l = l.i
