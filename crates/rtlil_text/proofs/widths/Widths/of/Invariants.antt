use Rattle.std.proofs.Common.{◌≡◌, List, ℕ, take}
use Rattle.std.specs.BTreeMap.{get_by_text}
use Rattle.rtlil_text.specs.Written.{width_among}
use Rattle.rtlil_text.proofs.widths.Widths.of.Given as goal

abbrev pub invariant-loop-wire : goal.invariant-loop-wire
invariant-loop-wire l = (id : List ℕ) → get_by_text l.by_id id ≡ width_among (take l.wire-index l.wire-items) id
