use Rattle.std.proofs.Common.{◌≡◌, drop, map, string_bytes}
use Rattle.std.specs.List.{list_any}
use Rattle.layout_acts.specs.Enumerations.{is_other_keyword}
use Rattle.layout_acts.proofs.enumerations.has_other_keyword.Given as goal

abbrev pub invariant-loop-name : goal.invariant-loop-name
invariant-loop-name l = list_any is_other_keyword (map string_bytes (drop l.name-index l.names)) ≡ list_any is_other_keyword (map string_bytes l.names)
