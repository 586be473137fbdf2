use Rattle.std.proofs.Common.{◌≡◌, drop, map, string_bytes}
use Rattle.std.specs.List.{list_any}
use Rattle.elab_components.specs.Classes.{is_keyword}
use Rattle.elab_components.proofs.classes.has_keyword.Given as goal

abbrev pub invariant-loop-name : goal.invariant-loop-name
invariant-loop-name l = list_any is_keyword (map string_bytes (drop l.name-index l.names)) ≡ list_any is_keyword (map string_bytes l.names)
