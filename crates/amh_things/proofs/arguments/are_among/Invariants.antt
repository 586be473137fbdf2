use Rattle.std.proofs.Common.{◌≡◌, map, drop, string_bytes}
use Rattle.std.specs.List.{list_all}
use Rattle.amh_things.specs.Arguments.{is_among}
use Rattle.amh_things.proofs.arguments.are_among.Given as goal

abbrev pub invariant-loop-key : goal.invariant-loop-key
invariant-loop-key l = list_all (is_among (map (λ p. p.now) l.names)) (map string_bytes (drop l.key-index l.keys)) ≡ list_all (is_among (map (λ p. p.now) l.names)) (map string_bytes l.keys)
