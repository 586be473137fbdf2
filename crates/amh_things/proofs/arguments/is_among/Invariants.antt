use Rattle.std.proofs.Common.{◌≡◌, map, drop}
use Rattle.amh_things.specs.Arguments.{is_among}
use Rattle.amh_things.proofs.arguments.is_among.Given as goal

abbrev pub invariant-loop-name : goal.invariant-loop-name
invariant-loop-name l = is_among (map (λ p. p.now) (drop l.name-index l.names)) l.key ≡ is_among (map (λ p. p.now) l.names) l.key
