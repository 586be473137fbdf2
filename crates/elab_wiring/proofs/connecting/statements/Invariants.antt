use Rattle.std.proofs.Common.{◌≡◌, map, take}
use Rattle.elab_wiring.specs.Connections.{linked}
use Rattle.elab_wiring.proofs.connecting.statements.Given as goal

abbrev pub invariant-loop-link : goal.invariant-loop-link
invariant-loop-link l = l.equations.items ≡ map (linked l.place) (take l.link-index l.links)
