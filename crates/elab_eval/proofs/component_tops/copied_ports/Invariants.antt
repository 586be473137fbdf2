use Rattle.std.proofs.Common.{◌≡◌, take}
use Rattle.elab_eval.proofs.component_tops.copied_ports.Given as goal

abbrev pub invariant-loop-port : goal.invariant-loop-port
invariant-loop-port l = l.all ≡ take l.port-index l.ports
