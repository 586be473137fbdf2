use Rattle.std.proofs.Common.{◌≡◌, drop, map, string_bytes}
use Rattle.elab_machines.specs.StateMachines.{machine_keywords}
use Rattle.elab_machines.proofs.state_machines.machine_keywords.Given as goal

abbrev pub invariant-loop-i : goal.invariant-loop-i
invariant-loop-i l = machine_keywords (map string_bytes (drop l.i l.keywords)) (drop l.i l.vals) l.args ≡ machine_keywords (map string_bytes l.keywords) l.vals l.fn.args
