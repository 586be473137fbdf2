use Rattle.std.proofs.Common.{◌≡◌, take}
use Rattle.clock_domains.specs.Resolved.{ports_named}
use Rattle.clock_domains.proofs.columns.ports_named.Given as goal

abbrev pub invariant-loop-n : goal.invariant-loop-n
invariant-loop-n l = l.named ≡ ports_named (take l.n l.ports) (take l.n l.columns)
