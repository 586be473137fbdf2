use Rattle.std.proofs.Common.{◌≡◌, map, take}
use Rattle.design_table.specs.Tests.{column_of}
use Rattle.design_table.proofs.sound.columns_of.Given as goal

abbrev pub invariant-loop-port : goal.invariant-loop-port
invariant-loop-port l = l.columns ≡ map column_of (take l.port-index l.ports)
