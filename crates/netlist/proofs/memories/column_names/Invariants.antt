use Rattle.std.proofs.Common.{◌≡◌, ◌++◌, [], drop, map}
use Rattle.design_ir.specs.declared.port.Column.{Column}
use Rattle.new_names.specs.Fresh.{given_names}
use Rattle.netlist.proofs.memories.column_names.Given as goal

abbrev pub invariant-loop-k : goal.invariant-loop-k
invariant-loop-k l = l.names ++ given_names l.names (map (λ (x : Column). x.name) (drop l.k l.design.columns)) ≡ given_names [] (map (λ (x : Column). x.name) l.design.columns)
