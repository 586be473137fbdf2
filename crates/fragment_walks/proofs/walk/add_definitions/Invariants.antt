use Rattle.std.proofs.Common.{◌≡◌, ◌++◌, map, take}
use Rattle.design_ir.specs.declared.domain.DomainDef.{DomainDef}
use Rattle.fragment_walks.proofs.walk.add_definitions.Given as goal

abbrev pub invariant-loop-definition : goal.invariant-loop-definition
invariant-loop-definition l = l.names ≡ l.fn.names ++ map (λ (d : DomainDef). d.domain.name) (take l.definition-index l.definitions)
