use Rattle.std.proofs.Common.{◌≡◌, map, take}
use Rattle.design_ir.specs.declared.process.Side.{Side}
use Rattle.domain_transforms.specs.Changes.{id_of}
use Rattle.domain_transforms.specs.Renamed.{side_statements}
use Rattle.domain_transforms.proofs.renaming.renamed_processes.Given as goal

abbrev pub invariant-loop-side : goal.invariant-loop-side
invariant-loop-side l = l.all ≡ map (λ (s : Side). record { side = s; body = side_statements l.names (id_of l.ids) s l.processes }) (take l.side-index l.side-items)
