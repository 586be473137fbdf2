use Rattle.std.proofs.Common.{◌≡◌, map, take}
use Rattle.design_ir.specs.declared.ids.SigId.{SigId}
use Rattle.clock_domains.specs.Firsts.{known_column}
use Rattle.clock_domains.proofs.columns.register_columns.Given as goal

abbrev pub invariant-loop-s : goal.invariant-loop-s
invariant-loop-s l = l.columns ≡ map (known_column l.pool l.domains l.paths l.sites) (map (λ (s : SigId). s.0) (take l.s-index l.registers))
