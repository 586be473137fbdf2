use Rattle.std.proofs.Common.{◌≡◌, drop}
use Rattle.std.specs.List.{list_any}
use Rattle.std.specs.Prelude.{◌==◌}
use Rattle.design_ir.specs.declared.domain.Domain.{Domain}
use Rattle.design_ir.specs.Circuits.{is_clock}
use Rattle.bench_acts.proofs.targets.is_clock.Given as goal

abbrev pub invariant-loop-d : goal.invariant-loop-d
invariant-loop-d l = list_any (λ (d : Domain). d.clk.0 == l.sig.0) (drop l.d l.design.domains) ≡ is_clock l.design l.sig.0
