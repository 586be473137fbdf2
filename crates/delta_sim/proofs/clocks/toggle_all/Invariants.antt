use Rattle.std.proofs.Common.{◌≡◌, ◌<◌, length, drop, fold}
use Rattle.std.specs.List.{AllByRecursion}
use Rattle.design_ir.specs.declared.ids.DomainId.{DomainId}
use Rattle.design_ir.specs.Steps.{toggle}
use Rattle.design_ir.proofs.NumbersFit.{FitsSignals}
use Rattle.delta_sim.proofs.clocks.toggle_all.Given as goal

abbrev pub invariant-loop-d : goal.invariant-loop-d
invariant-loop-d l = record {
  there : AllByRecursion (λ (d : DomainId). d.0 < length l.design.domains) (drop l.d-index l.listed);
  signals : length l.cur ≡ length l.design.pool.signals;
  fits : FitsSignals l.design.pool l.cur;
  all : fold (toggle l.design.domains) l.cur (drop l.d-index l.listed) ≡ fold (toggle l.design.domains) l.fn.cur l.listed;
}
