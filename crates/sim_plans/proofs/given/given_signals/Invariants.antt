use Rattle.std.proofs.Common.{◌≡◌, ◌<◌, ◌||◌, ℕ, false, length, drop, slice_index_or}
use Rattle.std.specs.List.{AllByRecursion, list_any}
use Rattle.design_ir.specs.declared.memory.Memory.{Memory}
use Rattle.design_ir.specs.Circuits.{is_input}
use Rattle.design_ir.specs.Designs.{IsProcess}
use Rattle.sim_plans.specs.Given.{drives, gives}
use Rattle.sim_plans.proofs.given.given_signals.Given as goal

abbrev pub invariant-loop-p : goal.invariant-loop-p
invariant-loop-p l = record {
  count : length l.given.items ≡ length l.design.pool.signals;
  rules : AllByRecursion (IsProcess l.design) (drop l.p-index l.p-items);
  marks : (s : ℕ) → s < length l.design.pool.signals → (slice_index_or l.given.items s false || list_any (drives l.design.pool s) (drop l.p-index l.p-items)) ≡ (is_input l.design s || list_any (drives l.design.pool s) l.design.processes);
}

abbrev pub invariant-loop-m : goal.invariant-loop-m
invariant-loop-m l = record {
  count : length l.given.items ≡ length l.design.pool.signals;
  marks : (s : ℕ) → s < length l.design.pool.signals → (slice_index_or l.given.items s false || list_any (λ (m : Memory). gives m s) (drop l.m-index l.m-items)) ≡ ((is_input l.design s || list_any (drives l.design.pool s) l.design.processes) || list_any (λ (m : Memory). gives m s) l.design.memories);
}
