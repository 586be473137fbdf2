-- The bits of a register: what its cell keeps, first and from step to step.
use Rattle.std.specs.Prelude.{◌≡◌, ℕ, ◌+◌, ◌*◌, ◌<◌, ◌≤◌, Bool, length, slice_get, Option, Some, None, option_and_then, cond}
use Rattle.std.proofs.Common.{refl, sym, ap, ◌∙◌, arith, subst, inl, inr}
use Rattle.design_ir.specs.declared.ids.DomainId.{DomainId}
use Rattle.design_ir.specs.declared.signal.Sig.{Sig}
use Rattle.design_ir.specs.declared.process.DesignProcess.{DesignProcess}
use Rattle.design_ir.specs.Values.{signal_form}
use Rattle.design_ir.specs.Circuits.{Circuit}
use Rattle.design_ir.specs.Designs.{IsDesign}
use Rattle.rtlil_text.specs.declared.cell.RtlCell.{RtlCell}
use Rattle.rtlil_text.specs.declared.module.RtlWire.{RtlWire}
use Rattle.rtlil_text.specs.Rules.{IsModule}
use Rattle.rtlil_text.specs.Sources.{Net}
use Rattle.rtlil_text.specs.Drivers.{ByCell, driver}
use Rattle.rtlil_text.specs.Meaning.{Inputs, State, source_value, comb_bit, driven_bit}
use Rattle.rtlil_text.specs.History.{wire_bit, first_register, next_bit, next_register}
use Rattle.rtlil_text.proofs.Among.{Among}
use Rattle.rtlil_text.proofs.Driven.{driver-cell}
use Rattle.rtlil_text.proofs.Enough.{wire_bit-driven}
use Rattle.netlist_laws.specs.Ids.{step_id}
use Rattle.netlist_laws.specs.Operators.{Drawing}
use Rattle.netlist_laws.specs.Module.{wire_id, driving, is_clocked, ByClock, init_bits, register_drawing, signal_drawing, module_of, Heeding, NoReset, AtEdges, AtOnce, heeding}
use Rattle.netlist_laws.proofs.Places.{slice_get-wire_part}
use Rattle.netlist_laws.proofs.Reading.{bit_of, slice_get-pattern}
use Rattle.netlist_laws.proofs.BitWrites.{some_signal}
use Rattle.netlist_laws.proofs.SourcedSpecs.{init_bits_are}
use Rattle.netlist_laws.proofs.SettledWires.{signal_drawing-some}
use Rattle.netlist_laws.proofs.RegisterCells.{register_by, register_at, is_kept-register, end_bits-register, first_bit-register}
use Rattle.netlist_laws.proofs.ModuleParts.{signal_among, cell_held}
use Rattle.netlist_laws.proofs.SignalWires.{signal_wire, wire_of-signal}

module _ (c : Circuit) (design : IsDesign c) (rules : IsModule (module_of c)) (s : ℕ) (p : DesignProcess) (d : DomainId) (clock : driving c s ≡ ByClock p d) where
  abbrev pub cell : RtlCell
  cell = register_at c s p d (step_id (3 * s))

  last_among : (h : Heeding) → Among (register_drawing c s p d h).cells (register_by c s p d (step_id (3 * s)) h)
  last_among NoReset = inl refl
  last_among (AtOnce r) = inl refl
  last_among (AtEdges r) = inr (inl refl)

  module _ (i : ℕ) (inside : i < (signal_form c.pool.signals s).width) where
    some : 1 ≤ (signal_form c.pool.signals s).width
    some = omega (arith, inside)

    there : s < length c.pool.signals
    there = some_signal c.pool.signals s some

    register_driver : driver (module_of c) (wire_id c s) i ≡ ByCell cell i
    register_driver =
        let among : Among (signal_drawing c s).cells cell = subst (λ (x : Drawing). Among x.cells cell) (sym (signal_drawing-some c s (ByClock p d) some clock)) (last_among (heeding c s d)) in
        let own : 0 + i ≡ i = omega arith in
        driver-cell (module_of c) cell i (wire_id c s) i rules (cell_held c (signal_drawing c s) cell (signal_among c s there) among)
        (ap (λ bits. slice_get bits i) (end_bits-register c s p d (step_id (3 * s)) (heeding c s d)) ∙ slice_get-wire_part (wire_id c s) 0 (signal_form c.pool.signals s).width i inside ∙ ap (λ k. Some (Net (wire_id c s) k)) own)

    -- the wire has the bit that the state keeps
    pub kept_bit : (kept : State) (inputs : Inputs) → wire_bit (module_of c) kept inputs (wire_id c s) i ≡ kept.registers (wire_id c s) i
    kept_bit kept inputs =
        wire_bit-driven (module_of c) kept inputs (wire_id c s) i
        ∙ ap (driven_bit (module_of c) kept inputs (source_value (wire_bit (module_of c) kept inputs)) (wire_id c s) i) register_driver
        ∙ ap (λ t. cond t (kept.registers (wire_id c s) i) (comb_bit (module_of c) kept (source_value (wire_bit (module_of c) kept inputs)) cell i cell.kind)) (is_kept-register c s p d (step_id (3 * s)) (heeding c s d))

    pub next_register_is : (kept : State) (old new : Inputs) (before : Option Bool) → next_register (module_of c) kept old new before (driver (module_of c) (wire_id c s) i) ≡ next_bit (module_of c) kept old new cell i before cell.kind
    next_register_is kept old new before = ap (next_register (module_of c) kept old new before) register_driver

    -- at first it is that of its init
    pub first_register_is : (x : Sig) → slice_get c.pool.signals s ≡ Some x → first_register (module_of c) (wire_id c s) i (driver (module_of c) (wire_id c s) i) ≡ Some (bit_of x.init i)
    first_register_is x is =
        let w : RtlWire = (signal_wire c design s there some).wire in
        let init : w.init ≡ Some (init_bits c s) = (signal_wire c design s there some).init ∙ ap (λ t. cond (is_clocked t) (Some (init_bits c s)) None) clock in
        ap (first_register (module_of c) (wire_id c s) i) register_driver
        ∙ first_bit-register c s p d (step_id (3 * s)) (heeding c s d) (module_of c) (wire_id c s) i i
        ∙ ap (option_and_then (λ (w : RtlWire). option_and_then (λ bits. slice_get bits i) w.init)) (wire_of-signal c design rules s there some)
        ∙ ap (option_and_then (λ bits. slice_get bits i)) init
        ∙ ap (λ bits. slice_get bits i) (init_bits_are c s x is)
        ∙ slice_get-pattern (signal_form c.pool.signals s).width x.init i inside
