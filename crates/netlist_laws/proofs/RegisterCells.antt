-- A register's cell takes, bit by bit, what an event of the design gives the register.
use Rattle.std.specs.Prelude.{◌≡◌, refl, ℕ, ◌<◌, ◌≤◌, Bool, true, false, cond, List, length, slice_get, ℤ, Option, Some, is_some}
use Rattle.std.proofs.Common.{sym, ◌∙◌, ap, subst}
use Rattle.design_ir.specs.declared.ids.DomainId.{DomainId}
use Rattle.design_ir.specs.declared.domain.Domain.{Domain}
use Rattle.design_ir.specs.declared.process.DesignProcess.{DesignProcess}
use Rattle.design_ir.specs.declared.event.Event.TheVariants.{Edge}
use Rattle.design_ir.specs.PoolRules.{IsPool}
use Rattle.design_ir.specs.Values.{signal_form}
use Rattle.design_ir.specs.Circuits.{Circuit, State, at, is_input, is_register, is_held}
use Rattle.design_ir.specs.Designs.{IsProcess, IsDomain, IsClockDomain, IsDesign}
use Rattle.design_ir.specs.Legal.{Ascending}
use Rattle.design_ir.specs.Steps.{is_active, moved}
use Rattle.design_ir.proofs.NumbersFit.{element, FitsSignals}
use Rattle.std.proofs.lemmas.Bool.{or_left, or_right}
use Rattle.rtlil_text.specs.declared.cell.RtlCell.{RtlCell}
use Rattle.rtlil_text.specs.declared.module.RtlModule.{RtlModule}
use Rattle.rtlil_text.specs.Sources.{spec_bits, end_bits}
use Rattle.rtlil_text.specs.CellTables.{output_of}
use Rattle.rtlil_text.specs.Cells.{bit_at}
use Rattle.rtlil_text.specs.Meaning.{Inputs, source_value, is_kept, State as Kept}
use Rattle.rtlil_text.specs.History.{wire_bit, is_edge, is_level, init_bit, first_bit, next_bit}
use Rattle.memory_cells.specs.Clocks.{polarity}
use Rattle.netlist_laws.specs.Operators.{whole}
use Rattle.netlist_laws.specs.Carried.{Carries}
use Rattle.netlist_laws.specs.CombDrawings.{ObeysComb}
use Rattle.netlist_laws.specs.Module.{signal_value, driving, ByClock, init_bits, Heeding, NoReset, AtEdges, AtOnce, heeding, clock_of, register_cell, clear_cell, signal_drawing}
use Rattle.netlist_laws.proofs.Reading.{bit_of}
use Rattle.netlist_laws.proofs.OneDriver.{IsOnly, find_only, only_holds}
use Rattle.netlist_laws.proofs.Driven.{driven_by, distinct_processes, is_register-only}
use Rattle.netlist_laws.proofs.SettledWires.{Shows}
use Rattle.netlist_laws.specs.Plain.{ArePlain}
use Rattle.netlist_laws.proofs.RegisterSteps.{next_spec, IsCalm, is_clocked, all_at, reads_register, held_register}
use Rattle.netlist_laws.proofs.ClockEdges.{active_edge}

-- the cell that keeps register s, by how it heeds its reset
abbrev pub register_by : Circuit → ℕ → DesignProcess → DomainId → List ℕ → Heeding → RtlCell
register_by c s p d id NoReset = register_cell id (signal_form c.pool.signals s).width (clock_of c d) (next_spec c s p NoReset) (whole (signal_value c s))
register_by c s p d id (AtEdges r) = register_cell id (signal_form c.pool.signals s).width (clock_of c d) (next_spec c s p (AtEdges r)) (whole (signal_value c s))
register_by c s p d id (AtOnce r) =
    clear_cell id (signal_form c.pool.signals s).width (clock_of c d) (whole (signal_value c r)) (init_bits c s) (next_spec c s p (AtOnce r)) (whole (signal_value c s))

abbrev pub register_at : Circuit → ℕ → DesignProcess → DomainId → List ℕ → RtlCell
register_at c s p d id = register_by c s p d id (heeding c s d)

-- ---- what the cell does, whatever reset it heeds

module _ (c : Circuit) (s : ℕ) (p : DesignProcess) (d : DomainId) (id : List ℕ) where
  pub is_kept-register : (h : Heeding) → is_kept (register_by c s p d id h) ≡ true
  is_kept-register NoReset = refl
  is_kept-register (AtEdges r) = refl
  is_kept-register (AtOnce r) = refl

  -- its bits are those of its signal's wire
  pub end_bits-register : (h : Heeding) → end_bits (register_by c s p d id h) (output_of (register_by c s p d id h).kind) ≡ spec_bits (whole (signal_value c s))
  end_bits-register NoReset = refl
  end_bits-register (AtEdges r) = refl
  end_bits-register (AtOnce r) = refl

  pub first_bit-register : (h : Heeding) (m : RtlModule) (wire : List ℕ) (i k : ℕ) → first_bit m wire i (register_by c s p d id h) k (register_by c s p d id h).kind ≡ init_bit m wire i
  first_bit-register NoReset m wire i k = refl
  first_bit-register (AtEdges r) m wire i k = refl
  first_bit-register (AtOnce r) m wire i k = refl

  module _ (m : RtlModule) (kept : Kept) (old new : Inputs) where
    -- the bit of the clock of its domain
    abbrev pub clock_bit : Inputs → Option Bool
    clock_bit inputs = bit_at (source_value (wire_bit m kept inputs)) (spec_bits (clock_of c d).bit) 0

    -- what it takes at an edge of its clock
    abbrev pub taken : Heeding → ℕ → Option Bool → Option Bool
    taken h k before = cond (is_edge (polarity (clock_of c d)) (clock_bit old) (clock_bit new)) (bit_at (source_value (wire_bit m kept old)) (spec_bits (next_spec c s p h)) k) before

    -- its reset is 1 and acts at once
    abbrev pub is_clear_now : Heeding → Bool
    is_clear_now NoReset = false
    is_clear_now (AtEdges r) = false
    is_clear_now (AtOnce r) = is_level 1 (bit_at (source_value (wire_bit m kept new)) (spec_bits (whole (signal_value c r))) 0)

    pub next_bit-by : (h : Heeding) (k : ℕ) (before : Option Bool) → next_bit m kept old new (register_by c s p d id h) k before (register_by c s p d id h).kind ≡ cond (is_clear_now h) (slice_get (init_bits c s) k) (taken h k before)
    next_bit-by NoReset k before = refl
    next_bit-by (AtEdges r) k before = refl
    next_bit-by (AtOnce r) k before = refl

-- ---- the cell in a module that stands for a design

module _ (c : Circuit) (design : IsDesign c) (rules : IsPool c.pool) (plain : ArePlain c)
    (s : ℕ) (p : DesignProcess) (d : DomainId) (clock : driving c s ≡ ByClock p d) where
  its_only : IsOnly (driven_by c) s c.processes p
  its_only = find_only (driven_by c) s c.processes p (distinct_processes c design) (is_clocked c p d s clock).found

  pub clocked_held : is_held c s ≡ true
  clocked_held = or_right (is_input c s) (is_register c s) (is_register-only c design s p its_only ∙ ap is_some (is_clocked c p d s clock).domain)

  pub its_domain : (x : Domain) × (slice_get c.domains d.0 ≡ Some x)
  its_domain =
      let there : IsDomain c p.domain = (only_holds (IsProcess c) (driven_by c) s c.processes p its_only design.processes).domain in
      element c.domains d.0 (subst (IsDomain c) (is_clocked c p d s clock).domain there)

  module _ (some : 1 ≤ (signal_form c.pool.signals s).width) (env : List ℤ) (fit : FitsSignals c.pool env) (st : State) (count : length st.held ≡ length c.pool.signals) (same : (t : ℕ) → is_held c t ≡ true → at st.held t ≡ at env t)
      (listed : List DomainId) (ordered : Ascending 0 listed) (m : RtlModule) (kept : Kept) (old new : Inputs)
      (shows : Shows (wire_bit m kept old) c env) (carried : (t : ℕ) → Carries (wire_bit m kept old) (signal_value c t) (at env t)) (obeys : ObeysComb (wire_bit m kept old) (signal_drawing c s))
      (events : (t : ℕ) → is_input c t ≡ true → Carries (wire_bit m kept new) (signal_value c t) (at (moved c st env (Edge listed)).held t)) where
    edge_is : is_edge (polarity (clock_of c d)) (bit_at (source_value (wire_bit m kept old)) (spec_bits (clock_of c d).bit) 0) (bit_at (source_value (wire_bit m kept new)) (spec_bits (clock_of c d).bit) 0) ≡ is_active c env listed d.0
    edge_is =
        let x : Domain = its_domain.0 in
        let rule : IsClockDomain c x = all_at (IsClockDomain c) c.domains d.0 x design.domains its_domain.1 in
        let held : is_held c x.clk.0 ≡ true = or_left (is_input c x.clk.0) (is_register c x.clk.0) rule.clock_input in
        active_edge c design env st listed ordered count d x its_domain.1 (wire_bit m kept old) (wire_bit m kept new) (same x.clk.0 held) (fit x.clk.0 rule.clock.there) (carried x.clk.0) (events x.clk.0 rule.clock_input)

    by_edge : IsCalm c d env (heeding c s d) → (b : Bool) (k : ℕ) → k < (signal_form c.pool.signals s).width → is_active c env listed d.0 ≡ b
        → cond b (bit_at (source_value (wire_bit m kept old)) (spec_bits (next_spec c s p (heeding c s d))) k) (Some (bit_of (at st.held s) k)) ≡ Some (bit_of (at (moved c st env (Edge listed)).held s) k)
    by_edge calm true k l e =
        (reads_register c design s p d clock env listed st (wire_bit m kept old) rules plain fit shows count (same s clocked_held) carried e some calm obeys).at k l
    by_edge calm false k l e = ap (λ z. Some (bit_of z k)) (sym (held_register c design s p d clock env listed st e))

    -- at an edge, where no reset acts at once
    pub taken-register : (id : List ℕ) → IsCalm c d env (heeding c s d) → (k : ℕ) → k < (signal_form c.pool.signals s).width
        → taken c s p d id m kept old new (heeding c s d) k (Some (bit_of (at st.held s) k)) ≡ Some (bit_of (at (moved c st env (Edge listed)).held s) k)
    taken-register id calm k l =
        ap (λ t. cond t (bit_at (source_value (wire_bit m kept old)) (spec_bits (next_spec c s p (heeding c s d))) k) (Some (bit_of (at st.held s) k))) edge_is
        ∙ by_edge calm (is_active c env listed d.0) k l refl
