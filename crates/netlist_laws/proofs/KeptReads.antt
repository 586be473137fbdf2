-- The data of a clocked read port in the state of a design's module: what it is to be kept there, which cells keep it, and that it is at first.
use Rattle.std.specs.Prelude.{◌≡◌, ℕ, zero, suc, ◌+◌, ◌<◌, ◌≤◌, Bool, true, false, if◌then◌else◌, List, [], ◌∷◌, map, length, slice_get, ℤ, pos, Some, IsSomeAnd, Contains, fold, option_and_then}
use Rattle.std.specs.List.{range_with_len}
use Rattle.std.proofs.Common.{refl, sym, ap, ◌∙◌, arith, subst, inl, inr, ⊎_elim}
use Rattle.std.proofs.lemmas.Bool.{false≢true, cases_eq, cases_lt}
use Rattle.std.proofs.lemmas.List.{length-set, get_or-set_same, get_or-set_other, get_or_past}
use Rattle.design_ir.specs.declared.signal.Sig.{Sig}
use Rattle.design_ir.specs.declared.domain.Domain.{Domain}
use Rattle.design_ir.specs.declared.memory.MemRead.{MemRead}
use Rattle.design_ir.specs.declared.memory.Memory.{Memory}
use Rattle.design_ir.specs.Values.{signal_form}
use Rattle.design_ir.specs.Circuits.{Circuit, at}
use Rattle.design_ir.specs.Designs.{IsReadPort}
use Rattle.design_ir.specs.Steps.{clock_low, first_state}
use Rattle.rtlil_text.specs.declared.sig.SigPart.{SigPart}
use Rattle.rtlil_text.specs.declared.cell.RtlCell.{RtlCell}
use Rattle.rtlil_text.specs.declared.module.RtlWire.{RtlWire}
use Rattle.rtlil_text.specs.Rules.{IsModule}
use Rattle.rtlil_text.specs.Sources.{Net}
use Rattle.rtlil_text.specs.Drivers.{ByCell, driver}
use Rattle.rtlil_text.specs.Meaning.{Inputs, source_value, driven_bit, State as Kept}
use Rattle.rtlil_text.specs.History as rtl
use Rattle.rtlil_text.proofs.Among.{Among, Among-right}
use Rattle.rtlil_text.proofs.Driven.{driver-cell, wire_ids-distinct}
use Rattle.rtlil_text.proofs.Enough.{wire_bit-driven}
use Rattle.memory_cells.specs.declared.plan.Plan.{Plan}
use Rattle.memory_cells.specs.Bits.{bit_of}
use Rattle.memory_cells.specs.Laws.{IsBehindGuard}
use Rattle.netlist_laws.specs.Ids.{step_id}
use Rattle.netlist_laws.specs.Operands.{wire_part}
use Rattle.netlist_laws.specs.Operators.{Drawing, one_bit, one_cell, whole}
use Rattle.netlist_laws.specs.Module.{wire_id, signal_value, register_cell, drawings, signal_drawing, other_drawings, all_drawings, module_of}
use Rattle.netlist_laws.specs.PortLaws.{WordsAreShown}
use Rattle.netlist_laws.specs.MemoryDrawings.{names_rows, address_guard, port_clock, zeros_unless, reading, flag_wire, guarded_read, read_behind, read_drawing, memory_drawings}
use Rattle.netlist_laws.proofs.Places.{slice_get-wire_part}
use Rattle.netlist_laws.proofs.Reading.{slice_get-replicate}
use Rattle.netlist_laws.proofs.WritePorts.{no_bit}
use Rattle.netlist_laws.proofs.ModuleHeld.{in_others, in_drawings}
use Rattle.netlist_laws.proofs.ModuleParts.{cell_held}
use Rattle.netlist_laws.proofs.ModuleObeys.{obeys_logic}
use Rattle.netlist_laws.proofs.SignalWires.{wire_found}

-- ---- what is kept

module _ (c : Circuit) (kept : Kept) (held : List ℤ) (m : Memory) (n : ℕ) (r : MemRead) where
  -- raw data and the flag of its guard, which stand for the data
  pub record IsKeptBehind : Type 0 where
    pub flag : Bool
    pub raw : ℕ → Bool
    pub flagged : kept.registers (step_id (n + 8)) 0 ≡ Some flag
    pub stored : (i : ℕ) → i < m.shape.width → kept.registers (step_id (n + 5)) i ≡ Some (raw i)
    pub behind : (i : ℕ) → i < m.shape.width → IsBehindGuard (at held r.word.0) i flag (raw i)

  -- the data itself where each address names a row
  pub record KeepsRead : Type 0 where
    pub exact : names_rows c m r.addr ≡ true → (i : ℕ) → i < m.shape.width → kept.registers (wire_id c r.word.0) i ≡ Some (bit_of (at held r.word.0) i)
    pub guarded : names_rows c m r.addr ≡ false → IsKeptBehind

-- ---- the data of a port at first

zero_stays : (ds : List Domain) (xs : List ℤ) (s : ℕ) → at xs s ≡ pos 0 → at (fold clock_low xs ds) s ≡ pos 0
zero_stays [] xs s e = e
zero_stays (d ∷ ds) xs s e = zero_stays ds (clock_low xs d) s (⊎_elim
    (λ (same : s ≡ d.clk.0). ap (at (clock_low xs d)) same ∙ ⊎_elim
    (λ (there : d.clk.0 < length xs). get_or-set_same xs d.clk.0 (pos 0) (pos 0) there)
    (λ (past : length xs ≤ d.clk.0). get_or_past (clock_low xs d) d.clk.0 (pos 0) (omega (arith, past, length-set xs d.clk.0 (pos 0)))) (cases_lt d.clk.0 (length xs)))
    (λ apart. get_or-set_other xs d.clk.0 s (pos 0) (pos 0) apart ∙ e) (cases_eq s d.clk.0))

init_zero : (sigs : List Sig) (s : ℕ) → IsSomeAnd (slice_get sigs s) (λ (x : Sig). x.init ≡ pos 0) → at (map (λ (x : Sig). x.init) sigs) s ≡ pos 0
init_zero [] s h = absurd h
init_zero (x ∷ sigs) zero h = h
init_zero (x ∷ sigs) (suc s) h = init_zero sigs s h

pub word_begins : (c : Circuit) (m : Memory) (r : MemRead) → IsReadPort c m r → at (first_state c).held r.word.0 ≡ pos 0
word_begins c m r port = zero_stays c.domains (map (λ (x : Sig). x.init) c.pool.signals) r.word.0 (init_zero c.pool.signals r.word.0 port.word_init)

-- ---- the cells of a port

module _ (c : Circuit) (rules : IsModule (module_of c)) (p : Plan) (m : Memory) (n : ℕ) (r : MemRead) (d : List ℕ) (clocked : r.domain ≡ Some d) (a : Among (memory_drawings c) (read_drawing c p m n r)) where
  abbrev pub word_spec : List SigPart
  word_spec = whole (signal_value c r.word.0)

  abbrev pub raw_spec : List SigPart
  raw_spec = wire_part (step_id (n + 5)) 0 m.shape.width

  abbrev pub flag_cell : RtlCell
  flag_cell = register_cell (step_id (n + 7)) 1 (port_clock c d) (one_bit (step_id (n + 10))) (one_bit (step_id (n + 8)))

  drawn : Among (all_drawings c) (read_drawing c p m n r)
  drawn =
      let e : Drawing = read_drawing c p m n r in
      Among-right (drawings c) (other_drawings c) e (Among-right (map (signal_drawing c) (range_with_len 0 (length c.pool.signals))) (memory_drawings c) e a)

  pub behind_is : (b : Bool) → names_rows c m r.addr ≡ b → read_behind c p m n r ≡ (if b then one_cell (reading c p m n r (Some d) word_spec) else guarded_read c p m n r (Some d))
  behind_is b e i = if e i then one_cell (reading c p m n r (clocked i) word_spec) else guarded_read c p m n r (clocked i)

  pub held_cell : (x : RtlCell) → Among (read_behind c p m n r).cells x → Contains (module_of c).cells x
  held_cell x b = cell_held c (read_drawing c p m n r) x drawn (Among-right (address_guard c m n r.addr).cells (read_behind c p m n r).cells x b)

  -- the wire of its data
  pub word_driver : names_rows c m r.addr ≡ true → (signal_form c.pool.signals r.word.0).width ≡ m.shape.width → (i : ℕ) → i < m.shape.width → driver (module_of c) (wire_id c r.word.0) i ≡ ByCell (reading c p m n r (Some d) word_spec) i
  word_driver e wide i l =
      let cell : RtlCell = reading c p m n r (Some d) word_spec in
      let id : List ℕ = wire_id c r.word.0 in
      let own : 0 + i ≡ i = omega arith in
      driver-cell (module_of c) cell i id i rules (held_cell cell (subst (λ (x : Drawing). Among x.cells cell) (sym (behind_is true e)) (inl refl)))
      (slice_get-wire_part id 0 (signal_form c.pool.signals r.word.0).width i (omega (arith, l, wide)) ∙ ap (λ k. Some (Net id k)) own)

  -- those of raw data and of the flag
  module _ (e : names_rows c m r.addr ≡ false) where
    pub raw_driver : (i : ℕ) → i < m.shape.width → driver (module_of c) (step_id (n + 5)) i ≡ ByCell (reading c p m n r (Some d) raw_spec) i
    raw_driver i l =
        let cell : RtlCell = reading c p m n r (Some d) raw_spec in
        let own : 0 + i ≡ i = omega arith in
        driver-cell (module_of c) cell i (step_id (n + 5)) i rules (held_cell cell (subst (λ (x : Drawing). Among x.cells cell) (sym (behind_is false e)) (inl refl)))
        (slice_get-wire_part (step_id (n + 5)) 0 m.shape.width i l ∙ ap (λ k. Some (Net (step_id (n + 5)) k)) own)

    pub flag_driver : driver (module_of c) (step_id (n + 8)) 0 ≡ ByCell flag_cell 0
    flag_driver = driver-cell (module_of c) flag_cell 0 (step_id (n + 8)) 0 rules (held_cell flag_cell (subst (λ (x : Drawing). Among x.cells flag_cell) (sym (behind_is false e)) (inr (inl refl)))) refl

    pub wire_keeps-flag : (kept : Kept) (inputs : Inputs) → rtl.wire_bit (module_of c) kept inputs (step_id (n + 8)) 0 ≡ kept.registers (step_id (n + 8)) 0
    wire_keeps-flag kept inputs =
        wire_bit-driven (module_of c) kept inputs (step_id (n + 8)) 0
        ∙ ap (driven_bit (module_of c) kept inputs (source_value (rtl.wire_bit (module_of c) kept inputs)) (step_id (n + 8)) 0) flag_driver

    flag_among : Among (module_of c).wires (flag_wire n)
    flag_among =
        in_others c (flag_wire n) (in_drawings c (read_drawing c p m n r) (flag_wire n) drawn (Among-right (address_guard c m n r.addr).wires (read_behind c p m n r).wires (flag_wire n)
        (subst (λ (x : Drawing). Among x.wires (flag_wire n)) (sym (behind_is false e)) (inr (inl refl)))))

    flag_begins : (rtl.first_state (module_of c)).registers (step_id (n + 8)) 0 ≡ Some false
    flag_begins =
        ap (rtl.first_register (module_of c) (step_id (n + 8)) 0) flag_driver
        ∙ ap (option_and_then (λ (w : RtlWire). option_and_then (λ bits. slice_get bits 0) w.init)) (wire_found (module_of c).wires (flag_wire n) (wire_ids-distinct (module_of c) rules) flag_among)

  -- ---- what its wires have

  module _ (kept : Kept) (inputs : Inputs) where
    abbrev wires : rtl.Wires
    wires = rtl.wire_bit (module_of c) kept inputs

    pub kept_at : (id : List ℕ) (i : ℕ) (spec : List SigPart) → driver (module_of c) id i ≡ ByCell (reading c p m n r (Some d) spec) i → wires id i ≡ kept.registers id i
    kept_at id i spec by_cell = wire_bit-driven (module_of c) kept inputs id i ∙ ap (driven_bit (module_of c) kept inputs (source_value wires) id i) by_cell

    -- the signal of the port has the bits of its data
    pub read_shown : WordsAreShown → (signal_form c.pool.signals r.word.0).width ≡ m.shape.width → (held : List ℤ) → KeepsRead c kept held m n r → (i : ℕ) → i < m.shape.width → wires (wire_id c r.word.0) i ≡ Some (bit_of (at held r.word.0) i)
    read_shown shown wide held h i l = by (names_rows c m r.addr) refl
      where
        by : (b : Bool) → names_rows c m r.addr ≡ b → wires (wire_id c r.word.0) i ≡ Some (bit_of (at held r.word.0) i)
        by true e = kept_at (wire_id c r.word.0) i word_spec (word_driver e wide i l) ∙ h.exact e i l
        by false e =
            let k = h.guarded e in
            let flagged : wires (step_id (n + 8)) 0 ≡ Some k.flag = wire_keeps-flag e kept inputs ∙ k.flagged in
            let mux : RtlCell = zeros_unless (step_id (n + 6)) m.shape.width raw_spec (one_bit (step_id (n + 8))) word_spec in
            let held_mux : Contains (module_of c).cells mux = held_cell mux (subst (λ (x : Drawing). Among x.cells mux) (sym (behind_is false e)) (inr (inr (inr (inl refl))))) in
            shown wires c m n r wide (at held r.word.0) k.flag k.raw flagged (λ j b. kept_at (step_id (n + 5)) j raw_spec (raw_driver e j b) ∙ k.stored j b) k.behind (obeys_logic (module_of c) rules kept inputs mux held_mux refl) i l

  -- ---- at first

  module _ (planned : p.width ≡ m.shape.width) (port : IsReadPort c m r) where
    data_begins : (id : List ℕ) (spec : List SigPart) (i : ℕ) → i < m.shape.width → driver (module_of c) id i ≡ ByCell (reading c p m n r (Some d) spec) i → (rtl.first_state (module_of c)).registers id i ≡ Some (bit_of (at (first_state c).held r.word.0) i)
    data_begins id spec i l by_cell =
        ap (rtl.first_register (module_of c) id i) by_cell ∙ slice_get-replicate false p.width i (omega (arith, l, planned)) ∙ ap (λ b. Some b) (sym (ap (λ z. bit_of z i) (word_begins c m r port) ∙ no_bit i))

    pub read_begins : (signal_form c.pool.signals r.word.0).width ≡ m.shape.width → KeepsRead c (rtl.first_state (module_of c)) (first_state c).held m n r
    read_begins wide =
        let none : (i : ℕ) → bit_of (at (first_state c).held r.word.0) i ≡ false = λ i. ap (λ z. bit_of z i) (word_begins c m r port) ∙ no_bit i in
        record {
          exact = λ e i l. data_begins (wire_id c r.word.0) word_spec i l (word_driver e wide i l);
          guarded = λ e. record {
            flag = false;
            raw = λ i. bit_of (at (first_state c).held r.word.0) i;
            flagged = flag_begins e;
            stored = λ i l. data_begins (step_id (n + 5)) raw_spec i l (raw_driver e i l);
            behind = λ i l. record { kept = λ t. absurd (false≢true t); dropped = λ t. none i };
          };
        }
