-- The drawing of a write port: its cell carries what the port does.
use Rattle.std.specs.Prelude.{◌≡◌, ◌≤◌, ◌<◌, ◌+◌, ◌==◌, ◌&&◌, ℕ, nat_lt, Bool, true, false, cond, max, List, length, ℤ, pos, Some}
use Rattle.std.proofs.Common.{refl, sym, ap, ◌∙◌, arith}
use Rattle.amh_bits.specs.Patterns.{pattern}
use Rattle.amh_bits.proofs.BitsOf.{bit_pattern, nat_bit_zero}
use Rattle.shape_rules.specs.Forms.{Form}
use Rattle.design_ir.specs.declared.ids.ExprId.{ExprId}
use Rattle.design_ir.specs.declared.memory.MemWrite.{MemWrite}
use Rattle.design_ir.specs.declared.memory.Memory.{Memory}
use Rattle.design_ir.specs.PoolRules.{IsPool}
use Rattle.design_ir.specs.Values.{form, num}
use Rattle.design_ir.specs.Rows.{granules, enabled_bits}
use Rattle.design_ir.specs.Designs.{IsWritePort}
use Rattle.design_ir.specs.Steps.{port_active}
use Rattle.design_ir.proofs.NumbersFit.{FitsSignals}
use Rattle.rtlil_text.specs.declared.sig.SigPart.{SigPart}
use Rattle.rtlil_text.specs.Sources.{spec_bits}
use Rattle.rtlil_text.specs.Cells.{bit_at}
use Rattle.rtlil_text.specs.Meaning.{source_value}
use Rattle.rtlil_text.specs.History.{Wires, wire_bit, acts}
use Rattle.memory_cells.specs.declared.plan.Plan.{Plan}
use Rattle.memory_cells.specs.Bits.{bit_of, is_set}
use Rattle.memory_cells.specs.Carried.{Moment, CarriesWrite, address_at}
use Rattle.memory_cells.specs.Laws.{SpreadsCarry, WriteCellsCarry}
use Rattle.netlist_laws.specs.Ids.{value_id, step_id}
use Rattle.netlist_laws.specs.Operands.{wire_part, const_spec}
use Rattle.netlist_laws.specs.Carried.{Carries, ObeysCell, Obeys}
use Rattle.netlist_laws.specs.Operators.{whole}
use Rattle.netlist_laws.specs.Module.{expr_value}
use Rattle.netlist_laws.specs.PortLaws.{WritePortsAreMade}
use Rattle.netlist_laws.specs.MemoryDrawings.{names_rows, port_clock, address_guard, is_row, guarded_address, zeros_unless, enable_spec, write_enable, writing}
use Rattle.netlist_laws.proofs.Reading.{has_carried, bit_at-wire_part, reads_const}
use Rattle.netlist_laws.proofs.Linked.{bit_at-whole}
use Rattle.netlist_laws.proofs.Bitwise.{mux_cell_bit}
use Rattle.netlist_laws.proofs.PortAddresses.{exact_row, row_bit_is, address_read, guarded_fits, granules_fill}

-- 0 has no bit
pub no_bit : (k : ℕ) → bit_of (pos 0) k ≡ false
no_bit k = ap (λ n. n == 1) (nat_bit_zero k)

module _ (t : Moment) (rules : IsPool t.design.pool) (fit : FitsSignals t.design.pool t.env)
    (exprs : (e : ExprId) → e.0 < length t.design.pool.exprs → Carries (wire_bit t.rtl t.st t.old) (expr_value t.design e.0) (num t.design.pool t.env e.0)) (p : Plan) (m : Memory) (some : 1 ≤ m.depth) (k n : ℕ) (w : MemWrite) (port : IsWritePort t.design m w) where
  abbrev wires : Wires
  wires = wire_bit t.rtl t.st t.old

  -- ---- the enable

  abbrev lets : ℕ → Bool
  lets i = is_set (enabled_bits t.design.pool t.env m w) i

  module _ (spreads : SpreadsCarry) where
    enable_bit : (i : ℕ) → i < granules m w → wires (value_id w.enable.0) i ≡ Some (is_set (pattern (granules m w) (num t.design.pool t.env w.enable.0)) i)
    enable_bit i h =
        let wide : (form t.design.pool w.enable.0).width ≡ granules m w = ap (λ (f : Form). f.width) port.enable.shape in
        let x : ℤ = num t.design.pool t.env w.enable.0 in
        (has_carried wires (expr_value t.design w.enable.0) x (exprs w.enable port.enable.usable.there)).at i (omega (arith, h, wide)) ∙ ap (λ (b : ℕ). Some (b == 1)) (sym (bit_pattern x (granules m w) i h))

    -- spread over its granules
    spread_bit : (i : ℕ) → i < m.shape.width → bit_at (source_value wires) (spec_bits (enable_spec m w)) i ≡ Some (lets i)
    spread_bit i h =
        spreads wires (value_id w.enable.0) w.granularity (granules m w) (pattern (granules m w) (num t.design.pool t.env w.enable.0)) i enable_bit (omega (arith, h, granules_fill m w port.granularity))

    -- under the guard
    pub guarded_bit : (i : ℕ) → i < m.shape.width → (obeys : Obeys wires (address_guard t.design m n w.addr))
        → (names_rows t.design m w.addr ≡ false → ObeysCell wires (zeros_unless (step_id (n + 4)) m.shape.width (enable_spec m w) (is_row t.design m n w.addr) (wire_part (step_id (n + 5)) 0 m.shape.width)))
        → bit_at (source_value wires) (spec_bits (write_enable t.design m n w)) i ≡ Some (nat_lt (address_at t w.addr) m.depth && lets i)
    guarded_bit i h obeys cell = by (names_rows t.design m w.addr) refl
      where
        out : List SigPart
        out = wire_part (step_id (n + 5)) 0 m.shape.width

        masked : (b : Bool) → cond b (lets i) false ≡ (b && lets i)
        masked true = refl
        masked false = refl

        by : (b : Bool) → names_rows t.design m w.addr ≡ b → bit_at (source_value wires) (spec_bits (cond b (enable_spec m w) (wire_part (step_id (n + 5)) 0 m.shape.width))) i ≡ Some (nat_lt (address_at t w.addr) m.depth && lets i)
        by true e = spread_bit i h ∙ ap (λ b. Some (b && lets i)) (sym (exact_row t.design t.env rules fit m w.addr port.addr e))
        by false e =
            let own : 0 + i ≡ i = omega arith in
            bit_at-wire_part wires (step_id (n + 5)) 0 m.shape.width i h
            ∙ ap (wires (step_id (n + 5))) own
            ∙ mux_cell_bit wires (step_id (n + 4)) m.shape.width (const_spec m.shape.width (pos 0)) (enable_spec m w) (is_row t.design m n w.addr) (step_id (n + 5)) m.shape.width i
            (nat_lt (address_at t w.addr) m.depth) false (lets i)
            (row_bit_is t.design t.env rules fit m w.addr port.addr wires (exprs w.addr port.addr.usable.there) n some obeys)
            ((reads_const wires m.shape.width (pos 0)).at i h ∙ ap Some (no_bit i)) (spread_bit i h) h (cell e)
            ∙ ap Some (masked (nat_lt (address_at t w.addr) m.depth))

    -- ---- the word and the whole cell

    word_bit : (i : ℕ) → i < m.shape.width → bit_at (source_value wires) (spec_bits (whole (expr_value t.design w.word.0))) i ≡ Some (bit_of (num t.design.pool t.env w.word.0) i)
    word_bit i h =
        let wide : (form t.design.pool w.word.0).width ≡ m.shape.width = ap (λ (f : Form). f.width) port.word.shape in
        bit_at-whole wires (expr_value t.design w.word.0) i (omega (arith, h, wide))
        ∙ (has_carried wires (expr_value t.design w.word.0) (num t.design.pool t.env w.word.0) (exprs w.word port.word.usable.there)).at i (omega (arith, h, wide))

    pub write_carries : WriteCellsCarry → p.address ≡ max 1 (form t.design.pool w.addr.0).width
        → acts t.rtl t.st t.old t.new (writing t.design p m k n w (write_enable t.design m n w)) ≡ port_active t.design t.env t.listed (Some w.domain)
        → Obeys wires (address_guard t.design m n w.addr)
        → (names_rows t.design m w.addr ≡ false → ObeysCell wires (zeros_unless (step_id (n + 4)) m.shape.width (enable_spec m w) (is_row t.design m n w.addr) (wire_part (step_id (n + 5)) 0 m.shape.width)))
        → CarriesWrite t m (writing t.design p m k n w (write_enable t.design m n w)) w
    write_carries carry wide edge obeys cell =
        let own = exprs w.addr port.addr.usable.there in
        carry t m w p (step_id (n + 6)) k (port_clock t.design w.domain) (write_enable t.design m n w) (guarded_address t.design m n w.addr) (whole (expr_value t.design w.word.0)) edge
        (guarded_fits t.design t.env rules fit m w.addr port.addr wires own n some obeys p.address wide)
        (address_read t.design t.env rules fit m w.addr port.addr wires own n some obeys p.address wide)
        (λ i h. guarded_bit i h obeys cell) word_bit

pub write_ports_made : SpreadsCarry → WriteCellsCarry → WritePortsAreMade
write_ports_made spreads carry t p m k n w h some port wide edge obeys cell = write_carries t h.pool h.fits h.exprs p m some k n w port spreads carry wide edge obeys cell
