-- The drawing of a read port: what it gives, and what its cell and its flag carry.
use Rattle.std.specs.Prelude.{◌≡◌, ◌≤◌, ◌<◌, ◌^◌, ◌+◌, ◌&&◌, ℕ, zero, suc, nat_lt, not, Bool, true, false, cond, if◌then◌else◌, max, List, [], length, ℤ, pos, negsuc, Some, None}
use Rattle.std.proofs.Common.{refl, sym, ap, ◌∙◌, arith, subst}
use Rattle.std.proofs.Math.Nat.{mod-eq_of_lt}
use Rattle.amh_bits.specs.Patterns.{IsOf}
use Rattle.shape_rules.specs.Forms.{Form, unsigned}
use Rattle.shape_rules.specs.Operators.{is_zero}
use Rattle.design_ir.specs.declared.ids.ExprId.{ExprId}
use Rattle.design_ir.specs.declared.memory.MemRead.{MemRead}
use Rattle.design_ir.specs.declared.memory.Memory.{Memory}
use Rattle.design_ir.specs.PoolRules.{IsPool}
use Rattle.design_ir.specs.Values.{form, num, signal_form}
use Rattle.design_ir.specs.Circuits.{Circuit, at, option_test}
use Rattle.design_ir.specs.Rows.{address, row_at}
use Rattle.design_ir.specs.Designs.{IsReadPort, IsUsableOf}
use Rattle.design_ir.specs.Steps.{port_active}
use Rattle.design_ir.proofs.NumbersFit.{FitsSignals, num_fits}
use Rattle.rtlil_text.specs.declared.sig.SigPart.{SigPart}
use Rattle.rtlil_text.specs.declared.module.RtlModule.{RtlModule}
use Rattle.rtlil_text.specs.Sources.{spec_bits}
use Rattle.rtlil_text.specs.Cells.{bit_at, number_bits}
use Rattle.rtlil_text.specs.Meaning.{State, memory_size, source_value}
use Rattle.rtlil_text.specs.History.{Wires, wire_bit, acts}
use Rattle.rtlil_text.proofs.CellLaws.{bits_number-number_bits}
use Rattle.memory_cells.specs.declared.plan.Plan.{Plan}
use Rattle.memory_cells.specs.Bits.{bit_of}
use Rattle.memory_cells.specs.Plans.{guarded}
use Rattle.memory_cells.specs.Carried.{HasRows, Moment, CarriesRead, address_at}
use Rattle.memory_cells.specs.Laws.{ReadsFollow, GuardsFollow, ReadCellsCarry, IsBehindGuard, GuardsShowTheWord, flag_after}
use Rattle.netlist_laws.specs.Ids.{step_id}
use Rattle.netlist_laws.specs.Cells.{mux_cell}
use Rattle.netlist_laws.specs.Operands.{wire_part, const_spec}
use Rattle.netlist_laws.specs.Operators.{one_bit, whole}
use Rattle.netlist_laws.specs.Carried.{Carries, ObeysCell, Obeys}
use Rattle.netlist_laws.specs.Module.{wire_id, signal_value, expr_value}
use Rattle.netlist_laws.specs.PortLaws.{GivesRow, ObeysRead, CombReadsAreMade, ClockedReadsAreMade, FlagsAreMade}
use Rattle.netlist_laws.specs.MemoryDrawings.{names_rows, port_clock, address_guard, is_row, guarded_address, zeros_unless, read_enable, reading}
use Rattle.netlist_laws.proofs.Reading.{has_carried, bit_at-wire_part, reads_const}
use Rattle.netlist_laws.proofs.Linked.{bit_at-whole}
use Rattle.netlist_laws.proofs.Bitwise.{mux_cell_bit}
use Rattle.netlist_laws.proofs.PortAddresses.{exact_row, row_bit_is, address_read, guarded_fits}
use Rattle.netlist_laws.proofs.WritePorts.{no_bit}

masked : (b x : Bool) → cond b x false ≡ (if b then x else false)
masked true x = refl
masked false x = refl

-- ---- reads at once

module _ (c : Circuit) (env : List ℤ) (rules : IsPool c.pool) (fit : FitsSignals c.pool env) (rtl : RtlModule) (st : State) (wires : Wires) (p : Plan) (m : Memory) (some : 1 ≤ m.depth) (n : ℕ) (r : MemRead) (port : IsReadPort c m r)
    (carried : Carries wires (expr_value c r.addr.0) (num c.pool env r.addr.0)) (wide : p.address ≡ max 1 (form c.pool r.addr.0).width) (obeys : Obeys wires (address_guard c m n r.addr))
    (rows : List ℤ) (long : length rows ≡ m.depth) (has : HasRows m.shape.width m.depth p.id st rows) (size : memory_size rtl p.id ≡ m.depth) where
  abbrev addr : ℕ
  addr = address c.pool env r.addr

  module _ (reads : ReadsFollow) (guards : GuardsFollow) where
    -- a bit that the cell gives is that of the row at the guarded address
    pub row_given : (id : List ℕ) (word : List SigPart) → GivesRow rtl st wires c p m n r id word → (i : ℕ) → i < m.shape.width → wires id i ≡ Some (bit_of (at rows (guarded m.depth addr)) i)
    row_given id word gives i h =
        let number : ℕ = guarded m.depth addr in
        let below : number < 2 ^ p.address = guarded_fits c env rules fit m r.addr port.addr wires carried n some obeys p.address wide in
        gives i h
        ∙ reads rtl st (source_value wires) (reading c p m n r None word) m.shape.width m.depth addr i (number_bits p.address number) rows has size some
        (address_read c env rules fit m r.addr port.addr wires carried n some obeys p.address wide) (bits_number-number_bits p.address number ∙ mod-eq_of_lt below) h

    guard_at : (i : ℕ) → cond (nat_lt addr m.depth) (bit_of (at rows (guarded m.depth addr)) i) false ≡ bit_of (row_at c.pool env rows r.addr) i
    guard_at i =
        masked (nat_lt addr m.depth) (bit_of (at rows (guarded m.depth addr)) i)
        ∙ ap (λ d. if nat_lt addr d then bit_of (at rows (guarded d addr)) i else false) (sym long) ∙ guards rows addr i

    -- the port's signal has the row, and 0 past the depth
    pub read_given : ObeysRead rtl st wires c p m n r → (i : ℕ) → i < m.shape.width → wires (wire_id c r.word.0) i ≡ Some (bit_of (row_at c.pool env rows r.addr) i)
    read_given o i h = by (names_rows c m r.addr) refl
      where
        by : (b : Bool) → names_rows c m r.addr ≡ b → wires (wire_id c r.word.0) i ≡ Some (bit_of (row_at c.pool env rows r.addr) i)
        by true e =
            row_given (wire_id c r.word.0) (whole (signal_value c r.word.0)) (o.exact e) i h
            ∙ ap Some (ap (λ b. cond b (bit_of (at rows (guarded m.depth addr)) i) false) (sym (exact_row c env rules fit m r.addr port.addr e)) ∙ guard_at i)
        by false e =
            let own : 0 + i ≡ i = omega arith in
            let word_wide : (signal_form c.pool.signals r.word.0).width ≡ m.shape.width = ap (λ (f : Form). f.width) port.word.shape in
            mux_cell_bit wires (step_id (n + 6)) m.shape.width (const_spec m.shape.width (pos 0)) (wire_part (step_id (n + 5)) 0 m.shape.width) (is_row c m n r.addr) (wire_id c r.word.0) (signal_form c.pool.signals r.word.0).width i
            (nat_lt addr m.depth) false (bit_of (at rows (guarded m.depth addr)) i)
            (row_bit_is c env rules fit m r.addr port.addr wires carried n some obeys)
            ((reads_const wires m.shape.width (pos 0)).at i h ∙ ap Some (no_bit i))
            (bit_at-wire_part wires (step_id (n + 5)) 0 m.shape.width i h ∙ ap (wires (step_id (n + 5))) own ∙ row_given (step_id (n + 5)) (wire_part (step_id (n + 5)) 0 m.shape.width) (o.raw e) i h)
            (omega (arith, h, word_wide)) (o.guard e)
            ∙ ap Some (guard_at i)

-- ---- reads at a clock

bit_of-test : (x : ℤ) → IsOf false 1 x → bit_of x 0 ≡ not (is_zero x)
bit_of-test (pos zero) h = refl
bit_of-test (pos (suc zero)) h = refl
bit_of-test (pos (suc (suc n))) h = absurd (omega arith)
bit_of-test (negsuc n) h = absurd h

module _ (t : Moment) (rules : IsPool t.design.pool) (fit : FitsSignals t.design.pool t.env)
    (exprs : (e : ExprId) → e.0 < length t.design.pool.exprs → Carries (wire_bit t.rtl t.st t.old) (expr_value t.design e.0) (num t.design.pool t.env e.0)) (p : Plan) (m : Memory) (some : 1 ≤ m.depth) (n : ℕ) (r : MemRead) (port : IsReadPort t.design m r)
    (d : List ℕ) (en : ExprId) (domain : r.domain ≡ Some d) (enable : r.enable ≡ Some en) (usable : IsUsableOf t.design (unsigned 1) en) where
  abbrev seen : Wires
  seen = wire_bit t.rtl t.st t.old

  -- whether the port is enabled
  abbrev on : Bool
  on = not (is_zero (num t.design.pool t.env en.0))

  test_is : option_test (λ (e : ExprId). not (is_zero (num t.design.pool t.env e.0))) r.enable ≡ on
  test_is = ap (option_test (λ (e : ExprId). not (is_zero (num t.design.pool t.env e.0)))) enable

  enable_is : bit_at (source_value seen) (spec_bits (read_enable t.design r.enable)) 0 ≡ Some on
  enable_is =
      let x : ℤ = num t.design.pool t.env en.0 in
      let wide : (form t.design.pool en.0).width ≡ 1 = ap (λ (f : Form). f.width) usable.shape in
      ap (λ o. bit_at (source_value seen) (spec_bits (read_enable t.design o)) 0) enable
      ∙ bit_at-whole seen (expr_value t.design en.0) 0 (omega (arith, wide))
      ∙ (has_carried seen (expr_value t.design en.0) x (exprs en usable.usable.there)).at 0 (omega (arith, wide))
      ∙ ap Some (bit_of-test x (subst (λ (f : Form). IsOf f.signed f.width x) usable.shape (num_fits t.design.pool t.env rules fit en usable.usable.there)))

  module _ (obeys : Obeys seen (address_guard t.design m n r.addr)) where
    -- the cell carries what the port does
    pub read_carries : ReadCellsCarry → p.address ≡ max 1 (form t.design.pool r.addr.0).width → (word : List SigPart)
        → acts t.rtl t.st t.old t.new (reading t.design p m n r (Some d) word) ≡ port_active t.design t.env t.listed r.domain
        → CarriesRead t m (reading t.design p m n r (Some d) word) r
    read_carries carry wide word edge =
        let own = exprs r.addr port.addr.usable.there in
        carry t m r p (step_id (n + 4)) r.transparent (port_clock t.design d) (read_enable t.design r.enable) (guarded_address t.design m n r.addr) word edge
        (guarded_fits t.design t.env rules fit m r.addr port.addr seen own n some obeys p.address wide)
        (address_read t.design t.env rules fit m r.addr port.addr seen own n some obeys p.address wide)
        (enable_is ∙ ap Some (sym test_is))

    -- ---- the flag

    module _ (flag : Bool) (kept : seen (step_id (n + 8)) 0 ≡ Some flag) where
      flag_bit : bit_at (source_value seen) (spec_bits (one_bit (step_id (n + 8)))) 0 ≡ Some flag
      flag_bit = bit_at-wire_part seen (step_id (n + 8)) 0 1 0 (omega arith) ∙ kept

      -- what stands before the flag's register
      pub flag_next : ObeysCell seen (mux_cell (step_id (n + 9)) 1 (one_bit (step_id (n + 8))) (is_row t.design m n r.addr) (read_enable t.design r.enable) (one_bit (step_id (n + 10))))
          → seen (step_id (n + 10)) 0 ≡ Some (cond on (nat_lt (address_at t r.addr) m.depth) flag)
      flag_next cell =
          mux_cell_bit seen (step_id (n + 9)) 1 (one_bit (step_id (n + 8))) (is_row t.design m n r.addr) (read_enable t.design r.enable) (step_id (n + 10)) 1 0 on flag (nat_lt (address_at t r.addr) m.depth) enable_is flag_bit
          (row_bit_is t.design t.env rules fit m r.addr port.addr seen (exprs r.addr port.addr.usable.there) n some obeys) (omega arith) cell

      -- the register takes it where the domain is active
      pub flag_is : (up : Bool) → port_active t.design t.env t.listed r.domain ≡ up → cond up (cond on (nat_lt (address_at t r.addr) m.depth) flag) flag ≡ flag_after t m r flag
      flag_is up e = choice up ∙ ap (λ b. if b then nat_lt (address_at t r.addr) m.depth else flag) (λ i. sym e i && sym test_is i)
        where
          choice : (b : Bool) → cond b (cond on (nat_lt (address_at t r.addr) m.depth) flag) flag ≡ (if b && on then nat_lt (address_at t r.addr) m.depth else flag)
          choice true = refl
          choice false = refl

-- what is behind the flag is the read data
pub read_shown : GuardsShowTheWord → (wires : Wires) (c : Circuit) (m : Memory) (n : ℕ) (r : MemRead) → (signal_form c.pool.signals r.word.0).width ≡ m.shape.width → (word : ℤ) (flag : Bool) (raw : ℕ → Bool)
    → wires (step_id (n + 8)) 0 ≡ Some flag → ((i : ℕ) → i < m.shape.width → wires (step_id (n + 5)) i ≡ Some (raw i)) → ((i : ℕ) → i < m.shape.width → IsBehindGuard word i flag (raw i))
    → ObeysCell wires (zeros_unless (step_id (n + 6)) m.shape.width (wire_part (step_id (n + 5)) 0 m.shape.width) (one_bit (step_id (n + 8))) (whole (signal_value c r.word.0)))
    → (i : ℕ) → i < m.shape.width → wires (wire_id c r.word.0) i ≡ Some (bit_of word i)
read_shown shows wires c m n r wide word flag raw kept has behind cell i h =
    let own : 0 + i ≡ i = omega arith in
    mux_cell_bit wires (step_id (n + 6)) m.shape.width (const_spec m.shape.width (pos 0)) (wire_part (step_id (n + 5)) 0 m.shape.width) (one_bit (step_id (n + 8))) (wire_id c r.word.0) (signal_form c.pool.signals r.word.0).width i flag false (raw i)
    (bit_at-wire_part wires (step_id (n + 8)) 0 1 0 (omega arith) ∙ kept) ((reads_const wires m.shape.width (pos 0)).at i h ∙ ap Some (no_bit i))
    (bit_at-wire_part wires (step_id (n + 5)) 0 m.shape.width i h ∙ ap (wires (step_id (n + 5))) own ∙ has i h) (omega (arith, h, wide)) cell
    ∙ ap Some (masked flag (raw i) ∙ shows word i flag (raw i) (behind i h))

-- ---- the laws

pub comb_reads_made : ReadsFollow → GuardsFollow → CombReadsAreMade
comb_reads_made reads guards c env rtl st wires p m n r rows pool fits some port wide carried long has size obeys o =
    read_given c env pool fits rtl st wires p m some n r port carried wide obeys rows long has size reads guards o

pub clocked_reads_made : ReadCellsCarry → ClockedReadsAreMade
clocked_reads_made carry t p m n r d e word h some port wide clocked edge obeys =
    read_carries t h.pool h.fits h.exprs p m some n r port d e clocked.domain clocked.enable clocked.usable obeys carry wide word edge

pub flags_made : FlagsAreMade
flags_made t m n r d e flag h some port clocked obeys kept cell =
    let none : Plan = record { id = []; address = 0; width = 0; depth = 0; writes = 0 } in (
      cond (not (is_zero (num t.design.pool t.env e.0))) (nat_lt (address_at t r.addr) m.depth) flag,
      flag_next t h.pool h.fits h.exprs none m some n r port d e clocked.domain clocked.enable clocked.usable obeys flag kept cell,
      flag_is t h.pool h.fits h.exprs none m some n r port d e clocked.domain clocked.enable clocked.usable obeys flag kept (port_active t.design t.env t.listed r.domain) refl,
    )
