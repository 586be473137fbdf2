-- The drawings of a memory's parts keep the rules of a module that has the memory, its cells, and the wires that they name.
use Rattle.netlist_laws.proofs.PartsDrawn.{IsPortOf}
use Rattle.std.specs.Prelude.{◌≡◌, ◌≤◌, ◌<◌, ◌^◌, ◌+◌, ◌*◌, ◌==◌, ℕ, zero, suc, Bool, true, false, if◌then◌else◌, max, List, [], ◌∷◌, ◌++◌, length, replicate, slice_get, pos, Some, None, IsSome, MatchOption, All, Contains, Option}
use Rattle.std.specs.List.{list_any}
use Rattle.std.proofs.Common.{refl, sym, ap, ◌∙◌, arith, subst}
use Rattle.std.proofs.lemmas.Bool.{eqb-false, false≢true}
use Rattle.std.proofs.lemmas.List.Elements.{All-nil, All-cons, All-append, All-replicate, All-head, All-tail}
use Rattle.std.proofs.Math.Nat.{mul-suc}
use Rattle.shape_rules.specs.Forms.{Form, unsigned}
use Rattle.shape_rules.specs.declared.cell.CellKind.TheVariants as kind
use Rattle.design_ir.specs.declared.ids.ExprId.{ExprId}
use Rattle.design_ir.specs.declared.memory.MemWrite.{MemWrite}
use Rattle.design_ir.specs.declared.memory.MemRead.{MemRead}
use Rattle.design_ir.specs.declared.memory.Memory.{Memory}
use Rattle.design_ir.specs.Values.{form}
use Rattle.design_ir.specs.Circuits.{Circuit, domain_named}
use Rattle.design_ir.specs.Rows.{granules}
use Rattle.design_ir.specs.Designs.{IsAddress, IsWritePort, IsReadPort, IsClocking}
use Rattle.rtlil_text.specs.declared.sig.SigPart.{SigPart}
use Rattle.rtlil_text.specs.declared.sig.SigPart.TheVariants as parts
use Rattle.rtlil_text.specs.declared.cell.RtlCell.{RtlCell}
use Rattle.rtlil_text.specs.declared.module.RtlWire.{RtlWire}
use Rattle.rtlil_text.specs.declared.module.RtlModule.{RtlModule}
use Rattle.rtlil_text.specs.Sources.{spec_bits}
use Rattle.rtlil_text.specs.Memories.{writes_of}
use Rattle.rtlil_text.specs.MemoryRules.{HaveOneClock}
use Rattle.rtlil_text.specs.Rules.{PartFits, WireFits, CellFits, LinkFits}
use Rattle.memory_cells.specs.declared.plan.Plan.{Plan}
use Rattle.memory_cells.specs.Cells.{init_cell, spread_spec}
use Rattle.memory_cells.specs.Fits.{HasPlan, IsSpecOf, InitsFit, WritesFit, CombReadsFit, ClockedReadsFit, MemoriesFit}
use Rattle.netlist_laws.specs.Ids.{value_id, step_id}
use Rattle.netlist_laws.specs.Cells.{binary_cell, mux_cell}
use Rattle.netlist_laws.specs.Operands.{wire_part, const_spec, at_width, const_operand}
use Rattle.netlist_laws.specs.Operators.{Value, Drawing, nothing, inner_wire, whole, one_bit, one_cell, as_form}
use Rattle.netlist_laws.specs.Expressions.{and_also}
use Rattle.netlist_laws.specs.Fits.{HasWire, HasValue, DrawingFits}
use Rattle.netlist_laws.specs.Module.{signal_value, expr_value, register_cell}
use Rattle.netlist_laws.specs.PortGuards.{is_exact, guard_drawing, row_spec, address_spec}
use Rattle.netlist_laws.specs.MemoryDrawings.{names_rows, port_clock, address_guard, is_row, guarded_address, zeros_unless, enable_spec, writing, write_behind, write_drawing, read_enable, reading, flag_wire, guarded_read, read_drawing, Placed, Part, FirstRows, Writes, Reads, part_drawing, read_behind}
use Rattle.netlist_laws.proofs.Places.{length-spec_append}
use Rattle.netlist_laws.proofs.Reading.{spec_bits-replicate, length-replicate}
use Rattle.netlist_laws.proofs.FittingCells.{SpecIs, wire_is, whole_is, const_is, at_width_is, binary_fits, comparison_rules, mux_fits, inner_fits, inner_held}
use Rattle.netlist_laws.proofs.FittingDrawings.{nothing_fits, one_fits}
use Rattle.netlist_laws.proofs.SignalCells.{register_fits}
use Rattle.netlist_laws.proofs.PortAddresses.{granules_fill}

-- ---- specs

spec_of : (m : RtlModule) (spec : List SigPart) (width : ℕ) → SpecIs m spec width → IsSpecOf m width spec
spec_of m spec width h = record { fits = h.parts; wide = h.wide }

-- bits of an enable, each so many times
spread_is : (m : RtlModule) (id : List ℕ) (g n count : ℕ) → HasWire m.wires id count → n ≤ count → SpecIs m (spread_spec id g n) (g * n)
spread_is m id g zero count h le = record { wide = omega arith; parts = All-nil (PartFits m.wires) }
spread_is m id g (suc n) count h le =
    let more = spread_is m id g n count h (omega (arith, le)) in
    let high : List SigPart = replicate g (parts.Wire id n 1) in
    let long : length (spec_bits high) ≡ g = ap length (spec_bits-replicate id n g) ∙ length-replicate _ g in
    record {
      wide = length-spec_append high (spread_spec id g n) ∙ omega (arith, more.wide, long, mul-suc g n);
      parts =
          All-append (PartFits m.wires) high (spread_spec id g n)
          (All-replicate (PartFits m.wires) g (parts.Wire id n 1) (record { wire = h.wire; among = h.among; named = h.named; some = omega arith; within = omega (arith, h.wide, le) })) more.parts;
    }

both_fit : (m : RtlModule) (d e : Drawing) → DrawingFits m d → DrawingFits m e → DrawingFits m (and_also d e)
both_fit m d e p q = record { wires = All-append WireFits d.wires e.wires p.wires q.wires; cells = All-append (CellFits m) d.cells e.cells p.cells q.cells; links = All-append (LinkFits m) d.links e.links p.links q.links }

held_first : (m : RtlModule) (xs ys : List RtlWire) → All (Contains m.wires) (xs ++ ys) → All (Contains m.wires) xs
held_first m [] ys h = All-nil (Contains m.wires)
held_first m (x ∷ xs) ys h = All-cons (Contains m.wires) x xs (All-head (Contains m.wires) x (xs ++ ys) h) (held_first m xs ys (All-tail (Contains m.wires) x (xs ++ ys) h))

held_second : (m : RtlModule) (xs ys : List RtlWire) → All (Contains m.wires) (xs ++ ys) → All (Contains m.wires) ys
held_second m [] ys h = h
held_second m (x ∷ xs) ys h = held_second m xs ys (All-tail (Contains m.wires) x (xs ++ ys) h)

-- ---- guards

module _ (m : RtlModule) (n depth : ℕ) (id : List ℕ) (w : ℕ) (some : 1 ≤ depth) (fits : depth ≤ 2 ^ w) (h : 1 ≤ w → HasWire m.wires id w) where
  abbrev a : Value
  a = record { id = id; form = unsigned w }

  wide_guard : is_exact depth w ≡ false → 1 ≤ w
  wide_guard t = by w fits t
    where
      by : (v : ℕ) → depth ≤ 2 ^ v → is_exact depth v ≡ false → 1 ≤ v
      by zero le e = absurd (eqb-false depth 1 e (omega (arith, le, some)))
      by (suc v) le e = omega arith

  no_sign : (width : ℕ) → SpecIs m (at_width id (unsigned w) width) width
  no_sign width = at_width_is m id (unsigned w) width h (λ e. absurd (false≢true e))

  abbrev GuardHeld : Type 0
  GuardHeld = All (Contains m.wires) (guard_drawing step_id n depth a).wires

  abbrev test_wire : RtlWire
  test_wire = inner_wire (step_id (n + 1)) 1

  abbrev out_wire : RtlWire
  out_wire = inner_wire (step_id (n + 3)) w

  test_is : Contains m.wires test_wire → SpecIs m (one_bit (step_id (n + 1))) 1
  test_is c = wire_is m (step_id (n + 1)) 0 1 1 (λ _. inner_held m (step_id (n + 1)) 1 c) (omega arith)

  out_is : Contains m.wires out_wire → SpecIs m (wire_part (step_id (n + 3)) 0 w) w
  out_is c = wire_is m (step_id (n + 3)) 0 w w (λ _. inner_held m (step_id (n + 3)) w c) (omega arith)

  held_test : All (Contains m.wires) (test_wire ∷ out_wire ∷ []) → Contains m.wires test_wire
  held_test k = All-head (Contains m.wires) test_wire (out_wire ∷ []) k

  held_out : All (Contains m.wires) (test_wire ∷ out_wire ∷ []) → Contains m.wires out_wire
  held_out k = All-head (Contains m.wires) out_wire [] (All-tail (Contains m.wires) test_wire (out_wire ∷ []) k)

  row_is : GuardHeld → SpecIs m (row_spec step_id n depth a) 1
  row_is held = by (is_exact depth w) held
    where
      by : (b : Bool) → All (Contains m.wires) (if b then nothing else record {
        wires = test_wire ∷ out_wire ∷ [];
        cells =
            binary_cell kind.Lt (step_id n) (as_form a a.form) (const_operand a.form (pos depth)) 1 (one_bit (step_id (n + 1)))
            ∷ mux_cell (step_id (n + 2)) w (const_spec w (pos 0)) (at_width id a.form w) (one_bit (step_id (n + 1))) (wire_part (step_id (n + 3)) 0 w) ∷ [];
        links = [];
      }).wires → SpecIs m (if b then const_spec 1 (pos 1) else one_bit (step_id (n + 1))) 1
      by true k = const_is m 1 (pos 1)
      by false k = test_is (held_test k)

  guard_fits : GuardHeld → (SpecIs m (address_spec step_id n depth a) (max 1 w)) × DrawingFits m (guard_drawing step_id n depth a)
  guard_fits held = by (is_exact depth w) refl held
    where
      by : (b : Bool) → is_exact depth w ≡ b → All (Contains m.wires) (if b then nothing else record {
        wires = test_wire ∷ out_wire ∷ [];
        cells =
            binary_cell kind.Lt (step_id n) (as_form a a.form) (const_operand a.form (pos depth)) 1 (one_bit (step_id (n + 1)))
            ∷ mux_cell (step_id (n + 2)) w (const_spec w (pos 0)) (at_width id a.form w) (one_bit (step_id (n + 1))) (wire_part (step_id (n + 3)) 0 w) ∷ [];
        links = [];
      }).wires → (SpecIs m (if b then at_width id (unsigned w) (max 1 w) else wire_part (step_id (n + 3)) 0 w) (max 1 w)) × DrawingFits m (if b then nothing else record {
        wires = test_wire ∷ out_wire ∷ [];
        cells =
            binary_cell kind.Lt (step_id n) (as_form a a.form) (const_operand a.form (pos depth)) 1 (one_bit (step_id (n + 1)))
            ∷ mux_cell (step_id (n + 2)) w (const_spec w (pos 0)) (at_width id a.form w) (one_bit (step_id (n + 1))) (wire_part (step_id (n + 3)) 0 w) ∷ [];
        links = [];
      })
      by true e k = (no_sign (max 1 w), nothing_fits m)
      by false e k =
          let test = test_is (held_test k) in
          let out = out_is (held_out k) in
          let some : 1 ≤ w = wide_guard e in
          let same : w ≡ max 1 w = omega (arith, some) in
          let lt : RtlCell = binary_cell kind.Lt (step_id n) (as_form a a.form) (const_operand a.form (pos depth)) 1 (one_bit (step_id (n + 1))) in
          let mux : RtlCell = mux_cell (step_id (n + 2)) w (const_spec w (pos 0)) (at_width id a.form w) (one_bit (step_id (n + 1))) (wire_part (step_id (n + 3)) 0 w) in (
            subst (SpecIs m (wire_part (step_id (n + 3)) 0 w)) same out,
            record {
              wires = All-cons WireFits test_wire (out_wire ∷ []) (inner_fits (step_id (n + 1)) 1 (omega arith)) (All-cons WireFits out_wire [] (inner_fits (step_id (n + 3)) w some) (All-nil WireFits));
              cells =
                  All-cons (CellFits m) lt (mux ∷ [])
                  (binary_fits m kind.Lt (step_id n) (as_form a a.form) (const_operand a.form (pos depth)) 1 (one_bit (step_id (n + 1))) refl refl (no_sign w) (const_is m w (pos depth)) test
                  (comparison_rules m kind.Lt (step_id n) (as_form a a.form) (const_operand a.form (pos depth)) (one_bit (step_id (n + 1))) (no_sign w) (const_is m w (pos depth)) test refl))
                  (All-cons (CellFits m) mux [] (mux_fits m (step_id (n + 2)) w (const_spec w (pos 0)) (at_width id a.form w) (one_bit (step_id (n + 1))) (wire_part (step_id (n + 3)) 0 w) (const_is m w (pos 0)) (no_sign w) test out) (All-nil (CellFits m)));
              links = All-nil (LinkFits m);
            },
          )

-- ---- ports

-- the module has the wires of signals and expressions, and the clocks of domains
pub record HasParts (m : RtlModule) (c : Circuit) : Type 0 where
  pub exprs : (k : ℕ) → k < length c.pool.exprs → HasValue m.wires (expr_value c k)
  pub signals : (s : ℕ) → s < length c.pool.signals → HasValue m.wires (signal_value c s)
  pub clocks : (name : List ℕ) → IsSome (domain_named c name) → SpecIs m (port_clock c name).bit 1

-- what is proved of the cells of memories
pub record CellLaws : Type 0 where
  pub inits : InitsFit
  pub writes : WritesFit
  pub comb_reads : CombReadsFit
  pub clocked_reads : ClockedReadsFit
  pub memories : MemoriesFit

-- a read is transparent for write cells of its own clock alone
abbrev pub SeesThrough : RtlModule → Plan → MemRead → RtlCell → Type 0
SeesThrough m p r cell = (k : ℕ) → list_any (λ i. i == k) r.transparent ≡ true → MatchOption (slice_get (writes_of m p.id) k) ⊥ (HaveOneClock cell)

module _ (laws : CellLaws) (m : RtlModule) (c : Circuit) (has : HasParts m c) (p : Plan) (plan : HasPlan m p) (y : Memory) (some : 1 ≤ y.depth) (wide : 1 ≤ y.shape.width) (same : p.width ≡ y.shape.width) (n : ℕ) where
  -- as wide as a row
  row_wide : (spec : List SigPart) → SpecIs m spec y.shape.width → IsSpecOf m p.width spec
  row_wide spec h = spec_of m spec p.width (subst (SpecIs m spec) (sym same) h)

  module _ (e : ExprId) (addr : IsAddress c y e) (address : p.address ≡ max 1 (form c.pool e.0).width) (held : All (Contains m.wires) (address_guard c y n e).wires) where
    own : 1 ≤ (form c.pool e.0).width → HasWire m.wires (value_id e.0) (form c.pool e.0).width
    own = has.exprs e.0 addr.usable.there

    guarded_is : IsSpecOf m p.address (guarded_address c y n e)
    guarded_is = spec_of m (guarded_address c y n e) p.address (subst (SpecIs m (guarded_address c y n e)) (sym address) (guard_fits m n y.depth (value_id e.0) (form c.pool e.0).width some addr.width.enough own held).0)

    address_fits : DrawingFits m (address_guard c y n e)
    address_fits = (guard_fits m n y.depth (value_id e.0) (form c.pool e.0).width some addr.width.enough own held).1

    within_is : SpecIs m (is_row c y n e) 1
    within_is = row_is m n y.depth (value_id e.0) (form c.pool e.0).width some addr.width.enough own held

  zeros_fit : (id : List ℕ) (bits s out : List SigPart) → SpecIs m bits y.shape.width → SpecIs m s 1 → SpecIs m out y.shape.width → CellFits m (zeros_unless id y.shape.width bits s out)
  zeros_fit id bits s out b t o = mux_fits m id y.shape.width (const_spec y.shape.width (pos 0)) bits s out (const_is m y.shape.width (pos 0)) b t o

  -- a wire of the drawing
  inner_spec : (id : List ℕ) (width : ℕ) → Contains m.wires (inner_wire id width) → SpecIs m (wire_part id 0 width) width
  inner_spec id width k = wire_is m id 0 width width (λ _. inner_held m id width k) (omega arith)

  write_fits : (k : ℕ) (w : MemWrite) → IsWritePort c y w → p.address ≡ max 1 (form c.pool w.addr.0).width → All (Contains m.wires) (write_drawing c p y k n w).wires → DrawingFits m (write_drawing c p y k n w)
  write_fits k w port address held =
      let front = held_first m (address_guard c y n w.addr).wires (write_behind c p y k n w).wires held in
      let back = held_second m (address_guard c y n w.addr).wires (write_behind c p y k n w).wires held in
      both_fit m (address_guard c y n w.addr) (write_behind c p y k n w) (address_fits w.addr port.addr address front) (by front (names_rows c y w.addr) back)
    where
      clock : IsSpecOf m 1 (port_clock c w.domain).bit
      clock = spec_of m (port_clock c w.domain).bit 1 (has.clocks w.domain port.domain)

      enable : SpecIs m (enable_spec y w) y.shape.width
      enable =
          let bits : (form c.pool w.enable.0).width ≡ granules y w = ap (λ (f : Form). f.width) port.enable.shape in
          let full = granules_fill y w port.granularity in
          let own : HasWire m.wires (value_id w.enable.0) (granules y w) = subst (HasWire m.wires (value_id w.enable.0)) bits (has.exprs w.enable.0 port.enable.usable.there (some_bits (granules y w) (form c.pool w.enable.0).width bits full)) in
          subst (SpecIs m (enable_spec y w)) full (spread_is m (value_id w.enable.0) w.granularity (granules y w) (granules y w) own (omega arith))
        where
          some_bits : (g b : ℕ) → b ≡ g → w.granularity * g ≡ y.shape.width → 1 ≤ b
          some_bits zero b e full = absurd (omega (arith, full, wide))
          some_bits (suc g) b e full = omega (arith, e)

      word : SpecIs m (whole (expr_value c w.word.0)) y.shape.width
      word = subst (λ (f : Form). SpecIs m (whole (expr_value c w.word.0)) f.width) port.word.shape (whole_is m (expr_value c w.word.0) (has.exprs w.word.0 port.word.usable.there))

      cell_fits : All (Contains m.wires) (address_guard c y n w.addr).wires → (spec : List SigPart) → SpecIs m spec y.shape.width → CellFits m (writing c p y k n w spec)
      cell_fits front spec h = laws.writes m p (step_id (n + 6)) k (port_clock c w.domain) spec (guarded_address c y n w.addr) (whole (expr_value c w.word.0)) plan clock (row_wide spec h) (guarded_is w.addr port.addr address front) (row_wide (whole (expr_value c w.word.0)) word)

      by : All (Contains m.wires) (address_guard c y n w.addr).wires → (b : Bool) → All (Contains m.wires) (if b then one_cell (writing c p y k n w (if b then enable_spec y w else wire_part (step_id (n + 5)) 0 y.shape.width)) else record {
        wires = inner_wire (step_id (n + 5)) y.shape.width ∷ [];
        cells =
            zeros_unless (step_id (n + 4)) y.shape.width (enable_spec y w) (is_row c y n w.addr) (wire_part (step_id (n + 5)) 0 y.shape.width)
            ∷ writing c p y k n w (if b then enable_spec y w else wire_part (step_id (n + 5)) 0 y.shape.width) ∷ [];
        links = [];
      }).wires → DrawingFits m (if b then one_cell (writing c p y k n w (if b then enable_spec y w else wire_part (step_id (n + 5)) 0 y.shape.width)) else record {
        wires = inner_wire (step_id (n + 5)) y.shape.width ∷ [];
        cells =
            zeros_unless (step_id (n + 4)) y.shape.width (enable_spec y w) (is_row c y n w.addr) (wire_part (step_id (n + 5)) 0 y.shape.width)
            ∷ writing c p y k n w (if b then enable_spec y w else wire_part (step_id (n + 5)) 0 y.shape.width) ∷ [];
        links = [];
      })
      by front true back = one_fits m (writing c p y k n w (enable_spec y w)) (cell_fits front (enable_spec y w) enable)
      by front false back =
          let id : List ℕ = step_id (n + 5) in
          let v : ℕ = y.shape.width in
          let out = inner_spec id v (All-head (Contains m.wires) (inner_wire id v) [] back) in
          let mux : RtlCell = zeros_unless (step_id (n + 4)) v (enable_spec y w) (is_row c y n w.addr) (wire_part id 0 v) in
          record {
            wires = All-cons WireFits (inner_wire id v) [] (inner_fits id v wide) (All-nil WireFits);
            cells =
                All-cons (CellFits m) mux (writing c p y k n w (wire_part id 0 v) ∷ []) (zeros_fit (step_id (n + 4)) (enable_spec y w) (is_row c y n w.addr) (wire_part id 0 v) enable (within_is w.addr port.addr address front) out)
                (All-cons (CellFits m) (writing c p y k n w (wire_part id 0 v)) [] (cell_fits front (wire_part id 0 v) out) (All-nil (CellFits m)));
            links = All-nil (LinkFits m);
          }

  -- ---- read ports

  module _ (r : MemRead) (port : IsReadPort c y r) (address : p.address ≡ max 1 (form c.pool r.addr.0).width) (front : All (Contains m.wires) (address_guard c y n r.addr).wires) where
    out_word : SpecIs m (whole (signal_value c r.word.0)) y.shape.width
    out_word = subst (λ (f : Form). SpecIs m (whole (signal_value c r.word.0)) f.width) port.word.shape (whole_is m (signal_value c r.word.0) (has.signals r.word.0 port.word.there))

    comb_fits : (spec : List SigPart) → SpecIs m spec y.shape.width → CellFits m (reading c p y n r None spec)
    comb_fits spec h = laws.comb_reads m p (step_id (n + 4)) (guarded_address c y n r.addr) spec plan (guarded_is r.addr port.addr address front) (row_wide spec h)

    raw_wire : RtlWire
    raw_wire = inner_wire (step_id (n + 5)) y.shape.width

    comb_guarded : All (Contains m.wires) (guarded_read c p y n r None).wires → DrawingFits m (guarded_read c p y n r None)
    unfolding raw_wire
    comb_guarded back =
        let id : List ℕ = step_id (n + 5) in
        let v : ℕ = y.shape.width in
        let raw = inner_spec id v (All-head (Contains m.wires) (inner_wire id v) [] back) in
        let mux : RtlCell = zeros_unless (step_id (n + 6)) v (wire_part id 0 v) (is_row c y n r.addr) (whole (signal_value c r.word.0)) in
        record {
          wires = All-cons WireFits (inner_wire id v) [] (inner_fits id v wide) (All-nil WireFits);
          cells =
              All-cons (CellFits m) (reading c p y n r None (wire_part id 0 v)) (mux ∷ []) (comb_fits (wire_part id 0 v) raw)
              (All-cons (CellFits m) mux [] (zeros_fit (step_id (n + 6)) (wire_part id 0 v) (is_row c y n r.addr) (whole (signal_value c r.word.0)) raw (within_is r.addr port.addr address front) out_word) (All-nil (CellFits m)));
          links = All-nil (LinkFits m);
        }

    module _ (d : List ℕ) (e : ExprId) (clocking : IsClocking c (Some d) (Some e)) (enable : r.enable ≡ Some e) (through : (spec : List SigPart) → SeesThrough m p r (reading c p y n r (Some d) spec)) where
      clock_spec : SpecIs m (port_clock c d).bit 1
      clock_spec = has.clocks d clocking.0

      enable_is : SpecIs m (read_enable c r.enable) 1
      enable_is =
          subst (λ o. SpecIs m (read_enable c o) 1) (sym enable)
          (subst (λ (f : Form). SpecIs m (whole (expr_value c e.0)) f.width) clocking.1.shape (whole_is m (expr_value c e.0) (has.exprs e.0 clocking.1.usable.there)))

      clocked_fits : (spec : List SigPart) → SpecIs m spec y.shape.width → CellFits m (reading c p y n r (Some d) spec)
      clocked_fits spec h =
          laws.clocked_reads m p (step_id (n + 4)) r.transparent (port_clock c d) (read_enable c r.enable) (guarded_address c y n r.addr) spec plan (spec_of m (port_clock c d).bit 1 clock_spec) (spec_of m (read_enable c r.enable) 1 enable_is)
          (guarded_is r.addr port.addr address front) (row_wide spec h) (through spec)

      clocked_guarded : All (Contains m.wires) (guarded_read c p y n r (Some d)).wires → DrawingFits m (guarded_read c p y n r (Some d))
      clocked_guarded back =
          let id : List ℕ = step_id (n + 5) in
          let flag : List ℕ = step_id (n + 8) in
          let next : List ℕ = step_id (n + 10) in
          let v : ℕ = y.shape.width in
          let after = All-tail (Contains m.wires) (inner_wire id v) (flag_wire n ∷ inner_wire next 1 ∷ []) back in
          let raw = inner_spec id v (All-head (Contains m.wires) (inner_wire id v) (flag_wire n ∷ inner_wire next 1 ∷ []) back) in
          let kept : HasWire m.wires flag 1 = record { wire = flag_wire n; among = All-head (Contains m.wires) (flag_wire n) (inner_wire next 1 ∷ []) after; named = refl; wide = refl } in
          let flag_is : SpecIs m (one_bit flag) 1 = wire_is m flag 0 1 1 (λ _. kept) (omega arith) in
          let next_is = inner_spec next 1 (All-head (Contains m.wires) (inner_wire next 1) [] (All-tail (Contains m.wires) (flag_wire n) (inner_wire next 1 ∷ []) after)) in
          let read : RtlCell = reading c p y n r (Some d) (wire_part id 0 v) in
          let register : RtlCell = register_cell (step_id (n + 7)) 1 (port_clock c d) (one_bit next) (one_bit flag) in
          let choice : RtlCell = mux_cell (step_id (n + 9)) 1 (one_bit flag) (is_row c y n r.addr) (read_enable c r.enable) (one_bit next) in
          let mux : RtlCell = zeros_unless (step_id (n + 6)) v (wire_part id 0 v) (one_bit flag) (whole (signal_value c r.word.0)) in
          record {
            wires =
                All-cons WireFits (inner_wire id v) (flag_wire n ∷ inner_wire next 1 ∷ []) (inner_fits id v wide)
                (All-cons WireFits (flag_wire n) (inner_wire next 1 ∷ []) (record { wide = omega arith; init = refl }) (All-cons WireFits (inner_wire next 1) [] (inner_fits next 1 (omega arith)) (All-nil WireFits)));
            cells =
                All-cons (CellFits m) read (register ∷ choice ∷ mux ∷ []) (clocked_fits (wire_part id 0 v) raw)
                (All-cons (CellFits m) register (choice ∷ mux ∷ []) (register_fits m (step_id (n + 7)) 1 (port_clock c d) (one_bit next) (one_bit flag) clock_spec next_is flag_is)
                (All-cons (CellFits m) choice (mux ∷ [])
                (mux_fits m (step_id (n + 9)) 1 (one_bit flag) (is_row c y n r.addr) (read_enable c r.enable) (one_bit next) flag_is (within_is r.addr port.addr address front) enable_is next_is)
                (All-cons (CellFits m) mux [] (zeros_fit (step_id (n + 6)) (wire_part id 0 v) (one_bit flag) (whole (signal_value c r.word.0)) raw flag_is out_word) (All-nil (CellFits m)))));
            links = All-nil (LinkFits m);
          }

  -- what is behind a read port's guard, by its domain
  behind_fits : (r : MemRead) (port : IsReadPort c y r) (address : p.address ≡ max 1 (form c.pool r.addr.0).width) (front : All (Contains m.wires) (address_guard c y n r.addr).wires)
      → ((d : List ℕ) (spec : List SigPart) → r.domain ≡ Some d → SeesThrough m p r (reading c p y n r (Some d) spec))
      → (d : Option (List ℕ)) (e : Option ExprId) → r.domain ≡ d → r.enable ≡ e → IsClocking c d e → (b : Bool)
      → All (Contains m.wires) (if b then one_cell (reading c p y n r d (whole (signal_value c r.word.0))) else guarded_read c p y n r d).wires
      → DrawingFits m (if b then one_cell (reading c p y n r d (whole (signal_value c r.word.0))) else guarded_read c p y n r d)
  behind_fits r port address front through None None domain enable clocking true back =
      one_fits m (reading c p y n r None (whole (signal_value c r.word.0))) (comb_fits r port address front (whole (signal_value c r.word.0)) (out_word r port address front))
  behind_fits r port address front through None None domain enable clocking false back = comb_guarded r port address front back
  behind_fits r port address front through None (Some e) domain enable clocking b back = absurd clocking
  behind_fits r port address front through (Some d) None domain enable clocking b back = absurd clocking
  behind_fits r port address front through (Some d) (Some e) domain enable clocking true back =
      one_fits m (reading c p y n r (Some d) (whole (signal_value c r.word.0)))
      (clocked_fits r port address front d e clocking enable (λ spec. through d spec domain) (whole (signal_value c r.word.0)) (out_word r port address front))
  behind_fits r port address front through (Some d) (Some e) domain enable clocking false back = clocked_guarded r port address front d e clocking enable (λ spec. through d spec domain) back

  read_fits : (r : MemRead) → IsReadPort c y r → p.address ≡ max 1 (form c.pool r.addr.0).width → ((d : List ℕ) (spec : List SigPart) → r.domain ≡ Some d → SeesThrough m p r (reading c p y n r (Some d) spec))
      → All (Contains m.wires) (read_drawing c p y n r).wires → DrawingFits m (read_drawing c p y n r)
  read_fits r port address through held =
      let front = held_first m (address_guard c y n r.addr).wires (read_behind c p y n r).wires held in
      let back = held_second m (address_guard c y n r.addr).wires (read_behind c p y n r).wires held in
      both_fit m (address_guard c y n r.addr) (read_behind c p y n r) (address_fits r.addr port.addr address front) (behind_fits r port address front through r.domain r.enable refl refl port.clocking (names_rows c y r.addr) back)

-- a part of a memory keeps the rules
pub part_fits : CellLaws → (m : RtlModule) (c : Circuit) → HasParts m c → (x : Placed) → HasPlan m x.plan → (n : ℕ) (q : Part) → 1 ≤ x.memory.depth → 1 ≤ x.memory.shape.width → IsPortOf c x.memory q
    → x.plan.width ≡ x.memory.shape.width → length x.memory.rows ≡ x.plan.depth → ((e : ExprId) → IsAddress c x.memory e → x.plan.address ≡ max 1 (form c.pool e.0).width)
    → ((r : MemRead) (d : List ℕ) (spec : List SigPart) → r.domain ≡ Some d → IsReadPort c x.memory r → SeesThrough m x.plan r (reading c x.plan x.memory n r (Some d) spec))
    → All (Contains m.wires) (part_drawing c x n q).wires → DrawingFits m (part_drawing c x n q)
part_fits laws m c has x plan n FirstRows some wide port same rows address through held = one_fits m (init_cell x.plan (step_id n) x.memory.rows) (laws.inits m x.plan (step_id n) x.memory.rows plan rows)
part_fits laws m c has x plan n (Writes k w) some wide port same rows address through held = write_fits laws m c has x.plan plan x.memory some wide same n k w port (address w.addr port.addr) held
part_fits laws m c has x plan n (Reads r) some wide port same rows address through held =
    read_fits laws m c has x.plan plan x.memory some wide same n r port (address r.addr port.addr) (λ d spec domain. through r d spec domain port) held
