-- The guards of a memory's ports.
use Rattle.std.specs.Prelude.{◌≡◌, ◌≤◌, ◌<◌, ◌+◌, ◌^◌, ℕ, zero, suc, nat_lt, Bool, true, false, cond, if◌then◌else◌, max, List, [], ◌∷◌, pos, Some, int_lt, All}
use Rattle.std.proofs.Common.{refl, sym, ap, ◌∙◌, arith, subst}
use Rattle.std.proofs.lemmas.Bool.{eqb-true, eqb-false, lt-ltb, false≢true}
use Rattle.std.proofs.lemmas.Nat.{pow_pos}
use Rattle.std.proofs.Math.Nat.{mod-eq_of_lt}
use Rattle.amh_bits.specs.Patterns.{pattern}
use Rattle.amh_bits.proofs.InShape.{of_wider}
use Rattle.shape_rules.specs.Forms.{unsigned}
use Rattle.shape_rules.specs.Operators.{truth}
use Rattle.shape_rules.specs.declared.cell.CellKind.TheVariants as kind
use Rattle.rtlil_text.specs.declared.cell.RtlCell.{RtlCell}
use Rattle.rtlil_text.specs.Sources.{spec_bits}
use Rattle.rtlil_text.specs.Cells.{read, bit_at, number_bits}
use Rattle.rtlil_text.specs.Meaning.{source_value}
use Rattle.rtlil_text.specs.History.{Wires}
use Rattle.netlist_laws.specs.Cells.{binary_cell, mux_cell}
use Rattle.netlist_laws.specs.Operands.{wire_part, const_spec, at_width, const_operand}
use Rattle.netlist_laws.specs.Operators.{Value, nothing, inner_wire, one_bit, as_form}
use Rattle.netlist_laws.specs.Carried.{Carries, ObeysCell, Obeys}
use Rattle.netlist_laws.specs.PortGuards.{is_exact, address_value, guard_drawing, GuardsAreMade}
use Rattle.netlist_laws.proofs.Reading.{HasBits, Reads, has_carried, reads_const, reads_low, reads_at_width, reads_whole}
use Rattle.netlist_laws.proofs.Whole.{signed_cell}
use Rattle.netlist_laws.proofs.Drawn.{first_cell, second_cell}
use Rattle.netlist_laws.proofs.Bitwise.{mux_cell_bits}
use Rattle.netlist_laws.proofs.Comparisons.{lt_whole}
use Rattle.netlist_laws.proofs.Widths.{one_bit_is}

module _ (wires : Wires) (id : ℕ → List ℕ) (n depth : ℕ) (name : List ℕ) (width u : ℕ) (below : u < 2 ^ width) (some : 1 ≤ depth) (bits : HasBits wires name width (pos u)) where
  abbrev a : Value
  a = address_value name width

  -- the address at some width of bits or more
  reads : (w : ℕ) → Reads wires (at_width name (unsigned width) w) w (pos u)
  reads w = reads_at_width wires name (unsigned width) w (pos u) (λ e. absurd (false≢true e)) below bits

  low : (w : ℕ) → width ≤ w → pattern w (pos u) ≡ u
  low w h = mod-eq_of_lt (of_wider false width w (pos u) h below)

  -- ---- every address is one of a row

  whole_address : read (source_value wires) (spec_bits (at_width name (unsigned width) (max 1 width))) ≡ Some (number_bits (max 1 width) u)
  whole_address = reads_whole wires (at_width name (unsigned width) (max 1 width)) (max 1 width) (pos u) (reads (max 1 width)) ∙ ap (λ k. Some (number_bits (max 1 width) k)) (low (max 1 width) (omega arith))

  -- ---- some are past the depth

  abbrev compares : RtlCell
  compares = binary_cell kind.Lt (id n) (as_form a a.form) (const_operand a.form (pos depth)) 1 (one_bit (id (n + 1)))

  abbrev guards : RtlCell
  guards = mux_cell (id (n + 2)) width (const_spec width (pos 0)) (at_width name (unsigned width) width) (one_bit (id (n + 1))) (wire_part (id (n + 3)) 0 width)

  module _ (less : depth < 2 ^ width) (cells : All (ObeysCell wires) (compares ∷ guards ∷ [])) where
    tested : HasBits wires (id (n + 1)) 1 (truth (nat_lt u depth))
    tested =
        signed_cell wires kind.Lt (id n) (as_form a a.form) (const_operand a.form (pos depth)) 1 (id (n + 1)) 1 (pos u) (pos depth) (truth (int_lt (pos u) (pos depth))) lt_whole (λ s. refl)
        (reads width) (reads_const wires width (pos depth)) below less refl (first_cell wires compares (guards ∷ []) cells)

    test : bit_at (source_value wires) (spec_bits (one_bit (id (n + 1)))) 0 ≡ Some (nat_lt u depth)
    test = one_bit_is wires (id (n + 1)) (nat_lt u depth) tested

    guarded : HasBits wires (id (n + 3)) width (cond (nat_lt u depth) (pos u) (pos 0))
    guarded =
        mux_cell_bits wires (id (n + 2)) width (const_spec width (pos 0)) (at_width name (unsigned width) width) (one_bit (id (n + 1))) (id (n + 3)) width (nat_lt u depth) (pos 0) (pos u) test
        (reads_const wires width (pos 0)) (reads width) (second_cell wires compares guards [] cells)

    -- a depth that is less needs an address of some bits
    bits_there : max 1 width ≡ width
    bits_there = by width less
      where
        by : (w : ℕ) → depth < 2 ^ w → max 1 w ≡ w
        by zero h = absurd (omega (arith, h, some))
        by (suc w) h = omega arith

    chosen : (b : Bool) → pattern width (cond b (pos u) (pos 0)) ≡ (if b then u else 0)
    chosen true = low width (omega arith)
    chosen false = mod-eq_of_lt (pow_pos width)

    chosen_address : read (source_value wires) (spec_bits (wire_part (id (n + 3)) 0 width)) ≡ Some (number_bits (max 1 width) (if nat_lt u depth then u else 0))
    chosen_address =
        reads_whole wires (wire_part (id (n + 3)) 0 width) width (cond (nat_lt u depth) (pos u) (pos 0)) (reads_low wires (id (n + 3)) width width (cond (nat_lt u depth) (pos u) (pos 0)) (omega arith) guarded)
        ∙ ap (λ k. Some (number_bits width k)) (chosen (nat_lt u depth)) ∙ ap (λ w. Some (number_bits w (if nat_lt u depth then u else 0))) (sym bits_there)

  -- ---- both

  abbrev Made : Bool → Type 0
  Made exact =
      (bit_at (source_value wires) (spec_bits (if exact then const_spec 1 (pos 1) else one_bit (id (n + 1)))) 0 ≡ Some (nat_lt u depth))
      × (read (source_value wires) (spec_bits (if exact then at_width name (unsigned width) (max 1 width) else wire_part (id (n + 3)) 0 width)) ≡ Some (number_bits (max 1 width) (if nat_lt u depth then u else 0)))

  exact_made : depth ≡ 2 ^ width → Made true
  exact_made e =
      let inside : nat_lt u depth ≡ true = lt-ltb u depth (subst (λ d. u < d) (sym e) below) in
      (ap Some (sym inside), whole_address ∙ ap (λ (b : Bool). Some (number_bits (max 1 width) (if b then u else 0))) (sym inside))

-- the wires of the guard, where there is one: whether the address is one of a row, and the address behind the guard
pub guard_bits : (wires : Wires) (id : ℕ → List ℕ) (n depth : ℕ) (name : List ℕ) (width u : ℕ) → u < 2 ^ width → 1 ≤ depth → depth ≤ 2 ^ width → Carries wires (address_value name width) (pos u)
    → Obeys wires (guard_drawing id n depth (address_value name width)) → is_exact depth width ≡ false → HasBits wires (id (n + 1)) 1 (truth (nat_lt u depth)) × HasBits wires (id (n + 3)) width (cond (nat_lt u depth) (pos u) (pos 0))
guard_bits wires id n depth name width u below some fits carries obeys e = by (is_exact depth width) e obeys
  where
    by : (b : Bool) → b ≡ false → Obeys wires (if b then nothing else record {
      wires = inner_wire (id (n + 1)) 1 ∷ inner_wire (id (n + 3)) width ∷ [];
      cells =
          binary_cell kind.Lt (id n) (as_form (address_value name width) (unsigned width)) (const_operand (unsigned width) (pos depth)) 1 (one_bit (id (n + 1)))
          ∷ mux_cell (id (n + 2)) width (const_spec width (pos 0)) (at_width name (unsigned width) width) (one_bit (id (n + 1))) (wire_part (id (n + 3)) 0 width) ∷ [];
      links = [];
    }) → HasBits wires (id (n + 1)) 1 (truth (nat_lt u depth)) × HasBits wires (id (n + 3)) width (cond (nat_lt u depth) (pos u) (pos 0))
    by true t o = absurd (false≢true (sym t))
    by false t o =
        let less : depth < 2 ^ width = omega (arith, fits, eqb-false depth (2 ^ width) e) in
        let h : HasBits wires name width (pos u) = has_carried wires (address_value name width) (pos u) carries in
        (tested wires id n depth name width u below some h less o.cells, guarded wires id n depth name width u below some h less o.cells)

pub guards_made : GuardsAreMade
guards_made wires id n depth name width u below some fits carries obeys = by (is_exact depth width) refl obeys
  where
    by : (b : Bool) → is_exact depth width ≡ b → Obeys wires (if b then nothing else record {
      wires = inner_wire (id (n + 1)) 1 ∷ inner_wire (id (n + 3)) width ∷ [];
      cells =
          binary_cell kind.Lt (id n) (as_form (address_value name width) (unsigned width)) (const_operand (unsigned width) (pos depth)) 1 (one_bit (id (n + 1)))
          ∷ mux_cell (id (n + 2)) width (const_spec width (pos 0)) (at_width name (unsigned width) width) (one_bit (id (n + 1))) (wire_part (id (n + 3)) 0 width) ∷ [];
      links = [];
    }) → Made wires id n depth name width u below some (has_carried wires (address_value name width) (pos u) carries) b
    by true t o = exact_made wires id n depth name width u below some (has_carried wires (address_value name width) (pos u) carries) (eqb-true depth (2 ^ width) t)
    by false t o =
        let less : depth < 2 ^ width = omega (arith, fits, eqb-false depth (2 ^ width) t) in
        let h : HasBits wires name width (pos u) = has_carried wires (address_value name width) (pos u) carries in
        (test wires id n depth name width u below some h less o.cells, chosen_address wires id n depth name width u below some h less o.cells)
