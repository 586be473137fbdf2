-- Operators that make one bit from all bits of a value.
use Rattle.std.proofs.Common.{◌≡◌, ℕ, zero, suc, ◌-◌, ◌<◌, ◌≤◌, ◌^◌, ◌%◌, ◌==◌, Bool, not, List, [], refl, sym, ◌∙◌, ap, arith, ℤ, pos, count_ones}
use lib.Count.{ones}
use Rattle.std.specs.Prelude.{Option, Some, option_and_then, codes}
use Rattle.std.specs.List.{list_any, list_all}
use Rattle.std.proofs.lemmas.Bool.{cond_both, eqb-true}
use Rattle.std.proofs.lemmas.Nat.{mod_below}
use Rattle.amh_bits.specs.Patterns.{pattern, IsOf}
use Rattle.amh_bits.proofs.Wraps.{pattern_below}
use Rattle.shape_rules.specs.Forms.{Form}
use Rattle.shape_rules.specs.Operators.{truth, is_zero}
use Rattle.shape_rules.specs.declared.op.Op.TheVariants as op
use Rattle.shape_rules.specs.declared.cell.CellKind.{CellKind}
use Rattle.shape_rules.specs.declared.cell.CellKind.TheVariants as kind
use Rattle.rtlil_text.specs.declared.cell.RtlCell.{RtlCell}
use Rattle.rtlil_text.specs.Sources.{Source, spec_bits, end_bits}
use Rattle.rtlil_text.specs.CellTables.{output_of}
use Rattle.rtlil_text.specs.Cells.{number_bits, cell_bit, read, parity}
use Rattle.rtlil_text.specs.Meaning.{source_value}
use Rattle.rtlil_text.specs.History.{Wires}
use Rattle.netlist_laws.specs.Ids.{part_id}
use Rattle.netlist_laws.specs.Cells.{Operand, unary_cell}
use Rattle.netlist_laws.specs.Operands.{wire_part, const_spec}
use Rattle.netlist_laws.specs.Operators.{Value, Drawing, as_form, whole, one_cell, linked, reduced}
use Rattle.netlist_laws.specs.Carried.{ObeysCell, Obeys, MakesOperator}
use Rattle.netlist_laws.proofs.Reading.{HasBits, Reads, reads_const, reads_whole}
use Rattle.netlist_laws.proofs.Whole.{driven}
use Rattle.netlist_laws.proofs.Drawn.{makes_bits, first_cell}
use Rattle.netlist_laws.proofs.Widths.{reads_narrow, has_equal, has_truth, linked_bits}
use Rattle.netlist_laws.proofs.ReducedBits.{pattern-is_zero, any-pattern, all-pattern, parity-pattern}

-- the kinds that make one bit from all bits of A
pub record IsReduction (k : CellKind) (f : List Bool → Bool) : Type 0 where
  pub output : output_of k ≡ codes "\\Y"
  pub bit : (value : Source → Option Bool) (c : RtlCell) (width : ℕ) → cell_bit value c width 0 k ≡ option_and_then (λ bits. Some (f bits)) (read value (end_bits c (codes "\\A")))

pub or_reduction : IsReduction kind.ReduceOr (λ bits. list_any (λ b. b) bits)
or_reduction = record { output = refl; bit = λ value c width. refl }

and_reduction : IsReduction kind.ReduceAnd (λ bits. list_all (λ b. b) bits)
and_reduction = record { output = refl; bit = λ value c width. refl }

xor_reduction : IsReduction kind.ReduceXor parity
xor_reduction = record { output = refl; bit = λ value c width. refl }

reduced_some : (f : List Bool → Bool) (x : Option (List Bool)) (us : List Bool) → x ≡ Some us → option_and_then (λ bits. Some (f bits)) x ≡ Some (f us)
reduced_some f x us e = rw e refl

pub reduction_bit : (wires : Wires) (k : CellKind) (f : List Bool → Bool) (name : List ℕ) (a : Operand) (width : ℕ) (id : List ℕ) (w : ℕ) (x : ℤ) → IsReduction k f
    → Reads wires a.spec a.form.width x → 1 ≤ w → ObeysCell wires (unary_cell k name a width (wire_part id 0 w)) → wires id 0 ≡ Some (f (number_bits a.form.width (pattern a.form.width x)))
reduction_bit wires k f name a width id w x kind r some o =
    driven wires (unary_cell k name a width (wire_part id 0 w)) id w (ap (end_bits (unary_cell k name a width (wire_part id 0 w))) kind.output) o 0 (omega arith)
    ∙ kind.bit (source_value wires) (unary_cell k name a width (wire_part id 0 w)) w
    ∙ reduced_some f (read (source_value wires) (spec_bits a.spec)) (number_bits a.form.width (pattern a.form.width x)) (reads_whole wires a.spec a.form.width x r)

-- a reduction, or its constant where there are no bits
reduced_bits : (wires : Wires) (k : CellKind) (f : List Bool → Bool) (empty : ℤ) (n : ℕ) (a y : Value) (x : ℤ) (t : Bool) → IsReduction k f → y.form.width ≡ 1
    → HasBits wires a.id a.form.width x → f (number_bits a.form.width (pattern a.form.width x)) ≡ t → (a.form.width ≡ 0 → empty ≡ truth t)
    → Obeys wires (reduced k empty n a y) → HasBits wires y.id y.form.width (truth t)
reduced_bits wires k f empty n a y x t kind one c bits none =
    let cell = unary_cell k (part_id n) (as_form a a.form) 1 (whole y) in
    cond_both (a.form.width == 0) (linked y (const_spec 1 empty)) (one_cell cell) (λ (d : Drawing). Obeys wires d → HasBits wires y.id y.form.width (truth t))
    (λ e o. has_equal wires y.id y.form.width empty (truth t) (none (eqb-true a.form.width 0 e)) (linked_bits wires y (const_spec 1 empty) 1 empty (reads_const wires 1 empty) (omega arith) o))
    (λ e o. has_truth wires y.id y.form.width t one
    (reduction_bit wires k f (part_id n) (as_form a a.form) 1 y.id y.form.width x kind (reads_narrow wires a.id a.form a.form.width x (omega arith) c) (omega arith) (first_cell wires cell [] o.cells) ∙ ap Some bits))

-- ---- where there are no bits

pub empty_pattern : (width : ℕ) (x : ℤ) → width ≡ 0 → pattern width x ≡ 0
empty_pattern width x e = let h : pattern 0 x < 2 ^ 0 = pattern_below 0 x in ap (λ w. pattern w x) e ∙ (let d : pattern 0 x ≡ 0 = omega arith in d)

empty_any : (s : Bool) (width : ℕ) (x : ℤ) → IsOf s width x → width ≡ 0 → pos 0 ≡ truth (not (is_zero x))
empty_any s width x f e = ap (λ t. truth (not t)) (ap (λ n. n == 0) (sym (empty_pattern width x e)) ∙ pattern-is_zero s width x f)

empty_all : (width : ℕ) (x : ℤ) → width ≡ 0 → pos 1 ≡ truth (pattern width x == 2 ^ width - 1)
empty_all width x e = sym (ap (λ n. truth (n == 2 ^ width - 1)) (empty_pattern width x e) ∙ ap (λ w. truth (0 == 2 ^ w - 1)) e)

odd_truth : (m : ℕ) → m < 2 → truth (m == 1) ≡ pos m
odd_truth zero h = refl
odd_truth (suc zero) h = refl
odd_truth (suc (suc m)) h = absurd (omega arith)

pub parity_truth : (n : ℕ) → truth (n % 2 == 1) ≡ pos (n % 2)
parity_truth n = odd_truth (n % 2) (mod_below n 2 (omega arith))

empty_parity : (width : ℕ) (x : ℤ) → width ≡ 0 → pos 0 ≡ truth (count_ones (pattern width x) % 2 == 1)
unfolding ones
empty_parity width x e = ap (λ n. truth (count_ones n % 2 == 1)) (sym (empty_pattern width x e))

-- ---- the operators

pub makes_any : MakesOperator op.Any
makes_any =
    makes_bits op.Any (λ wires n a b y x z p q t e f g c d some o.
    reduced_bits wires kind.ReduceOr (λ bits. list_any (λ b. b) bits) (pos 0) n a y x (not (is_zero x)) or_reduction (ap (λ (f : Form). f.width) e) c (any-pattern a.form.signed a.form.width x f)
    (empty_any a.form.signed a.form.width x f) o)

pub makes_all : MakesOperator op.All
makes_all =
    makes_bits op.All (λ wires n a b y x z p q t e f g c d some o.
    reduced_bits wires kind.ReduceAnd (λ bits. list_all (λ b. b) bits) (pos 1) n a y x (pattern a.form.width x == 2 ^ a.form.width - 1) and_reduction (ap (λ (f : Form). f.width) e) c (all-pattern a.form.width x)
    (empty_all a.form.width x) o)

pub makes_parity : MakesOperator op.Parity
makes_parity =
    makes_bits op.Parity (λ wires n a b y x z p q t e f g c d some o.
    has_equal wires y.id y.form.width (truth (count_ones (pattern a.form.width x) % 2 == 1)) (pos (count_ones (pattern a.form.width x) % 2)) (parity_truth (count_ones (pattern a.form.width x)))
    (reduced_bits wires kind.ReduceXor parity (pos 0) n a y x (count_ones (pattern a.form.width x) % 2 == 1) xor_reduction (ap (λ (f : Form). f.width) e) c (parity-pattern a.form.width x)
    (empty_parity a.form.width x) o))
