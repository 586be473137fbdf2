-- Cells whose ends have their widths keep the rules of their kinds.
use Rattle.std.proofs.Common.{◌≡◌, ℕ, zero, suc, ◌+◌, ◌-◌, ◌≤◌, Bool, true, false, List, [], ◌∷◌, ◌++◌, length, replicate, refl, sym, ◌∙◌, ap, arith, ℤ}
use Rattle.std.specs.Prelude.{Contains, codes, nat_lt}
use Rattle.std.proofs.lemmas.Bool.{cond_both, ltb-true, ltb-false}
use Rattle.std.proofs.lemmas.List.Elements.{All-nil, All-cons, All-append, All-replicate, All-from_recursion}
use Rattle.shape_rules.specs.Forms.{Form}
use Rattle.shape_rules.specs.declared.cell.CellKind.{CellKind}
use Rattle.shape_rules.specs.declared.cell.CellKind.TheVariants as kind
use Rattle.amh_bits.specs.Patterns.{pattern}
use Rattle.rtlil_text.specs.declared.sig.SigPart.{SigPart}
use Rattle.rtlil_text.specs.declared.sig.SigPart.TheVariants as parts
use Rattle.rtlil_text.specs.declared.cell.RtlParameter.{RtlParameter}
use Rattle.rtlil_text.specs.declared.cell.RtlEnd.{RtlEnd}
use Rattle.rtlil_text.specs.declared.module.RtlModule.{RtlModule}
use Rattle.rtlil_text.specs.Sources.{spec_bits}
use Rattle.rtlil_text.specs.Cells.{number_bits}
use Rattle.rtlil_text.specs.CellTables.{binary_parameters, unary_parameters, unary_ends, parameters_of, ends_of}
use Rattle.rtlil_text.specs.CellRules.{HasUnaryWidths, HasBinaryWidths, FitsNot, FitsReduction, FitsArithmetic, FitsComparison, FitsShift}
use Rattle.rtlil_text.specs.Rules.{WireFits, SpecFits, PartFits, ValueFits, KindFits, CellFits, LinkFits}
use Rattle.rtlil_text.proofs.CellLaws.{length-number_bits}
use Rattle.netlist_laws.specs.Cells.{Operand, flag, unary_cell, binary_cell, mux_cell}
use Rattle.netlist_laws.specs.Operands.{wire_part, const_part, const_spec, filling, at_width}
use Rattle.netlist_laws.specs.Operators.{Value, whole, inner_wire, linked}
use Rattle.netlist_laws.specs.Fits.{HasWire, HasValue, DrawingFits}
use Rattle.netlist_laws.proofs.Places.{length-wire_part, length-const_part, length-spec_append}
use Rattle.netlist_laws.proofs.Reading.{HasSign, length-filling}

-- a spec of so many bits, all of them of the module's wires
pub record SpecIs (m : RtlModule) (spec : List SigPart) (width : ℕ) : Type 0 where
  pub wide : length (spec_bits spec) ≡ width
  pub parts : SpecFits m.wires spec

-- ---- specs

part_is : (m : RtlModule) (id : List ℕ) (low n width : ℕ) → (1 ≤ width → HasWire m.wires id width) → low + n ≤ width → SpecFits m.wires (wire_part id low n)
part_is m id low zero width w le = All-nil (PartFits m.wires)
part_is m id low (suc n) width w le =
    let has : HasWire m.wires id width = w (omega arith) in
    All-cons (PartFits m.wires) (parts.Wire id low (suc n)) [] (record { wire = has.wire; among = has.among; named = has.named; some = omega arith; within = omega (arith, has.wide) }) (All-nil (PartFits m.wires))

pub wire_is : (m : RtlModule) (id : List ℕ) (low n width : ℕ) → (1 ≤ width → HasWire m.wires id width) → low + n ≤ width → SpecIs m (wire_part id low n) n
wire_is m id low n width w le = record { wide = length-wire_part id low n; parts = part_is m id low n width w le }

pub whole_is : (m : RtlModule) (v : Value) → HasValue m.wires v → SpecIs m (whole v) v.form.width
whole_is m v w = wire_is m v.id 0 v.form.width v.form.width w (omega arith)

pub const_parts : (m : RtlModule) (bits : List Bool) → SpecFits m.wires (const_part bits)
const_parts m [] = All-nil (PartFits m.wires)
const_parts m (b ∷ bits) = All-cons (PartFits m.wires) (parts.Const (b ∷ bits)) [] tt (All-nil (PartFits m.wires))

pub const_is : (m : RtlModule) (width : ℕ) (z : ℤ) → SpecIs m (const_spec width z) width
const_is m width z = record {
  wide = length-const_part (number_bits width (pattern width z)) ∙ length-number_bits width (pattern width z);
  parts = const_parts m (number_bits width (pattern width z));
}

filling_parts : (m : RtlModule) (id : List ℕ) (s : Bool) (w n : ℕ) → (1 ≤ w → HasWire m.wires id w) → (s ≡ true → 1 ≤ w) → SpecFits m.wires (filling id (record { width = w; signed = s }) n)
filling_parts m id true w n h some =
    let has : HasWire m.wires id w = h (some refl) in
    All-replicate (PartFits m.wires) n (parts.Wire id (w - 1) 1) (record { wire = has.wire; among = has.among; named = has.named; some = omega arith; within = omega (arith, has.wide, some refl) })
filling_parts m id false w n h some = const_parts m (replicate n false)

at_width_is' : (m : RtlModule) (id : List ℕ) (s : Bool) (w width : ℕ) → (1 ≤ w → HasWire m.wires id w) → (s ≡ true → 1 ≤ w) → SpecIs m (at_width id (record { width = w; signed = s }) width) width
at_width_is' m id s w width h some =
    cond_both (nat_lt width w) (wire_part id 0 width) (filling id (record { width = w; signed = s }) (width - w) ++ wire_part id 0 w) (λ spec. SpecIs m spec width)
    (λ e. wire_is m id 0 width w h (omega (arith, ltb-true width w e)))
    (λ e. record {
      wide =
          let le : w ≤ width = ltb-false width w e in
          length-spec_append (filling id (record { width = w; signed = s }) (width - w)) (wire_part id 0 w)
          ∙ (let d : length (spec_bits (wire_part id 0 w)) + length (spec_bits (filling id (record { width = w; signed = s }) (width - w))) ≡ width = omega (arith, length-wire_part id 0 w, length-filling id s w (width - w)) in d);
      parts =
          All-append (PartFits m.wires) (filling id (record { width = w; signed = s }) (width - w)) (wire_part id 0 w) (filling_parts m id s w (width - w) h some) (part_is m id 0 w w h (omega arith));
    })

pub at_width_is : (m : RtlModule) (id : List ℕ) (f : Form) (width : ℕ) → (1 ≤ f.width → HasWire m.wires id f.width) → HasSign f → SpecIs m (at_width id f width) width
at_width_is m id f width h some = at_width_is' m id f.signed f.width width h some

-- ---- cells

flag_low : (b : Bool) → flag b ≤ 1
flag_low true = omega arith
flag_low false = omega arith

binary_widths : (m : RtlModule) (k : CellKind) (name : List ℕ) (a b : Operand) (width : ℕ) (y : List SigPart) → SpecIs m a.spec a.form.width → SpecIs m b.spec b.form.width → SpecIs m y width → HasBinaryWidths (binary_cell k name a b width y)
binary_widths m k name a b width y p q r = record { a = sym p.wide; b = sym q.wide; y = sym r.wide; sign_a = flag_low a.form.signed; sign_b = flag_low b.form.signed }

unary_widths : (m : RtlModule) (k : CellKind) (name : List ℕ) (a : Operand) (width : ℕ) (y : List SigPart) → SpecIs m a.spec a.form.width → SpecIs m y width → HasUnaryWidths (unary_cell k name a width y)
unary_widths m k name a width y p r = record { a = sym p.wide; y = sym r.wide; sign = flag_low a.form.signed }

-- all parameters are numbers
abbrev NumberFits : RtlParameter → Type 0
NumberFits p = ValueFits p.value

abbrev EndFits : RtlModule → RtlEnd → Type 0
EndFits m e = SpecFits m.wires e.spec

pub binary_fits : (m : RtlModule) (k : CellKind) (name : List ℕ) (a b : Operand) (width : ℕ) (y : List SigPart) → parameters_of k ≡ binary_parameters → ends_of k ≡ codes "\\A" ∷ codes "\\B" ∷ codes "\\Y" ∷ []
    → SpecIs m a.spec a.form.width → SpecIs m b.spec b.form.width → SpecIs m y width → KindFits m (binary_cell k name a b width y) k → CellFits m (binary_cell k name a b width y)
binary_fits m k name a b width y e f p q r rules = record {
  parameters = sym e;
  values = All-from_recursion NumberFits (binary_cell k name a b width y).parameters (tt, (tt, (tt, (tt, (tt, tt)))));
  ends = sym f;
  specs = All-from_recursion (EndFits m) (binary_cell k name a b width y).ends (p.parts, (q.parts, (r.parts, tt)));
  rules = rules;
}

pub unary_fits : (m : RtlModule) (k : CellKind) (name : List ℕ) (a : Operand) (width : ℕ) (y : List SigPart) → parameters_of k ≡ unary_parameters → ends_of k ≡ unary_ends
    → SpecIs m a.spec a.form.width → SpecIs m y width → KindFits m (unary_cell k name a width y) k → CellFits m (unary_cell k name a width y)
unary_fits m k name a width y e f p r rules = record {
  parameters = sym e;
  values = All-from_recursion NumberFits (unary_cell k name a width y).parameters (tt, (tt, (tt, tt)));
  ends = sym f;
  specs = All-from_recursion (EndFits m) (unary_cell k name a width y).ends (p.parts, (r.parts, tt));
  rules = rules;
}

pub arithmetic_rules : (m : RtlModule) (k : CellKind) (name : List ℕ) (a b : Operand) (width : ℕ) (y : List SigPart) → SpecIs m a.spec a.form.width → SpecIs m b.spec b.form.width → SpecIs m y width
    → a.form ≡ b.form → a.form.width ≡ width → FitsArithmetic (binary_cell k name a b width y)
arithmetic_rules m k name a b width y p q r same wide = record {
  widths = binary_widths m k name a b width y p q r;
  equal_b = p.wide ∙ ap (λ (f : Form). f.width) same ∙ sym q.wide;
  equal_y = p.wide ∙ wide ∙ sym r.wide;
  same_sign = ap (λ (f : Form). flag f.signed) same;
}

pub comparison_rules : (m : RtlModule) (k : CellKind) (name : List ℕ) (a b : Operand) (y : List SigPart) → SpecIs m a.spec a.form.width → SpecIs m b.spec b.form.width → SpecIs m y 1
    → a.form ≡ b.form → FitsComparison (binary_cell k name a b 1 y)
comparison_rules m k name a b y p q r same = record {
  widths = binary_widths m k name a b 1 y p q r;
  equal = p.wide ∙ ap (λ (f : Form). f.width) same ∙ sym q.wide;
  one = r.wide;
  same_sign = ap (λ (f : Form). flag f.signed) same;
}

pub shift_rules : (m : RtlModule) (k : CellKind) (name : List ℕ) (a b : Operand) (width : ℕ) (y : List SigPart) → SpecIs m a.spec a.form.width → SpecIs m b.spec b.form.width → SpecIs m y width
    → a.form.width ≡ width → b.form.signed ≡ false → FitsShift (binary_cell k name a b width y)
shift_rules m k name a b width y p q r wide amount = record { widths = binary_widths m k name a b width y p q r; equal = p.wide ∙ wide ∙ sym r.wide; unsigned = ap flag amount }

pub not_rules : (m : RtlModule) (name : List ℕ) (a : Operand) (width : ℕ) (y : List SigPart) → SpecIs m a.spec a.form.width → SpecIs m y width → a.form.width ≡ width → FitsNot (unary_cell kind.Not name a width y)
not_rules m name a width y p r wide = record { widths = unary_widths m kind.Not name a width y p r; equal = p.wide ∙ wide ∙ sym r.wide }

pub reduction_rules : (m : RtlModule) (k : CellKind) (name : List ℕ) (a : Operand) (y : List SigPart) → SpecIs m a.spec a.form.width → SpecIs m y 1 → FitsReduction (unary_cell k name a 1 y)
reduction_rules m k name a y p r = record { widths = unary_widths m k name a 1 y p r; one = r.wide }

pub mux_fits : (m : RtlModule) (name : List ℕ) (width : ℕ) (a b s y : List SigPart) → SpecIs m a width → SpecIs m b width → SpecIs m s 1 → SpecIs m y width → CellFits m (mux_cell name width a b s y)
mux_fits m name width a b s y p q t r = record {
  parameters = refl;
  values = All-from_recursion NumberFits (mux_cell name width a b s y).parameters (tt, tt);
  ends = refl;
  specs = All-from_recursion (EndFits m) (mux_cell name width a b s y).ends (p.parts, (q.parts, (t.parts, (r.parts, tt))));
  rules = record { a = sym p.wide; b = sym q.wide; y = sym r.wide; one = t.wide };
}

-- ---- links, wires

pub linked_fits : (m : RtlModule) (y : Value) (spec : List SigPart) → HasValue m.wires y → SpecIs m spec y.form.width → DrawingFits m (linked y spec)
linked_fits m y spec h r = record {
  wires = All-nil WireFits;
  cells = All-nil (CellFits m);
  links = All-cons (LinkFits m) (record { left = whole y; right = spec }) [] (record { left = (whole_is m y h).parts; right = r.parts; equal = (whole_is m y h).wide ∙ sym r.wide }) (All-nil (LinkFits m));
}

pub inner_fits : (id : List ℕ) (width : ℕ) → 1 ≤ width → WireFits (inner_wire id width)
inner_fits id width some = record { wide = some; init = tt }

pub inner_held : (m : RtlModule) (id : List ℕ) (width : ℕ) → Contains m.wires (inner_wire id width) → HasWire m.wires id width
inner_held m id width c = record { wire = inner_wire id width; among = c; named = refl; wide = refl }
