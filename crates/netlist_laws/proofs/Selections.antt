-- Parts of values at an offset.
use Rattle.std.proofs.Common.{◌≡◌, ℕ, ◌+◌, ◌*◌, ◌<◌, ◌≤◌, ◌^◌, ◌==◌, max, Bool, true, false, cond, List, [], ◌∷◌, ◌++◌, replicate, refl, sym, ◌∙◌, ap, subst, arith, ℤ, pos, ◌*ℤ◌, unsigned_abs}
use Rattle.std.specs.Prelude.{Some, None, option_map, option_and_then}
use Rattle.design_ir.specs.PoolRules.{shape_stop}
use Rattle.std.proofs.lemmas.Int.{unsigned_abs-mul}
use Rattle.std.proofs.lemmas.Bool.{eqb-true, false≢true}
use Rattle.std.proofs.lemmas.List.Elements.{All-nil}
use Rattle.amh_bits.specs.Integers.{floor_quotient}
use Rattle.amh_bits.specs.Patterns.{IsOf}
use Rattle.amh_bits.proofs.BitsOf.{bit_pattern}
use Rattle.amh_bits.proofs.InShape.{of_wider, of-mul_unsigned}
use Rattle.amh_bits.proofs.Same.{past_unsigned}
use Rattle.shape_rules.specs.Forms.{Form}
use Rattle.shape_rules.specs.declared.cell.CellKind.TheVariants as kind
use Rattle.design_ir.specs.declared.ids.ExprId.{ExprId}
use Rattle.design_ir.specs.declared.expr.Expr.TheVariants as expr
use Rattle.design_ir.specs.Targets.{Bit}
use Rattle.design_ir.specs.Needed.{every}
use Rattle.design_ir.specs.Values.{bits_from}
use Rattle.rtlil_text.specs.declared.cell.RtlCell.{RtlCell}
use Rattle.rtlil_text.specs.Sources.{Constant}
use Rattle.rtlil_text.specs.Meaning.{source_value}
use Rattle.rtlil_text.specs.History.{Wires}
use Rattle.netlist_laws.specs.Ids.{part_id}
use Rattle.netlist_laws.specs.Cells.{Operand, binary_cell}
use Rattle.netlist_laws.specs.Operands.{wire_part, const_part, const_spec, at_width, at_form}
use Rattle.netlist_laws.specs.Operators.{Value, Drawing, nothing, inner_wire, whole, as_form, linked}
use Rattle.netlist_laws.specs.Carried.{IsIn, ObeysCell, Obeys}
use Rattle.netlist_laws.specs.Expressions.{and_also, stride_form, stride_operand, amount_operand, amount_drawing, part_form}
use Rattle.netlist_laws.specs.Made.{known_form, SignalHas, MakesExpression}
use Rattle.netlist_laws.proofs.Places.{length-const_part, slice_get-const_part}
use Rattle.netlist_laws.proofs.Reading.{bit_of, HasBits, HasSign, Reads, reads_low, reads_const, reads_above, reads_at_width, slice_get-replicate, length-replicate}
use Rattle.netlist_laws.proofs.Whole.{whole_cell, signed_cell, integer_read}
use Rattle.netlist_laws.proofs.Drawn.{form_sign, first_cell}
use Rattle.netlist_laws.proofs.Arithmetic.{mul_whole}
use Rattle.netlist_laws.proofs.Widths.{reads_narrow}
use Rattle.netlist_laws.proofs.ShiftOperators.{shr_whole, sshr_whole, no_amount, by_one}
use Rattle.netlist_laws.proofs.NeededBits.{all_left, all_right, made_every}
use Rattle.netlist_laws.proofs.Linked.{follows_shown, linked_bit}
use Rattle.netlist_laws.proofs.Choices.{also_first, also_second}

-- ---- the amount

-- the operand reads as a number of its shape that has this size
record Amount (wires : Wires) (o : Operand) (u : ℕ) : Type 0 where
  number : ℤ
  reads : Reads wires o.spec o.form.width number
  inside : IsIn o.form number
  size : unsigned_abs number ≡ u

-- zeros above a byte
reads_stride : (wires : Wires) (f : Form) (stride : ℕ) → stride < 256 → Reads wires (stride_operand f stride).spec (stride_form f).width (pos stride)
reads_stride wires f stride small =
    let n : ℕ = max 1 f.width in
    reads_above wires (const_part (replicate n false)) (const_spec 8 (pos stride)) 8 n (n + 8) (pos stride) (omega arith) (reads_const wires 8 (pos stride))
    (length-const_part (replicate n false) ∙ length-replicate false n)
    (λ k h.
    ap (option_and_then (source_value wires)) (slice_get-const_part (replicate n false) k ∙ ap (option_map Constant) (slice_get-replicate false n k h))
    ∙ ap (λ d. Some (d == 1)) (sym (past_unsigned 8 (8 + k) (pos stride) small (omega arith))))

stride_in : (f : Form) (v : ℤ) (stride : ℕ) → f.signed ≡ false → IsIn f v → stride < 256 → IsIn (stride_form f) v × IsIn (stride_form f) (pos stride) × IsIn (stride_form f) (v *ℤ pos stride)
stride_in f v stride unsigned i small =
    let j : IsOf false f.width v = subst (λ (s : Bool). IsOf s f.width v) unsigned i in (
      of_wider false f.width (max 1 f.width + 8) v (omega arith) j,
      of_wider false 8 (max 1 f.width + 8) (pos stride) (omega arith) small,
      of_wider false (f.width + 8) (max 1 f.width + 8) (v *ℤ pos stride) (omega arith) (of-mul_unsigned f.width 8 v (pos stride) j small),
    )

amount_by : (wires : Wires) (n : ℕ) (offset : Value) (v : ℤ) (stride : ℕ) (t : Bool) → (stride == 1) ≡ t → offset.form.signed ≡ false → stride < 256 → IsIn offset.form v → HasBits wires offset.id offset.form.width v
    → Obeys wires (cond t nothing (record {
      wires = inner_wire (part_id (n + 1)) (stride_form offset.form).width ∷ [];
      cells = binary_cell kind.Mul (part_id n) (as_form offset (stride_form offset.form)) (stride_operand offset.form stride) (stride_form offset.form).width (wire_part (part_id (n + 1)) 0 (stride_form offset.form).width) ∷ [];
      links = [];
    }))
    → Amount wires (cond t (as_form offset offset.form) (at_form (part_id (n + 1)) (stride_form offset.form) (stride_form offset.form))) (unsigned_abs v * stride)
amount_by wires n offset v stride true d unsigned small i b o = record {
  number = v;
  reads = reads_narrow wires offset.id offset.form offset.form.width v (omega arith) b;
  inside = i;
  size = let one : stride ≡ 1 = eqb-true stride 1 d in sym (ap (λ s. unsigned_abs v * s) one ∙ (let e : unsigned_abs v * 1 ≡ unsigned_abs v = omega arith in e));
}
amount_by wires n offset v stride false d unsigned small i b o =
    let g : Form = stride_form offset.form in
    let fits = stride_in offset.form v stride unsigned i small in
    let cell = binary_cell kind.Mul (part_id n) (as_form offset g) (stride_operand offset.form stride) g.width (wire_part (part_id (n + 1)) 0 g.width) in
    let product : HasBits wires (part_id (n + 1)) g.width (v *ℤ pos stride) =
    signed_cell wires kind.Mul (part_id n) (as_form offset g) (stride_operand offset.form stride) g.width (part_id (n + 1)) g.width v (pos stride) (v *ℤ pos stride) mul_whole (λ s. refl)
    (reads_at_width wires offset.id offset.form g.width v (λ signed. absurd (false≢true (sym unsigned ∙ signed))) i b) (reads_stride wires offset.form stride small) fits.0 fits.1 refl (first_cell wires cell [] o.cells) in
    record {
      number = v *ℤ pos stride;
      reads = reads_narrow wires (part_id (n + 1)) g g.width (v *ℤ pos stride) (omega arith) product;
      inside = fits.2;
      size = unsigned_abs-mul v (pos stride);
    }

amount_is : (wires : Wires) (n : ℕ) (offset : Value) (v : ℤ) (stride : ℕ) → offset.form.signed ≡ false → stride < 256 → IsIn offset.form v → HasBits wires offset.id offset.form.width v
    → Obeys wires (amount_drawing n offset stride) → Amount wires (amount_operand n offset stride) (unsigned_abs v * stride)
amount_is wires n offset v stride unsigned small i b o = amount_by wires n offset v stride (stride == 1) refl unsigned small i b o

-- ---- the shift

shift_by : (wires : Wires) (name : List ℕ) (a : Value) (b : Operand) (id : List ℕ) (w u : ℕ) (x : ℤ) (s : Bool) → a.form.signed ≡ s → HasSign a.form → IsIn a.form x → HasBits wires a.id a.form.width x → Amount wires b u → a.form.width ≤ w
    → ObeysCell wires (binary_cell (cond s kind.Sshr kind.Shr) name (as_form a (record { width = w; signed = a.form.signed })) b w (wire_part id 0 w)) → HasBits wires id w (floor_quotient x (2 ^ u))
shift_by wires name a b id w u x true e some i c m le o =
    whole_cell wires kind.Sshr name (as_form a (record { width = w; signed = a.form.signed })) b w id w x m.number x (floor_quotient x (2 ^ u)) sshr_whole (reads_at_width wires a.id a.form w x some i c) m.reads
    (integer_read a.form.signed w x (of_wider a.form.signed a.form.width w x le i)) m.inside (ap (λ j. Some (floor_quotient x (2 ^ j))) m.size) o
shift_by wires name a b id w u x false e some i c m le o =
    whole_cell wires kind.Shr name (as_form a (record { width = w; signed = a.form.signed })) b w id w x m.number x (floor_quotient x (2 ^ u)) shr_whole (reads_at_width wires a.id a.form w x some i c) m.reads
    (integer_read false w x (of_wider false a.form.width w x le (subst (λ (t : Bool). IsOf t a.form.width x) e i))) m.inside (ap (λ j. Some (floor_quotient x (2 ^ j))) m.size) o

-- ---- the part

selected_by : (wires : Wires) (n : ℕ) (a offset : Value) (stride : ℕ) (y : Value) (x v : ℤ) (k : ℕ) (t : Bool) → (offset.form.width == 0) ≡ t → HasSign a.form → offset.form.signed ≡ false → stride < 256 → IsIn a.form x → IsIn offset.form v
    → HasBits wires a.id a.form.width x → HasBits wires offset.id offset.form.width v
    → Obeys wires (cond t (linked y (at_width a.id a.form y.form.width)) (and_also (amount_drawing n offset stride) (record {
      wires = inner_wire (part_id (n + 3)) (part_form a.form y.form.width).width ∷ [];
      cells = binary_cell (cond a.form.signed kind.Sshr kind.Shr) (part_id (n + 2)) (as_form a (part_form a.form y.form.width)) (amount_operand n offset stride) (part_form a.form y.form.width).width (wire_part (part_id (n + 3)) 0 (part_form a.form y.form.width).width) ∷ [];
      links = record { left = whole y; right = wire_part (part_id (n + 3)) 0 y.form.width } ∷ [];
    })))
    → k < y.form.width → wires y.id k ≡ Some (bit_of (floor_quotient x (2 ^ (unsigned_abs v * stride))) k)
selected_by wires n a offset stride y x v k true d s unsigned small i j b c o h =
    let none : unsigned_abs v ≡ 0 = no_amount offset.form.signed v unsigned offset.form.width (eqb-true offset.form.width 0 d) j in
    let low : unsigned_abs v * stride ≡ 0 = ap (λ m. m * stride) none ∙ (let e : 0 * stride ≡ 0 = omega arith in e) in
    linked_bit wires y (at_width a.id a.form y.form.width) k o h
    ∙ (reads_at_width wires a.id a.form y.form.width x s i b).at k h
    ∙ ap (λ (z : ℤ). Some (bit_of z k)) (by_one x (unsigned_abs v * stride) low)
selected_by wires n a offset stride y x v k false d s unsigned small i j b c o h =
    let g : Form = part_form a.form y.form.width in
    let u : ℕ = unsigned_abs v * stride in
    let cell : RtlCell = binary_cell (cond a.form.signed kind.Sshr kind.Shr) (part_id (n + 2)) (as_form a g) (amount_operand n offset stride) g.width (wire_part (part_id (n + 3)) 0 g.width) in
    let rest : Drawing = record { wires = inner_wire (part_id (n + 3)) g.width ∷ []; cells = cell ∷ []; links = record { left = whole y; right = wire_part (part_id (n + 3)) 0 y.form.width } ∷ [] } in
    let drawn = also_second wires (amount_drawing n offset stride) rest o in
    let link : Obeys wires (linked y (wire_part (part_id (n + 3)) 0 y.form.width)) = record { cells = All-nil (ObeysCell wires); links = drawn.links } in
    let amount = amount_is wires n offset v stride unsigned small j c (also_first wires (amount_drawing n offset stride) rest o) in
    let result : HasBits wires (part_id (n + 3)) g.width (floor_quotient x (2 ^ u)) =
    shift_by wires (part_id (n + 2)) a (amount_operand n offset stride) (part_id (n + 3)) g.width u x a.form.signed refl s i b amount (omega arith) (first_cell wires cell [] drawn.cells) in
    linked_bit wires y (wire_part (part_id (n + 3)) 0 y.form.width) k link h ∙ (reads_low wires (part_id (n + 3)) g.width y.form.width (floor_quotient x (2 ^ u)) (omega arith) result).at k h

pub part_accepted : (bad : Bool) (w : ℕ) → shape_stop bad w ≡ None → bad ≡ false
part_accepted true w e = cc
part_accepted false w e = refl

pub makes_part : (a offset : ExprId) (width stride : ℕ) → MakesExpression (expr.Part a offset width stride)
makes_part a offset width stride wires c n y signals range accepted small e made =
    let holds : Bit → Type 0 = SignalHas wires c in
    let left : List Bit = every (known_form c a.0) (c.needed a.0) in
    let right : List Bit = every (known_form c offset.0) (c.needed offset.0) in
    let x : ℤ = c.num a.0 in
    let v : ℤ = c.num offset.0 in
    let same : y.form.width ≡ width = ap (λ (f : Form). f.width) e in
    follows_shown wires c n y (expr.Part a offset width stride) (λ k. left ++ right) (pos (bits_from (unsigned_abs v * stride) width x)) (λ some o k h needs.
    selected_by wires n (c.value a.0) (c.value offset.0) stride y x v k ((known_form c offset.0).width == 0) refl (form_sign (known_form c a.0) made.0.shape) (part_accepted (known_form c offset.0).signed width accepted) small made.0.integer made.1.0.integer
    (made_every wires c a made.0 (all_left holds left right needs)) (made_every wires c offset made.1.0 (all_right holds left right needs)) o h
    ∙ ap (λ b. Some (b == 1)) (sym (bit_pattern (floor_quotient x (2 ^ (unsigned_abs v * stride))) width k (omega arith))))
