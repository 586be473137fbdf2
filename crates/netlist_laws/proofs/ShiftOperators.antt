-- Shifts.
use Rattle.std.proofs.Common.{◌≡◌, ℕ, ◌+◌, ◌-◌, ◌<◌, ◌≤◌, ◌^◌, ◌/◌, ◌==◌, Bool, true, false, [], refl, sym, ◌∙◌, ap, subst, arith, ℤ, pos, negsuc, ◌*ℤ◌, unsigned_abs, ⊎_elim}
use Rattle.std.specs.Prelude.{Some}
use Rattle.std.proofs.lemmas.Int.{ints}
use Rattle.std.proofs.lemmas.Bool.{cond_both, eqb-true, cases_lt}
use Rattle.std.proofs.Math.Nat.{div-one, mod-eq_of_lt}
use Rattle.amh_bits.specs.Integers.{floor_quotient}
use Rattle.amh_bits.specs.Patterns.{pattern, int_bit, IsOf}
use Rattle.amh_bits.proofs.BitsOf.{bit_pattern, int_bit_up, int_bit_up_below}
use Rattle.amh_bits.proofs.Wraps.{pattern_below}
use Rattle.shape_rules.specs.Forms.{Form}
use Rattle.shape_rules.specs.declared.op.Op.TheVariants as op
use Rattle.shape_rules.specs.declared.cell.CellKind.{CellKind}
use Rattle.shape_rules.specs.declared.cell.CellKind.TheVariants as kind
use Rattle.rtlil_text.specs.Cells.{number_bits, integer, result_of, sign_read}
use Rattle.rtlil_text.specs.History.{Wires}
use Rattle.rtlil_text.proofs.CellLaws.{bits_number-number_bits}
use Rattle.netlist_laws.specs.Ids.{part_id}
use Rattle.netlist_laws.specs.Cells.{binary_cell, flag}
use Rattle.netlist_laws.specs.Operands.{at_width, at_form}
use Rattle.netlist_laws.specs.Operators.{Value, Drawing, as_form, whole, one_cell, linked, shifted}
use Rattle.netlist_laws.specs.Carried.{IsIn, Obeys, MakesOperator}
use Rattle.netlist_laws.proofs.Reading.{bit_of, HasBits, HasSign, reads_at_width}
use Rattle.netlist_laws.proofs.Whole.{IsWhole, whole_cell, integer_read}
use Rattle.netlist_laws.proofs.Drawn.{makes_bits, form_sign, first_cell}
use Rattle.netlist_laws.proofs.Widths.{reads_narrow, has_same, linked_bits}

pub shl_whole : IsWhole kind.Shl
shl_whole = record { output = refl; bit = λ value c width i. refl }

pub shr_whole : IsWhole kind.Shr
shr_whole = record { output = refl; bit = λ value c width i. refl }

pub sshr_whole : IsWhole kind.Sshr
sshr_whole = record { output = refl; bit = λ value c width i. refl }

-- a shift by a cell, or the value itself where the amount has no bits; u is what the cell reads of it
shifted_bits : (wires : Wires) (k : CellKind) (signed : Bool) (n : ℕ) (a b y : Value) (x z u r : ℤ) → IsWhole k → HasSign a.form → IsIn a.form x → IsIn b.form z
    → HasBits wires a.id a.form.width x → HasBits wires b.id b.form.width z
    → integer (sign_read k (flag signed)) (number_bits y.form.width (pattern y.form.width x)) ≡ u → result_of k u z ≡ Some r → (b.form.width ≡ 0 → (i : ℕ) → i < y.form.width → bit_of x i ≡ bit_of r i)
    → Obeys wires (shifted k signed n a b y) → HasBits wires y.id y.form.width r
shifted_bits wires k signed n a b y x z u r kind s f g c d reads makes none =
    let form : Form = record { width = y.form.width; signed = signed } in
    let cell = binary_cell k (part_id n) (at_form a.id a.form form) (as_form b b.form) y.form.width (whole y) in
    cond_both (b.form.width == 0) (linked y (at_width a.id a.form y.form.width)) (one_cell cell) (λ (d : Drawing). Obeys wires d → HasBits wires y.id y.form.width r)
    (λ e o. has_same wires y.id y.form.width x r (none (eqb-true b.form.width 0 e)) (linked_bits wires y (at_width a.id a.form y.form.width) y.form.width x (reads_at_width wires a.id a.form y.form.width x s f c) (omega arith) o))
    (λ e o. whole_cell wires k (part_id n) (at_form a.id a.form form) (as_form b b.form) y.form.width y.id y.form.width x z u r kind
    (reads_at_width wires a.id a.form y.form.width x s f c) (reads_narrow wires b.id b.form b.form.width z (omega arith) d) reads g makes (first_cell wires cell [] o.cells))

-- ---- up

-- the bits of a number alone, without its sign
unsigned_read : (width : ℕ) (x : ℤ) → integer 0 (number_bits width (pattern width x)) ≡ pos (pattern width x)
unsigned_read width x = ap pos (bits_number-number_bits width (pattern width x) ∙ mod-eq_of_lt (pattern_below width x))

-- up to a width, a shift up moves the bits below it alone
pub bit_of-shifted : (width : ℕ) (x : ℤ) (j i : ℕ) → i < width → bit_of (pos (pattern width x) *ℤ pos (2 ^ j)) i ≡ bit_of (x *ℤ pos (2 ^ j)) i
bit_of-shifted width x j i h =
    ap (λ b. b == 1)
    (⊎_elim
    (λ (below : i < j). int_bit_up_below (pos (pattern width x)) j i below ∙ sym (int_bit_up_below x j i below))
    (λ (le : j ≤ i).
    let e : i ≡ j + (i - j) = omega arith in
    let low : i - j < width = omega arith in
    ap (int_bit (pos (pattern width x) *ℤ pos (2 ^ j))) e
    ∙ int_bit_up (pos (pattern width x)) j (i - j)
    ∙ bit_pattern x width (i - j) low
    ∙ sym (int_bit_up x j (i - j))
    ∙ ap (int_bit (x *ℤ pos (2 ^ j))) (sym e))
    (cases_lt i j))

-- an amount without bits is 0
pub no_amount : (s : Bool) (z : ℤ) → s ≡ false → (width : ℕ) → width ≡ 0 → IsOf s width z → unsigned_abs z ≡ 0
no_amount true z e width w f = cc
no_amount false (pos n) e width w f = let h : n < 2 ^ 0 = subst (λ (v : ℕ). n < 2 ^ v) w f in omega arith
no_amount false (negsuc n) e width w f = absurd f

times_one : (x : ℤ) (j : ℕ) → j ≡ 0 → x ≡ x *ℤ pos (2 ^ j)
times_one x j e = (let d : x ≡ x *ℤ pos 1 = omega (arith, ints) in d) ∙ ap (λ (i : ℕ). x *ℤ pos (2 ^ i)) (sym e)

pub makes_shl : MakesOperator op.Shl
makes_shl =
    makes_bits op.Shl (λ wires n a b y x z p q t e f g c d some o.
    let w : ℕ = y.form.width in
    let j : ℕ = unsigned_abs z in
    has_same wires y.id w (pos (pattern w x) *ℤ pos (2 ^ j)) (x *ℤ pos (2 ^ j)) (λ i h. bit_of-shifted w x j i h)
    (shifted_bits wires kind.Shl a.form.signed n a b y x z (pos (pattern w x)) (pos (pattern w x) *ℤ pos (2 ^ j)) shl_whole (form_sign a.form p) f g c d (unsigned_read w x) refl
    (λ none i h. ap (λ (v : ℤ). bit_of v i) (times_one x j (no_amount b.form.signed z t.operand b.form.width none g)) ∙ sym (bit_of-shifted w x j i h)) o))

-- ---- down

pub by_one : (x : ℤ) (j : ℕ) → j ≡ 0 → x ≡ floor_quotient x (2 ^ j)
by_one (pos n) j e = ap pos (sym (div-one n)) ∙ ap (λ (i : ℕ). pos (n / 2 ^ i)) (sym e)
by_one (negsuc n) j e = ap negsuc (sym (div-one n)) ∙ ap (λ (i : ℕ). negsuc (n / 2 ^ i)) (sym e)

same_down : (x z : ℤ) (b : Form) → b.signed ≡ false → IsIn b z → b.width ≡ 0 → (i : ℕ) → bit_of x i ≡ bit_of (floor_quotient x (2 ^ unsigned_abs z)) i
same_down x z b unsigned g none i = ap (λ (v : ℤ). bit_of v i) (by_one x (unsigned_abs z) (no_amount b.signed z unsigned b.width none g))

-- a number of an unsigned shape is read without a sign, and one of a signed shape with it
read_down : (s t : Bool) (w v : ℕ) (x : ℤ) → s ≡ t → w ≡ v → IsOf s w x → integer (flag t) (number_bits v (pattern v x)) ≡ x
read_down s t w v x e d f = integer_read t v x (subst (λ (u : Bool). IsOf u v x) e (subst (λ (n : ℕ). IsOf s n x) d f))

pub makes_shr : MakesOperator op.Shr
makes_shr =
    makes_bits op.Shr (λ wires n a b y x z p q t e f g c d some.
    let r : ℤ = floor_quotient x (2 ^ unsigned_abs z) in
    let wide : a.form.width ≡ y.form.width = sym (ap (λ (f : Form). f.width) e) in
    cond_both a.form.signed (shifted kind.Sshr true n a b y) (shifted kind.Shr false n a b y) (λ (drawing : Drawing). Obeys wires drawing → HasBits wires y.id y.form.width r)
    (λ sign. shifted_bits wires kind.Sshr true n a b y x z x r sshr_whole (form_sign a.form p) f g c d (read_down a.form.signed true a.form.width y.form.width x sign wide f) refl
    (λ none i h. same_down x z b.form t.operand g none i))
    (λ sign. shifted_bits wires kind.Shr false n a b y x z x r shr_whole (form_sign a.form p) f g c d (read_down a.form.signed false a.form.width y.form.width x sign wide f) refl
    (λ none i h. same_down x z b.form t.operand g none i)))
