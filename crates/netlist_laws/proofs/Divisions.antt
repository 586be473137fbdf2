-- Quotients and remainders, of which a divisor is never 0.
use Rattle.std.proofs.Common.{◌≡◌, ℕ, zero, suc, ◌+◌, ◌≤◌, Bool, true, false, cond, [], ◌∷◌, refl, sym, ◌∙◌, ap, arith, ℤ, pos, negsuc, ◌-ℤ◌}
use Rattle.std.specs.Prelude.{Some}
use Rattle.std.proofs.lemmas.Int.{ints}
use Rattle.std.proofs.lemmas.Bool.{false≢true}
use Rattle.std.proofs.lemmas.Nat.{pow_pos, pow-add}
use Rattle.std.proofs.Math.Nat.{mod-eq_of_lt}
use Rattle.amh_bits.specs.Integers.{floor_div, floor_rem}
use Rattle.amh_bits.specs.Patterns.{pattern, wrap}
use Rattle.amh_bits.proofs.InShape.{of_zero}
use Rattle.amh_bits.proofs.Wraps.{wrap_is_of, pattern_wrap}
use Rattle.shape_rules.specs.Forms.{Form}
use Rattle.shape_rules.specs.Operators.{work_form, truth, is_zero, int_same}
use Rattle.shape_rules.specs.declared.op.Op.TheVariants as op
use Rattle.shape_rules.specs.declared.cell.CellKind.{CellKind}
use Rattle.shape_rules.specs.declared.cell.CellKind.TheVariants as kind
use Rattle.shape_rules.proofs.WorkShape.{work_holds_left, work_holds_right}
use Rattle.rtlil_text.specs.Cells.{result_of, sign_read}
use Rattle.rtlil_text.specs.History.{Wires}
use Rattle.netlist_laws.specs.Ids.{part_id}
use Rattle.netlist_laws.specs.Cells.{binary_cell, mux_cell}
use Rattle.netlist_laws.specs.Operands.{wire_part, const_spec, at_width, at_form, const_operand}
use Rattle.netlist_laws.specs.Operators.{Value, as_form, whole, one_bit, divided}
use Rattle.netlist_laws.specs.Carried.{IsIn, Obeys, MakesOperator}
use Rattle.netlist_laws.proofs.Reading.{HasBits, HasSign, Reads, reads_const, reads_at_width}
use Rattle.netlist_laws.proofs.Whole.{IsWhole, signed_cell}
use Rattle.netlist_laws.proofs.Drawn.{makes_bits, form_sign, first_cell, second_cell, third_cell, fourth_cell}
use Rattle.netlist_laws.proofs.Bitwise.{mux_cell_bits}
use Rattle.netlist_laws.proofs.Comparisons.{eq_whole, eq_result}
use Rattle.netlist_laws.proofs.Widths.{common_width_right, reads_narrow, has_equal, reads_same, bit_of-wrap, one_bit_is}
use Rattle.netlist_laws.proofs.BitOperators.{result_within}

-- whether a number is 0 is whether it is the same as 0
pub int_same-zero : (z : ℤ) → int_same z (pos 0) ≡ is_zero z
int_same-zero z = ap is_zero (let d : z -ℤ pos 0 ≡ z = omega (arith, ints) in d)

-- ---- the divisor

-- a divisor of a shape: 1 as it reads there, where it would be 0
abbrev pub divisor : Form → ℤ → ℤ
divisor g z = cond (is_zero z) (wrap g.signed g.width (pos 1)) z

is_zero-zero : (z : ℤ) → is_zero z ≡ true → z ≡ pos 0
is_zero-zero (pos zero) e = refl
is_zero-zero (pos (suc n)) e = absurd (false≢true e)
is_zero-zero (negsuc n) e = absurd (false≢true e)

-- 1 reads as no 0 where there is a bit
wrapped_one : (s : Bool) (w : ℕ) → 1 ≤ w → wrap s w (pos 1) ≡ pos 0 → ⊥
wrapped_one s zero some e = absurd (omega arith)
wrapped_one s (suc w) some e =
    let one : pattern (suc w) (pos 1) ≡ 1 = mod-eq_of_lt (omega (arith, pow-add 2 1 w, pow_pos w)) in
    let none : pattern (suc w) (pos 0) ≡ 0 = mod-eq_of_lt (pow_pos (suc w)) in
    let same : pattern (suc w) (wrap s (suc w) (pos 1)) ≡ pattern (suc w) (pos 1) = pattern_wrap s (suc w) (pos 1) in
    let d : pattern (suc w) (wrap s (suc w) (pos 1)) ≡ pattern (suc w) (pos 0) = ap (pattern (suc w)) e in
    absurd (omega (arith, one, none, same, d))

chosen_divisor : (t : Bool) (g : Form) (z : ℤ) → 1 ≤ g.width → (z ≡ pos 0 → t ≡ true) → cond t (wrap g.signed g.width (pos 1)) z ≡ pos 0 → ⊥
chosen_divisor true g z some h e = wrapped_one g.signed g.width some e
chosen_divisor false g z some h e = false≢true (h e)

pub divisor_some : (g : Form) (z : ℤ) → 1 ≤ g.width → divisor g z ≡ pos 0 → ⊥
divisor_some g z some e = chosen_divisor (is_zero z) g z some (λ d. ap is_zero d) e

chosen_in : (t : Bool) (g : Form) (z : ℤ) → IsIn g z → IsIn g (cond t (wrap g.signed g.width (pos 1)) z)
chosen_in true g z f = wrap_is_of g.signed g.width (pos 1)
chosen_in false g z f = f

pub divisor_in : (g : Form) (z : ℤ) → IsIn g z → IsIn g (divisor g z)
divisor_in g z f = chosen_in (is_zero z) g z f

-- ---- a cell that divides

-- the kinds that divide, undefined by 0
pub record Divides (k : CellKind) (f : ℤ → ℤ → ℤ) : Type 0 where
  pub cell : IsWhole k
  pub sign : (s : ℕ) → sign_read k s ≡ s
  pub some : (x d : ℤ) → (d ≡ pos 0 → ⊥) → result_of k x d ≡ Some (f x d)
  pub none : (x : ℤ) → f x (pos 0) ≡ pos 0

quotient_some : (x d : ℤ) → (d ≡ pos 0 → ⊥) → result_of kind.DivFloor x d ≡ Some (floor_div x d)
quotient_some x (pos zero) h = absurd (h refl)
quotient_some x (pos (suc d)) h = refl
quotient_some x (negsuc d) h = refl

remainder_some : (x d : ℤ) → (d ≡ pos 0 → ⊥) → result_of kind.ModFloor x d ≡ Some (floor_rem x d)
remainder_some x (pos zero) h = absurd (h refl)
remainder_some x (pos (suc d)) h = refl
remainder_some x (negsuc d) h = refl

quotient : Divides kind.DivFloor floor_div
quotient = record { cell = record { output = refl; bit = λ value c width i. refl }; sign = λ s. refl; some = quotient_some; none = λ x. refl }

remainder : Divides kind.ModFloor floor_rem
remainder = record { cell = record { output = refl; bit = λ value c width i. refl }; sign = λ s. refl; some = remainder_some; none = λ x. refl }

chosen_result : (k : CellKind) (f : ℤ → ℤ → ℤ) (x z v : ℤ) (t : Bool) → Divides k f → is_zero z ≡ t → cond t (pos 0) (f x (cond t v z)) ≡ f x z
chosen_result k f x z v true law e = sym (law.none x) ∙ ap (f x) (sym (is_zero-zero z e))
chosen_result k f x z v false law e = refl

divided_bits : (wires : Wires) (k : CellKind) (of : ℤ → ℤ → ℤ) (n : ℕ) (g : Form) (a b y : Value) (x z : ℤ) → Divides k of → HasSign a.form → HasSign b.form → IsIn a.form x → IsIn b.form z → IsIn g x → IsIn g z
    → HasBits wires a.id a.form.width x → HasBits wires b.id b.form.width z → 1 ≤ y.form.width → y.form.width ≤ g.width → Obeys wires (divided k n g a b y) → HasBits wires y.id y.form.width (of x z)
divided_bits wires k of n g a b y x z law s t f g' fx gz c d some le o =
    let is_none = binary_cell kind.Eq (part_id n) (as_form b g) (const_operand g (pos 0)) 1 (one_bit (part_id (n + 1))) in
    let guard = mux_cell (part_id (n + 2)) g.width (at_width b.id b.form g.width) (const_spec g.width (pos 1)) (one_bit (part_id (n + 1))) (wire_part (part_id (n + 3)) 0 g.width) in
    let divide = binary_cell k (part_id (n + 4)) (as_form a g) (at_form (part_id (n + 3)) g g) g.width (wire_part (part_id (n + 5)) 0 g.width) in
    let choose = mux_cell (part_id (n + 6)) y.form.width (at_width (part_id (n + 5)) g y.form.width) (const_spec y.form.width (pos 0)) (one_bit (part_id (n + 1))) (whole y) in
    let u : ℤ = divisor g z in
    let reads_b : Reads wires (at_width b.id b.form g.width) g.width z = reads_at_width wires b.id b.form g.width z t g' d in
    let none : HasBits wires (part_id (n + 1)) 1 (truth (is_zero z)) =
    has_equal wires (part_id (n + 1)) 1 (truth (int_same z (pos 0))) (truth (is_zero z)) (ap truth (int_same-zero z))
    (signed_cell wires kind.Eq (part_id n) (as_form b g) (const_operand g (pos 0)) 1 (part_id (n + 1)) 1 z (pos 0) (truth (int_same z (pos 0))) eq_whole (λ s. refl)
    reads_b (reads_const wires g.width (pos 0)) gz (of_zero g.signed g.width) (eq_result z (pos 0)) (first_cell wires is_none (guard ∷ divide ∷ choose ∷ []) o.cells)) in
    let test = one_bit_is wires (part_id (n + 1)) (is_zero z) none in
    let guarded : HasBits wires (part_id (n + 3)) g.width u =
    mux_cell_bits wires (part_id (n + 2)) g.width (at_width b.id b.form g.width) (const_spec g.width (pos 1)) (one_bit (part_id (n + 1))) (part_id (n + 3)) g.width (is_zero z) z (wrap g.signed g.width (pos 1)) test
    reads_b (reads_same wires (const_spec g.width (pos 1)) g.width (pos 1) (wrap g.signed g.width (pos 1)) (λ i h. sym (bit_of-wrap g.signed g.width (pos 1) i h)) (reads_const wires g.width (pos 1)))
    (second_cell wires is_none guard (divide ∷ choose ∷ []) o.cells) in
    let result : HasBits wires (part_id (n + 5)) g.width (of x u) =
    signed_cell wires k (part_id (n + 4)) (as_form a g) (at_form (part_id (n + 3)) g g) g.width (part_id (n + 5)) g.width x u (of x u) law.cell law.sign
    (reads_at_width wires a.id a.form g.width x s f c) (reads_narrow wires (part_id (n + 3)) g g.width u (omega arith) guarded) fx (divisor_in g z gz) (law.some x u (divisor_some g z (omega arith)))
    (third_cell wires is_none guard divide (choose ∷ []) o.cells) in
    has_equal wires y.id y.form.width (cond (is_zero z) (pos 0) (of x u)) (of x z) (chosen_result k of x z (wrap g.signed g.width (pos 1)) (is_zero z) law refl)
    (mux_cell_bits wires (part_id (n + 6)) y.form.width (at_width (part_id (n + 5)) g y.form.width) (const_spec y.form.width (pos 0)) (one_bit (part_id (n + 1))) y.id y.form.width (is_zero z) (of x u) (pos 0) test
    (reads_narrow wires (part_id (n + 5)) g y.form.width (of x u) le result) (reads_const wires y.form.width (pos 0)) (fourth_cell wires is_none guard divide choose [] o.cells))

pub makes_div : MakesOperator op.Div
makes_div =
    makes_bits op.Div (λ wires n a b y x z p q t e f g c d some o.
    divided_bits wires kind.DivFloor floor_div n (work_form op.Div a.form b.form) a b y x z quotient (form_sign a.form p) (form_sign b.form q) f g
    (work_holds_left op.Div a.form b.form q x f) (work_holds_right op.Div a.form b.form refl p z g) c d some (result_within op.Div a.form b.form y.form e (common_width_right _ _ _ _)) o)

pub makes_mod : MakesOperator op.Mod
makes_mod =
    makes_bits op.Mod (λ wires n a b y x z p q t e f g c d some o.
    divided_bits wires kind.ModFloor floor_rem n (work_form op.Mod a.form b.form) a b y x z remainder (form_sign a.form p) (form_sign b.form q) f g
    (work_holds_left op.Mod a.form b.form q x f) (work_holds_right op.Mod a.form b.form refl p z g) c d some (result_within op.Mod a.form b.form y.form e (common_width_right _ _ _ _)) o)
