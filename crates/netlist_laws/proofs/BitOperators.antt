-- Operators that go bit by bit.
use Rattle.std.proofs.Common.{◌≡◌, ℕ, zero, suc, ◌+◌, ◌-◌, ◌<◌, ◌≤◌, ◌^◌, ◌==◌, Bool, true, false, not, ◌&&◌, ◌||◌, [], ◌∷◌, refl, sym, ◌∙◌, ap, arith, ℤ, pos, negsuc, ◌-ℤ◌}
use Rattle.std.specs.Prelude.{Some}
use Rattle.std.proofs.lemmas.Int.{ints}
use Rattle.amh_bits.specs.Integers.{int_and, int_or, int_xor}
use Rattle.amh_bits.specs.Patterns.{int_bit, IsOf}
use Rattle.amh_bits.proofs.BitsOf.{int_bit_low, int_bit_not, nat_bit_turned}
use Rattle.shape_rules.specs.Forms.{Form}
use Rattle.shape_rules.specs.Operators.{form_of, work_form, turned, truth, int_same}
use Rattle.shape_rules.specs.declared.op.Op.{Op}
use Rattle.shape_rules.specs.declared.op.Op.TheVariants as op
use Rattle.shape_rules.specs.declared.cell.CellKind.{CellKind}
use Rattle.shape_rules.specs.declared.cell.CellKind.TheVariants as kind
use Rattle.shape_rules.proofs.WorkShape.{work_holds_left, work_holds_right}
use Rattle.rtlil_text.specs.Cells.{xor}
use Rattle.rtlil_text.specs.History.{Wires}
use Rattle.netlist_laws.specs.Ids.{part_id}
use Rattle.netlist_laws.specs.Cells.{unary_cell, binary_cell}
use Rattle.netlist_laws.specs.Operands.{at_form}
use Rattle.netlist_laws.specs.Operators.{Value, as_form, whole, alike, one_bit, at_least_one, unequal}
use Rattle.shape_rules.specs.Forms.{unsigned}
use Rattle.netlist_laws.specs.Carried.{IsIn, Obeys, MakesOperator}
use Rattle.netlist_laws.proofs.Reading.{bit_of, HasBits, HasSign, reads_at_width}
use Rattle.netlist_laws.proofs.Whole.{signed_cell}
use Rattle.netlist_laws.proofs.Drawn.{makes_bits, form_sign, first_cell, second_cell}
use Rattle.netlist_laws.proofs.Bitwise.{IsBitwise, IsByBits, bitwise_cell, not_bit, and_bitwise, or_bitwise, xor_bitwise, and_by_bits, or_by_bits, xor_by_bits}
use Rattle.netlist_laws.proofs.Comparisons.{eq_whole, eq_result, in_some}
use Rattle.netlist_laws.proofs.Widths.{common_width_left, reads_narrow, bit_of-truth, has_truth}

-- two values at one shape, of which the result is no wider
alike_bitwise : (wires : Wires) (k : CellKind) (f : Bool → Bool → Bool) (of : ℤ → ℤ → ℤ) (n : ℕ) (g : Form) (a b y : Value) (x z : ℤ) → IsBitwise k f → IsByBits f of → HasSign a.form → HasSign b.form
    → IsIn a.form x → IsIn b.form z → HasBits wires a.id a.form.width x → HasBits wires b.id b.form.width z → y.form.width ≤ g.width
    → Obeys wires (alike k n g a b y) → HasBits wires y.id y.form.width (of x z)
alike_bitwise wires k f of n g a b y x z kind law s t p q c d le o =
    bitwise_cell wires k f of (part_id n) (as_form a g) (as_form b g) y.form.width y.id y.form.width g.width x z kind law
    (reads_at_width wires a.id a.form g.width x s p c) (reads_at_width wires b.id b.form g.width z t q d) le
    (first_cell wires (binary_cell k (part_id n) (as_form a g) (as_form b g) y.form.width (whole y)) [] o.cells)

-- the result's width, and the work shape's
pub result_within : (o : Op) (a b : Form) (y : Form) → y ≡ form_of o a b → (form_of o a b).width ≤ (work_form o a b).width → y.width ≤ (work_form o a b).width
result_within o a b y e le = let d : y.width ≡ (form_of o a b).width = ap (λ (f : Form). f.width) e in omega arith

pub makes_and : MakesOperator op.And
makes_and =
    makes_bits op.And (λ wires n a b y x z p q t e f g c d some o.
    alike_bitwise wires kind.And ◌&&◌ int_and n (work_form op.And a.form b.form) a b y x z and_bitwise and_by_bits (form_sign a.form p) (form_sign b.form q) f g c d
    (result_within op.And a.form b.form y.form e (common_width_left _ _ _ _)) o)

pub makes_or : MakesOperator op.Or
makes_or =
    makes_bits op.Or (λ wires n a b y x z p q t e f g c d some o.
    alike_bitwise wires kind.Or ◌||◌ int_or n (work_form op.Or a.form b.form) a b y x z or_bitwise or_by_bits (form_sign a.form p) (form_sign b.form q) f g c d
    (result_within op.Or a.form b.form y.form e (common_width_left _ _ _ _)) o)

pub makes_xor : MakesOperator op.Xor
makes_xor =
    makes_bits op.Xor (λ wires n a b y x z p q t e f g c d some o.
    alike_bitwise wires kind.Xor xor int_xor n (work_form op.Xor a.form b.form) a b y x z xor_bitwise xor_by_bits (form_sign a.form p) (form_sign b.form q) f g c d
    (result_within op.Xor a.form b.form y.form e (common_width_left _ _ _ _)) o)

-- ---- each bit turned

turned_bit : (b : ℕ) → b < 2 → not (b == 1) ≡ (1 - b == 1)
turned_bit zero h = refl
turned_bit (suc zero) h = refl
turned_bit (suc (suc b)) h = absurd (omega arith)

int_bit-turned : (s : Bool) (w : ℕ) (x : ℤ) (i : ℕ) → IsOf s w x → i < w → int_bit (turned (record { width = w; signed = s }) x) i ≡ 1 - int_bit x i
int_bit-turned true w x i f h = int_bit_not x i
int_bit-turned false w (pos n) i f h =
    let e : pos (2 ^ w - 1) -ℤ pos n ≡ pos (2 ^ w - suc n) = omega (arith, ints) in
    ap (λ u. int_bit u i) e ∙ nat_bit_turned n w i h f
int_bit-turned false w (negsuc n) i f h = absurd f

pub bit_of-turned : (f : Form) (x : ℤ) (i : ℕ) → IsIn f x → i < f.width → not (bit_of x i) ≡ bit_of (turned f x) i
bit_of-turned f x i p h = turned_bit (int_bit x i) (int_bit_low x i) ∙ ap (λ b. b == 1) (sym (int_bit-turned f.signed f.width x i p h))

pub makes_not : MakesOperator op.Not
makes_not =
    makes_bits op.Not (λ wires n a b y x z p q t e f g c d some o.
    let w : Form = work_form op.Not a.form b.form in
    let same : y.form.width ≡ a.form.width = ap (λ (f : Form). f.width) e in
    let wide : a.form.width ≤ w.width = common_width_left _ _ _ _ in
    let read = reads_at_width wires a.id a.form w.width x (form_sign a.form p) f c in
    record {
      at = λ i h.
          not_bit wires (part_id n) (as_form a w) y.form.width y.id y.form.width i (bit_of x i) (read.at i (omega arith)) h
          (first_cell wires (unary_cell kind.Not (part_id n) (as_form a w) y.form.width (whole y)) [] o.cells)
          ∙ ap Some (bit_of-turned a.form x i f (omega arith));
    })

-- ---- unequal: the turned bit of equal

unequal_bits : (wires : Wires) (n : ℕ) (g : Form) (a b y : Value) (x z : ℤ) → HasSign a.form → HasSign b.form → IsIn a.form x → IsIn b.form z → IsIn g x → IsIn g z
    → HasBits wires a.id a.form.width x → HasBits wires b.id b.form.width z → y.form.width ≡ 1 → Obeys wires (unequal n g a b y) → HasBits wires y.id y.form.width (truth (not (int_same x z)))
unequal_bits wires n g a b y x z s t f g' fx gz c d one o =
    let compare = binary_cell kind.Eq (part_id n) (as_form a (at_least_one g)) (as_form b (at_least_one g)) 1 (one_bit (part_id (n + 1))) in
    let turn = unary_cell kind.Not (part_id (n + 2)) (at_form (part_id (n + 1)) (unsigned 1) (unsigned 1)) 1 (whole y) in
    let equal : HasBits wires (part_id (n + 1)) 1 (truth (int_same x z)) =
    signed_cell wires kind.Eq (part_id n) (as_form a (at_least_one g)) (as_form b (at_least_one g)) 1 (part_id (n + 1)) 1 x z (truth (int_same x z)) eq_whole (λ s. refl)
    (reads_at_width wires a.id a.form (at_least_one g).width x s f c) (reads_at_width wires b.id b.form (at_least_one g).width z t g' d) (in_some g x fx) (in_some g z gz) (eq_result x z)
    (first_cell wires compare (turn ∷ []) o.cells) in
    let read = reads_narrow wires (part_id (n + 1)) (unsigned 1) 1 (truth (int_same x z)) (omega arith) equal in
    has_truth wires y.id y.form.width (not (int_same x z)) one
    (not_bit wires (part_id (n + 2)) (at_form (part_id (n + 1)) (unsigned 1) (unsigned 1)) 1 y.id y.form.width 0 (int_same x z) (read.at 0 (omega arith) ∙ ap Some (bit_of-truth (int_same x z))) (omega arith)
    (second_cell wires compare turn [] o.cells))

pub makes_ne : MakesOperator op.Ne
makes_ne =
    makes_bits op.Ne (λ wires n a b y x z p q t e f g c d some o.
    unequal_bits wires n (work_form op.Ne a.form b.form) a b y x z (form_sign a.form p) (form_sign b.form q) f g
    (work_holds_left op.Ne a.form b.form q x f) (work_holds_right op.Ne a.form b.form refl p z g) c d (ap (λ (f : Form). f.width) e) o)
