-- The integer of each operator is of the shape of its result.
use Rattle.std.proofs.Common.{ℕ, zero, suc, ◌+◌, ◌-◌, ◌^◌, ◌%◌, ℤ, pos, ◌-ℤ◌, ◌*ℤ◌, Bool, true, false, ◌||◌, ◌==◌, not, int_lt, int_le, count_ones, unsigned_abs, arith, subst, add-zero, add-one}
use Rattle.std.proofs.lemmas.Int.{ints}
use Rattle.std.proofs.lemmas.Nat.{pow_pos, mod_below}
use Rattle.std.proofs.Math.IntN.{*ℤ_comm}
use Rattle.std.proofs.Math.Nat.{add_comm}
use Rattle.amh_bits.specs.Integers.{IsKept}
use Rattle.amh_bits.specs.Patterns.{IsOf, pattern}
use Rattle.amh_bits.proofs.InShape.{of_wider, of_kept, of-add, of-sub, of-neg, of-mul_unsigned, of-mul_signed, of-abs, of-int_not, of-int_and, of-int_or, of-int_xor, of-floor_quotient, of-floor_div_unsigned, of-floor_div_signed, of-floor_rem, of-mul_power, unsigned_size, signed_size, unsigned_low, unsigned_high, unsigned_of}
use Rattle.shape_rules.specs.Forms.{Form, IsForm, common}
use Rattle.shape_rules.specs.Operators.{form_of, integer_of, turned, truth, int_same, is_zero}
use Rattle.shape_rules.specs.Stops.{IsTaken}
use Rattle.shape_rules.specs.declared.op.Op.{Op}
use Rattle.shape_rules.specs.declared.op.Op.TheVariants.{Add, Sub, Neg, Mul, Div, Mod, Abs, Not, And, Or, Xor, Eq, Ne, Lt, Le, Gt, Ge, Any, All, Parity, Shl, Shr}
use Rattle.shape_rules.proofs.CommonShape.{common_left, common_right, common_some}

-- the integer is of the shape of the result
abbrev Fits : Op → Form → ℤ → Form → ℤ → Type 0
Fits op a x b y = IsOf (form_of op a b).signed (form_of op a b).width (integer_of op a x b y)

product : (s t : Bool) (w v : ℕ) (x y : ℤ) → IsOf s w x → IsOf t v y → IsOf (s || t) (w + v) (x *ℤ y)
product false false w v x y f g = of-mul_unsigned w v x y f g
product true false w v x y f g = of-mul_signed w v x y f (unsigned_size v y g)
product false true w v x y f g = rw (*ℤ_comm x y, add_comm w v) (of-mul_signed v w y x g (unsigned_size w x f))
product true true w v x y f g = of-mul_signed w v x y f (omega (arith, signed_size v y g, pow_pos v))

quotient : (s t : Bool) (w v : ℕ) (x y : ℤ) → IsOf s w x → IsOf t v y → Fits Div (record { width = w; signed = s }) x (record { width = v; signed = t }) y
quotient false false w v x y f g = rw (add-zero) (of-floor_div_unsigned false w v x y f g)
quotient true false w v x y f g = rw (add-zero) (of-floor_div_unsigned true w v x y f g)
quotient false true w v x y f g = rw (add-one) (of-floor_div_signed false w x y f)
quotient true true w v x y f g = rw (add-one) (of-floor_div_signed true w x y f)

turned_fits : (s : Bool) (w : ℕ) (x : ℤ) → IsForm w s → IsOf s w x → IsOf s w (turned (record { width = w; signed = s }) x)
turned_fits false w x p f =
    let low = unsigned_low w x f in
    let high = unsigned_high w x f in
    unsigned_of w (pos (2 ^ w - 1) -ℤ x) (omega (arith, ints)) (omega (arith, ints))
turned_fits true zero x p f = absurd (omega (arith, p.0))
turned_fits true (suc w) x p f = of-int_not w x f

-- a bit is of one
truth_fits : (b : Bool) → IsOf false 1 (truth b)
truth_fits false = omega arith
truth_fits true = omega arith

parity_fits : (n : ℕ) → IsOf false 1 (pos (n % 2))
parity_fits n = mod_below n 2 (omega arith)

shifted : (s : Bool) (w v : ℕ) (x y : ℤ) → IsOf s w x → IsOf false v y → IsOf s (w + (2 ^ v - 1)) (x *ℤ pos (2 ^ unsigned_abs y))
shifted s w v x y f g =
    of_wider s (w + unsigned_abs y) (w + (2 ^ v - 1)) _ (omega (arith, unsigned_size v y g)) (of-mul_power s w (unsigned_abs y) x f)

pub fits : (op : Op) (a b : Form) (x y : ℤ) → IsForm a.width a.signed → IsForm b.width b.signed → IsTaken op a b → IsOf a.signed a.width x → IsOf b.signed b.width y → Fits op a x b y
fits Add a b x y p q t f g = of-add (common a b).signed (common a b).width x y (common_left a.signed b.signed a.width b.width x f) (common_right a.signed b.signed a.width b.width y g)
fits Sub a b x y p q t f g = of-sub (common a b).signed (common a b).width x y (common_left a.signed b.signed a.width b.width x f) (common_right a.signed b.signed a.width b.width y g)
fits Neg a b x y p q t f g = of-neg a.signed a.width x f
fits Mul a b x y p q t f g = product a.signed b.signed a.width b.width x y f g
fits Div a b x y p q t f g = quotient a.signed b.signed a.width b.width x y f g
fits Mod a b x y p q t f g = of-floor_rem b.signed b.width x y g
fits Abs a b x y p q t f g = of-abs a.signed a.width x f
fits Not a b x y p q t f g = turned_fits a.signed a.width x p f
fits And a b x y p q t f g = of-int_and (common a b).signed (common a b).width x y (common_some a.signed b.signed a.width b.width p q) (common_left a.signed b.signed a.width b.width x f) (common_right a.signed b.signed a.width b.width y g)
fits Or a b x y p q t f g = of-int_or (common a b).signed (common a b).width x y (common_some a.signed b.signed a.width b.width p q) (common_left a.signed b.signed a.width b.width x f) (common_right a.signed b.signed a.width b.width y g)
fits Xor a b x y p q t f g = of-int_xor (common a b).signed (common a b).width x y (common_some a.signed b.signed a.width b.width p q) (common_left a.signed b.signed a.width b.width x f) (common_right a.signed b.signed a.width b.width y g)
fits Eq a b x y p q t f g = truth_fits (int_same x y)
fits Ne a b x y p q t f g = truth_fits (not (int_same x y))
fits Lt a b x y p q t f g = truth_fits (int_lt x y)
fits Le a b x y p q t f g = truth_fits (int_le x y)
fits Gt a b x y p q t f g = truth_fits (int_lt y x)
fits Ge a b x y p q t f g = truth_fits (int_le y x)
fits Any a b x y p q t f g = truth_fits (not (is_zero x))
fits All a b x y p q t f g = truth_fits (pattern a.width x == 2 ^ a.width - 1)
fits Parity a b x y p q t f g = parity_fits (count_ones (pattern a.width x))
fits Shl a b x y p q t f g = shifted a.signed a.width b.width x y f (subst (λ (s : Bool). IsOf s b.width y) t.operand g)
fits Shr a b x y p q t f g = of-floor_quotient a.signed a.width (2 ^ unsigned_abs y) x f

-- so it is kept
pub kept : (op : Op) (a b : Form) (x y : ℤ) → IsForm a.width a.signed → IsForm b.width b.signed → IsTaken op a b → IsOf a.signed a.width x → IsOf b.signed b.width y → IsKept (integer_of op a x b y)
kept op a b x y p q t f g = of_kept (form_of op a b).signed (form_of op a b).width (integer_of op a x b y) t.result (fits op a b x y p q t f g)
