-- Operators at the corners of their shapes, as bench/operator_corners.py prints them: no bits, 1, 127 and 128 bits, and 0, 1, -1,
-- the least and the greatest integer. Shapes are those of the Amaranth guide, integers Python's.
use Rattle.std.proofs.Common.{◌≡◌, ◌∙◌, refl, sym, ℕ, ◌/◌, ◌%◌, ◌^◌, ◌<◌, ◌≤◌, ◌==◌, ◌&&◌, Bool, true, not, nat_lt, if◌then◌else◌, ℤ, pos, negsuc, neg_ℤ, List, [], ◌∷◌, arith}
use Rattle.std.proofs.Math.Nat.{pow-le-pow_right, div-eq_of_lt}
use Rattle.std.specs.List.{list_all}
use Rattle.std.specs.Ordering.{int_eq}
use Rattle.amh_bits.specs.Integers.{IsKept}
use Rattle.amh_bits.specs.Patterns.{pattern}
use Rattle.amh_bits.proofs.Wraps.{pattern_below}
use Rattle.amh_bits.proofs.Reductions.{ones_below, count_ones_bits}
use Rattle.shape_rules.specs.Forms.{Form, unsigned, signed_form}
use Rattle.shape_rules.specs.Operators.{form_of, work_form, integer_of}
use Rattle.shape_rules.specs.Stops.{is_bad_operand, widest}
use Rattle.shape_rules.specs.declared.op.Op.{Op}
use Rattle.shape_rules.specs.declared.op.Op.TheVariants.{Add, Sub, Neg, Mul, Div, Mod, Abs, Not, And, Or, Xor, Eq, Ne, Lt, Le, Gt, Ge, Any, All, Parity, Shl, Shr}

abbrev u : ℕ → Form
u width = unsigned width

abbrev s : ℕ → Form
s width = signed_form width

abbrev minus : ℕ → ℤ
minus n = neg_ℤ (pos n)

same_form : Form → Form → Bool
same_form f g = (f.width == g.width) && (if f.signed then g.signed else not g.signed)

-- operands of these shapes are taken
is_taken : Op → Form → Form → Bool
is_taken op a b = not (is_bad_operand op b) && not (nat_lt 128 (widest op a b))

-- the operator is taken, and has this shape, this shape of its work and this integer
gives : Op → Form → ℤ → Form → ℤ → Form → Form → ℤ → Bool
gives op a x b y of work n = is_taken op a b && same_form (form_of op a b) of && same_form (work_form op a b) work && int_eq (integer_of op a x b y) n

-- the bits of a number, counted one by one, which computes where `count_ones` does not
abbrev parity_of : Form → ℤ → ℤ
parity_of a x = pos (ones_below a.width (pattern a.width x) % 2)

pub counted : (a b : Form) (x y : ℤ) → integer_of Parity a x b y ≡ parity_of a x
counted a b x y = rw (count_ones_bits a.width (pattern a.width x) (pattern_below a.width x)) refl

gives_parity : Form → ℤ → Form → Form → ℤ → Bool
gives_parity a x of work n = is_taken Parity a a && same_form (form_of Parity a a) of && same_form (work_form Parity a a) work && int_eq (parity_of a x) n

-- shifts by a signed amount, and those that are not but too wide
is_bad : Op → Form → Form → Bool
is_bad op a b = is_bad_operand op b

is_too_wide : Op → Form → Form → Bool
is_too_wide op a b = not (is_bad_operand op b) && nat_lt 128 (widest op a b)

abbrev all : List Bool → Bool
all tests = list_all (λ holds. holds) tests

add_corners : all (
    gives Add (u 127) (pos 170141183460469231731687303715884105727) (u 127) (pos 170141183460469231731687303715884105727) (u 128) (u 128) (pos 340282366920938463463374607431768211454) ∷
    gives Add (s 127) (minus 85070591730234615865843651857942052864) (s 127) (minus 85070591730234615865843651857942052864) (s 128) (s 128) (minus 170141183460469231731687303715884105728) ∷
    gives Add (s 127) (pos 85070591730234615865843651857942052863) (s 127) (pos 85070591730234615865843651857942052863) (s 128) (s 128) (pos 170141183460469231731687303715884105726) ∷
    gives Add (u 1) (pos 1) (u 1) (pos 1) (u 2) (u 2) (pos 2) ∷
    gives Add (s 1) (minus 1) (s 1) (minus 1) (s 2) (s 2) (minus 2) ∷
    gives Add (u 127) (pos 1) (u 127) (pos 1) (u 128) (u 128) (pos 2) ∷
    gives Add (s 127) (minus 1) (s 127) (minus 1) (s 128) (s 128) (minus 2) ∷
    gives Add (s 127) (pos 1) (s 127) (pos 1) (s 128) (s 128) (pos 2) ∷
    gives Add (u 0) (pos 0) (u 0) (pos 0) (u 1) (u 1) (pos 0) ∷
    gives Add (u 1) (pos 0) (u 1) (pos 0) (u 2) (u 2) (pos 0) ∷
    gives Add (s 1) (pos 0) (s 1) (pos 0) (s 2) (s 2) (pos 0) ∷
    gives Add (u 127) (pos 0) (u 127) (pos 0) (u 128) (u 128) (pos 0) ∷
    gives Add (s 127) (pos 0) (s 127) (pos 0) (s 128) (s 128) (pos 0) ∷ []) ≡ true
unfolding gives is_taken same_form
add_corners = refl

sub_corners : all (
    gives Sub (u 127) (pos 170141183460469231731687303715884105727) (u 127) (pos 170141183460469231731687303715884105727) (s 128) (s 128) (pos 0) ∷
    gives Sub (s 127) (minus 85070591730234615865843651857942052864) (s 127) (minus 85070591730234615865843651857942052864) (s 128) (s 128) (pos 0) ∷
    gives Sub (s 127) (pos 85070591730234615865843651857942052863) (s 127) (pos 85070591730234615865843651857942052863) (s 128) (s 128) (pos 0) ∷
    gives Sub (u 1) (pos 1) (u 1) (pos 1) (s 2) (s 2) (pos 0) ∷
    gives Sub (s 1) (minus 1) (s 1) (minus 1) (s 2) (s 2) (pos 0) ∷
    gives Sub (u 127) (pos 1) (u 127) (pos 1) (s 128) (s 128) (pos 0) ∷
    gives Sub (s 127) (minus 1) (s 127) (minus 1) (s 128) (s 128) (pos 0) ∷
    gives Sub (s 127) (pos 1) (s 127) (pos 1) (s 128) (s 128) (pos 0) ∷
    gives Sub (u 0) (pos 0) (u 0) (pos 0) (s 1) (s 1) (pos 0) ∷
    gives Sub (u 1) (pos 0) (u 1) (pos 0) (s 2) (s 2) (pos 0) ∷
    gives Sub (s 1) (pos 0) (s 1) (pos 0) (s 2) (s 2) (pos 0) ∷
    gives Sub (u 127) (pos 0) (u 127) (pos 0) (s 128) (s 128) (pos 0) ∷
    gives Sub (s 127) (pos 0) (s 127) (pos 0) (s 128) (s 128) (pos 0) ∷ []) ≡ true
unfolding gives is_taken same_form
sub_corners = refl

neg_corners : all (
    gives Neg (u 127) (pos 170141183460469231731687303715884105727) (u 0) (pos 0) (s 128) (s 128) (minus 170141183460469231731687303715884105727) ∷
    gives Neg (s 127) (minus 85070591730234615865843651857942052864) (u 0) (pos 0) (s 128) (s 128) (pos 85070591730234615865843651857942052864) ∷
    gives Neg (s 127) (pos 85070591730234615865843651857942052863) (u 0) (pos 0) (s 128) (s 128) (minus 85070591730234615865843651857942052863) ∷
    gives Neg (u 1) (pos 1) (u 0) (pos 0) (s 2) (s 2) (minus 1) ∷
    gives Neg (s 1) (minus 1) (u 0) (pos 0) (s 2) (s 2) (pos 1) ∷
    gives Neg (u 127) (pos 1) (u 0) (pos 0) (s 128) (s 128) (minus 1) ∷
    gives Neg (s 127) (minus 1) (u 0) (pos 0) (s 128) (s 128) (pos 1) ∷
    gives Neg (s 127) (pos 1) (u 0) (pos 0) (s 128) (s 128) (minus 1) ∷
    gives Neg (u 0) (pos 0) (u 0) (pos 0) (s 1) (s 1) (pos 0) ∷
    gives Neg (u 1) (pos 0) (u 0) (pos 0) (s 2) (s 2) (pos 0) ∷
    gives Neg (s 1) (pos 0) (u 0) (pos 0) (s 2) (s 2) (pos 0) ∷
    gives Neg (u 127) (pos 0) (u 0) (pos 0) (s 128) (s 128) (pos 0) ∷
    gives Neg (s 127) (pos 0) (u 0) (pos 0) (s 128) (s 128) (pos 0) ∷ []) ≡ true
unfolding gives is_taken same_form
neg_corners = refl

mul_corners : all (
    gives Mul (u 0) (pos 0) (u 128) (pos 340282366920938463463374607431768211455) (u 128) (u 128) (pos 0) ∷
    gives Mul (u 128) (pos 340282366920938463463374607431768211455) (u 0) (pos 0) (u 128) (u 128) (pos 0) ∷
    gives Mul (u 1) (pos 1) (u 127) (pos 170141183460469231731687303715884105727) (u 128) (u 128) (pos 170141183460469231731687303715884105727) ∷
    gives Mul (u 127) (pos 170141183460469231731687303715884105727) (u 1) (pos 1) (u 128) (u 128) (pos 170141183460469231731687303715884105727) ∷
    gives Mul (s 1) (minus 1) (s 127) (minus 85070591730234615865843651857942052864) (s 128) (s 128) (pos 85070591730234615865843651857942052864) ∷
    gives Mul (s 127) (minus 85070591730234615865843651857942052864) (s 1) (minus 1) (s 128) (s 128) (pos 85070591730234615865843651857942052864) ∷
    gives Mul (u 1) (pos 0) (s 127) (pos 85070591730234615865843651857942052863) (s 128) (s 128) (pos 0) ∷
    gives Mul (s 127) (pos 85070591730234615865843651857942052863) (u 1) (pos 0) (s 128) (s 128) (pos 0) ∷
    gives Mul (s 1) (pos 0) (u 127) (pos 1) (s 128) (s 128) (pos 0) ∷
    gives Mul (u 127) (pos 1) (s 1) (pos 0) (s 128) (s 128) (pos 0) ∷
    gives Mul (u 0) (pos 0) (s 128) (minus 170141183460469231731687303715884105728) (s 128) (s 128) (pos 0) ∷
    gives Mul (s 128) (minus 170141183460469231731687303715884105728) (u 0) (pos 0) (s 128) (s 128) (pos 0) ∷
    gives Mul (u 0) (pos 0) (s 128) (pos 170141183460469231731687303715884105727) (s 128) (s 128) (pos 0) ∷
    gives Mul (s 128) (pos 170141183460469231731687303715884105727) (u 0) (pos 0) (s 128) (s 128) (pos 0) ∷
    gives Mul (u 1) (pos 1) (s 127) (minus 1) (s 128) (s 128) (minus 1) ∷
    gives Mul (u 1) (pos 1) (s 127) (pos 1) (s 128) (s 128) (pos 1) ∷
    gives Mul (s 127) (minus 1) (u 1) (pos 1) (s 128) (s 128) (minus 1) ∷
    gives Mul (s 127) (pos 1) (u 1) (pos 1) (s 128) (s 128) (pos 1) ∷
    gives Mul (u 0) (pos 0) (u 128) (pos 1) (u 128) (u 128) (pos 0) ∷
    gives Mul (u 0) (pos 0) (s 128) (minus 1) (s 128) (s 128) (pos 0) ∷
    gives Mul (u 0) (pos 0) (s 128) (pos 1) (s 128) (s 128) (pos 0) ∷
    gives Mul (u 1) (pos 1) (u 127) (pos 0) (u 128) (u 128) (pos 0) ∷
    gives Mul (u 1) (pos 1) (s 127) (pos 0) (s 128) (s 128) (pos 0) ∷
    gives Mul (u 127) (pos 0) (u 1) (pos 1) (u 128) (u 128) (pos 0) ∷
    gives Mul (s 127) (pos 0) (u 1) (pos 1) (s 128) (s 128) (pos 0) ∷
    gives Mul (u 128) (pos 1) (u 0) (pos 0) (u 128) (u 128) (pos 0) ∷
    gives Mul (s 128) (minus 1) (u 0) (pos 0) (s 128) (s 128) (pos 0) ∷
    gives Mul (s 128) (pos 1) (u 0) (pos 0) (s 128) (s 128) (pos 0) ∷
    gives Mul (u 0) (pos 0) (u 128) (pos 0) (u 128) (u 128) (pos 0) ∷
    gives Mul (u 0) (pos 0) (s 128) (pos 0) (s 128) (s 128) (pos 0) ∷
    gives Mul (u 128) (pos 0) (u 0) (pos 0) (u 128) (u 128) (pos 0) ∷
    gives Mul (s 128) (pos 0) (u 0) (pos 0) (s 128) (s 128) (pos 0) ∷ []) ≡ true
unfolding gives is_taken same_form
mul_corners = refl

div_corners : all (
    gives Div (u 128) (pos 340282366920938463463374607431768211455) (u 128) (pos 340282366920938463463374607431768211455) (u 128) (u 128) (pos 1) ∷
    gives Div (u 127) (pos 170141183460469231731687303715884105727) (s 128) (minus 170141183460469231731687303715884105728) (s 128) (s 128) (minus 1) ∷
    gives Div (s 128) (minus 170141183460469231731687303715884105728) (u 127) (pos 170141183460469231731687303715884105727) (s 128) (s 128) (minus 2) ∷
    gives Div (s 127) (minus 85070591730234615865843651857942052864) (s 128) (pos 170141183460469231731687303715884105727) (s 128) (s 128) (minus 1) ∷
    gives Div (s 128) (pos 170141183460469231731687303715884105727) (u 1) (pos 1) (s 128) (s 128) (pos 170141183460469231731687303715884105727) ∷
    gives Div (s 127) (pos 85070591730234615865843651857942052863) (s 127) (minus 85070591730234615865843651857942052864) (s 128) (s 128) (minus 1) ∷
    gives Div (u 1) (pos 1) (s 127) (pos 85070591730234615865843651857942052863) (s 2) (s 127) (pos 0) ∷
    gives Div (s 1) (minus 1) (s 1) (minus 1) (s 2) (s 2) (pos 1) ∷
    gives Div (u 127) (pos 1) (u 127) (pos 1) (u 127) (u 127) (pos 1) ∷
    gives Div (s 127) (minus 1) (s 127) (minus 1) (s 128) (s 128) (pos 1) ∷
    gives Div (s 127) (pos 1) (s 127) (pos 1) (s 128) (s 128) (pos 1) ∷
    gives Div (u 128) (pos 1) (u 128) (pos 1) (u 128) (u 128) (pos 1) ∷
    gives Div (u 0) (pos 0) (s 128) (minus 1) (s 1) (s 128) (pos 0) ∷
    gives Div (u 1) (pos 0) (s 128) (pos 1) (s 2) (s 128) (pos 0) ∷
    gives Div (s 128) (minus 1) (u 0) (pos 0) (s 128) (s 128) (pos 0) ∷
    gives Div (s 128) (pos 1) (u 1) (pos 0) (s 128) (s 128) (pos 0) ∷
    gives Div (s 1) (pos 0) (s 1) (pos 0) (s 2) (s 2) (pos 0) ∷
    gives Div (u 127) (pos 0) (u 127) (pos 0) (u 127) (u 127) (pos 0) ∷
    gives Div (s 127) (pos 0) (s 127) (pos 0) (s 128) (s 128) (pos 0) ∷
    gives Div (u 128) (pos 0) (u 128) (pos 0) (u 128) (u 128) (pos 0) ∷
    gives Div (u 127) (pos 170141183460469231731687303715884105727) (s 128) (pos 0) (s 128) (s 128) (pos 0) ∷
    gives Div (s 128) (pos 0) (u 127) (pos 170141183460469231731687303715884105727) (s 128) (s 128) (pos 0) ∷ []) ≡ true
unfolding gives is_taken same_form
div_corners = refl

mod_corners : all (
    gives Mod (u 128) (pos 340282366920938463463374607431768211455) (u 128) (pos 340282366920938463463374607431768211455) (u 128) (u 128) (pos 0) ∷
    gives Mod (s 128) (minus 170141183460469231731687303715884105728) (s 128) (minus 170141183460469231731687303715884105728) (s 128) (s 128) (pos 0) ∷
    gives Mod (u 127) (pos 170141183460469231731687303715884105727) (u 127) (pos 170141183460469231731687303715884105727) (u 127) (u 127) (pos 0) ∷
    gives Mod (s 128) (pos 170141183460469231731687303715884105727) (s 128) (pos 170141183460469231731687303715884105727) (s 128) (s 128) (pos 0) ∷
    gives Mod (s 127) (minus 85070591730234615865843651857942052864) (s 127) (minus 85070591730234615865843651857942052864) (s 127) (s 127) (pos 0) ∷
    gives Mod (s 127) (pos 85070591730234615865843651857942052863) (s 127) (pos 85070591730234615865843651857942052863) (s 127) (s 127) (pos 0) ∷
    gives Mod (u 1) (pos 1) (u 1) (pos 1) (u 1) (u 1) (pos 0) ∷
    gives Mod (s 1) (minus 1) (s 1) (minus 1) (s 1) (s 1) (pos 0) ∷
    gives Mod (u 127) (pos 1) (u 127) (pos 1) (u 127) (u 127) (pos 0) ∷
    gives Mod (s 127) (minus 1) (s 127) (minus 1) (s 127) (s 127) (pos 0) ∷
    gives Mod (s 127) (pos 1) (s 127) (pos 1) (s 127) (s 127) (pos 0) ∷
    gives Mod (u 128) (pos 1) (u 128) (pos 1) (u 128) (u 128) (pos 0) ∷
    gives Mod (s 128) (minus 1) (s 128) (minus 1) (s 128) (s 128) (pos 0) ∷
    gives Mod (s 128) (pos 1) (s 128) (pos 1) (s 128) (s 128) (pos 0) ∷
    gives Mod (u 0) (pos 0) (u 0) (pos 0) (u 0) (u 0) (pos 0) ∷
    gives Mod (u 1) (pos 0) (u 1) (pos 0) (u 1) (u 1) (pos 0) ∷
    gives Mod (s 1) (pos 0) (s 1) (pos 0) (s 1) (s 1) (pos 0) ∷
    gives Mod (u 127) (pos 0) (u 127) (pos 0) (u 127) (u 127) (pos 0) ∷
    gives Mod (s 127) (pos 0) (s 127) (pos 0) (s 127) (s 127) (pos 0) ∷
    gives Mod (u 128) (pos 0) (u 128) (pos 0) (u 128) (u 128) (pos 0) ∷
    gives Mod (s 128) (pos 0) (s 128) (pos 0) (s 128) (s 128) (pos 0) ∷ []) ≡ true
unfolding gives is_taken same_form
mod_corners = refl

abs_corners : all (
    gives Abs (u 128) (pos 340282366920938463463374607431768211455) (u 0) (pos 0) (u 128) (u 128) (pos 340282366920938463463374607431768211455) ∷
    gives Abs (u 127) (pos 170141183460469231731687303715884105727) (u 0) (pos 0) (u 127) (u 127) (pos 170141183460469231731687303715884105727) ∷
    gives Abs (s 127) (minus 85070591730234615865843651857942052864) (u 0) (pos 0) (u 127) (s 128) (pos 85070591730234615865843651857942052864) ∷
    gives Abs (s 127) (pos 85070591730234615865843651857942052863) (u 0) (pos 0) (u 127) (s 128) (pos 85070591730234615865843651857942052863) ∷
    gives Abs (u 1) (pos 1) (u 0) (pos 0) (u 1) (u 1) (pos 1) ∷
    gives Abs (s 1) (minus 1) (u 0) (pos 0) (u 1) (s 2) (pos 1) ∷
    gives Abs (u 127) (pos 1) (u 0) (pos 0) (u 127) (u 127) (pos 1) ∷
    gives Abs (s 127) (minus 1) (u 0) (pos 0) (u 127) (s 128) (pos 1) ∷
    gives Abs (s 127) (pos 1) (u 0) (pos 0) (u 127) (s 128) (pos 1) ∷
    gives Abs (u 128) (pos 1) (u 0) (pos 0) (u 128) (u 128) (pos 1) ∷
    gives Abs (u 0) (pos 0) (u 0) (pos 0) (u 0) (u 0) (pos 0) ∷
    gives Abs (u 1) (pos 0) (u 0) (pos 0) (u 1) (u 1) (pos 0) ∷
    gives Abs (s 1) (pos 0) (u 0) (pos 0) (u 1) (s 2) (pos 0) ∷
    gives Abs (u 127) (pos 0) (u 0) (pos 0) (u 127) (u 127) (pos 0) ∷
    gives Abs (s 127) (pos 0) (u 0) (pos 0) (u 127) (s 128) (pos 0) ∷
    gives Abs (u 128) (pos 0) (u 0) (pos 0) (u 128) (u 128) (pos 0) ∷ []) ≡ true
unfolding gives is_taken same_form
abs_corners = refl

not_corners : all (
    gives Not (u 128) (pos 340282366920938463463374607431768211455) (u 0) (pos 0) (u 128) (u 128) (pos 0) ∷
    gives Not (s 128) (minus 170141183460469231731687303715884105728) (u 0) (pos 0) (s 128) (s 128) (pos 170141183460469231731687303715884105727) ∷
    gives Not (u 127) (pos 170141183460469231731687303715884105727) (u 0) (pos 0) (u 127) (u 127) (pos 0) ∷
    gives Not (s 128) (pos 170141183460469231731687303715884105727) (u 0) (pos 0) (s 128) (s 128) (minus 170141183460469231731687303715884105728) ∷
    gives Not (s 127) (minus 85070591730234615865843651857942052864) (u 0) (pos 0) (s 127) (s 127) (pos 85070591730234615865843651857942052863) ∷
    gives Not (s 127) (pos 85070591730234615865843651857942052863) (u 0) (pos 0) (s 127) (s 127) (minus 85070591730234615865843651857942052864) ∷
    gives Not (u 1) (pos 1) (u 0) (pos 0) (u 1) (u 1) (pos 0) ∷
    gives Not (s 1) (minus 1) (u 0) (pos 0) (s 1) (s 1) (pos 0) ∷
    gives Not (u 127) (pos 1) (u 0) (pos 0) (u 127) (u 127) (pos 170141183460469231731687303715884105726) ∷
    gives Not (s 127) (minus 1) (u 0) (pos 0) (s 127) (s 127) (pos 0) ∷
    gives Not (s 127) (pos 1) (u 0) (pos 0) (s 127) (s 127) (minus 2) ∷
    gives Not (u 128) (pos 1) (u 0) (pos 0) (u 128) (u 128) (pos 340282366920938463463374607431768211454) ∷
    gives Not (s 128) (minus 1) (u 0) (pos 0) (s 128) (s 128) (pos 0) ∷
    gives Not (s 128) (pos 1) (u 0) (pos 0) (s 128) (s 128) (minus 2) ∷
    gives Not (u 0) (pos 0) (u 0) (pos 0) (u 0) (u 0) (pos 0) ∷
    gives Not (u 1) (pos 0) (u 0) (pos 0) (u 1) (u 1) (pos 1) ∷
    gives Not (s 1) (pos 0) (u 0) (pos 0) (s 1) (s 1) (minus 1) ∷
    gives Not (u 127) (pos 0) (u 0) (pos 0) (u 127) (u 127) (pos 170141183460469231731687303715884105727) ∷
    gives Not (s 127) (pos 0) (u 0) (pos 0) (s 127) (s 127) (minus 1) ∷
    gives Not (u 128) (pos 0) (u 0) (pos 0) (u 128) (u 128) (pos 340282366920938463463374607431768211455) ∷
    gives Not (s 128) (pos 0) (u 0) (pos 0) (s 128) (s 128) (minus 1) ∷ []) ≡ true
unfolding gives is_taken same_form
not_corners = refl

and_corners : all (
    gives And (u 128) (pos 340282366920938463463374607431768211455) (u 128) (pos 340282366920938463463374607431768211455) (u 128) (u 128) (pos 340282366920938463463374607431768211455) ∷
    gives And (s 128) (minus 170141183460469231731687303715884105728) (s 128) (minus 170141183460469231731687303715884105728) (s 128) (s 128) (minus 170141183460469231731687303715884105728) ∷
    gives And (u 127) (pos 170141183460469231731687303715884105727) (u 127) (pos 170141183460469231731687303715884105727) (u 127) (u 127) (pos 170141183460469231731687303715884105727) ∷
    gives And (s 128) (pos 170141183460469231731687303715884105727) (s 128) (pos 170141183460469231731687303715884105727) (s 128) (s 128) (pos 170141183460469231731687303715884105727) ∷
    gives And (s 127) (minus 85070591730234615865843651857942052864) (s 127) (minus 85070591730234615865843651857942052864) (s 127) (s 127) (minus 85070591730234615865843651857942052864) ∷
    gives And (s 127) (pos 85070591730234615865843651857942052863) (s 127) (pos 85070591730234615865843651857942052863) (s 127) (s 127) (pos 85070591730234615865843651857942052863) ∷
    gives And (u 1) (pos 1) (u 1) (pos 1) (u 1) (u 1) (pos 1) ∷
    gives And (s 1) (minus 1) (s 1) (minus 1) (s 1) (s 1) (minus 1) ∷
    gives And (u 127) (pos 1) (u 127) (pos 1) (u 127) (u 127) (pos 1) ∷
    gives And (s 127) (minus 1) (s 127) (minus 1) (s 127) (s 127) (minus 1) ∷
    gives And (s 127) (pos 1) (s 127) (pos 1) (s 127) (s 127) (pos 1) ∷
    gives And (u 128) (pos 1) (u 128) (pos 1) (u 128) (u 128) (pos 1) ∷
    gives And (s 128) (minus 1) (s 128) (minus 1) (s 128) (s 128) (minus 1) ∷
    gives And (s 128) (pos 1) (s 128) (pos 1) (s 128) (s 128) (pos 1) ∷
    gives And (u 0) (pos 0) (u 0) (pos 0) (u 0) (u 0) (pos 0) ∷
    gives And (u 1) (pos 0) (u 1) (pos 0) (u 1) (u 1) (pos 0) ∷
    gives And (s 1) (pos 0) (s 1) (pos 0) (s 1) (s 1) (pos 0) ∷
    gives And (u 127) (pos 0) (u 127) (pos 0) (u 127) (u 127) (pos 0) ∷
    gives And (s 127) (pos 0) (s 127) (pos 0) (s 127) (s 127) (pos 0) ∷
    gives And (u 128) (pos 0) (u 128) (pos 0) (u 128) (u 128) (pos 0) ∷
    gives And (s 128) (pos 0) (s 128) (pos 0) (s 128) (s 128) (pos 0) ∷ []) ≡ true
unfolding gives is_taken same_form
and_corners = refl

or_corners : all (
    gives Or (u 128) (pos 340282366920938463463374607431768211455) (u 128) (pos 340282366920938463463374607431768211455) (u 128) (u 128) (pos 340282366920938463463374607431768211455) ∷
    gives Or (s 128) (minus 170141183460469231731687303715884105728) (s 128) (minus 170141183460469231731687303715884105728) (s 128) (s 128) (minus 170141183460469231731687303715884105728) ∷
    gives Or (u 127) (pos 170141183460469231731687303715884105727) (u 127) (pos 170141183460469231731687303715884105727) (u 127) (u 127) (pos 170141183460469231731687303715884105727) ∷
    gives Or (s 128) (pos 170141183460469231731687303715884105727) (s 128) (pos 170141183460469231731687303715884105727) (s 128) (s 128) (pos 170141183460469231731687303715884105727) ∷
    gives Or (s 127) (minus 85070591730234615865843651857942052864) (s 127) (minus 85070591730234615865843651857942052864) (s 127) (s 127) (minus 85070591730234615865843651857942052864) ∷
    gives Or (s 127) (pos 85070591730234615865843651857942052863) (s 127) (pos 85070591730234615865843651857942052863) (s 127) (s 127) (pos 85070591730234615865843651857942052863) ∷
    gives Or (u 1) (pos 1) (u 1) (pos 1) (u 1) (u 1) (pos 1) ∷
    gives Or (s 1) (minus 1) (s 1) (minus 1) (s 1) (s 1) (minus 1) ∷
    gives Or (u 127) (pos 1) (u 127) (pos 1) (u 127) (u 127) (pos 1) ∷
    gives Or (s 127) (minus 1) (s 127) (minus 1) (s 127) (s 127) (minus 1) ∷
    gives Or (s 127) (pos 1) (s 127) (pos 1) (s 127) (s 127) (pos 1) ∷
    gives Or (u 128) (pos 1) (u 128) (pos 1) (u 128) (u 128) (pos 1) ∷
    gives Or (s 128) (minus 1) (s 128) (minus 1) (s 128) (s 128) (minus 1) ∷
    gives Or (s 128) (pos 1) (s 128) (pos 1) (s 128) (s 128) (pos 1) ∷
    gives Or (u 0) (pos 0) (u 0) (pos 0) (u 0) (u 0) (pos 0) ∷
    gives Or (u 1) (pos 0) (u 1) (pos 0) (u 1) (u 1) (pos 0) ∷
    gives Or (s 1) (pos 0) (s 1) (pos 0) (s 1) (s 1) (pos 0) ∷
    gives Or (u 127) (pos 0) (u 127) (pos 0) (u 127) (u 127) (pos 0) ∷
    gives Or (s 127) (pos 0) (s 127) (pos 0) (s 127) (s 127) (pos 0) ∷
    gives Or (u 128) (pos 0) (u 128) (pos 0) (u 128) (u 128) (pos 0) ∷
    gives Or (s 128) (pos 0) (s 128) (pos 0) (s 128) (s 128) (pos 0) ∷ []) ≡ true
unfolding gives is_taken same_form
or_corners = refl

xor_corners : all (
    gives Xor (u 128) (pos 340282366920938463463374607431768211455) (u 128) (pos 340282366920938463463374607431768211455) (u 128) (u 128) (pos 0) ∷
    gives Xor (s 128) (minus 170141183460469231731687303715884105728) (s 128) (minus 170141183460469231731687303715884105728) (s 128) (s 128) (pos 0) ∷
    gives Xor (u 127) (pos 170141183460469231731687303715884105727) (u 127) (pos 170141183460469231731687303715884105727) (u 127) (u 127) (pos 0) ∷
    gives Xor (s 128) (pos 170141183460469231731687303715884105727) (s 128) (pos 170141183460469231731687303715884105727) (s 128) (s 128) (pos 0) ∷
    gives Xor (s 127) (minus 85070591730234615865843651857942052864) (s 127) (minus 85070591730234615865843651857942052864) (s 127) (s 127) (pos 0) ∷
    gives Xor (s 127) (pos 85070591730234615865843651857942052863) (s 127) (pos 85070591730234615865843651857942052863) (s 127) (s 127) (pos 0) ∷
    gives Xor (u 1) (pos 1) (u 1) (pos 1) (u 1) (u 1) (pos 0) ∷
    gives Xor (s 1) (minus 1) (s 1) (minus 1) (s 1) (s 1) (pos 0) ∷
    gives Xor (u 127) (pos 1) (u 127) (pos 1) (u 127) (u 127) (pos 0) ∷
    gives Xor (s 127) (minus 1) (s 127) (minus 1) (s 127) (s 127) (pos 0) ∷
    gives Xor (s 127) (pos 1) (s 127) (pos 1) (s 127) (s 127) (pos 0) ∷
    gives Xor (u 128) (pos 1) (u 128) (pos 1) (u 128) (u 128) (pos 0) ∷
    gives Xor (s 128) (minus 1) (s 128) (minus 1) (s 128) (s 128) (pos 0) ∷
    gives Xor (s 128) (pos 1) (s 128) (pos 1) (s 128) (s 128) (pos 0) ∷
    gives Xor (u 0) (pos 0) (u 0) (pos 0) (u 0) (u 0) (pos 0) ∷
    gives Xor (u 1) (pos 0) (u 1) (pos 0) (u 1) (u 1) (pos 0) ∷
    gives Xor (s 1) (pos 0) (s 1) (pos 0) (s 1) (s 1) (pos 0) ∷
    gives Xor (u 127) (pos 0) (u 127) (pos 0) (u 127) (u 127) (pos 0) ∷
    gives Xor (s 127) (pos 0) (s 127) (pos 0) (s 127) (s 127) (pos 0) ∷
    gives Xor (u 128) (pos 0) (u 128) (pos 0) (u 128) (u 128) (pos 0) ∷
    gives Xor (s 128) (pos 0) (s 128) (pos 0) (s 128) (s 128) (pos 0) ∷ []) ≡ true
unfolding gives is_taken same_form
xor_corners = refl

eq_corners : all (
    gives Eq (u 128) (pos 340282366920938463463374607431768211455) (u 128) (pos 340282366920938463463374607431768211455) (u 1) (u 128) (pos 1) ∷
    gives Eq (s 128) (minus 170141183460469231731687303715884105728) (s 128) (minus 170141183460469231731687303715884105728) (u 1) (s 128) (pos 1) ∷
    gives Eq (u 127) (pos 170141183460469231731687303715884105727) (u 127) (pos 170141183460469231731687303715884105727) (u 1) (u 127) (pos 1) ∷
    gives Eq (s 128) (pos 170141183460469231731687303715884105727) (s 128) (pos 170141183460469231731687303715884105727) (u 1) (s 128) (pos 1) ∷
    gives Eq (s 127) (minus 85070591730234615865843651857942052864) (s 127) (minus 85070591730234615865843651857942052864) (u 1) (s 127) (pos 1) ∷
    gives Eq (s 127) (pos 85070591730234615865843651857942052863) (s 127) (pos 85070591730234615865843651857942052863) (u 1) (s 127) (pos 1) ∷
    gives Eq (u 1) (pos 1) (u 1) (pos 1) (u 1) (u 1) (pos 1) ∷
    gives Eq (s 1) (minus 1) (s 1) (minus 1) (u 1) (s 1) (pos 1) ∷
    gives Eq (u 127) (pos 1) (u 127) (pos 1) (u 1) (u 127) (pos 1) ∷
    gives Eq (s 127) (minus 1) (s 127) (minus 1) (u 1) (s 127) (pos 1) ∷
    gives Eq (s 127) (pos 1) (s 127) (pos 1) (u 1) (s 127) (pos 1) ∷
    gives Eq (u 128) (pos 1) (u 128) (pos 1) (u 1) (u 128) (pos 1) ∷
    gives Eq (s 128) (minus 1) (s 128) (minus 1) (u 1) (s 128) (pos 1) ∷
    gives Eq (s 128) (pos 1) (s 128) (pos 1) (u 1) (s 128) (pos 1) ∷
    gives Eq (u 0) (pos 0) (u 0) (pos 0) (u 1) (u 0) (pos 1) ∷
    gives Eq (u 1) (pos 0) (u 1) (pos 0) (u 1) (u 1) (pos 1) ∷
    gives Eq (s 1) (pos 0) (s 1) (pos 0) (u 1) (s 1) (pos 1) ∷
    gives Eq (u 127) (pos 0) (u 127) (pos 0) (u 1) (u 127) (pos 1) ∷
    gives Eq (s 127) (pos 0) (s 127) (pos 0) (u 1) (s 127) (pos 1) ∷
    gives Eq (u 128) (pos 0) (u 128) (pos 0) (u 1) (u 128) (pos 1) ∷
    gives Eq (s 128) (pos 0) (s 128) (pos 0) (u 1) (s 128) (pos 1) ∷ []) ≡ true
unfolding gives is_taken same_form
eq_corners = refl

ne_corners : all (
    gives Ne (u 128) (pos 340282366920938463463374607431768211455) (u 128) (pos 340282366920938463463374607431768211455) (u 1) (u 128) (pos 0) ∷
    gives Ne (s 128) (minus 170141183460469231731687303715884105728) (s 128) (minus 170141183460469231731687303715884105728) (u 1) (s 128) (pos 0) ∷
    gives Ne (u 127) (pos 170141183460469231731687303715884105727) (u 127) (pos 170141183460469231731687303715884105727) (u 1) (u 127) (pos 0) ∷
    gives Ne (s 128) (pos 170141183460469231731687303715884105727) (s 128) (pos 170141183460469231731687303715884105727) (u 1) (s 128) (pos 0) ∷
    gives Ne (s 127) (minus 85070591730234615865843651857942052864) (s 127) (minus 85070591730234615865843651857942052864) (u 1) (s 127) (pos 0) ∷
    gives Ne (s 127) (pos 85070591730234615865843651857942052863) (s 127) (pos 85070591730234615865843651857942052863) (u 1) (s 127) (pos 0) ∷
    gives Ne (u 1) (pos 1) (u 1) (pos 1) (u 1) (u 1) (pos 0) ∷
    gives Ne (s 1) (minus 1) (s 1) (minus 1) (u 1) (s 1) (pos 0) ∷
    gives Ne (u 127) (pos 1) (u 127) (pos 1) (u 1) (u 127) (pos 0) ∷
    gives Ne (s 127) (minus 1) (s 127) (minus 1) (u 1) (s 127) (pos 0) ∷
    gives Ne (s 127) (pos 1) (s 127) (pos 1) (u 1) (s 127) (pos 0) ∷
    gives Ne (u 128) (pos 1) (u 128) (pos 1) (u 1) (u 128) (pos 0) ∷
    gives Ne (s 128) (minus 1) (s 128) (minus 1) (u 1) (s 128) (pos 0) ∷
    gives Ne (s 128) (pos 1) (s 128) (pos 1) (u 1) (s 128) (pos 0) ∷
    gives Ne (u 0) (pos 0) (u 0) (pos 0) (u 1) (u 0) (pos 0) ∷
    gives Ne (u 1) (pos 0) (u 1) (pos 0) (u 1) (u 1) (pos 0) ∷
    gives Ne (s 1) (pos 0) (s 1) (pos 0) (u 1) (s 1) (pos 0) ∷
    gives Ne (u 127) (pos 0) (u 127) (pos 0) (u 1) (u 127) (pos 0) ∷
    gives Ne (s 127) (pos 0) (s 127) (pos 0) (u 1) (s 127) (pos 0) ∷
    gives Ne (u 128) (pos 0) (u 128) (pos 0) (u 1) (u 128) (pos 0) ∷
    gives Ne (s 128) (pos 0) (s 128) (pos 0) (u 1) (s 128) (pos 0) ∷ []) ≡ true
unfolding gives is_taken same_form
ne_corners = refl

lt_corners : all (
    gives Lt (u 128) (pos 340282366920938463463374607431768211455) (u 128) (pos 340282366920938463463374607431768211455) (u 1) (u 128) (pos 0) ∷
    gives Lt (s 128) (minus 170141183460469231731687303715884105728) (s 128) (minus 170141183460469231731687303715884105728) (u 1) (s 128) (pos 0) ∷
    gives Lt (u 127) (pos 170141183460469231731687303715884105727) (u 127) (pos 170141183460469231731687303715884105727) (u 1) (u 127) (pos 0) ∷
    gives Lt (s 128) (pos 170141183460469231731687303715884105727) (s 128) (pos 170141183460469231731687303715884105727) (u 1) (s 128) (pos 0) ∷
    gives Lt (s 127) (minus 85070591730234615865843651857942052864) (s 127) (minus 85070591730234615865843651857942052864) (u 1) (s 127) (pos 0) ∷
    gives Lt (s 127) (pos 85070591730234615865843651857942052863) (s 127) (pos 85070591730234615865843651857942052863) (u 1) (s 127) (pos 0) ∷
    gives Lt (u 1) (pos 1) (u 1) (pos 1) (u 1) (u 1) (pos 0) ∷
    gives Lt (s 1) (minus 1) (s 1) (minus 1) (u 1) (s 1) (pos 0) ∷
    gives Lt (u 127) (pos 1) (u 127) (pos 1) (u 1) (u 127) (pos 0) ∷
    gives Lt (s 127) (minus 1) (s 127) (minus 1) (u 1) (s 127) (pos 0) ∷
    gives Lt (s 127) (pos 1) (s 127) (pos 1) (u 1) (s 127) (pos 0) ∷
    gives Lt (u 128) (pos 1) (u 128) (pos 1) (u 1) (u 128) (pos 0) ∷
    gives Lt (s 128) (minus 1) (s 128) (minus 1) (u 1) (s 128) (pos 0) ∷
    gives Lt (s 128) (pos 1) (s 128) (pos 1) (u 1) (s 128) (pos 0) ∷
    gives Lt (u 0) (pos 0) (u 0) (pos 0) (u 1) (u 0) (pos 0) ∷
    gives Lt (u 1) (pos 0) (u 1) (pos 0) (u 1) (u 1) (pos 0) ∷
    gives Lt (s 1) (pos 0) (s 1) (pos 0) (u 1) (s 1) (pos 0) ∷
    gives Lt (u 127) (pos 0) (u 127) (pos 0) (u 1) (u 127) (pos 0) ∷
    gives Lt (s 127) (pos 0) (s 127) (pos 0) (u 1) (s 127) (pos 0) ∷
    gives Lt (u 128) (pos 0) (u 128) (pos 0) (u 1) (u 128) (pos 0) ∷
    gives Lt (s 128) (pos 0) (s 128) (pos 0) (u 1) (s 128) (pos 0) ∷ []) ≡ true
unfolding gives is_taken same_form
lt_corners = refl

le_corners : all (
    gives Le (u 128) (pos 340282366920938463463374607431768211455) (u 128) (pos 340282366920938463463374607431768211455) (u 1) (u 128) (pos 1) ∷
    gives Le (s 128) (minus 170141183460469231731687303715884105728) (s 128) (minus 170141183460469231731687303715884105728) (u 1) (s 128) (pos 1) ∷
    gives Le (u 127) (pos 170141183460469231731687303715884105727) (u 127) (pos 170141183460469231731687303715884105727) (u 1) (u 127) (pos 1) ∷
    gives Le (s 128) (pos 170141183460469231731687303715884105727) (s 128) (pos 170141183460469231731687303715884105727) (u 1) (s 128) (pos 1) ∷
    gives Le (s 127) (minus 85070591730234615865843651857942052864) (s 127) (minus 85070591730234615865843651857942052864) (u 1) (s 127) (pos 1) ∷
    gives Le (s 127) (pos 85070591730234615865843651857942052863) (s 127) (pos 85070591730234615865843651857942052863) (u 1) (s 127) (pos 1) ∷
    gives Le (u 1) (pos 1) (u 1) (pos 1) (u 1) (u 1) (pos 1) ∷
    gives Le (s 1) (minus 1) (s 1) (minus 1) (u 1) (s 1) (pos 1) ∷
    gives Le (u 127) (pos 1) (u 127) (pos 1) (u 1) (u 127) (pos 1) ∷
    gives Le (s 127) (minus 1) (s 127) (minus 1) (u 1) (s 127) (pos 1) ∷
    gives Le (s 127) (pos 1) (s 127) (pos 1) (u 1) (s 127) (pos 1) ∷
    gives Le (u 128) (pos 1) (u 128) (pos 1) (u 1) (u 128) (pos 1) ∷
    gives Le (s 128) (minus 1) (s 128) (minus 1) (u 1) (s 128) (pos 1) ∷
    gives Le (s 128) (pos 1) (s 128) (pos 1) (u 1) (s 128) (pos 1) ∷
    gives Le (u 0) (pos 0) (u 0) (pos 0) (u 1) (u 0) (pos 1) ∷
    gives Le (u 1) (pos 0) (u 1) (pos 0) (u 1) (u 1) (pos 1) ∷
    gives Le (s 1) (pos 0) (s 1) (pos 0) (u 1) (s 1) (pos 1) ∷
    gives Le (u 127) (pos 0) (u 127) (pos 0) (u 1) (u 127) (pos 1) ∷
    gives Le (s 127) (pos 0) (s 127) (pos 0) (u 1) (s 127) (pos 1) ∷
    gives Le (u 128) (pos 0) (u 128) (pos 0) (u 1) (u 128) (pos 1) ∷
    gives Le (s 128) (pos 0) (s 128) (pos 0) (u 1) (s 128) (pos 1) ∷ []) ≡ true
unfolding gives is_taken same_form
le_corners = refl

gt_corners : all (
    gives Gt (u 128) (pos 340282366920938463463374607431768211455) (u 128) (pos 340282366920938463463374607431768211455) (u 1) (u 128) (pos 0) ∷
    gives Gt (s 128) (minus 170141183460469231731687303715884105728) (s 128) (minus 170141183460469231731687303715884105728) (u 1) (s 128) (pos 0) ∷
    gives Gt (u 127) (pos 170141183460469231731687303715884105727) (u 127) (pos 170141183460469231731687303715884105727) (u 1) (u 127) (pos 0) ∷
    gives Gt (s 128) (pos 170141183460469231731687303715884105727) (s 128) (pos 170141183460469231731687303715884105727) (u 1) (s 128) (pos 0) ∷
    gives Gt (s 127) (minus 85070591730234615865843651857942052864) (s 127) (minus 85070591730234615865843651857942052864) (u 1) (s 127) (pos 0) ∷
    gives Gt (s 127) (pos 85070591730234615865843651857942052863) (s 127) (pos 85070591730234615865843651857942052863) (u 1) (s 127) (pos 0) ∷
    gives Gt (u 1) (pos 1) (u 1) (pos 1) (u 1) (u 1) (pos 0) ∷
    gives Gt (s 1) (minus 1) (s 1) (minus 1) (u 1) (s 1) (pos 0) ∷
    gives Gt (u 127) (pos 1) (u 127) (pos 1) (u 1) (u 127) (pos 0) ∷
    gives Gt (s 127) (minus 1) (s 127) (minus 1) (u 1) (s 127) (pos 0) ∷
    gives Gt (s 127) (pos 1) (s 127) (pos 1) (u 1) (s 127) (pos 0) ∷
    gives Gt (u 128) (pos 1) (u 128) (pos 1) (u 1) (u 128) (pos 0) ∷
    gives Gt (s 128) (minus 1) (s 128) (minus 1) (u 1) (s 128) (pos 0) ∷
    gives Gt (s 128) (pos 1) (s 128) (pos 1) (u 1) (s 128) (pos 0) ∷
    gives Gt (u 0) (pos 0) (u 0) (pos 0) (u 1) (u 0) (pos 0) ∷
    gives Gt (u 1) (pos 0) (u 1) (pos 0) (u 1) (u 1) (pos 0) ∷
    gives Gt (s 1) (pos 0) (s 1) (pos 0) (u 1) (s 1) (pos 0) ∷
    gives Gt (u 127) (pos 0) (u 127) (pos 0) (u 1) (u 127) (pos 0) ∷
    gives Gt (s 127) (pos 0) (s 127) (pos 0) (u 1) (s 127) (pos 0) ∷
    gives Gt (u 128) (pos 0) (u 128) (pos 0) (u 1) (u 128) (pos 0) ∷
    gives Gt (s 128) (pos 0) (s 128) (pos 0) (u 1) (s 128) (pos 0) ∷ []) ≡ true
unfolding gives is_taken same_form
gt_corners = refl

ge_corners : all (
    gives Ge (u 128) (pos 340282366920938463463374607431768211455) (u 128) (pos 340282366920938463463374607431768211455) (u 1) (u 128) (pos 1) ∷
    gives Ge (s 128) (minus 170141183460469231731687303715884105728) (s 128) (minus 170141183460469231731687303715884105728) (u 1) (s 128) (pos 1) ∷
    gives Ge (u 127) (pos 170141183460469231731687303715884105727) (u 127) (pos 170141183460469231731687303715884105727) (u 1) (u 127) (pos 1) ∷
    gives Ge (s 128) (pos 170141183460469231731687303715884105727) (s 128) (pos 170141183460469231731687303715884105727) (u 1) (s 128) (pos 1) ∷
    gives Ge (s 127) (minus 85070591730234615865843651857942052864) (s 127) (minus 85070591730234615865843651857942052864) (u 1) (s 127) (pos 1) ∷
    gives Ge (s 127) (pos 85070591730234615865843651857942052863) (s 127) (pos 85070591730234615865843651857942052863) (u 1) (s 127) (pos 1) ∷
    gives Ge (u 1) (pos 1) (u 1) (pos 1) (u 1) (u 1) (pos 1) ∷
    gives Ge (s 1) (minus 1) (s 1) (minus 1) (u 1) (s 1) (pos 1) ∷
    gives Ge (u 127) (pos 1) (u 127) (pos 1) (u 1) (u 127) (pos 1) ∷
    gives Ge (s 127) (minus 1) (s 127) (minus 1) (u 1) (s 127) (pos 1) ∷
    gives Ge (s 127) (pos 1) (s 127) (pos 1) (u 1) (s 127) (pos 1) ∷
    gives Ge (u 128) (pos 1) (u 128) (pos 1) (u 1) (u 128) (pos 1) ∷
    gives Ge (s 128) (minus 1) (s 128) (minus 1) (u 1) (s 128) (pos 1) ∷
    gives Ge (s 128) (pos 1) (s 128) (pos 1) (u 1) (s 128) (pos 1) ∷
    gives Ge (u 0) (pos 0) (u 0) (pos 0) (u 1) (u 0) (pos 1) ∷
    gives Ge (u 1) (pos 0) (u 1) (pos 0) (u 1) (u 1) (pos 1) ∷
    gives Ge (s 1) (pos 0) (s 1) (pos 0) (u 1) (s 1) (pos 1) ∷
    gives Ge (u 127) (pos 0) (u 127) (pos 0) (u 1) (u 127) (pos 1) ∷
    gives Ge (s 127) (pos 0) (s 127) (pos 0) (u 1) (s 127) (pos 1) ∷
    gives Ge (u 128) (pos 0) (u 128) (pos 0) (u 1) (u 128) (pos 1) ∷
    gives Ge (s 128) (pos 0) (s 128) (pos 0) (u 1) (s 128) (pos 1) ∷ []) ≡ true
unfolding gives is_taken same_form
ge_corners = refl

any_corners : all (
    gives Any (u 128) (pos 340282366920938463463374607431768211455) (u 0) (pos 0) (u 1) (u 128) (pos 1) ∷
    gives Any (s 128) (minus 170141183460469231731687303715884105728) (u 0) (pos 0) (u 1) (s 128) (pos 1) ∷
    gives Any (u 127) (pos 170141183460469231731687303715884105727) (u 0) (pos 0) (u 1) (u 127) (pos 1) ∷
    gives Any (s 128) (pos 170141183460469231731687303715884105727) (u 0) (pos 0) (u 1) (s 128) (pos 1) ∷
    gives Any (s 127) (minus 85070591730234615865843651857942052864) (u 0) (pos 0) (u 1) (s 127) (pos 1) ∷
    gives Any (s 127) (pos 85070591730234615865843651857942052863) (u 0) (pos 0) (u 1) (s 127) (pos 1) ∷
    gives Any (u 1) (pos 1) (u 0) (pos 0) (u 1) (u 1) (pos 1) ∷
    gives Any (s 1) (minus 1) (u 0) (pos 0) (u 1) (s 2) (pos 1) ∷
    gives Any (u 127) (pos 1) (u 0) (pos 0) (u 1) (u 127) (pos 1) ∷
    gives Any (s 127) (minus 1) (u 0) (pos 0) (u 1) (s 127) (pos 1) ∷
    gives Any (s 127) (pos 1) (u 0) (pos 0) (u 1) (s 127) (pos 1) ∷
    gives Any (u 128) (pos 1) (u 0) (pos 0) (u 1) (u 128) (pos 1) ∷
    gives Any (s 128) (minus 1) (u 0) (pos 0) (u 1) (s 128) (pos 1) ∷
    gives Any (s 128) (pos 1) (u 0) (pos 0) (u 1) (s 128) (pos 1) ∷
    gives Any (u 0) (pos 0) (u 0) (pos 0) (u 1) (u 1) (pos 0) ∷
    gives Any (u 1) (pos 0) (u 0) (pos 0) (u 1) (u 1) (pos 0) ∷
    gives Any (s 1) (pos 0) (u 0) (pos 0) (u 1) (s 2) (pos 0) ∷
    gives Any (u 127) (pos 0) (u 0) (pos 0) (u 1) (u 127) (pos 0) ∷
    gives Any (s 127) (pos 0) (u 0) (pos 0) (u 1) (s 127) (pos 0) ∷
    gives Any (u 128) (pos 0) (u 0) (pos 0) (u 1) (u 128) (pos 0) ∷
    gives Any (s 128) (pos 0) (u 0) (pos 0) (u 1) (s 128) (pos 0) ∷ []) ≡ true
unfolding gives is_taken same_form
any_corners = refl

all_corners : all (
    gives All (u 128) (pos 340282366920938463463374607431768211455) (u 0) (pos 0) (u 1) (u 128) (pos 1) ∷
    gives All (s 128) (minus 170141183460469231731687303715884105728) (u 0) (pos 0) (u 1) (s 128) (pos 0) ∷
    gives All (u 127) (pos 170141183460469231731687303715884105727) (u 0) (pos 0) (u 1) (u 127) (pos 1) ∷
    gives All (s 128) (pos 170141183460469231731687303715884105727) (u 0) (pos 0) (u 1) (s 128) (pos 0) ∷
    gives All (s 127) (minus 85070591730234615865843651857942052864) (u 0) (pos 0) (u 1) (s 127) (pos 0) ∷
    gives All (s 127) (pos 85070591730234615865843651857942052863) (u 0) (pos 0) (u 1) (s 127) (pos 0) ∷
    gives All (u 1) (pos 1) (u 0) (pos 0) (u 1) (u 1) (pos 1) ∷
    gives All (s 1) (minus 1) (u 0) (pos 0) (u 1) (s 2) (pos 1) ∷
    gives All (u 127) (pos 1) (u 0) (pos 0) (u 1) (u 127) (pos 0) ∷
    gives All (s 127) (minus 1) (u 0) (pos 0) (u 1) (s 127) (pos 1) ∷
    gives All (s 127) (pos 1) (u 0) (pos 0) (u 1) (s 127) (pos 0) ∷
    gives All (u 128) (pos 1) (u 0) (pos 0) (u 1) (u 128) (pos 0) ∷
    gives All (s 128) (minus 1) (u 0) (pos 0) (u 1) (s 128) (pos 1) ∷
    gives All (s 128) (pos 1) (u 0) (pos 0) (u 1) (s 128) (pos 0) ∷
    gives All (u 0) (pos 0) (u 0) (pos 0) (u 1) (u 1) (pos 1) ∷
    gives All (u 1) (pos 0) (u 0) (pos 0) (u 1) (u 1) (pos 0) ∷
    gives All (s 1) (pos 0) (u 0) (pos 0) (u 1) (s 2) (pos 0) ∷
    gives All (u 127) (pos 0) (u 0) (pos 0) (u 1) (u 127) (pos 0) ∷
    gives All (s 127) (pos 0) (u 0) (pos 0) (u 1) (s 127) (pos 0) ∷
    gives All (u 128) (pos 0) (u 0) (pos 0) (u 1) (u 128) (pos 0) ∷
    gives All (s 128) (pos 0) (u 0) (pos 0) (u 1) (s 128) (pos 0) ∷ []) ≡ true
unfolding gives is_taken same_form
all_corners = refl

parity_corners : all (
    gives_parity (u 128) (pos 340282366920938463463374607431768211455) (u 1) (u 128) (pos 0) ∷
    gives_parity (s 128) (minus 170141183460469231731687303715884105728) (u 1) (s 128) (pos 1) ∷
    gives_parity (u 127) (pos 170141183460469231731687303715884105727) (u 1) (u 127) (pos 1) ∷
    gives_parity (s 128) (pos 170141183460469231731687303715884105727) (u 1) (s 128) (pos 1) ∷
    gives_parity (s 127) (minus 85070591730234615865843651857942052864) (u 1) (s 127) (pos 1) ∷
    gives_parity (s 127) (pos 85070591730234615865843651857942052863) (u 1) (s 127) (pos 0) ∷
    gives_parity (u 1) (pos 1) (u 1) (u 1) (pos 1) ∷
    gives_parity (s 1) (minus 1) (u 1) (s 2) (pos 1) ∷
    gives_parity (u 127) (pos 1) (u 1) (u 127) (pos 1) ∷
    gives_parity (s 127) (minus 1) (u 1) (s 127) (pos 1) ∷
    gives_parity (s 127) (pos 1) (u 1) (s 127) (pos 1) ∷
    gives_parity (u 128) (pos 1) (u 1) (u 128) (pos 1) ∷
    gives_parity (s 128) (minus 1) (u 1) (s 128) (pos 0) ∷
    gives_parity (s 128) (pos 1) (u 1) (s 128) (pos 1) ∷
    gives_parity (u 0) (pos 0) (u 1) (u 1) (pos 0) ∷
    gives_parity (u 1) (pos 0) (u 1) (u 1) (pos 0) ∷
    gives_parity (s 1) (pos 0) (u 1) (s 2) (pos 0) ∷
    gives_parity (u 127) (pos 0) (u 1) (u 127) (pos 0) ∷
    gives_parity (s 127) (pos 0) (u 1) (s 127) (pos 0) ∷
    gives_parity (u 128) (pos 0) (u 1) (u 128) (pos 0) ∷
    gives_parity (s 128) (pos 0) (u 1) (s 128) (pos 0) ∷ []) ≡ true
unfolding gives_parity is_taken same_form
parity_corners = refl

shl_corners : all (
    gives Shl (u 128) (pos 340282366920938463463374607431768211455) (u 0) (pos 0) (u 128) (u 128) (pos 340282366920938463463374607431768211455) ∷
    gives Shl (u 127) (pos 170141183460469231731687303715884105727) (u 1) (pos 1) (u 128) (u 128) (pos 340282366920938463463374607431768211454) ∷
    gives Shl (s 127) (minus 85070591730234615865843651857942052864) (u 1) (pos 0) (s 128) (s 128) (minus 85070591730234615865843651857942052864) ∷
    gives Shl (s 128) (minus 170141183460469231731687303715884105728) (u 0) (pos 0) (s 128) (s 128) (minus 170141183460469231731687303715884105728) ∷
    gives Shl (s 128) (pos 170141183460469231731687303715884105727) (u 0) (pos 0) (s 128) (s 128) (pos 170141183460469231731687303715884105727) ∷
    gives Shl (s 127) (pos 85070591730234615865843651857942052863) (u 1) (pos 1) (s 128) (s 128) (pos 170141183460469231731687303715884105726) ∷
    gives Shl (u 1) (pos 1) (u 1) (pos 1) (u 2) (u 2) (pos 2) ∷
    gives Shl (s 1) (minus 1) (u 1) (pos 1) (s 2) (s 2) (minus 2) ∷
    gives Shl (u 127) (pos 1) (u 1) (pos 1) (u 128) (u 128) (pos 2) ∷
    gives Shl (s 127) (minus 1) (u 1) (pos 1) (s 128) (s 128) (minus 2) ∷
    gives Shl (s 127) (pos 1) (u 1) (pos 1) (s 128) (s 128) (pos 2) ∷
    gives Shl (u 0) (pos 0) (u 1) (pos 1) (u 1) (u 1) (pos 0) ∷
    gives Shl (u 1) (pos 0) (u 1) (pos 1) (u 2) (u 2) (pos 0) ∷
    gives Shl (s 1) (pos 0) (u 1) (pos 1) (s 2) (s 2) (pos 0) ∷
    gives Shl (u 127) (pos 0) (u 1) (pos 1) (u 128) (u 128) (pos 0) ∷
    gives Shl (s 127) (pos 0) (u 1) (pos 1) (s 128) (s 128) (pos 0) ∷
    gives Shl (u 128) (pos 1) (u 0) (pos 0) (u 128) (u 128) (pos 1) ∷
    gives Shl (s 128) (minus 1) (u 0) (pos 0) (s 128) (s 128) (minus 1) ∷
    gives Shl (s 128) (pos 1) (u 0) (pos 0) (s 128) (s 128) (pos 1) ∷
    gives Shl (u 128) (pos 0) (u 0) (pos 0) (u 128) (u 128) (pos 0) ∷
    gives Shl (s 128) (pos 0) (u 0) (pos 0) (s 128) (s 128) (pos 0) ∷ []) ≡ true
unfolding gives is_taken same_form
shl_corners = refl

shr_corners : all (
    gives Shr (u 128) (pos 340282366920938463463374607431768211455) (u 128) (pos 128) (u 128) (u 128) (pos 0) ∷
    gives Shr (s 128) (minus 170141183460469231731687303715884105728) (u 127) (pos 128) (s 128) (s 128) (minus 1) ∷
    gives Shr (u 127) (pos 170141183460469231731687303715884105727) (u 1) (pos 1) (u 127) (u 127) (pos 85070591730234615865843651857942052863) ∷
    gives Shr (s 128) (pos 170141183460469231731687303715884105727) (u 127) (pos 1) (s 128) (s 128) (pos 85070591730234615865843651857942052863) ∷
    gives Shr (s 127) (minus 85070591730234615865843651857942052864) (u 0) (pos 0) (s 127) (s 127) (minus 85070591730234615865843651857942052864) ∷
    gives Shr (s 127) (pos 85070591730234615865843651857942052863) (u 1) (pos 0) (s 127) (s 127) (pos 85070591730234615865843651857942052863) ∷
    gives Shr (u 1) (pos 1) (u 128) (pos 1) (u 1) (u 128) (pos 0) ∷
    gives Shr (s 1) (minus 1) (u 127) (pos 0) (s 1) (s 128) (minus 1) ∷
    gives Shr (u 127) (pos 1) (u 128) (pos 0) (u 127) (u 128) (pos 1) ∷
    gives Shr (u 128) (pos 1) (u 128) (pos 128) (u 128) (u 128) (pos 0) ∷
    gives Shr (u 0) (pos 0) (u 128) (pos 128) (u 0) (u 128) (pos 0) ∷
    gives Shr (u 1) (pos 0) (u 128) (pos 128) (u 1) (u 128) (pos 0) ∷
    gives Shr (u 127) (pos 0) (u 128) (pos 128) (u 127) (u 128) (pos 0) ∷
    gives Shr (u 128) (pos 0) (u 128) (pos 128) (u 128) (u 128) (pos 0) ∷
    gives Shr (s 127) (minus 1) (u 127) (pos 128) (s 127) (s 128) (minus 1) ∷
    gives Shr (s 127) (pos 1) (u 127) (pos 128) (s 127) (s 128) (pos 0) ∷
    gives Shr (s 128) (minus 1) (u 127) (pos 128) (s 128) (s 128) (minus 1) ∷
    gives Shr (s 128) (pos 1) (u 127) (pos 128) (s 128) (s 128) (pos 0) ∷
    gives Shr (s 1) (pos 0) (u 127) (pos 128) (s 1) (s 128) (pos 0) ∷
    gives Shr (s 127) (pos 0) (u 127) (pos 128) (s 127) (s 128) (pos 0) ∷
    gives Shr (s 128) (pos 0) (u 127) (pos 128) (s 128) (s 128) (pos 0) ∷ []) ≡ true
unfolding gives is_taken same_form
shr_corners = refl

nothing_left : (m n : ℕ) → m < 2 ^ 128 → 128 ≤ n → m / 2 ^ n ≡ m / 2 ^ 128
nothing_left m n below far =
    let more : 2 ^ 128 ≤ 2 ^ n = pow-le-pow_right {n = 2} (omega arith) far in
    div-eq_of_lt (omega (arith, below, more)) ∙ sym (div-eq_of_lt below)

-- an amount from 128 on is as one of 128, as which it stands above
pub far_amounts : (a b : Form) (x : ℤ) (n : ℕ) → IsKept x → 128 ≤ n → integer_of Shr a x b (pos n) ≡ integer_of Shr a x b (pos 128)
far_amounts a b (pos m) n kept far = let e : m / 2 ^ n ≡ m / 2 ^ 128 = nothing_left m n kept far in cc
far_amounts a b (negsuc m) n kept far = let e : m / 2 ^ n ≡ m / 2 ^ 128 = nothing_left m n (omega (arith, kept)) far in cc

stops : all (
    is_too_wide Add (u 0) (u 128) ∷
    is_too_wide Add (u 0) (s 128) ∷
    is_too_wide Add (s 1) (u 127) ∷
    is_too_wide Add (s 1) (s 128) ∷
    is_too_wide Add (u 127) (s 1) ∷
    is_too_wide Add (u 128) (u 0) ∷
    is_too_wide Add (s 128) (u 0) ∷
    is_too_wide Add (s 128) (s 1) ∷
    is_too_wide Sub (u 0) (u 128) ∷
    is_too_wide Sub (u 0) (s 128) ∷
    is_too_wide Sub (s 1) (u 127) ∷
    is_too_wide Sub (s 1) (s 128) ∷
    is_too_wide Sub (u 127) (s 1) ∷
    is_too_wide Sub (u 128) (u 0) ∷
    is_too_wide Sub (s 128) (u 0) ∷
    is_too_wide Sub (s 128) (s 1) ∷
    is_too_wide Neg (u 128) (u 0) ∷
    is_too_wide Neg (s 128) (u 0) ∷
    is_too_wide Mul (u 1) (u 128) ∷
    is_too_wide Mul (u 1) (s 128) ∷
    is_too_wide Mul (s 1) (u 128) ∷
    is_too_wide Mul (s 1) (s 128) ∷
    is_too_wide Mul (u 127) (u 127) ∷
    is_too_wide Mul (u 127) (s 127) ∷
    is_too_wide Mul (s 127) (u 127) ∷
    is_too_wide Mul (s 127) (s 127) ∷
    is_too_wide Mul (u 128) (u 1) ∷
    is_too_wide Mul (u 128) (s 1) ∷
    is_too_wide Mul (s 128) (u 1) ∷
    is_too_wide Mul (s 128) (s 1) ∷
    is_too_wide Div (s 1) (u 128) ∷
    is_too_wide Div (u 128) (s 1) ∷
    is_too_wide Div (s 128) (s 1) ∷
    is_too_wide Mod (s 1) (u 128) ∷
    is_too_wide Mod (u 128) (s 1) ∷
    is_too_wide Abs (s 128) (u 0) ∷
    is_too_wide And (s 1) (u 128) ∷
    is_too_wide And (u 128) (s 1) ∷
    is_too_wide Or (s 1) (u 128) ∷
    is_too_wide Or (u 128) (s 1) ∷
    is_too_wide Xor (s 1) (u 128) ∷
    is_too_wide Xor (u 128) (s 1) ∷
    is_too_wide Eq (s 1) (u 128) ∷
    is_too_wide Eq (u 128) (s 1) ∷
    is_too_wide Ne (s 1) (u 128) ∷
    is_too_wide Ne (u 128) (s 1) ∷
    is_too_wide Lt (s 1) (u 128) ∷
    is_too_wide Lt (u 128) (s 1) ∷
    is_too_wide Le (s 1) (u 128) ∷
    is_too_wide Le (u 128) (s 1) ∷
    is_too_wide Gt (s 1) (u 128) ∷
    is_too_wide Gt (u 128) (s 1) ∷
    is_too_wide Ge (s 1) (u 128) ∷
    is_too_wide Ge (u 128) (s 1) ∷
    is_bad Shl (u 0) (s 1) ∷
    is_too_wide Shl (u 0) (u 127) ∷
    is_bad Shl (s 1) (s 1) ∷
    is_too_wide Shl (s 1) (u 127) ∷
    is_too_wide Shl (u 128) (u 1) ∷
    is_too_wide Shl (s 128) (u 1) ∷
    is_bad Shr (u 0) (s 1) ∷
    is_bad Shr (s 1) (s 1) ∷
    is_too_wide Shr (s 1) (u 128) ∷ []) ≡ true
unfolding is_bad is_too_wide
stops = refl
