-- The shape at which an operator is worked holds its operands and, but for a comparison, its result.
use Rattle.std.proofs.Common.{◌≡◌, ℕ, ◌+◌, ℤ, Bool, true, false, ◌||◌, arith}
use Rattle.amh_bits.specs.Patterns.{IsOf}
use Rattle.amh_bits.proofs.InShape.{of_wider, of_signed}
use Rattle.shape_rules.specs.Forms.{Form, Holds, IsForm, common}
use Rattle.shape_rules.specs.Operators.{form_of, work_form}
use Rattle.shape_rules.specs.Rows.{operand_count}
use Rattle.shape_rules.specs.declared.op.Op.{Op}
use Rattle.shape_rules.specs.declared.op.Op.TheVariants.{Add, Sub, Neg, Mul, Div, Mod, Abs, Not, And, Or, Xor, Eq, Ne, Lt, Le, Gt, Ge, Any, All, Parity, Shl, Shr}
use Rattle.shape_rules.proofs.CommonShape.{common_holds_left, common_holds_right}

holds_first : (a b c : Form) → Holds (common (common a b) c) a
holds_first a b c z f = common_holds_left (common a b) c z (common_holds_left a b z f)

holds_second : (a b c : Form) → Holds (common (common a b) c) b
holds_second a b c z f = common_holds_left (common a b) c z (common_holds_right a b z f)

product_left : (s t : Bool) (w v : ℕ) (z : ℤ) → IsForm v t → IsOf s w z → IsOf (s || t) (w + v) z
product_left false false w v z q f = of_wider false w (w + v) z (omega arith) f
product_left true t w v z q f = of_wider true w (w + v) z (omega arith) f
product_left false true w v z q f = of_signed w (w + v) z (omega (arith, q.0)) f

product_right : (s t : Bool) (w v : ℕ) (z : ℤ) → IsForm w s → IsOf t v z → IsOf (s || t) (w + v) z
product_right false false w v z p f = of_wider false v (w + v) z (omega arith) f
product_right false true w v z p f = of_wider true v (w + v) z (omega arith) f
product_right true true w v z p f = of_wider true v (w + v) z (omega arith) f
product_right true false w v z p f = of_signed v (w + v) z (omega (arith, p.0)) f

pub work_holds_left : (op : Op) (a b : Form) → IsForm b.width b.signed → Holds (work_form op a b) a
work_holds_left Add a b q = holds_first a b (form_of Add a b)
work_holds_left Sub a b q = holds_first a b (form_of Sub a b)
work_holds_left Neg a b q = common_holds_left a (form_of Neg a b)
work_holds_left Mul a b q = λ z f. product_left a.signed b.signed a.width b.width z q f
work_holds_left Div a b q = holds_first a b (form_of Div a b)
work_holds_left Mod a b q = holds_first a b (form_of Mod a b)
work_holds_left Abs a b q = common_holds_left a (form_of Abs a b)
work_holds_left Not a b q = common_holds_left a (form_of Not a b)
work_holds_left And a b q = holds_first a b (form_of And a b)
work_holds_left Or a b q = holds_first a b (form_of Or a b)
work_holds_left Xor a b q = holds_first a b (form_of Xor a b)
work_holds_left Eq a b q = common_holds_left a b
work_holds_left Ne a b q = common_holds_left a b
work_holds_left Lt a b q = common_holds_left a b
work_holds_left Le a b q = common_holds_left a b
work_holds_left Gt a b q = common_holds_left a b
work_holds_left Ge a b q = common_holds_left a b
work_holds_left Any a b q = common_holds_left a (form_of Any a b)
work_holds_left All a b q = common_holds_left a (form_of All a b)
work_holds_left Parity a b q = common_holds_left a (form_of Parity a b)
work_holds_left Shl a b q = holds_first a b (form_of Shl a b)
work_holds_left Shr a b q = holds_first a b (form_of Shr a b)

pub work_holds_right : (op : Op) (a b : Form) → operand_count op ≡ 2 → IsForm a.width a.signed → Holds (work_form op a b) b
work_holds_right Add a b two p = holds_second a b (form_of Add a b)
work_holds_right Sub a b two p = holds_second a b (form_of Sub a b)
work_holds_right Neg a b two p = absurd (omega arith)
work_holds_right Mul a b two p = λ z f. product_right a.signed b.signed a.width b.width z p f
work_holds_right Div a b two p = holds_second a b (form_of Div a b)
work_holds_right Mod a b two p = holds_second a b (form_of Mod a b)
work_holds_right Abs a b two p = absurd (omega arith)
work_holds_right Not a b two p = absurd (omega arith)
work_holds_right And a b two p = holds_second a b (form_of And a b)
work_holds_right Or a b two p = holds_second a b (form_of Or a b)
work_holds_right Xor a b two p = holds_second a b (form_of Xor a b)
work_holds_right Eq a b two p = common_holds_right a b
work_holds_right Ne a b two p = common_holds_right a b
work_holds_right Lt a b two p = common_holds_right a b
work_holds_right Le a b two p = common_holds_right a b
work_holds_right Gt a b two p = common_holds_right a b
work_holds_right Ge a b two p = common_holds_right a b
work_holds_right Any a b two p = absurd (omega arith)
work_holds_right All a b two p = absurd (omega arith)
work_holds_right Parity a b two p = absurd (omega arith)
work_holds_right Shl a b two p = holds_second a b (form_of Shl a b)
work_holds_right Shr a b two p = holds_second a b (form_of Shr a b)

-- the six comparisons
abbrev pub is_comparison : Op → Bool
is_comparison Eq = true
is_comparison Ne = true
is_comparison Lt = true
is_comparison Le = true
is_comparison Gt = true
is_comparison Ge = true
is_comparison _ = false

pub work_holds_result : (op : Op) (a b : Form) → is_comparison op ≡ false → Holds (work_form op a b) (form_of op a b)
work_holds_result Add a b other = common_holds_right (common a b) (form_of Add a b)
work_holds_result Sub a b other = common_holds_right (common a b) (form_of Sub a b)
work_holds_result Neg a b other = common_holds_right a (form_of Neg a b)
work_holds_result Mul a b other = λ z f. f
work_holds_result Div a b other = common_holds_right (common a b) (form_of Div a b)
work_holds_result Mod a b other = common_holds_right (common a b) (form_of Mod a b)
work_holds_result Abs a b other = common_holds_right a (form_of Abs a b)
work_holds_result Not a b other = common_holds_right a (form_of Not a b)
work_holds_result And a b other = common_holds_right (common a b) (form_of And a b)
work_holds_result Or a b other = common_holds_right (common a b) (form_of Or a b)
work_holds_result Xor a b other = common_holds_right (common a b) (form_of Xor a b)
work_holds_result Eq a b other = cc
work_holds_result Ne a b other = cc
work_holds_result Lt a b other = cc
work_holds_result Le a b other = cc
work_holds_result Gt a b other = cc
work_holds_result Ge a b other = cc
work_holds_result Any a b other = common_holds_right a (form_of Any a b)
work_holds_result All a b other = common_holds_right a (form_of All a b)
work_holds_result Parity a b other = common_holds_right a (form_of Parity a b)
work_holds_result Shl a b other = common_holds_right (common a b) (form_of Shl a b)
work_holds_result Shr a b other = common_holds_right (common a b) (form_of Shr a b)
