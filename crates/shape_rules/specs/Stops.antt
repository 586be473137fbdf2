-- Which shapes an operator takes, and why it stops at others.
-- Source: Amaranth language guide 0.5, Bitwise operators (a shift amount is unsigned); at most 128 bits: own rule (docs/RULES.md).
use Rattle.std.specs.Prelude.{◌≡◌, ℕ, ◌<◌, ◌≤◌, max, Bool, true, false, ◌&&◌, Result, MatchResult}
use Rattle.shape_rules.specs.Forms.{Form}
use Rattle.shape_rules.specs.Operators.{form_of, work_form}
use Rattle.shape_rules.specs.declared.op.Op.{Op}
use Rattle.shape_rules.specs.declared.op.Op.TheVariants.{Shl, Shr}
use Rattle.shape_rules.specs.declared.shape.ShapeStop.{ShapeStop}
use Rattle.shape_rules.specs.declared.shape.ShapeStop.TheVariants.{Width, BadOperand}

abbrev pub is_shift : Op → Bool
is_shift Shl = true
is_shift Shr = true
is_shift _ = false

-- a shift by an amount that may be negative
abbrev pub is_bad_operand : Op → Form → Bool
is_bad_operand op b = is_shift op && b.signed

-- the greater width of the two shapes
abbrev pub widest : Op → Form → Form → ℕ
widest op a b = max (form_of op a b).width (work_form op a b).width

-- the operator takes operands of these shapes
pub record IsTaken (op : Op) (a b : Form) : Type 0 where
  pub operand : is_bad_operand op b ≡ false
  pub result : (form_of op a b).width ≤ 128
  pub work : (work_form op a b).width ≤ 128

-- the one reason why it does not
abbrev pub IsStop : Op → Form → Form → ShapeStop → Type 0
IsStop op a b BadOperand = is_bad_operand op b ≡ true
IsStop op a b Width = (is_bad_operand op b ≡ false) × (128 < widest op a b)

-- the shape where it has at most 128 bits, and else `Width`
abbrev pub IsNarrowed : Result Form ShapeStop → Form → Type 0
IsNarrowed r f = MatchResult r (λ s. (f.width ≤ 128) × (s ≡ f)) (λ e. (128 < f.width) × (e ≡ Width))
