-- The shape and the integer of each expression.
use Rattle.std.specs.Prelude.{ℕ, ◌+◌, ◌-◌, ◌*◌, ◌^◌, ◌==◌, Bool, min, if◌then◌else◌, bit_and, List, [], ◌∷◌, map, length, slice_index_or, ℤ, pos, unsigned_abs, option_map, unwrap_or, slice_get}
use Rattle.std.specs.List.{list_any}
use Rattle.amh_bits.specs.Integers.{floor_quotient}
use Rattle.amh_bits.specs.Patterns.{pattern, wrap}
use Rattle.shape_rules.specs.Forms.{Form, unsigned, common}
use Rattle.shape_rules.specs.Operators.{form_of, integer_of, is_zero, truth}
use Rattle.design_ir.specs.declared.ids.ExprId.{ExprId}
use Rattle.design_ir.specs.declared.signal.Sig.{Sig}
use Rattle.design_ir.specs.declared.expr.Pattern.{Pattern}
use Rattle.design_ir.specs.declared.expr.Expr as expr
use Rattle.design_ir.specs.declared.expr.Expr.{Expr}
use Rattle.design_ir.specs.declared.expr.Expr.TheVariants.{Const, Unary, Binary, Mux, Slice, Cat, Part, Pick, Cast, Matches, Reset}
use Rattle.design_ir.specs.Pools.{Pooled, answer}

-- ---- shapes

-- the shape of a signal
abbrev pub signal_form : List Sig → ℕ → Form
signal_form sigs s = unwrap_or (option_map (λ x. x.shape) (slice_get sigs s)) (unsigned 0)

abbrev pub total_width : (ℕ → Form) → List ExprId → ℕ
total_width form [] = 0
total_width form (e ∷ es) = (form e.0).width + total_width form es

-- the shape of all of these and of one more
abbrev pub common_with : (ℕ → Form) → Form → List ExprId → Form
common_with form f [] = f
common_with form f (e ∷ es) = common_with form (common f (form e.0)) es

-- the shape of all of these
abbrev pub common_of_all : (ℕ → Form) → List ExprId → Form
common_of_all form [] = unsigned 0
common_of_all form (e ∷ es) = common_with form (form e.0) es

-- the shape of an expression, from those of the expressions that it names
abbrev pub form_step : List Sig → (ℕ → Form) → Expr → Form
form_step sigs form (Const n s) = s
form_step sigs form (expr.TheVariants.Sig s) = signal_form sigs s.0
form_step sigs form (Unary op a) = form_of op (form a.0) (unsigned 0)
form_step sigs form (Binary op a b) = form_of op (form a.0) (form b.0)
form_step sigs form (Mux s a b) = common (form a.0) (form b.0)
form_step sigs form (Slice a low width) = unsigned width
form_step sigs form (Cat es) = unsigned (total_width form es)
form_step sigs form (Part a offset width stride) = unsigned width
form_step sigs form (Pick index es) = common_of_all form es
form_step sigs form (Cast a signed) = record { width = (form a.0).width; signed = signed }
form_step sigs form (Matches a patterns) = unsigned 1
form_step sigs form (Reset domain place) = unsigned 1

-- the shape of expression k
unfoldable pub form : Pooled → ℕ → Form
form pool k = answer (unsigned 0) (form_step pool.signals) pool.exprs k

-- ---- integers

-- the bits from `low` on, so many of them, as a number
abbrev pub bits_from : ℕ → ℕ → ℤ → ℕ
bits_from low width n = pattern width (floor_quotient n (2 ^ low))

-- the patterns of expressions one above the other, the first the lowest
abbrev pub joined : (ℕ → Form) → (ℕ → ℤ) → List ExprId → ℕ
joined form num [] = 0
joined form num (e ∷ es) = pattern (form e.0).width (num e.0) + 2 ^ (form e.0).width * joined form num es

abbrev pub matches : Pattern → ℕ → Bool
matches p bits = bit_and p.mask bits == p.bits

-- which of the items an index picks: past the end, the last
abbrev pub picked : {A : Type 0} → A → List A → ℕ → A
picked d items index = slice_index_or items (min index (length items - 1)) d

-- the integer of an expression where the signals have these numbers
abbrev pub value_step : (ℕ → Form) → List ℤ → (ℕ → ℤ) → Expr → ℤ
value_step form env num (Const n s) = n
value_step form env num (expr.TheVariants.Sig s) = slice_index_or env s.0 (pos 0)
value_step form env num (Unary op a) = integer_of op (form a.0) (num a.0) (unsigned 0) (pos 0)
value_step form env num (Binary op a b) = integer_of op (form a.0) (num a.0) (form b.0) (num b.0)
value_step form env num (Mux s a b) = if is_zero (num s.0) then num b.0 else num a.0
value_step form env num (Slice a low width) = pos (bits_from low width (num a.0))
value_step form env num (Cat es) = pos (joined form num es)
value_step form env num (Part a offset width stride) = pos (bits_from (unsigned_abs (num offset.0) * stride) width (num a.0))
value_step form env num (Pick index es) = picked (pos 0) (map (λ (e : ExprId). num e.0) es) (unsigned_abs (num index.0))
value_step form env num (Cast a signed) = wrap signed (form a.0).width (num a.0)
value_step form env num (Matches a patterns) = truth (list_any (λ p. matches p (pattern (form a.0).width (num a.0))) patterns)
value_step form env num (Reset domain place) = pos 0

-- the integer of expression k
unfoldable pub num : Pooled → List ℤ → ℕ → ℤ
num pool env k = answer (pos 0) (value_step (form pool) env) pool.exprs k
