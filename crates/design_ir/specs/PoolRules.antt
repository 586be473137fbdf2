-- What a pool keeps to, and what it refuses.
use Rattle.std.specs.Prelude.{◌≡◌, ◌≢◌, ℕ, ◌+◌, ◌≤◌, ◌<◌, nat_lt, nat_le, ◌||◌, Bool, false, IsTrue, ⊤, bit_and, if◌then◌else◌, List, [], ◌∷◌, ◌++◌, ◌^◌, length, slice_index_or, Option, Some, None, Result, MatchResult}
use Rattle.std.specs.List.{AllByRecursion}
use Rattle.amh_bits.specs.Patterns.{IsOf}
use Rattle.shape_rules.specs.Forms.{Form, IsForm, unsigned}
use Rattle.shape_rules.specs.Rows.{operand_count}
use Rattle.shape_rules.specs.Stops.{is_bad_operand, widest}
use Rattle.design_ir.specs.declared.signal.Sig.{Sig}
use Rattle.design_ir.specs.declared.expr.Expr as expr
use Rattle.design_ir.specs.declared.expr.Expr.{Expr}
use Rattle.design_ir.specs.declared.expr.Expr.TheVariants.{Const, Unary, Binary, Mux, Slice, Cat, Part, Pick, Cast, Matches, Reset}
use Rattle.design_ir.specs.declared.expr.Pattern.{Pattern}
use Rattle.design_ir.specs.declared.refusal.PoolStop.{PoolStop}
use Rattle.design_ir.specs.declared.refusal.PoolStop.TheVariants.{Width, BadOperand, Limit, NoMemory}
use Rattle.design_ir.specs.Pools.{Pooled, answers}
use Rattle.design_ir.specs.Named.{named, AllBelow}
use Rattle.design_ir.specs.Values.{form, form_step}

-- ---- refusals

-- a refusal is the one that is owed; want of memory may come at any time
abbrev pub IsRefusal : Option PoolStop → PoolStop → Type 0
IsRefusal owed Width = owed ≡ Some Width
IsRefusal owed BadOperand = owed ≡ Some BadOperand
IsRefusal owed Limit = owed ≡ Some Limit
IsRefusal owed NoMemory = ⊤

abbrev pub limit_where : Bool → Option PoolStop
limit_where passed = if passed then Some Limit else None

-- ---- signals

-- the bits of all signals
abbrev pub signal_bits : List Sig → ℕ
signal_bits [] = 0
signal_bits (x ∷ xs) = x.shape.width + signal_bits xs

abbrev pub signal_added : Pooled → Sig → Pooled
signal_added p x = record p { signals = p.signals ++ x ∷ [] }

-- one signal more would be too many, or its bits would
abbrev pub signal_refusal : Pooled → ℕ → Option PoolStop
signal_refusal p width = limit_where (nat_le 16384 (length p.signals) || nat_lt 262144 (signal_bits p.signals + width))

-- the signal's init is of its shape
abbrev pub HasInit : Sig → Type 0
HasInit x = IsOf x.shape.signed x.shape.width x.init

-- ---- expressions

-- the parts of an expression are in range; the expressions that it names are of the pool
abbrev pub IsInRange : List Sig → (ℕ → Form) → Expr → Type 0
IsInRange sigs form (Const n s) = IsOf s.signed s.width n
IsInRange sigs form (expr.TheVariants.Sig s) = s.0 < length sigs
IsInRange sigs form (Unary op a) = operand_count op ≡ 1
IsInRange sigs form (Binary op a b) = operand_count op ≡ 2
IsInRange sigs form (Mux s a b) = ⊤
IsInRange sigs form (Slice a low width) = low + width ≤ (form a.0).width
IsInRange sigs form (Cat es) = ⊤
IsInRange sigs form (Part a offset width stride) = ⊤
IsInRange sigs form (Pick index es) = es ≢ []
IsInRange sigs form (Cast a signed) = IsTrue signed → 1 ≤ (form a.0).width
IsInRange sigs form (Matches a patterns) = AllByRecursion (λ (p : Pattern). bit_and p.bits p.mask ≡ p.bits) patterns
IsInRange sigs form (Reset domain place) = ⊤

-- what may be asked for: the expressions that it names are of the pool, and its parts are in range
pub record IsAskable (p : Pooled) (e : Expr) : Type 0 where
  pub names : AllBelow (length p.exprs) (named e)
  pub parts : IsInRange p.signals (form p) e

-- a shift amount, an offset or an index is signed
abbrev pub bad_operand : (ℕ → Form) → Expr → Bool
bad_operand form (Binary op a b) = is_bad_operand op (form b.0)
bad_operand form (Part a offset width stride) = (form offset.0).signed
bad_operand form (Pick index es) = (form index.0).signed
bad_operand form e = false

-- the greatest width of an expression's shape and of the shape at which its operator is worked
abbrev pub greatest_width : List Sig → (ℕ → Form) → Expr → ℕ
greatest_width sigs form (Unary op a) = widest op (form a.0) (unsigned 0)
greatest_width sigs form (Binary op a b) = widest op (form a.0) (form b.0)
greatest_width sigs form e = (form_step sigs form e).width

-- an operand is looked at before the width
abbrev pub shape_stop : Bool → ℕ → Option PoolStop
shape_stop bad width = if bad then Some BadOperand else (if nat_lt 128 width then Some Width else None)

-- the shape where nothing stops it
abbrev pub IsShaped : Result Form PoolStop → Bool → ℕ → Form → Type 0
IsShaped r bad width f = MatchResult r (λ s. (shape_stop bad width ≡ None) × (s ≡ f)) (λ stop. shape_stop bad width ≡ Some stop)

-- of several refusals the first of these is told: an operand, a width, a count
abbrev pub first_stop : Option PoolStop → Option PoolStop → Option PoolStop
first_stop None b = b
first_stop (Some a) b = Some a

abbrev pub expr_refusal : Pooled → Expr → Option PoolStop
expr_refusal p e =
    first_stop (shape_stop (bad_operand (form p) e) (greatest_width p.signals (form p) e)) (limit_where (nat_le 262144 (length p.exprs)))

abbrev pub expr_added : Pooled → Expr → Pooled
expr_added p e = record p { exprs = p.exprs ++ e ∷ [] }

-- a constant has a shape
abbrev pub IsFormed : Expr → Type 0
IsFormed (Const n s) = IsForm s.width s.signed
IsFormed e = ⊤

-- an expression that a pool may have after those whose shapes are known
pub record IsExpr (sigs : List Sig) (known : List Form) (e : Expr) : Type 0 where
  pub names : AllBelow (length known) (named e)
  pub formed : IsFormed e
  pub parts : IsInRange sigs (λ k. slice_index_or known k (unsigned 0)) e
  pub accepted : shape_stop (bad_operand (λ k. slice_index_or known k (unsigned 0)) e) (greatest_width sigs (λ k. slice_index_or known k (unsigned 0)) e) ≡ None

-- expressions after those that have these shapes
abbrev pub AreExprs : List Sig → List Form → List Expr → Type 0
AreExprs sigs known [] = ⊤
AreExprs sigs known (e ∷ es) =
    IsExpr sigs known e × AreExprs sigs (known ++ form_step sigs (λ k. slice_index_or known k (unsigned 0)) e ∷ []) es

-- ---- pools

-- how many expressions a pool has room for: a file may ask for fewer, and passes over a design may add to them
abbrev pub most_exprs : ℕ
most_exprs = 2 ^ 30

pub record IsPool (p : Pooled) : Type 0 where
  pub few_signals : length p.signals ≤ 16384
  pub few_bits : signal_bits p.signals ≤ 262144
  pub few_exprs : length p.exprs ≤ most_exprs
  pub shapes : AllByRecursion (λ (x : Sig). IsForm x.shape.width x.shape.signed) p.signals
  pub inits : AllByRecursion HasInit p.signals
  pub exprs : AreExprs p.signals [] p.exprs

-- what is kept beside the lists of a pool: the shapes of all expressions, and the bits of all signals
pub record IsCached (p : Pooled) (shapes : List Form) (bits : ℕ) : Type 0 where
  pub rules : IsPool p
  pub shapes_are : shapes ≡ answers (unsigned 0) (form_step p.signals) [] p.exprs
  pub bits_are : bits ≡ signal_bits p.signals
