-- What is known of a pool's expressions in an environment.
use Rattle.std.specs.Prelude.{◌≡◌, ◌≢◌, ℕ, ◌*◌, ◌<◌, ◌≤◌, ⊤, List, [], map, take, drop, length, slice_index_or, ℤ, pos, unsigned_abs, Option, Some, None}
use Rattle.std.specs.List.{flat_map, AllByRecursion}
use Rattle.amh_bits.specs.Patterns.{IsOf}
use Rattle.design_ir.specs.declared.ids.ExprId.{ExprId}
use Rattle.design_ir.specs.declared.expr.Expr as expr
use Rattle.design_ir.specs.declared.expr.Expr.{Expr}
use Rattle.design_ir.specs.declared.expr.Expr.TheVariants.{Const, Unary, Binary, Mux, Slice, Cat, Part, Pick, Cast, Matches, Reset}
use Rattle.design_ir.specs.declared.signal.Sig.{Sig}
use Rattle.design_ir.specs.Named.{named, AllBelow}
use Rattle.design_ir.specs.Pools.{Pooled}
use Rattle.design_ir.specs.PoolRules.{IsPool, IsAskable, bad_operand, greatest_width, shape_stop}
use Rattle.design_ir.specs.Values.{form, num, picked, signal_form}
use Rattle.design_ir.specs.Targets.{Bit, bits_of, padded, target_bits}

-- what a function gives for the first so many numbers
pub record AreFirst {A : Type 0} (d : A) (f : ℕ → A) (n : ℕ) (xs : List A) : Type 0 where
  pub count : length xs ≡ n
  pub each : (k : ℕ) → k < n → slice_index_or xs k d ≡ f k

-- the integers of the first so many expressions
abbrev pub AreNumbers : Pooled → List ℤ → ℕ → List ℤ → Type 0
AreNumbers p env n nums = AreFirst (pos 0) (num p env) n nums

-- an expression whose integer can be computed: those that it names have theirs
pub record IsReady (p : Pooled) (env nums : List ℤ) (e : Expr) : Type 0 where
  pub names : AllBelow (length nums) (named e)
  pub askable : IsAskable p e
  pub accepted : shape_stop (bad_operand (form p) e) (greatest_width p.signals (form p) e) ≡ None
  pub pool : length nums ≤ length p.exprs
  pub signals : length env ≡ length p.signals
  pub fits : (k : ℕ) → k < length nums → IsOf (form p k).signed (form p k).width (slice_index_or nums k (pos 0))

-- the places of the first so many expressions, as far as they are targets
abbrev pub ArePlaces : Pooled → List ℤ → ℕ → List (List (Option Bit)) → Type 0
ArePlaces p env n places = AreFirst [] (target_bits p env) n places

-- a choice is among something
abbrev pub IsPickSome : Expr → Type 0
IsPickSome (Pick index es) = es ≢ []
IsPickSome e = ⊤

-- the places of an expression with so many bits, by those of the expressions that it names
abbrev pub aimed_step : ℕ → (ℕ → ℤ) → (ℕ → List (Option Bit)) → Expr → List (Option Bit)
aimed_step width num places (expr.TheVariants.Sig s) = map (λ b. Some b) (bits_of s.0 width)
aimed_step width num places (Slice a low n) = take width (drop low (places a.0))
aimed_step width num places (Cat es) = flat_map (λ (e : ExprId). places e.0) es
aimed_step width num places (Part a offset n stride) = padded width (drop (unsigned_abs (num offset.0) * stride) (places a.0))
aimed_step width num places (Pick index es) = padded width (picked [] (map (λ (e : ExprId). places e.0) es) (unsigned_abs (num index.0)))
aimed_step width num places (Cast a signed) = places a.0
aimed_step width num places (Const n s) = []
aimed_step width num places (Unary op a) = []
aimed_step width num places (Binary op a b) = []
aimed_step width num places (Mux s a b) = []
aimed_step width num places (Matches a patterns) = []
aimed_step width num places (Reset domain place) = []

-- a place is a bit of a signal, or none
abbrev pub IsInside : List Sig → Option Bit → Type 0
IsInside sigs None = ⊤
IsInside sigs (Some b) = (b.sig < length sigs) × (b.index < (signal_form sigs b.sig).width)

-- what is read in an environment: the integers of all expressions, and the places of all targets
pub record IsRead (p : Pooled) (env nums : List ℤ) (places : List (List (Option Bit))) : Type 0 where
  pub rules : IsPool p
  pub numbers : AreNumbers p env (length p.exprs) nums
  pub aims : ArePlaces p env (length p.exprs) places

-- expressions with lower numbers
abbrev pub AreBelow : ℕ → List ExprId → Type 0
AreBelow n es = AllByRecursion (λ (e : ExprId). e.0 < n) es

-- expressions of a pool
abbrev pub AreThere : Pooled → List ExprId → Type 0
AreThere p es = AreBelow (length p.exprs) es
