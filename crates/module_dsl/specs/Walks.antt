-- How it is found whether an expression is a target: by marks, from it down to its parts.
use Rattle.std.specs.Prelude.{◌≡◌, ℕ, suc, ◌+◌, ◌⊎◌, Bool, true, false, List, [], ◌∷◌, map, length, slice_get, slice_index_or, Some, Contains}
use Rattle.design_ir.specs.declared.ids.ExprId.{ExprId}
use Rattle.design_ir.specs.declared.expr.Expr as expr
use Rattle.design_ir.specs.declared.expr.Expr.{Expr}
use Rattle.design_ir.specs.declared.expr.Expr.TheVariants.{Const, Unary, Binary, Mux, Slice, Cat, Part, Pick, Cast, Matches, Reset}
use Rattle.design_ir.specs.Pools.{Pooled}
use Rattle.design_ir.specs.Targets.{is_open_target}

-- an expression that is a target where its parts are
abbrev pub may_be_target : Expr → Bool
may_be_target (expr.TheVariants.Sig s) = true
may_be_target (Slice a low width) = true
may_be_target (Cat es) = true
may_be_target (Part a offset width stride) = true
may_be_target (Pick index es) = true
may_be_target (Cast a signed) = true
may_be_target (Const n s) = false
may_be_target (Unary op a) = false
may_be_target (Binary op a b) = false
may_be_target (Mux s a b) = false
may_be_target (Matches a patterns) = false
may_be_target (Reset domain place) = true

-- the expressions that are to be targets where it is one
abbrev pub parts_of : Expr → List ExprId
parts_of (expr.TheVariants.Sig s) = []
parts_of (Slice a low width) = a ∷ []
parts_of (Cat es) = es
parts_of (Part a offset width stride) = a ∷ []
parts_of (Pick index es) = es
parts_of (Cast a signed) = a ∷ []
parts_of (Const n s) = []
parts_of (Unary op a) = []
parts_of (Binary op a b) = []
parts_of (Mux s a b) = []
parts_of (Matches a patterns) = []
parts_of (Reset domain place) = []

-- ---- marks: what was reached

abbrev pub is_marked : List Bool → ℕ → Bool
is_marked marks n = slice_index_or marks n false

abbrev pub numbers : List ExprId → List ℕ
numbers es = map (λ (e : ExprId). e.0) es

-- how many are not marked
abbrev pub unmarked : List Bool → ℕ
unmarked [] = 0
unmarked (true ∷ marks) = unmarked marks
unmarked (false ∷ marks) = suc (unmarked marks)

-- these numbers are marked now, beside those that were, and what was not marked before waits
pub record IsReached (xs : List ℕ) (old : List Bool) (waited : List ExprId) (new : List Bool) (waiting : List ExprId) : Type 0 where
  pub size : length new ≡ length old
  pub kept : (n : ℕ) → is_marked old n ≡ true → is_marked new n ≡ true
  pub added : (n : ℕ) → Contains xs n → is_marked new n ≡ true
  pub only : (n : ℕ) → is_marked new n ≡ true → (is_marked old n ≡ true) ⊎ (Contains xs n × Contains (numbers waiting) n)
  pub stays : (n : ℕ) → Contains (numbers waited) n → Contains (numbers waiting) n
  pub waits : (n : ℕ) → Contains (numbers waiting) n → is_marked new n ≡ true ⊎ Contains (numbers waited) n
  pub work : unmarked new + length waiting ≡ unmarked old + length waited

-- ---- the walk

-- an expression that was looked at: its parts are marked
pub record IsSeen (pool : Pooled) (marks : List Bool) (n : ℕ) : Type 0 where
  pub at : Expr
  pub is : slice_get pool.exprs n ≡ Some at
  pub may : may_be_target at ≡ true
  pub parts : (k : ℕ) → Contains (numbers (parts_of at)) k → is_marked marks k ≡ true

-- what was reached from the root: it waits or was looked at, and is a target where the root is
pub record IsWalking (pool : Pooled) (root : ℕ) (marks : List Bool) (waiting : List ExprId) : Type 0 where
  pub size : length marks ≡ suc root
  pub reached : is_marked marks root ≡ true
  pub waits : (n : ℕ) → Contains (numbers waiting) n → is_marked marks n ≡ true
  pub seen : (n : ℕ) → is_marked marks n ≡ true → Contains (numbers waiting) n ⊎ IsSeen pool marks n
  pub below : is_open_target pool root ≡ true → (n : ℕ) → is_marked marks n ≡ true → is_open_target pool n ≡ true
