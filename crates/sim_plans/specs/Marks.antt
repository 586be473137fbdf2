-- Expressions that are marked: those that are read, and targets.
use Rattle.std.specs.Prelude.{◌≡◌, ℕ, Bool, true, false, List, [], ◌∷◌, slice_get, slice_index_or, Some}
use Rattle.std.specs.List.{AllByRecursion}
use Rattle.design_ir.specs.declared.ids.ExprId.{ExprId}
use Rattle.design_ir.specs.declared.expr.Expr as expr
use Rattle.design_ir.specs.declared.expr.Expr.{Expr}
use Rattle.design_ir.specs.declared.expr.Expr.TheVariants.{Const, Unary, Binary, Mux, Slice, Cat, Part, Pick, Cast, Matches, Reset}
use Rattle.design_ir.specs.Named.{named}
use Rattle.design_ir.specs.Pools.{Pooled}
use Rattle.sim_plans.specs.Reads.{stands_in, places}

-- the targets of which a target is a part, a join or a reading
abbrev pub aimed_names : Expr → List ExprId
aimed_names (Slice a low width) = a ∷ []
aimed_names (Cat es) = es
aimed_names (Part a offset width stride) = a ∷ []
aimed_names (Pick index es) = es
aimed_names (Cast a signed) = a ∷ []
aimed_names (Const n f) = []
aimed_names (expr.TheVariants.Sig x) = []
aimed_names (Unary op a) = []
aimed_names (Binary op a b) = []
aimed_names (Mux i a b) = []
aimed_names (Matches a patterns) = []
aimed_names (Reset domain place) = []

-- the offset or the index of a target
abbrev pub placing_names : Expr → List ExprId
placing_names (Part a offset width stride) = offset ∷ []
placing_names (Pick index es) = index ∷ []
placing_names (Slice a low width) = []
placing_names (Cat es) = []
placing_names (Cast a signed) = []
placing_names (Const n f) = []
placing_names (expr.TheVariants.Sig x) = []
placing_names (Unary op a) = []
placing_names (Binary op a b) = []
placing_names (Mux i a b) = []
placing_names (Matches a patterns) = []
placing_names (Reset domain place) = []

abbrev pub is_marked : List Bool → ℕ → Bool
is_marked marks k = slice_index_or marks k false

abbrev pub AreMarked : List Bool → List ExprId → Type 0
AreMarked marks es = AllByRecursion (λ (e : ExprId). is_marked marks e.0 ≡ true) es

-- what a marked target is made of is marked: the targets in it, and what places it among what is read
pub record AimsSpread (p : Pooled) (aims values : List Bool) : Type 0 where
  pub named : (j : ℕ) (x : Expr) → slice_get p.exprs j ≡ Some x → is_marked aims j ≡ true → AreMarked aims (aimed_names x)
  pub placed : (j : ℕ) (x : Expr) → slice_get p.exprs j ≡ Some x → is_marked aims j ≡ true → AreMarked values (placing_names x)

-- what a marked expression names is marked
abbrev pub ValuesSpread : Pooled → List Bool → Type 0
ValuesSpread p values = (j : ℕ) (x : Expr) → slice_get p.exprs j ≡ Some x → is_marked values j ≡ true → AreMarked values (named x)

-- both
pub record AreSpread (p : Pooled) (aims values : List Bool) : Type 0 where
  pub of_values : ValuesSpread p values
  pub of_aims : AimsSpread p aims values

-- what is marked stands for no signal but these
abbrev pub StandsOnly : Pooled → List Bool → (ℕ → Bool) → Type 0
StandsOnly p values r = (j s : ℕ) → is_marked values j ≡ true → stands_in p s j ≡ true → r s ≡ true

-- and no marked target is placed by one
abbrev pub ReadOnly : Pooled → List Bool → List Bool → (ℕ → Bool) → Type 0
ReadOnly p aims values r =
    StandsOnly p values r × ((j s : ℕ) → is_marked aims j ≡ true → places p s j ≡ true → r s ≡ true)

-- marked expressions stay marked
abbrev pub Stays : List Bool → List Bool → Type 0
Stays was is = (k : ℕ) → is_marked was k ≡ true → is_marked is k ≡ true
