-- Marks: for each number below a bound, whether it is one of some numbers.
use Rattle.std.specs.Prelude.{◌≡◌, ℕ, zero, suc, ◌<◌, ◌&&◌, ◌||◌, Bool, true, false, List, [], ◌∷◌, map, length, slice_index_or, slice_set, All}
use Rattle.std.specs.List.{list_any}
use Rattle.design_ir.specs.declared.ids.ExprId.{ExprId}
use Rattle.design_ir.specs.declared.expr.Expr as expr
use Rattle.design_ir.specs.declared.expr.Expr.{Expr}
use Rattle.design_ir.specs.declared.expr.Expr.TheVariants.{Const, Unary, Binary, Mux, Slice, Cat, Part, Pick, Cast, Matches, Reset}
use Rattle.design_ir.specs.Circuits.{is_among}

abbrev pub is_marked : List Bool → ℕ → Bool
is_marked marks n = slice_index_or marks n false

-- these are marked too
abbrev pub marked : List ℕ → List Bool → List Bool
marked [] marks = marks
marked (n ∷ ns) marks = marked ns (slice_set marks n true)

abbrev pub numbers : List ExprId → List ℕ
numbers es = map (λ (e : ExprId). e.0) es

-- as many signals as a pool may have: exactly those that pass are marked
pub record Flag (flags : List Bool) (test : ℕ → Bool) : Type 0 where
  pub size : length flags ≡ 16384
  pub each : (s : ℕ) → s < 16384 → is_marked flags s ≡ test s

-- ---- what marks come to

abbrev pub any_below : (ℕ → Bool) → ℕ → Bool
any_below test zero = false
any_below test (suc k) = test k || any_below test k

-- a number is out, or a marked one below k leads to it
abbrev pub comes_out : (ℕ → List ℕ) → (marks out : List Bool) → (k n : ℕ) → Bool
comes_out leads marks out k n = is_marked out n || any_below (λ j. is_marked marks j && is_among (leads j) n) k

-- ---- the parts of expressions

-- the expressions that are targets where it is one
abbrev pub target_parts : Expr → List ExprId
target_parts (expr.TheVariants.Sig s) = []
target_parts (Slice a low width) = a ∷ []
target_parts (Cat es) = es
target_parts (Part a offset width stride) = a ∷ []
target_parts (Pick index es) = es
target_parts (Cast a signed) = a ∷ []
target_parts (Const n s) = []
target_parts (Unary op a) = []
target_parts (Binary op a b) = []
target_parts (Mux s a b) = []
target_parts (Matches a patterns) = []
target_parts (Reset domain place) = []

-- the offset or the index in it
abbrev pub own_offsets : Expr → List ℕ
own_offsets (Part a offset width stride) = offset.0 ∷ []
own_offsets (Pick index es) = index.0 ∷ []
own_offsets (expr.TheVariants.Sig s) = []
own_offsets (Slice a low width) = []
own_offsets (Cat es) = []
own_offsets (Cast a signed) = []
own_offsets (Const n s) = []
own_offsets (Unary op a) = []
own_offsets (Binary op a b) = []
own_offsets (Mux s a b) = []
own_offsets (Matches a patterns) = []
own_offsets (Reset domain place) = []

abbrev pub AllBelow : ℕ → List ℕ → Type 0
AllBelow n ks = All (λ k. k < n) ks

-- ---- targets that stand for a marked signal

abbrev pub hit_step : (ℕ → Bool) → (ℕ → Bool) → Expr → Bool
hit_step bad hits (expr.TheVariants.Sig s) = bad s.0
hit_step bad hits (Slice a low width) = hits a.0
hit_step bad hits (Cat es) = list_any (λ (e : ExprId). hits e.0) es
hit_step bad hits (Part a offset width stride) = hits a.0
hit_step bad hits (Pick index es) = list_any (λ (e : ExprId). hits e.0) es
hit_step bad hits (Cast a signed) = hits a.0
hit_step bad hits (Const n s) = false
hit_step bad hits (Unary op a) = false
hit_step bad hits (Binary op a b) = false
hit_step bad hits (Mux s a b) = false
hit_step bad hits (Matches a patterns) = false
hit_step bad hits (Reset domain place) = false
