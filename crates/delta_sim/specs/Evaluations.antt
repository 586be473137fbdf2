-- An expression evaluated by itself: those that stand in it are found one after another, each behind those that it names.
use Rattle.std.specs.Prelude.{◌≡◌, ℕ, ◌+◌, ◌*◌, ◌-◌, ◌<◌, ◌≤◌, Bool, true, false, not, ⊤, List, [], ◌∷◌, ◌++◌, length, take, slice_get, slice_index_or, ℤ, pos, Some}
use Rattle.std.specs.List.{count_by}
use Rattle.design_ir.specs.declared.expr.Expr.{Expr}
use Rattle.design_ir.specs.Named.{named}
use Rattle.design_ir.specs.Pools.{Pooled}
use Rattle.design_ir.specs.Values.{num}
use Rattle.delta_sim.specs.declared.evaluation.Visit.{Visit}
use Rattle.sim_plans.specs.Marks.{is_marked, AreMarked}
use Rattle.sim_plans.specs.Settling.{nobody}
use Rattle.sim_plans.specs.Waiting.{Waiting}

-- how many expressions a simulator has room to find the integers of: as many as a pool takes of those that are asked for
abbrev pub eval_room : ℕ
eval_room = 262144

-- the integers of the expressions that were found, and 0 for the others; which were found; those that wait until all that
-- they name is found, each named by the one before it; and how many may wait
pub record Evaluating : Type 0 where
  pub numbers : List ℤ
  pub found : Waiting
  pub path : List Visit
  pub room : ℕ

abbrev pub number_of : List ℤ → ℕ → ℤ
number_of numbers k = slice_index_or numbers k (pos 0)

-- there is room for as many expressions as there are numbers
pub record HasRoom (v : Evaluating) : Type 0 where
  pub marks : length v.found.marks ≡ length v.numbers
  pub path : length v.numbers ≤ v.room

-- nothing is found
pub record IsIdle (v : Evaluating) : Type 0 where
  pub has_room : HasRoom v
  pub none : (k : ℕ) → number_of v.numbers k ≡ pos 0
  pub found : v.found ≡ nobody (length v.numbers)
  pub path : v.path ≡ []

-- what was found is right, and all else is 0
pub record AreFound (p : Pooled) (env numbers : List ℤ) (marks : List Bool) : Type 0 where
  pub found : (k : ℕ) → is_marked marks k ≡ true → number_of numbers k ≡ num p env k
  pub none : (k : ℕ) → is_marked marks k ≡ false → number_of numbers k ≡ pos 0

-- ---- those that wait

-- an expression that is not found, of whose names the first so many are
pub record IsVisited (p : Pooled) (marks : List Bool) (v : Visit) : Type 0 where
  pub there : v.expr.0 < length p.exprs
  pub missing : is_marked marks v.expr.0 ≡ false
  pub read : (x : Expr) → slice_get p.exprs v.expr.0 ≡ Some x → AreMarked marks (take v.names (named x))

-- the last of those that wait, or the bound where none does
abbrev pub lowest : ℕ → List Visit → ℕ
lowest bound [] = bound
lowest bound (v ∷ path) = lowest v.expr.0 path

-- each of them stands before the one that it is named by, the first below the bound
abbrev pub IsPath : Pooled → List Bool → ℕ → List Visit → Type 0
IsPath p marks bound [] = ⊤
IsPath p marks bound (v ∷ path) = IsVisited p marks v × (v.expr.0 < bound) × IsPath p marks v.expr.0 path

-- the root waits first, and is found once none waits
abbrev pub IsRooted : ℕ → List Bool → List Visit → Type 0
IsRooted root marks [] = is_marked marks root ≡ true
IsRooted root marks (v ∷ path) = v.expr.0 ≡ root

-- ---- on its way

-- the root is being found
pub record IsFinding (p : Pooled) (env : List ℤ) (root : ℕ) (v : Evaluating) : Type 0 where
  pub has_room : HasRoom v
  pub inside : root < length v.numbers
  pub numbers : AreFound p env v.numbers v.found.marks
  pub path : IsPath p v.found.marks (root + 1) v.path
  pub rooted : IsRooted root v.found.marks v.path

-- one more waits
abbrev pub behind : Evaluating → Visit → Evaluating
behind v w = record { numbers = v.numbers; found = v.found; path = v.path ++ w ∷ []; room = v.room }

-- the work that is left: what is not found, and what may still wait
abbrev pub work : Evaluating → ℕ
work v = count_by not v.found.marks * 2 + (length v.numbers - length v.path)
