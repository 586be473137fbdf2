-- How the signals of combinational processes are found: by marks, from the targets of assignments down to their parts.
use Rattle.std.specs.Prelude.{◌≡◌, ℕ, ◌<◌, ◌⊎◌, Bool, true, false, is_none, if◌then◌else◌, List, [], ◌∷◌, ◌++◌, map, length, slice_index_or, Contains}
use Rattle.std.specs.List.{flat_map}
use Rattle.design_ir.specs.declared.ids.ExprId.{ExprId}
use Rattle.design_ir.specs.declared.expr.Expr as expr
use Rattle.design_ir.specs.declared.expr.Expr.{Expr}
use Rattle.design_ir.specs.declared.expr.Expr.TheVariants.{Const, Unary, Binary, Mux, Slice, Cat, Part, Pick, Cast, Matches, Reset}
use Rattle.design_ir.specs.declared.memory.MemRead.{MemRead}
use Rattle.design_ir.specs.declared.memory.Memory.{Memory}
use Rattle.design_ir.specs.declared.process.DesignProcess.{DesignProcess}
use Rattle.design_ir.specs.Trees.{Statement, assign, choose, Choices, none, arm, Block, done, next}
use Rattle.design_ir.specs.Pools.{Pooled}
use Rattle.design_ir.specs.Targets.{target_signals}
use Rattle.design_ir.specs.Circuits.{is_among}

-- ---- marks

-- whether a number is marked, which none is past the last of these
abbrev pub is_marked : List Bool → ℕ → Bool
is_marked marks n = slice_index_or marks n false

-- these numbers are marked now, beside those that were
pub record IsMarked (xs : List ℕ) (old new : List Bool) : Type 0 where
  pub size : length new ≡ length old
  pub kept : (n : ℕ) → is_marked old n ≡ true → is_marked new n ≡ true
  pub added : (n : ℕ) → Contains xs n → is_marked new n ≡ true
  pub only : (n : ℕ) → is_marked new n ≡ true → (is_marked old n ≡ true) ⊎ Contains xs n

-- ---- the targets of assignments
abbrev mutual
  pub statement_targets : Statement → List ℕ
  statement_targets (assign t v p) = t.0 ∷ []
  statement_targets (choose arms) = choices_targets arms

  pub choices_targets : Choices → List ℕ
  choices_targets none = []
  choices_targets (arm c body others) = block_targets body ++ choices_targets others

  pub block_targets : Block → List ℕ
  block_targets done = []
  block_targets (next s rest) = statement_targets s ++ block_targets rest

-- those of a process, where it is combinational
abbrev pub comb_targets : DesignProcess → List ℕ
comb_targets p = if is_none p.domain then block_targets p.body else []

-- ---- the parts of a target

-- the signal that an expression is
abbrev pub own_signals : Expr → List ℕ
own_signals (expr.TheVariants.Sig s) = s.0 ∷ []
own_signals (Slice a low width) = []
own_signals (Cat es) = []
own_signals (Part a offset width stride) = []
own_signals (Pick index es) = []
own_signals (Cast a signed) = []
own_signals (Const n s) = []
own_signals (Unary op a) = []
own_signals (Binary op a b) = []
own_signals (Mux s a b) = []
own_signals (Matches a patterns) = []
own_signals (Reset domain place) = []

-- the expressions that are targets where it is one
abbrev pub target_parts : Expr → List ExprId
target_parts (expr.TheVariants.Sig s) = []
target_parts (Slice a low width) = a ∷ []
target_parts (Cat es) = es
target_parts (Part a offset width stride) = a ∷ []
target_parts (Pick index es) = es
target_parts (Cast a signed) = a ∷ []
target_parts (Const n s) = []
target_parts (Unary op a) = []
target_parts (Binary op a b) = []
target_parts (Mux s a b) = []
target_parts (Matches a patterns) = []
target_parts (Reset domain place) = []

abbrev pub numbers : List ExprId → List ℕ
numbers es = map (λ (e : ExprId). e.0) es

-- ---- the search

-- a marked expression below a number stands for a part of the signal
pub record IsAimedAt (pool : Pooled) (exprs : List Bool) (below s : ℕ) : Type 0 where
  pub target : ℕ
  pub low : target < below
  pub marked : is_marked exprs target ≡ true
  pub among : is_among (target_signals pool target) s ≡ true

-- the signal is marked, or will be
abbrev pub IsFound : Pooled → List Bool → List Bool → ℕ → ℕ → Type 0
IsFound pool exprs signals below s = (is_marked signals s ≡ true) ⊎ IsAimedAt pool exprs below s

-- what is found stays the same
pub record FindsSame (pool : Pooled) (exprs signals : List Bool) (below : ℕ) (exprs' signals' : List Bool) (below' : ℕ) : Type 0 where
  pub exprs_size : length exprs' ≡ length exprs
  pub signals_size : length signals' ≡ length signals
  pub into : (s : ℕ) → IsFound pool exprs signals below s → IsFound pool exprs' signals' below' s
  pub only : (s : ℕ) → IsFound pool exprs' signals' below' s → IsFound pool exprs signals below s

-- ---- read ports

-- the data of a read port, where it is combinational
abbrev pub comb_word : MemRead → List ℕ
comb_word r = if is_none r.domain then r.word.0 ∷ [] else []

abbrev pub comb_words : Memory → List ℕ
comb_words m = flat_map comb_word m.reads
