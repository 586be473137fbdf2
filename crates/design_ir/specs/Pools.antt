-- The pool: signals, and expressions, each of which names earlier ones alone.
use Rattle.std.specs.Prelude.{ℕ, List, [], ◌∷◌, ◌++◌, slice_index_or}
use Rattle.design_ir.specs.declared.signal.Sig.{Sig}
use Rattle.design_ir.specs.declared.expr.Expr.{Expr}

pub record Pooled : Type 0 where
  pub signals : List Sig
  pub exprs : List Expr

-- ---- one answer for each expression, in order, from the answers for the earlier ones

-- the answers for more expressions, after those that are there
abbrev pub answers : {A : Type 0} → A → ((ℕ → A) → Expr → A) → List A → List Expr → List A
answers d step known [] = known
answers d step known (e ∷ es) = answers d step (known ++ step (λ k. slice_index_or known k d) e ∷ []) es

-- the answer for expression k of the pool
abbrev pub answer : {A : Type 0} → A → ((ℕ → A) → Expr → A) → List Expr → ℕ → A
answer d step es k = slice_index_or (answers d step [] es) k d
