-- Statements as a flat list of assignments, each with what decides whether it is carried out.
use Rattle.std.specs.Prelude.{ℕ, Bool, true, false, List, [], ◌∷◌, ◌++◌}
use Rattle.std.specs.List.{flat_map}
use Rattle.amh_host.specs.declared.place.Place.{Place}
use Rattle.design_ir.specs.declared.ids.ExprId.{ExprId}
use Rattle.design_ir.specs.Pools.{Pooled}
use Rattle.design_ir.specs.Trees.{Statement, assign, choose, Choices, none, arm, Block, done, next}
use Rattle.design_ir.specs.Targets.{target_signals}

-- a condition that is to be not 0, or to be 0
pub record Guard : Type 0 where
  pub condition : ExprId
  pub taken : Bool

-- an assignment, with what it asks of the conditions of the arms around it and of the arms before those
pub record Guarded : Type 0 where
  pub guards : List Guard
  pub target : ExprId
  pub value : ExprId
  pub place : Place

abbrev mutual
  pub guarded_in : List Guard → Statement → List Guarded
  guarded_in gs (assign t v p) = record { guards = gs; target = t; value = v; place = p } ∷ []
  guarded_in gs (choose arms) = guarded_arms gs arms

  pub guarded_arms : List Guard → Choices → List Guarded
  guarded_arms gs none = []
  guarded_arms gs (arm c body others) =
      guarded (gs ++ record { condition = c; taken = true } ∷ []) body ++ guarded_arms (gs ++ record { condition = c; taken = false } ∷ []) others

  pub guarded : List Guard → Block → List Guarded
  guarded gs done = []
  guarded gs (next s rest) = guarded_in gs s ++ guarded gs rest

-- the signals that statements drive, in order of the statements
abbrev pub driven : Pooled → Block → List ℕ
driven pool body = flat_map (λ (g : Guarded). target_signals pool g.target.0) (guarded [] body)

-- ---- all expressions that stand directly in statements
abbrev mutual
  pub statement_exprs : Statement → List ExprId
  statement_exprs (assign t v p) = t ∷ v ∷ []
  statement_exprs (choose arms) = choices_exprs arms

  pub choices_exprs : Choices → List ExprId
  choices_exprs none = []
  choices_exprs (arm c body others) = c ∷ (block_exprs body ++ choices_exprs others)

  pub block_exprs : Block → List ExprId
  block_exprs done = []
  block_exprs (next s rest) = statement_exprs s ++ block_exprs rest
