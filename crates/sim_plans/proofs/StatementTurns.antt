-- A walk over statements, and what is known of those that are left.
use Rattle.std.specs.Prelude.{◌≡◌, refl, ℕ, zero, suc, ◌+◌, ◌<◌, List, [], ◌∷◌, map, length, drop, slice_get, ℤ, Some}
use Rattle.std.specs.List.{AllByRecursion}
use Rattle.std.proofs.Common.{sym, ◌∙◌, ap, arith, subst, get_or}
use Rattle.std.proofs.lemmas.List.{at_drop_more}
use Rattle.design_ir.specs.declared.ids.ExprId.{ExprId}
use Rattle.design_ir.specs.declared.stmt.Stmt.{Stmt}
use Rattle.design_ir.specs.declared.stmt.Arm.{Arm}
use Rattle.design_ir.specs.Guards.{block_exprs, statement_exprs, choices_exprs}
use Rattle.design_ir.specs.Pools.{Pooled}
use Rattle.design_ir.specs.Put.{put, put_statement}
use Rattle.design_ir.specs.Statements.{statement_of, block_of, choices_of}
use Rattle.design_ir.specs.Trees.{Statement, Block, next, done, statements}
use Rattle.design_ir.proofs.NumbersFit.{FitsSignals}
use Rattle.sim_plans.specs.Tasks.{statement_targets, block_targets, choices_targets, picked, statement_at, and_then}
use Rattle.sim_plans.proofs.Walks.{all_parts, block_at, choices_at}
use Rattle.sim_plans.proofs.WritesFit.{put_fits}

module _ (P : ExprId → Type 0) where
  abbrev All : List ExprId → Type 0
  All es = AllByRecursion P es

  pub exprs_turn : (ss : List Stmt) (i : ℕ) (s : Stmt) → i < length ss → s ≡ get_or ss i s → All (block_exprs (block_of (drop i ss))) → All (statement_exprs (statement_of s)) × All (block_exprs (block_of (drop (i + 1) ss)))
  exprs_turn ss i s h is all =
      all_parts P (statement_exprs (statement_of s)) (block_exprs (block_of (drop (i + 1) ss))) (subst (λ b. All (block_exprs b)) (block_at ss i s h is) all)

  pub targets_turn : (ss : List Stmt) (i : ℕ) (s : Stmt) → i < length ss → s ≡ get_or ss i s → All (block_targets (block_of (drop i ss))) → All (statement_targets (statement_of s)) × All (block_targets (block_of (drop (i + 1) ss)))
  targets_turn ss i s h is all =
      all_parts P (statement_targets (statement_of s)) (block_targets (block_of (drop (i + 1) ss))) (subst (λ b. All (block_targets b)) (block_at ss i s h is) all)

  pub arm_exprs : (arms : List Arm) (i : ℕ) (a : Arm) → i < length arms → a ≡ get_or arms i a → All (choices_exprs (choices_of (drop i arms))) → P a.condition × All (block_exprs a.body) × All (choices_exprs (choices_of (drop (i + 1) arms)))
  arm_exprs arms i a h is all =
      let here = subst (λ x. All (choices_exprs x)) (choices_at arms i a h is) all in
      let r = all_parts P (block_exprs a.body) (choices_exprs (choices_of (drop (i + 1) arms))) here.1 in
      (here.0, r.0, r.1)

  pub arm_targets : (arms : List Arm) (i : ℕ) (a : Arm) → i < length arms → a ≡ get_or arms i a → All (choices_targets (choices_of (drop i arms))) → All (block_targets a.body) × All (choices_targets (choices_of (drop (i + 1) arms)))
  arm_targets arms i a h is all =
      all_parts P (block_targets a.body) (choices_targets (choices_of (drop (i + 1) arms))) (subst (λ x. All (choices_targets x)) (choices_at arms i a h is) all)

-- ---- statements by their places

pub statements_are : (ss : List Stmt) → statements (block_of ss) ≡ map statement_of ss
statements_are [] = refl
statements_are (s ∷ ss) = ap (λ xs. statement_of s ∷ xs) (statements_are ss)

mapped_length : (ss : List Stmt) → length (map statement_of ss) ≡ length ss
mapped_length [] = refl
mapped_length (s ∷ ss) = ap suc (mapped_length ss)

pub statements_length : (ss : List Stmt) → length (statements (block_of ss)) ≡ length ss
statements_length ss = ap length (statements_are ss) ∙ mapped_length ss

mapped_at : (ss : List Stmt) (i : ℕ) (s : Stmt) → i < length ss → s ≡ get_or ss i s → slice_get (map statement_of ss) i ≡ Some (statement_of s)
mapped_at [] i s h is = absurd (omega (arith, h))
mapped_at (x ∷ ss) zero s h is = ap (λ y. Some (statement_of y)) (sym is)
mapped_at (x ∷ ss) (suc i) s h is = mapped_at ss i s (omega (arith, h)) is

pub place_at : (ss : List Stmt) (i : ℕ) (s : Stmt) → i < length ss → s ≡ get_or ss i s → statement_at (block_of ss) i ≡ Some (statement_of s)
place_at ss i s h is = ap (λ xs. slice_get xs i) (statements_are ss) ∙ mapped_at ss i s h is

module _ (body : Block) (ss : List Stmt) (of : body ≡ block_of ss) (is : List ℕ) (j i : ℕ) (s : Stmt) (more : j < length is) (here : i ≡ get_or is j i) (h : i < length ss) (stands : s ≡ get_or ss i s) where
  pub picked_at : picked body (drop j is) ≡ next (statement_of s) (picked body (drop (j + 1) is))
  picked_at =
      at_drop_more (picked body) is j i more
      ∙ ap (λ k. and_then (statement_at body k) (picked body (drop (j + 1) is))) (sym here)
      ∙ ap (λ o. and_then o (picked body (drop (j + 1) is))) (ap (λ b. statement_at b i) of ∙ place_at ss i s h stands)

  pub picked_exprs : (P : ExprId → Type 0) → AllByRecursion P (block_exprs (picked body (drop j is))) → AllByRecursion P (statement_exprs (statement_of s)) × AllByRecursion P (block_exprs (picked body (drop (j + 1) is)))
  picked_exprs P all = all_parts P (statement_exprs (statement_of s)) (block_exprs (picked body (drop (j + 1) is))) (subst (λ b. AllByRecursion P (block_exprs b)) picked_at all)

  pub picked_targets : (P : ExprId → Type 0) → AllByRecursion P (block_targets (picked body (drop j is))) → AllByRecursion P (statement_targets (statement_of s)) × AllByRecursion P (block_targets (picked body (drop (j + 1) is)))
  picked_targets P all = all_parts P (statement_targets (statement_of s)) (block_targets (picked body (drop (j + 1) is))) (subst (λ b. AllByRecursion P (block_targets b)) picked_at all)

  pub picked_turn : (p : Pooled) (env cur new all : List ℤ) → new ≡ put_statement p env (statement_of s) cur → put p env (picked body (drop j is)) cur ≡ all → put p env (picked body (drop (j + 1) is)) new ≡ all
  picked_turn p env cur new all e known = ap (put p env (picked body (drop (j + 1) is))) e ∙ sym (ap (λ b. put p env b cur) picked_at) ∙ known

-- ---- numbers of their shapes

pub statement_fits : (p : Pooled) (env : List ℤ) (s : Statement) (cur more : List ℤ) → more ≡ put_statement p env s cur → FitsSignals p cur → FitsSignals p more
statement_fits p env s cur more e fit = subst (FitsSignals p) (sym e) (put_fits p env (next s done) cur fit)
