-- A walk over statements and arms, one after another.
use Rattle.std.specs.Prelude.{◌≡◌, ℕ, ◌+◌, ◌<◌, Bool, true, false, cond, List, [], ◌∷◌, ◌++◌, length, drop, ℤ}
use Rattle.std.specs.List.{AllByRecursion}
use Rattle.std.proofs.Common.{sym, ◌∙◌, ap, subst, get_or}
use Rattle.std.proofs.lemmas.List.{at_drop_more}
use Rattle.shape_rules.specs.Operators.{is_zero}
use Rattle.design_ir.specs.declared.ids.ExprId.{ExprId}
use Rattle.design_ir.specs.declared.stmt.Stmt.{Stmt}
use Rattle.design_ir.specs.declared.stmt.Arm.{Arm}
use Rattle.design_ir.specs.Guards.{block_exprs, statement_exprs, choices_exprs}
use Rattle.design_ir.specs.Pools.{Pooled}
use Rattle.design_ir.specs.Put.{put, put_statement, put_choices}
use Rattle.design_ir.specs.Statements.{statement_of, block_of, choices_of}
use Rattle.design_ir.specs.Trees.{next, done, arm}
use Rattle.design_ir.specs.Values.{num}
use Rattle.design_ir.proofs.PutLaws.{put_length}
use Rattle.sim_plans.specs.Reading.{AreBelow}

pub all_parts : {A : Type 0} (P : A → Type 0) (xs ys : List A) → AllByRecursion P (xs ++ ys) → AllByRecursion P xs × AllByRecursion P ys
all_parts P [] ys h = (tt, h)
all_parts P (x ∷ xs) ys h = let r = all_parts P xs ys h.1 in ((h.0, r.0), r.1)

pub block_at : (ss : List Stmt) (i : ℕ) (s : Stmt) → i < length ss → s ≡ get_or ss i s → block_of (drop i ss) ≡ next (statement_of s) (block_of (drop (i + 1) ss))
block_at ss i s h is =
    at_drop_more block_of ss i s h ∙ ap (λ x. next (statement_of x) (block_of (drop (i + 1) ss))) (sym is)

pub choices_at : (arms : List Arm) (i : ℕ) (a : Arm) → i < length arms → a ≡ get_or arms i a → choices_of (drop i arms) ≡ arm a.condition a.body (choices_of (drop (i + 1) arms))
choices_at arms i a h is =
    at_drop_more choices_of arms i a h ∙ ap (λ (x : Arm). arm x.condition x.body (choices_of (drop (i + 1) arms))) (sym is)

module _ (n : ℕ) where
  pub block_parts : (ss : List Stmt) (i : ℕ) (s : Stmt) → i < length ss → s ≡ get_or ss i s → AreBelow n (block_exprs (block_of (drop i ss))) → AreBelow n (statement_exprs (statement_of s)) × AreBelow n (block_exprs (block_of (drop (i + 1) ss)))
  block_parts ss i s h is below =
      all_parts (λ (e : ExprId). e.0 < n) (statement_exprs (statement_of s)) (block_exprs (block_of (drop (i + 1) ss)))
      (subst (λ b. AreBelow n (block_exprs b)) (block_at ss i s h is) below)

  pub choices_parts : (arms : List Arm) (i : ℕ) (a : Arm) → i < length arms → a ≡ get_or arms i a → AreBelow n (choices_exprs (choices_of (drop i arms))) → (a.condition.0 < n) × AreBelow n (block_exprs a.body) × AreBelow n (choices_exprs (choices_of (drop (i + 1) arms)))
  choices_parts arms i a h is below =
      let all = subst (λ x. AreBelow n (choices_exprs x)) (choices_at arms i a h is) below in
      let r = all_parts (λ (e : ExprId). e.0 < n) (block_exprs a.body) (choices_exprs (choices_of (drop (i + 1) arms))) all.1 in
      (all.0, r.0, r.1)

module _ (p : Pooled) where
  module _ (env : List ℤ) where
    pub statement_length : (s : Stmt) (cur more : List ℤ) → more ≡ put_statement p env (statement_of s) cur → length more ≡ length cur
    statement_length s cur more e = ap length e ∙ put_length p env (next (statement_of s) done) cur

    pub block_turn : (ss : List Stmt) (i : ℕ) (s : Stmt) (cur more all : List ℤ) → i < length ss → s ≡ get_or ss i s → more ≡ put_statement p env (statement_of s) cur → put p env (block_of (drop i ss)) cur ≡ all → put p env (block_of (drop (i + 1) ss)) more ≡ all
    block_turn ss i s cur more all h is e known =
        ap (put p env (block_of (drop (i + 1) ss))) e ∙ sym (ap (λ b. put p env b cur) (block_at ss i s h is)) ∙ known

    passed : (t : Bool) (xs ys : List ℤ) → t ≡ true → cond t xs ys ≡ xs
    passed t xs ys e = ap (λ b. cond b xs ys) e

    taken : (t : Bool) (xs ys : List ℤ) → t ≡ false → cond t xs ys ≡ ys
    taken t xs ys e = ap (λ b. cond b xs ys) e

    pub choices_turn : (arms : List Arm) (i : ℕ) (a : Arm) (cur all : List ℤ) → i < length arms → a ≡ get_or arms i a → is_zero (num p env a.condition.0) ≡ true → put_choices p env (choices_of (drop i arms)) cur ≡ all → put_choices p env (choices_of (drop (i + 1) arms)) cur ≡ all
    choices_turn arms i a cur all h is e known =
        sym (ap (λ x. put_choices p env x cur) (choices_at arms i a h is) ∙ passed (is_zero (num p env a.condition.0)) (put_choices p env (choices_of (drop (i + 1) arms)) cur) (put p env a.body cur) e) ∙ known

    pub choices_taken : (arms : List Arm) (i : ℕ) (a : Arm) (cur all : List ℤ) → i < length arms → a ≡ get_or arms i a → is_zero (num p env a.condition.0) ≡ false → put_choices p env (choices_of (drop i arms)) cur ≡ all → put p env a.body cur ≡ all
    choices_taken arms i a cur all h is e known =
        sym (ap (λ x. put_choices p env x cur) (choices_at arms i a h is) ∙ taken (is_zero (num p env a.condition.0)) (put_choices p env (choices_of (drop (i + 1) arms)) cur) (put p env a.body cur) e) ∙ known
