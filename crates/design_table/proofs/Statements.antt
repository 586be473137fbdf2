-- What is known of statements that fit.
use Rattle.std.specs.Prelude.{◌≡◌, ℕ, ◌<◌, nat_lt, ◌&&◌, Bool, true, false, List, [], ◌∷◌, ◌++◌}
use Rattle.std.specs.List.{AllByRecursion, flat_map}
use Rattle.std.proofs.Common.{arith}
use Rattle.std.proofs.lemmas.Bool.{and_parts}
use Rattle.design_ir.specs.declared.ids.ExprId.{ExprId}
use Rattle.design_ir.specs.Trees.{Statement, assign, choose, Choices, none, arm, Block, done, next}
use Rattle.design_ir.specs.Pools.{Pooled}
use Rattle.design_ir.specs.Targets.{target_signals}
use Rattle.design_ir.specs.Guards.{Guard, Guarded, guarded, guarded_in, guarded_arms, driven, statement_exprs, choices_exprs, block_exprs}
use Rattle.design_table.specs.Tests.{statement_fits, choices_fit, block_fits}
use Rattle.design_table.proofs.TargetSides.{all_joined, AreOwn}

below : (k n : ℕ) → nat_lt k n ≡ true → k < n
below k n e = grind (arith, e)

-- the expressions are there
abbrev AreThere : ℕ → List ExprId → Type 0
AreThere n es = AllByRecursion (λ (e : ExprId). e.0 < n) es

mutual
  exprs_in : (is : ℕ → Bool) (n : ℕ) (s : Statement) → statement_fits is n s ≡ true → AreThere n (statement_exprs s)
  exprs_in is n (assign t v p) e =
      let r = and_parts (is t.0) (nat_lt t.0 n && nat_lt v.0 n) e in
      let q = and_parts (nat_lt t.0 n) (nat_lt v.0 n) r.1 in
      (below t.0 n q.0, (below v.0 n q.1, tt))
  exprs_in is n (choose arms) e = exprs_of_arms is n arms e

  exprs_of_arms : (is : ℕ → Bool) (n : ℕ) (arms : Choices) → choices_fit is n arms ≡ true → AreThere n (choices_exprs arms)
  exprs_of_arms is n none e = tt
  exprs_of_arms is n (arm c body others) e =
      let r = and_parts (nat_lt c.0 n) (block_fits is n body && choices_fit is n others) e in
      let q = and_parts (block_fits is n body) (choices_fit is n others) r.1 in
      (below c.0 n r.0, all_joined (λ (e : ExprId). e.0 < n) (block_exprs body) (choices_exprs others) (exprs_of is n body q.0) (exprs_of_arms is n others q.1))

  pub exprs_of : (is : ℕ → Bool) (n : ℕ) (b : Block) → block_fits is n b ≡ true → AreThere n (block_exprs b)
  exprs_of is n done e = tt
  exprs_of is n (next s rest) e =
      let r = and_parts (statement_fits is n s) (block_fits is n rest) e in
      all_joined (λ (e : ExprId). e.0 < n) (statement_exprs s) (block_exprs rest) (exprs_in is n s r.0) (exprs_of is n rest r.1)

-- the targets are marked
abbrev AreMarked : (ℕ → Bool) → List Guarded → Type 0
AreMarked is gs = AllByRecursion (λ (g : Guarded). is g.target.0 ≡ true) gs

mutual
  targets_in : (is : ℕ → Bool) (n : ℕ) (gs : List Guard) (s : Statement) → statement_fits is n s ≡ true → AreMarked is (guarded_in gs s)
  targets_in is n gs (assign t v p) e = ((and_parts (is t.0) (nat_lt t.0 n && nat_lt v.0 n) e).0, tt)
  targets_in is n gs (choose arms) e = targets_of_arms is n gs arms e

  targets_of_arms : (is : ℕ → Bool) (n : ℕ) (gs : List Guard) (arms : Choices) → choices_fit is n arms ≡ true → AreMarked is (guarded_arms gs arms)
  targets_of_arms is n gs none e = tt
  targets_of_arms is n gs (arm c body others) e =
      let r = and_parts (nat_lt c.0 n) (block_fits is n body && choices_fit is n others) e in
      let q = and_parts (block_fits is n body) (choices_fit is n others) r.1 in
      let inside : List Guard = gs ++ record { condition = c; taken = true } ∷ [] in
      let behind : List Guard = gs ++ record { condition = c; taken = false } ∷ [] in
      all_joined (λ (g : Guarded). is g.target.0 ≡ true) (guarded inside body) (guarded_arms behind others) (targets_of is n inside body q.0) (targets_of_arms is n behind others q.1)

  pub targets_of : (is : ℕ → Bool) (n : ℕ) (gs : List Guard) (b : Block) → block_fits is n b ≡ true → AreMarked is (guarded gs b)
  targets_of is n gs done e = tt
  targets_of is n gs (next s rest) e =
      let r = and_parts (statement_fits is n s) (block_fits is n rest) e in
      all_joined (λ (g : Guarded). is g.target.0 ≡ true) (guarded_in gs s) (guarded gs rest) (targets_in is n gs s r.0) (targets_of is n gs rest r.1)

-- ---- what they drive

pub all_imp : {A : Type 0} {P Q : A → Type 0} → ((x : A) → P x → Q x) → (xs : List A) → AllByRecursion P xs → AllByRecursion Q xs
all_imp h [] k = tt
all_imp h (x ∷ xs) k = (h x k.0, all_imp h xs k.1)

own_driven : (own : ℕ → Bool) (f : Guarded → List ℕ) (gs : List Guarded) → AllByRecursion (λ (g : Guarded). AreOwn own (f g)) gs → AreOwn own (flat_map f gs)
own_driven own f [] h = tt
own_driven own f (g ∷ gs) h = all_joined (λ s. own s ≡ true) (f g) (flat_map f gs) h.0 (own_driven own f gs h.1)

-- where what is marked stands for signals of the side, so do the statements
pub driven_own : (own is : ℕ → Bool) (n : ℕ) (pool : Pooled) (b : Block) → ((k : ℕ) → is k ≡ true → AreOwn own (target_signals pool k)) → block_fits is n b ≡ true → AreOwn own (driven pool b)
driven_own own is n pool b signals e =
    own_driven own (λ (g : Guarded). target_signals pool g.target.0) (guarded [] b)
    (all_imp (λ (g : Guarded) t. signals g.target.0 t) (guarded [] b) (targets_of is n [] b e))
