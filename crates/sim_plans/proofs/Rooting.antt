-- Marks of the expressions that stand directly in statements.
use Rattle.std.specs.Prelude.{◌≡◌, refl, ℕ, zero, suc, ◌+◌, ◌<◌, Bool, true, List, [], ◌∷◌, ◌++◌, drop, length, slice_set}
use Rattle.std.specs.List.{range_with_len}
use Rattle.std.proofs.Common.{sym, ◌∙◌, ap, arith, get_or, add-one}
use Rattle.design_ir.specs.declared.ids.ExprId.{ExprId}
use Rattle.design_ir.specs.declared.stmt.Stmt.{Stmt}
use Rattle.design_ir.specs.declared.stmt.Arm.{Arm}
use Rattle.design_ir.specs.Statements.{statement_of, block_of, choices_of}
use Rattle.design_ir.specs.Trees.{Block}
use Rattle.sim_plans.specs.Given.{marked}
use Rattle.sim_plans.specs.Tasks.{picked, places_of, block_targets, statement_targets, choices_targets, block_values, statement_values, choices_values}
use Rattle.sim_plans.proofs.StatementTurns.{picked_at}
use Rattle.sim_plans.proofs.Walks.{block_at, choices_at}

pub places_append : (xs ys : List ExprId) → places_of (xs ++ ys) ≡ places_of xs ++ places_of ys
places_append [] ys = refl
places_append (x ∷ xs) ys = ap (λ zs. x.0 ∷ zs) (places_append xs ys)

marked_append : (xs ys : List ℕ) (m : List Bool) → marked (xs ++ ys) m ≡ marked ys (marked xs m)
marked_append [] ys m = refl
marked_append (x ∷ xs) ys m = marked_append xs ys (slice_set m x true)

pub marked_both : (xs ys : List ExprId) (m : List Bool) → marked (places_of (xs ++ ys)) m ≡ marked (places_of ys) (marked (places_of xs) m)
marked_both xs ys m = ap (λ zs. marked zs m) (places_append xs ys) ∙ marked_append (places_of xs) (places_of ys) m

pub targets_turn : (ss : List Stmt) (i : ℕ) (s : Stmt) (m n all : List Bool) → i < length ss → s ≡ get_or ss i s → n ≡ marked (places_of (statement_targets (statement_of s))) m → marked (places_of (block_targets (block_of (drop i ss)))) m ≡ all → marked (places_of (block_targets (block_of (drop (i + 1) ss)))) n ≡ all
targets_turn ss i s m n all h is e known =
    ap (marked (places_of (block_targets (block_of (drop (i + 1) ss))))) e
    ∙ sym (ap (λ b. marked (places_of (block_targets b)) m) (block_at ss i s h is) ∙ marked_both (statement_targets (statement_of s)) (block_targets (block_of (drop (i + 1) ss))) m) ∙ known

pub values_turn : (ss : List Stmt) (i : ℕ) (s : Stmt) (m n all : List Bool) → i < length ss → s ≡ get_or ss i s → n ≡ marked (places_of (statement_values (statement_of s))) m → marked (places_of (block_values (block_of (drop i ss)))) m ≡ all → marked (places_of (block_values (block_of (drop (i + 1) ss)))) n ≡ all
values_turn ss i s m n all h is e known =
    ap (marked (places_of (block_values (block_of (drop (i + 1) ss))))) e
    ∙ sym (ap (λ b. marked (places_of (block_values b)) m) (block_at ss i s h is) ∙ marked_both (statement_values (statement_of s)) (block_values (block_of (drop (i + 1) ss))) m) ∙ known

pub arm_targets_turn : (arms : List Arm) (i : ℕ) (a : Arm) (m n all : List Bool) → i < length arms → a ≡ get_or arms i a → n ≡ marked (places_of (block_targets a.body)) m → marked (places_of (choices_targets (choices_of (drop i arms)))) m ≡ all → marked (places_of (choices_targets (choices_of (drop (i + 1) arms)))) n ≡ all
arm_targets_turn arms i a m n all h is e known =
    ap (marked (places_of (choices_targets (choices_of (drop (i + 1) arms))))) e
    ∙ sym (ap (λ b. marked (places_of (choices_targets b)) m) (choices_at arms i a h is) ∙ marked_both (block_targets a.body) (choices_targets (choices_of (drop (i + 1) arms))) m) ∙ known

pub arm_values_turn : (arms : List Arm) (i : ℕ) (a : Arm) (m n o all : List Bool) → i < length arms → a ≡ get_or arms i a → n ≡ slice_set m a.condition.0 true → o ≡ marked (places_of (block_values a.body)) n → marked (places_of (choices_values (choices_of (drop i arms)))) m ≡ all → marked (places_of (choices_values (choices_of (drop (i + 1) arms)))) o ≡ all
arm_values_turn arms i a m n o all h is e f known =
    ap (marked (places_of (choices_values (choices_of (drop (i + 1) arms))))) (f ∙ ap (marked (places_of (block_values a.body))) e)
    ∙ sym (ap (λ b. marked (places_of (choices_values b)) m) (choices_at arms i a h is) ∙ marked_both (block_values a.body) (choices_values (choices_of (drop (i + 1) arms))) (slice_set m a.condition.0 true)) ∙ known

-- ---- statements at their places

module _ (body : Block) (ss : List Stmt) (of : body ≡ block_of ss) (is : List ℕ) (j i : ℕ) (s : Stmt) (more : j < length is) (here : i ≡ get_or is j i) (h : i < length ss) (stands : s ≡ get_or ss i s) (m n all : List Bool) where
  pub picked_targets_turn : n ≡ marked (places_of (statement_targets (statement_of s))) m → marked (places_of (block_targets (picked body (drop j is)))) m ≡ all → marked (places_of (block_targets (picked body (drop (j + 1) is)))) n ≡ all
  picked_targets_turn e known =
      ap (marked (places_of (block_targets (picked body (drop (j + 1) is))))) e
      ∙ sym (ap (λ b. marked (places_of (block_targets b)) m) (picked_at body ss of is j i s more here h stands) ∙ marked_both (statement_targets (statement_of s)) (block_targets (picked body (drop (j + 1) is))) m) ∙ known

  pub picked_values_turn : n ≡ marked (places_of (statement_values (statement_of s))) m → marked (places_of (block_values (picked body (drop j is)))) m ≡ all → marked (places_of (block_values (picked body (drop (j + 1) is)))) n ≡ all
  picked_values_turn e known =
      ap (marked (places_of (block_values (picked body (drop (j + 1) is))))) e
      ∙ sym (ap (λ b. marked (places_of (block_values b)) m) (picked_at body ss of is j i s more here h stands) ∙ marked_both (statement_values (statement_of s)) (block_values (picked body (drop (j + 1) is))) m) ∙ known

-- ---- lists that grow

pub range_more : (a n : ℕ) → range_with_len a (suc n) ≡ range_with_len a n ++ (a + n) ∷ []
range_more a zero = let e : a ≡ a + 0 = omega arith in ap (λ k. k ∷ []) e
range_more a (suc n) = let e : a + 1 + n ≡ a + suc n = omega arith in ap (λ xs. a ∷ xs) (range_more (a + 1) n ∙ ap (λ k. range_with_len (a + 1) n ++ k ∷ []) e)

pub range_turn : (i : ℕ) (now more : List ℕ) → now ≡ range_with_len 0 i → more ≡ now ++ i ∷ [] → more ≡ range_with_len 0 (i + 1)
range_turn i now more known grown =
    let e : 0 + i ≡ i = omega arith in
    grown ∙ ap (λ xs. xs ++ i ∷ []) known ∙ ap (λ k. range_with_len 0 i ++ k ∷ []) (sym e) ∙ sym (range_more 0 i) ∙ ap (range_with_len 0) (sym (add-one i))
