-- Targets before domains are resolved: by their parts, and that every target is one.
use Rattle.std.proofs.Common.{◌≡◌, ℕ, zero, suc, Bool, true, false, List, [], ◌∷◌, ◌++◌, Some, slice_get, refl}
use Rattle.std.specs.Prelude.{⊤, slice_index_or}
use Rattle.std.specs.List.{list_all}
use Rattle.std.proofs.lemmas.Bool.{and_parts, and_from}
use Rattle.design_ir.specs.declared.ids.ExprId.{ExprId}
use Rattle.design_ir.specs.declared.expr.Expr as expr
use Rattle.design_ir.specs.declared.expr.Expr.{Expr}
use Rattle.design_ir.specs.declared.expr.Expr.TheVariants.{Const, Unary, Binary, Mux, Slice, Cat, Part, Pick, Cast, Matches, Reset}
use Rattle.design_ir.specs.Named.{named}
use Rattle.design_ir.specs.Pools.{Pooled, answers}
use Rattle.design_ir.specs.PoolRules.{IsPool}
use Rattle.design_ir.specs.Targets.{is_target, target_test, is_open_target, open_target_test}
use Rattle.design_ir.proofs.Congruence.{AreSame, same_below}
use Rattle.design_ir.proofs.Equations.{answer_at, standing}

-- ---- by their parts

every_same : (f g : ℕ → Bool) (es : List ExprId) → AreSame f g es → list_all (λ (e : ExprId). f e.0) es ≡ list_all (λ (e : ExprId). g e.0) es
every_same f g [] h = refl
every_same f g (e ∷ es) h = let a = h.0 in let b = every_same f g es h.1 in cc

open_test_same : (f g : ℕ → Bool) (e : Expr) → AreSame f g (named e) → open_target_test f e ≡ open_target_test g e
open_test_same f g (Reset name place) h = refl
open_test_same f g (Const n s) h = refl
open_test_same f g (expr.TheVariants.Sig s) h = refl
open_test_same f g (Unary op a) h = refl
open_test_same f g (Binary op a b) h = refl
open_test_same f g (Mux s a b) h = refl
open_test_same f g (Slice a low width) h = h.0
open_test_same f g (Cat es) h = every_same f g es h
open_test_same f g (Part a offset width stride) h = h.0
open_test_same f g (Pick index es) h = every_same f g es h.1
open_test_same f g (Cast a signed) h = h.0
open_test_same f g (Matches a patterns) h = refl

pub open_target_is : (q : Pooled) (k : ℕ) (e : Expr) → IsPool q → slice_get q.exprs k ≡ Some e → is_open_target q k ≡ open_target_test (is_open_target q) e
unfolding is_open_target
open_target_is q k e rules at = answer_at false open_target_test q.exprs k e at (λ f g same. open_test_same f g e (same_below f g k (named e) same (standing q k e rules at).names))

-- ---- a target is one before resets are signals too

-- what the one answers, the other does
Gives : (ℕ → Bool) → (ℕ → Bool) → Type 0
Gives f g = (k : ℕ) → f k ≡ true → g k ≡ true

every_given : (f g : ℕ → Bool) (es : List ExprId) → Gives f g → list_all (λ (e : ExprId). f e.0) es ≡ true → list_all (λ (e : ExprId). g e.0) es ≡ true
unfolding Gives
every_given f g [] h t = refl
every_given f g (e ∷ es) h t =
    let both = and_parts (f e.0) (list_all (λ (a : ExprId). f a.0) es) t in
    and_from (g e.0) (list_all (λ (a : ExprId). g a.0) es) (h e.0 both.0) (every_given f g es h both.1)

test_given : (f g : ℕ → Bool) (e : Expr) → Gives f g → target_test f e ≡ true → open_target_test g e ≡ true
unfolding Gives
test_given f g (Reset name place) h t = refl
test_given f g (Const n s) h t = t
test_given f g (expr.TheVariants.Sig s) h t = refl
test_given f g (Unary op a) h t = t
test_given f g (Binary op a b) h t = t
test_given f g (Mux s a b) h t = t
test_given f g (Slice a low width) h t = h a.0 t
test_given f g (Cat es) h t = every_given f g es h t
test_given f g (Part a offset width stride) h t = h a.0 t
test_given f g (Pick index es) h t = every_given f g es h t
test_given f g (Cast a signed) h t = h a.0 t
test_given f g (Matches a patterns) h t = t

-- the same of answers one beside the other
AreGiven : List Bool → List Bool → Type 0
AreGiven [] [] = ⊤
AreGiven [] (b ∷ ys) = ⊥
AreGiven (a ∷ xs) [] = ⊥
AreGiven (a ∷ xs) (b ∷ ys) = (a ≡ true → b ≡ true) × AreGiven xs ys

given_at : (xs ys : List Bool) → AreGiven xs ys → (k : ℕ) → slice_index_or xs k false ≡ true → slice_index_or ys k false ≡ true
unfolding AreGiven
given_at [] [] h k t = t
given_at [] (b ∷ ys) h k t = absurd h
given_at (a ∷ xs) [] h k t = absurd h
given_at (a ∷ xs) (b ∷ ys) h zero t = h.0 t
given_at (a ∷ xs) (b ∷ ys) h (suc k) t = given_at xs ys h.1 k t

given_more : (xs ys : List Bool) (a b : Bool) → AreGiven xs ys → (a ≡ true → b ≡ true) → AreGiven (xs ++ a ∷ []) (ys ++ b ∷ [])
unfolding AreGiven
given_more [] [] a b h new = (new, tt)
given_more [] (y ∷ ys) a b h new = absurd h
given_more (x ∷ xs) [] a b h new = absurd h
given_more (x ∷ xs) (y ∷ ys) a b h new = (h.0, given_more xs ys a b h.1 new)

answers_given : (xs ys : List Bool) (es : List Expr) → AreGiven xs ys → AreGiven (answers false target_test xs es) (answers false open_target_test ys es)
unfolding Gives
answers_given xs ys [] h = h
answers_given xs ys (e ∷ es) h =
    let f : ℕ → Bool = λ k. slice_index_or xs k false in
    let g : ℕ → Bool = λ k. slice_index_or ys k false in
    answers_given (xs ++ target_test f e ∷ []) (ys ++ open_target_test g e ∷ []) es (given_more xs ys (target_test f e) (open_target_test g e) h (test_given f g e (given_at xs ys h)))

pub target_is_open : (q : Pooled) (k : ℕ) → is_target q k ≡ true → is_open_target q k ≡ true
unfolding is_target is_open_target AreGiven
target_is_open q k t = given_at (answers false target_test [] q.exprs) (answers false open_target_test [] q.exprs) (answers_given [] [] q.exprs tt) k t
