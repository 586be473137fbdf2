-- Which targets are fixed, by the expressions that they name.
use Rattle.std.specs.Prelude.{◌≡◌, refl, ℕ, zero, suc, ◌<◌, ◌&&◌, ◌⊎◌, Bool, true, false, List, [], ◌∷◌, length, slice_get, slice_index_or, Some}
use Rattle.std.specs.List.{list_all}
use Rattle.std.proofs.Common.{ap, arith, subst, inl, inr}
use Rattle.std.proofs.lemmas.Bool.{and_parts}
use Rattle.design_ir.specs.declared.ids.ExprId.{ExprId}
use Rattle.design_ir.specs.declared.ids.SigId.{SigId}
use Rattle.design_ir.specs.declared.expr.Expr.{Expr}
use Rattle.design_ir.specs.declared.expr.Expr.TheVariants as expr
use Rattle.amh_host.specs.declared.place.Place.{Place}
use Rattle.design_ir.specs.Pools.{Pooled}
use Rattle.design_ir.specs.PoolRules.{IsPool}
use Rattle.design_ir.specs.Named.{named, AllBelow}
use Rattle.design_ir.specs.Trees.{assign, choose, Block, done, next, block_and}
use Rattle.design_ir.specs.Fixed.{is_fixed, fixed_step, is_plain}
use Rattle.design_ir.proofs.Congruence.{AreSame, same_below}
use Rattle.design_ir.proofs.Equations.{standing, answer_at}

all_same : (f g : ℕ → Bool) (es : List ExprId) → AreSame f g es → list_all (λ (e : ExprId). f e.0) es ≡ list_all (λ (e : ExprId). g e.0) es
all_same f g [] h = refl
all_same f g (e ∷ es) h = let a = h.0 in let b = all_same f g es h.1 in λ i. a i && b i

step_same : (f g : ℕ → Bool) (e : Expr) → AreSame f g (named e) → fixed_step f e ≡ fixed_step g e
step_same f g (expr.Const n s) h = refl
step_same f g (expr.Sig s) h = refl
step_same f g (expr.Unary op a) h = refl
step_same f g (expr.Binary op a b) h = refl
step_same f g (expr.Mux s a b) h = refl
step_same f g (expr.Slice a low width) h = h.0
step_same f g (expr.Cat es) h = all_same f g es h
step_same f g (expr.Part a offset width stride) h = refl
step_same f g (expr.Pick index es) h = refl
step_same f g (expr.Cast a signed) h = h.0
step_same f g (expr.Matches a patterns) h = refl
step_same f g (expr.Reset domain place) h = refl

pub is_fixed_is : (p : Pooled) (k : ℕ) (e : Expr) → IsPool p → slice_get p.exprs k ≡ Some e → is_fixed p k ≡ fixed_step (is_fixed p) e
unfolding is_fixed
is_fixed_is p k e h is =
    let names = (standing p k e h is).names in
    answer_at false fixed_step p.exprs k e is (λ f g same. step_same f g e (same_below f g k (named e) same names))

-- an expression that is fixed where another one is
abbrev pub IsReadOf : Expr → ExprId → Type 0
IsReadOf e a = ((x : ℕ) × (y : ℕ) × (e ≡ expr.Slice a x y)) ⊎ ((x : Bool) × (e ≡ expr.Cast a x))

pub read_fixed : (f : ℕ → Bool) (e : Expr) (a : ExprId) → IsReadOf e a → fixed_step f e ≡ f a.0
read_fixed f e a (inl (x, y, p)) = ap (fixed_step f) p
read_fixed f e a (inr (x, p)) = ap (fixed_step f) p

pub read_of_below : (k : ℕ) (e : Expr) (a : ExprId) → IsReadOf e a → AllBelow k (named e) → a.0 < k
read_of_below k e a (inl (x, y, p)) h = (subst (λ (z : Expr). AllBelow k (named z)) p h).0
read_of_below k e a (inr (x, p)) h = (subst (λ (z : Expr). AllBelow k (named z)) p h).0

pub other_fixed : (f : ℕ → Bool) (e : Expr) → ((s : SigId) → e ≡ expr.Sig s → ⊥) → ((a : ExprId) (x y : ℕ) → e ≡ expr.Slice a x y → ⊥) → ((es : List ExprId) → e ≡ expr.Cat es → ⊥) → ((a : ExprId) (x : Bool) → e ≡ expr.Cast a x → ⊥) → fixed_step f e ≡ false
other_fixed f (expr.Const n s) sig slice cat cast = refl
other_fixed f (expr.Sig s) sig slice cat cast = absurd (sig s refl)
other_fixed f (expr.Unary op a) sig slice cat cast = refl
other_fixed f (expr.Binary op a b) sig slice cat cast = refl
other_fixed f (expr.Mux s a b) sig slice cat cast = refl
other_fixed f (expr.Slice a low width) sig slice cat cast = absurd (slice a low width refl)
other_fixed f (expr.Cat es) sig slice cat cast = absurd (cat es refl)
other_fixed f (expr.Part a offset width stride) sig slice cat cast = refl
other_fixed f (expr.Pick index es) sig slice cat cast = refl
other_fixed f (expr.Cast a signed) sig slice cat cast = absurd (cast a signed refl)
other_fixed f (expr.Matches a patterns) sig slice cat cast = refl
other_fixed f (expr.Reset domain place) sig slice cat cast = refl

-- one that is not fixed
not_both : (a b : Bool) → b ≡ false → (a && b) ≡ false
not_both true b e = e
not_both false b e = refl

pub one_not_fixed : (f : ℕ → Bool) (es : List ExprId) (i : ℕ) (d : ExprId) → i < length es → f (slice_index_or es i d).0 ≡ false → list_all (λ (e : ExprId). f e.0) es ≡ false
one_not_fixed f [] i d h e = absurd (omega (arith, h))
one_not_fixed f (x ∷ es) zero d h e = ap (λ b. b && list_all (λ (y : ExprId). f y.0) es) e
one_not_fixed f (x ∷ es) (suc i) d h e = not_both (f x.0) (list_all (λ (y : ExprId). f y.0) es) (one_not_fixed f es i d (omega (arith, h)) e)

pub plain_push : (p : Pooled) (b : Block) (t v : ExprId) (place : Place) → is_plain p b ≡ true → is_fixed p t.0 ≡ true → is_plain p (block_and b (assign t v place)) ≡ true
plain_push p done t v place h e = λ i. e i && true
plain_push p (next (assign u x at) rest) t v place h e =
    let parts = and_parts (is_fixed p u.0) (is_plain p rest) h in
    let one = parts.0 in
    let others = plain_push p rest t v place parts.1 e in
    λ i. one i && others i
plain_push p (next (choose arms) rest) t v place h e = absurd cc
