-- The signals of which a target is a part, from those of the expressions that it names.
use Rattle.std.specs.Prelude.{◌≡◌, refl, ℕ, ◌<◌, List, [], ◌∷◌, slice_get, slice_index_or, Some}
use Rattle.std.specs.List.{flat_map, AllByRecursion}
use Rattle.std.proofs.Common.{sym, ◌∙◌, ap}
use Rattle.design_ir.specs.declared.ids.ExprId.{ExprId}
use Rattle.design_ir.specs.declared.ids.SigId.{SigId}
use Rattle.design_ir.specs.declared.expr.Expr as expr
use Rattle.design_ir.specs.declared.expr.Expr.{Expr}
use Rattle.design_ir.specs.declared.expr.Expr.TheVariants.{Const, Unary, Binary, Mux, Slice, Cat, Part, Pick, Cast, Matches, Reset}
use Rattle.design_ir.specs.Circuits.{is_among}
use Rattle.design_ir.specs.Named.{named, AllBelow}
use Rattle.design_ir.specs.Pools.{Pooled}
use Rattle.design_ir.specs.PoolRules.{IsPool}
use Rattle.design_ir.specs.Targets.{signals_step, target_signals}
use Rattle.design_ir.proofs.Congruence.{AreSame, same_below}
use Rattle.design_ir.proofs.Equations.{standing, answer_at}
use Rattle.sim_plans.specs.Driven.{AreTargets, IsLike, numbers_of}
use Rattle.sim_plans.proofs.Likes.{like_append}

flat_same : (f g : ℕ → List ℕ) (es : List ExprId) → AreSame f g es → flat_map (λ (e : ExprId). f e.0) es ≡ flat_map (λ (e : ExprId). g e.0) es
flat_same f g [] h = refl
flat_same f g (e ∷ es) h = let a = h.0 in let b = flat_same f g es h.1 in cc

step_same : (f g : ℕ → List ℕ) (e : Expr) → AreSame f g (named e) → signals_step f e ≡ signals_step g e
step_same f g (Const n s) h = refl
step_same f g (expr.TheVariants.Sig s) h = refl
step_same f g (Unary op a) h = refl
step_same f g (Binary op a b) h = refl
step_same f g (Mux s a b) h = refl
step_same f g (Slice a low width) h = h.0
step_same f g (Cat es) h = flat_same f g es h
step_same f g (Part a offset width stride) h = h.0
step_same f g (Pick index es) h = flat_same f g es h.1
step_same f g (Cast a signed) h = h.0
step_same f g (Matches a patterns) h = refl
step_same f g (Reset domain place) h = refl

pub signals_are : (p : Pooled) (k : ℕ) (e : Expr) → IsPool p → slice_get p.exprs k ≡ Some e → target_signals p k ≡ signals_step (target_signals p) e
unfolding target_signals
signals_are p k e rules is =
    let names = (standing p k e rules is).names in
    answer_at [] signals_step p.exprs k e is (λ f g same. step_same f g e (same_below f g k (named e) same names))

-- the same numbers are among both for each of these
abbrev AreLike : (ℕ → List ℕ) → (ℕ → List ℕ) → List ExprId → Type 0
AreLike f g es = AllByRecursion (λ (e : ExprId). IsLike (f e.0) (g e.0)) es

like_below : (f g : ℕ → List ℕ) (k : ℕ) (es : List ExprId) → ((j : ℕ) → j < k → IsLike (f j) (g j)) → AllBelow k es → AreLike f g es
like_below f g k [] like h = tt
like_below f g k (e ∷ es) like h = (like e.0 h.0, like_below f g k es like h.1)

flat_like : (f g : ℕ → List ℕ) (es : List ExprId) → AreLike f g es → IsLike (flat_map (λ (e : ExprId). f e.0) es) (flat_map (λ (e : ExprId). g e.0) es)
flat_like f g [] h = λ s. refl
flat_like f g (e ∷ es) h = like_append (f e.0) (flat_map (λ (x : ExprId). f x.0) es) (g e.0) (flat_map (λ (x : ExprId). g x.0) es) h.0 (flat_like f g es h.1)

step_like : (f g : ℕ → List ℕ) (e : Expr) → AreLike f g (named e) → IsLike (signals_step f e) (signals_step g e)
step_like f g (Const n s) h = λ t. refl
step_like f g (expr.TheVariants.Sig s) h = λ t. refl
step_like f g (Unary op a) h = λ t. refl
step_like f g (Binary op a b) h = λ t. refl
step_like f g (Mux s a b) h = λ t. refl
step_like f g (Slice a low width) h = h.0
step_like f g (Cat es) h = flat_like f g es h
step_like f g (Part a offset width stride) h = h.0
step_like f g (Pick index es) h = flat_like f g es h.1
step_like f g (Cast a signed) h = h.0
step_like f g (Matches a patterns) h = λ t. refl
step_like f g (Reset domain place) h = λ t. refl

pub target_like : (p : Pooled) (all : List (List SigId)) (k : ℕ) (e : Expr) (signals : List ℕ) → IsPool p → slice_get p.exprs k ≡ Some e → AreTargets p k all → IsLike signals (signals_step (λ j. numbers_of (slice_index_or all j [])) e) → IsLike signals (target_signals p k)
target_like p all k e signals rules is known like = λ s.
    like s
    ∙ step_like (λ j. numbers_of (slice_index_or all j [])) (target_signals p) e (like_below (λ j. numbers_of (slice_index_or all j [])) (target_signals p) k (named e) known.each (standing p k e rules is).names) s
    ∙ ap (λ xs. is_among xs s) (sym (signals_are p k e rules is))
