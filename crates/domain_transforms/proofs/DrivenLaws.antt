-- Marks of signals that statements drive, one after another.
use Rattle.std.proofs.Common.{◌≡◌, ℕ, ◌+◌, ◌<◌, ◌⊎◌, inl, inr, Bool, List, [], ◌∷◌, ◌++◌, length, take, Some, slice_get, refl, sym, ap, ◌∙◌, subst, arith, append-nil, ⊎_elim}
use Rattle.std.specs.List.{AllByRecursion, flat_map}
use Rattle.std.proofs.lemmas.List.Concat.{flat_map-append}
use Rattle.design_ir.specs.declared.ids.ExprId.{ExprId}
use Rattle.design_ir.specs.declared.ids.SigId.{SigId}
use Rattle.design_ir.specs.declared.stmt.Stmt.{Stmt}
use Rattle.design_ir.specs.declared.stmt.Arm.{Arm}
use Rattle.design_ir.specs.declared.expr.Expr.{Expr}
use Rattle.design_ir.specs.declared.expr.Expr.TheVariants as expr
use Rattle.design_ir.specs.Pools.{Pooled}
use Rattle.design_ir.specs.PoolRules.{IsPool}
use Rattle.design_ir.specs.Named.{named, AllBelow}
use Rattle.design_ir.specs.Statements.{statement_of, block_of, choices_of}
use Rattle.design_ir.specs.Targets.{target_signals, signals_step}
use Rattle.fragment_walks.specs.Marks.{marked}
use Rattle.fragment_walks.specs.Reads.{block_targets, choices_targets, statement_targets}
use Rattle.fragment_walks.proofs.Lists.{take-push, all_joined}
use Rattle.fragment_walks.proofs.Markings.{length_marked, marked-append}
use Rattle.fragment_walks.proofs.Trees.{targets-push, arm_targets-push}
use Rattle.clock_domains.proofs.DriverLaws.{small_all, target_none}

pub size_after : (ns : List ℕ) (old cur : List Bool) → cur ≡ marked ns old → length old ≡ 16384 → length cur ≡ 16384
size_after ns old cur h size = ap length h ∙ length_marked ns old ∙ size

pub turn : {X : Type 0} (f : List X → List ℕ) (items : List X) (i : ℕ) (x : X) (more : List ℕ) (old cur new : List Bool) → slice_get items i ≡ Some x → f (take i items ++ x ∷ []) ≡ f (take i items) ++ more → cur ≡ marked (f (take i items)) old → new ≡ marked more cur → new ≡ marked (f (take (i + 1) items)) old
turn f items i x more old cur new at push h k =
    k ∙ ap (marked more) h ∙ sym (marked-append (f (take i items)) more old) ∙ ap (λ ns. marked ns old) (sym (ap f (take-push items i x at) ∙ push))

flat-push : {X : Type 0} (f : X → List ℕ) (xs : List X) (x : X) → flat_map f (xs ++ x ∷ []) ≡ flat_map f xs ++ f x
flat-push f xs x = flat_map-append f xs (x ∷ []) ∙ ap (λ ns. flat_map f xs ++ ns) (append-nil (f x))

pub items_turn : (q : Pooled) (items : List ExprId) (i : ℕ) (x : ExprId) (old cur new : List Bool) → slice_get items i ≡ Some x → cur ≡ marked (flat_map (λ (e : ExprId). target_signals q e.0) (take i items)) old → new ≡ marked (target_signals q x.0) cur
    → new ≡ marked (flat_map (λ (e : ExprId). target_signals q e.0) (take (i + 1) items)) old
items_turn q items i x old cur new at =
    turn (flat_map (λ (e : ExprId). target_signals q e.0)) items i x (target_signals q x.0) old cur new at (flat-push (λ (e : ExprId). target_signals q e.0) (take i items) x)

pub statements_turn : (q : Pooled) (ss : List Stmt) (i : ℕ) (s : Stmt) (old cur new : List Bool) → slice_get ss i ≡ Some s → cur ≡ marked (flat_map (target_signals q) (block_targets (block_of (take i ss)))) old → new ≡ marked (flat_map (target_signals q) (statement_targets (statement_of s))) cur
    → new ≡ marked (flat_map (target_signals q) (block_targets (block_of (take (i + 1) ss)))) old
statements_turn q ss i s old cur new at =
    turn (λ xs. flat_map (target_signals q) (block_targets (block_of xs))) ss i s (flat_map (target_signals q) (statement_targets (statement_of s))) old cur new at
    (ap (flat_map (target_signals q)) (targets-push (take i ss) s) ∙ flat_map-append (target_signals q) (block_targets (block_of (take i ss))) (statement_targets (statement_of s)))

pub arms_turn : (q : Pooled) (arms : List Arm) (i : ℕ) (a : Arm) (old cur new : List Bool) → slice_get arms i ≡ Some a → cur ≡ marked (flat_map (target_signals q) (choices_targets (choices_of (take i arms)))) old → new ≡ marked (flat_map (target_signals q) (block_targets a.body)) cur
    → new ≡ marked (flat_map (target_signals q) (choices_targets (choices_of (take (i + 1) arms)))) old
arms_turn q arms i a old cur new at =
    turn (λ xs. flat_map (target_signals q) (choices_targets (choices_of xs))) arms i a (flat_map (target_signals q) (block_targets a.body)) old cur new at
    (ap (flat_map (target_signals q)) (arm_targets-push (take i arms) a) ∙ flat_map-append (target_signals q) (choices_targets (choices_of (take i arms))) (block_targets a.body))

-- ---- the signals of a target, by the expression that it is

-- the expressions that a join or a pick names
pub joined_signals : (f : ℕ → List ℕ) (e : Expr) (es : List ExprId) → (e ≡ expr.Cat es) ⊎ ((x : ExprId) × (e ≡ expr.Pick x es)) → signals_step f e ≡ flat_map (λ (a : ExprId). f a.0) es
joined_signals f e es h = ⊎_elim (λ (p : e ≡ expr.Cat es). ap (signals_step f) p) (λ (p : (x : ExprId) × (e ≡ expr.Pick x es)). ap (signals_step f) p.1) h

pub joined_below : (k : ℕ) (e : Expr) (es : List ExprId) → (e ≡ expr.Cat es) ⊎ ((x : ExprId) × (e ≡ expr.Pick x es)) → AllBelow k (named e) → AllBelow k es
joined_below k e es h below = ⊎_elim (λ (p : e ≡ expr.Cat es). subst (λ (x : Expr). AllBelow k (named x)) p below) (λ (p : (x : ExprId) × (e ≡ expr.Pick x es)). (subst (λ (x : Expr). AllBelow k (named x)) p.1 below).1) h

-- an expression that stands for bits of another one
abbrev pub Reads : Expr → ExprId → Type 0
Reads e a = ((x y : ℕ) × (e ≡ expr.Slice a x y)) ⊎ (((x : ExprId) × (y z : ℕ) × (e ≡ expr.Part a x y z)) ⊎ ((x : Bool) × (e ≡ expr.Cast a x)))

pub read_signals : (f : ℕ → List ℕ) (e : Expr) (a : ExprId) → Reads e a → signals_step f e ≡ f a.0
read_signals f e a (inl (x, y, p)) = ap (signals_step f) p
read_signals f e a (inr (inl (x, y, z, p))) = ap (signals_step f) p
read_signals f e a (inr (inr (x, p))) = ap (signals_step f) p

pub read_below : (k : ℕ) (e : Expr) (a : ExprId) → Reads e a → AllBelow k (named e) → a.0 < k
read_below k e a (inl (x, y, p)) h = (subst (λ (z : Expr). AllBelow k (named z)) p h).0
read_below k e a (inr (inl (x, y, z, p))) h = (subst (λ (z : Expr). AllBelow k (named z)) p h).0
read_below k e a (inr (inr (x, p))) h = (subst (λ (z : Expr). AllBelow k (named z)) p h).0

-- an expression that stands for no bits
pub other_signals : (f : ℕ → List ℕ) (e : Expr) → ((s : SigId) → e ≡ expr.Sig s → ⊥) → ((a : ExprId) (x y : ℕ) → e ≡ expr.Slice a x y → ⊥) → ((es : List ExprId) → e ≡ expr.Cat es → ⊥) → ((a b : ExprId) (x y : ℕ) → e ≡ expr.Part a b x y → ⊥) → ((a : ExprId) (es : List ExprId) → e ≡ expr.Pick a es → ⊥)
    → ((a : ExprId) (x : Bool) → e ≡ expr.Cast a x → ⊥) → signals_step f e ≡ []
other_signals f (expr.Const n s) sig slice cat part pick cast = refl
other_signals f (expr.Sig s) sig slice cat part pick cast = absurd (sig s refl)
other_signals f (expr.Unary op a) sig slice cat part pick cast = refl
other_signals f (expr.Binary op a b) sig slice cat part pick cast = refl
other_signals f (expr.Mux s a b) sig slice cat part pick cast = refl
other_signals f (expr.Slice a low width) sig slice cat part pick cast = absurd (slice a low width refl)
other_signals f (expr.Cat es) sig slice cat part pick cast = absurd (cat es refl)
other_signals f (expr.Part a offset width stride) sig slice cat part pick cast = absurd (part a offset width stride refl)
other_signals f (expr.Pick index es) sig slice cat part pick cast = absurd (pick index es refl)
other_signals f (expr.Cast a signed) sig slice cat part pick cast = absurd (cast a signed refl)
other_signals f (expr.Matches a patterns) sig slice cat part pick cast = refl
other_signals f (expr.Reset domain place) sig slice cat part pick cast = refl

-- each of them is a signal of the pool
pub targets_low : (q : Pooled) (ts : List ℕ) → IsPool q → AllByRecursion (λ s. s < 16384) (flat_map (target_signals q) ts)
targets_low q [] rules = tt
targets_low q (t ∷ ts) rules = all_joined (λ s. s < 16384) (target_signals q t) (flat_map (target_signals q) ts) (small_all 16384 (target_signals q t) (λ s le. target_none q t s rules (omega (arith, le, rules.few_signals)))) (targets_low q ts rules)
