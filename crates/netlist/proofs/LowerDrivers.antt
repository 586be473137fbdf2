-- Places that signals are given, target by target.
use Rattle.std.proofs.Common.{◌≡◌, ◌<◌, ◌+◌, ◌-◌, ◌==◌, ◌||◌, ℕ, zero, suc, Bool, true, false, cond, List, [], ◌∷◌, ◌++◌, length, take, get_or, set, refl, sym, ap, ◌∙◌, arith, subst, append_assoc, append-nil, ◌⊎◌, ⊎_elim, inl, inr, ℤ}
use Rattle.std.specs.Prelude.{Option, Some, None, slice_get}
use Rattle.std.specs.List.{flat_map, AllByRecursion}
use Rattle.std.proofs.lemmas.Bool.{and_parts, false≢true}
use Rattle.std.proofs.lemmas.List.{length-set, take_more}
use Rattle.std.proofs.lemmas.Option.{slice_get_read}
use Rattle.std.proofs.lemmas.List.Concat.{flat_map-append}
use Rattle.std.proofs.lemmas.List.Folds.{list_any-append}
use Rattle.amh_host.specs.declared.place.Place.{Place}
use Rattle.shape_rules.specs.Forms.{Form}
use Rattle.shape_rules.specs.declared.op.Op.{Op}
use Rattle.design_ir.specs.declared.expr.Pattern.{Pattern}
use Rattle.design_ir.specs.declared.ids.ExprId.{ExprId}
use Rattle.design_ir.specs.declared.expr.Expr.{Expr}
use Rattle.design_ir.specs.declared.expr.Expr.TheVariants as expr
use Rattle.design_ir.specs.declared.stmt.Stmt.{Stmt}
use Rattle.design_ir.specs.declared.stmt.Stmt.TheVariants as stmt
use Rattle.design_ir.specs.declared.process.DesignProcess.{DesignProcess}
use Rattle.design_ir.specs.Named.{named, AllBelow}
use Rattle.design_ir.specs.Pools.{Pooled}
use Rattle.design_ir.specs.PoolRules.{IsPool}
use Rattle.design_ir.specs.Targets.{signals_step, target_signals}
use Rattle.design_ir.specs.Trees.{Statement, Block, next}
use Rattle.design_ir.specs.Statements.{statement_of, block_of}
use Rattle.design_ir.specs.Guards.{Guarded, driven, guarded, guarded_in, block_exprs}
use Rattle.design_ir.specs.Circuits.{Circuit, is_among}
use Rattle.design_ir.proofs.Congruence.{AreSame, same_below}
use Rattle.design_ir.proofs.Equations.{standing, answer_at}
use Rattle.netlist_laws.specs.Latest.{is_fixed, is_plain}
use Rattle.netlist_laws.specs.Module.{drives}
use Rattle.netlist_cells.specs.Places.{ArePlaces}
use Rattle.netlist.specs.Tables.{IsMarked}
use Rattle.netlist_cells.proofs.LowerPlaces.{one_write, places_more}

-- ---- the signals of a target, by those of the expressions that it names

flat_same : {A : Type 0} (f g : ℕ → List A) (es : List ExprId) → AreSame f g es → flat_map (λ (e : ExprId). f e.0) es ≡ flat_map (λ (e : ExprId). g e.0) es
flat_same f g [] h = refl
flat_same f g (e ∷ es) h = let a = h.0 in let b = flat_same f g es h.1 in cc

signals_same : (f g : ℕ → List ℕ) (e : Expr) → AreSame f g (named e) → signals_step f e ≡ signals_step g e
signals_same f g (expr.Const n s) h = refl
signals_same f g (expr.Sig s) h = refl
signals_same f g (expr.Unary op a) h = refl
signals_same f g (expr.Binary op a b) h = refl
signals_same f g (expr.Mux s a b) h = refl
signals_same f g (expr.Slice a low width) h = h.0
signals_same f g (expr.Cat es) h = flat_same f g es h
signals_same f g (expr.Part a offset width stride) h = h.0
signals_same f g (expr.Pick index es) h = flat_same f g es h.1
signals_same f g (expr.Cast a signed) h = h.0
signals_same f g (expr.Matches a patterns) h = refl
signals_same f g (expr.Reset domain place) h = refl

pub target_signals_is : (p : Pooled) (k : ℕ) (e : Expr) → IsPool p → slice_get p.exprs k ≡ Some e → target_signals p k ≡ signals_step (target_signals p) e
unfolding target_signals
target_signals_is p k e h is =
    let names = (standing p k e h is).names in
    answer_at [] signals_step p.exprs k e is (λ f g same. signals_same f g e (same_below f g k (named e) same names))

-- ---- marks

pub marked_none : (k : ℕ) (places : List (Option ℕ)) → IsMarked [] k places places
marked_none k places = record { long = refl; each = λ s. refl }

pub marked_one : (t k : ℕ) (places : List (Option ℕ)) → t < length places → IsMarked (t ∷ []) k places (set places t (Some k))
marked_one t k places lt = record { long = length-set places t (Some k); each = λ s. one_write places t k s lt ∙ ap (λ b. cond b (Some k) (get_or places s None)) (sym (or_false (t == s))) }
  where
    or_false : (b : Bool) → (b || false) ≡ b
    or_false true = refl
    or_false false = refl

either : (a b : Bool) (k : ℕ) (o : Option ℕ) → cond b (Some k) (cond a (Some k) o) ≡ cond (a || b) (Some k) o
either true true k o = refl
either true false k o = refl
either false true k o = refl
either false false k o = refl

pub marked_both : (xs ys : List ℕ) (k : ℕ) (p q r : List (Option ℕ)) → IsMarked xs k p q → IsMarked ys k q r → IsMarked (xs ++ ys) k p r
marked_both xs ys k p q r a b = record {
  long = b.long ∙ a.long;
  each = λ s. b.each s ∙ ap (λ o. cond (is_among ys s) (Some k) o) (a.each s) ∙ either (is_among xs s) (is_among ys s) k (get_or p s None) ∙ ap (λ t. cond t (Some k) (get_or p s None)) (sym (list_any-append (λ x. x == s) xs ys));
}

-- ---- turns of the loops

pub marked_turn : (f : ℕ → List ℕ) (es : List ExprId) (i k : ℕ) (d : ExprId) (p q r : List (Option ℕ)) → i < length es → IsMarked (flat_map (λ (e : ExprId). f e.0) (take i es)) k p q → IsMarked (f (get_or es i d).0) k q r
    → IsMarked (flat_map (λ (e : ExprId). f e.0) (take (i + 1) es)) k p r
marked_turn f es i k d p q r lt before now =
    let g : ExprId → List ℕ = λ e. f e.0 in
    let whole : flat_map g (take (i + 1) es) ≡ flat_map g (take i es) ++ f (get_or es i d).0 =
    ap (flat_map g) (take_more es i d lt) ∙ flat_map-append g (take i es) (get_or es i d ∷ []) ∙ ap (λ xs. flat_map g (take i es) ++ xs) (append-nil (f (get_or es i d).0)) in
    subst (λ ss. IsMarked ss k p r) (sym whole) (marked_both (flat_map g (take i es)) (f (get_or es i d).0) k p q r before now)

-- one statement more
driven_in : Pooled → Statement → List ℕ
driven_in pool s = flat_map (λ (g : Guarded). target_signals pool g.target.0) (guarded_in [] s)

driven_next : (pool : Pooled) (s : Statement) (rest : Block) → driven pool (next s rest) ≡ driven_in pool s ++ driven pool rest
unfolding driven_in
driven_next pool s rest = flat_map-append (λ (g : Guarded). target_signals pool g.target.0) (guarded_in [] s) (guarded [] rest)

driven_more : (pool : Pooled) (ss : List Stmt) (s : Stmt) → driven pool (block_of (ss ++ s ∷ [])) ≡ driven pool (block_of ss) ++ driven pool (block_of (s ∷ []))
driven_more pool [] s = refl
driven_more pool (x ∷ ss) s =
    let one : List ℕ = driven pool (block_of (s ∷ [])) in
    driven_next pool (statement_of x) (block_of (ss ++ s ∷ [])) ∙ ap (λ r. driven_in pool (statement_of x) ++ r) (driven_more pool ss s)
    ∙ sym (append_assoc (driven_in pool (statement_of x)) (driven pool (block_of ss)) one) ∙ ap (λ r. r ++ one) (sym (driven_next pool (statement_of x) (block_of ss)))

-- ---- statements of plain blocks

-- an assignment to a fixed target, whose expressions are there
abbrev pub IsPlainStmt : Pooled → Stmt → Type 0
IsPlainStmt pool (stmt.Assign t v p) = (is_fixed pool t.0 ≡ true) × (t.0 < length pool.exprs) × (v.0 < length pool.exprs)
IsPlainStmt pool (stmt.Choose arms) = ⊥

plain_each : (pool : Pooled) (ss : List Stmt) → is_plain pool (block_of ss) ≡ true → AllByRecursion (λ (e : ExprId). e.0 < length pool.exprs) (block_exprs (block_of ss)) → AllByRecursion (IsPlainStmt pool) ss
plain_each pool [] plain there = tt
plain_each pool (stmt.Assign t v p ∷ ss) plain there =
    let parts = and_parts (is_fixed pool t.0) (is_plain pool (block_of ss)) plain in ((parts.0, there.0, there.1.0), plain_each pool ss parts.1 there.1.1)
plain_each pool (stmt.Choose arms ∷ ss) plain there = absurd (false≢true plain)

at_index : (P : Stmt → Type 0) (ss : List Stmt) (i : ℕ) (s : Stmt) → AllByRecursion P ss → i < length ss → s ≡ get_or ss i s → P s
at_index P [] i s h lt is = absurd (omega arith)
at_index P (x ∷ ss) zero s h lt is = subst P (sym is) h.0
at_index P (x ∷ ss) (suc i) s h lt is = at_index P ss i s h.1 (omega arith) is

pub plain_at : (pool : Pooled) (body : Block) (ss : List Stmt) (i : ℕ) (s : Stmt) → block_of ss ≡ body → is_plain pool body ≡ true → AllByRecursion (λ (e : ExprId). e.0 < length pool.exprs) (block_exprs body) → i < length ss → s ≡ get_or ss i s → IsPlainStmt pool s
plain_at pool body ss i s same plain there lt is =
    at_index (IsPlainStmt pool) ss i s (plain_each pool ss (ap (is_plain pool) same ∙ plain) (subst (λ b. AllByRecursion (λ (e : ExprId). e.0 < length pool.exprs) (block_exprs b)) (sym same) there)) lt is

pub driven_turn : (pool : Pooled) (ss : List Stmt) (i k : ℕ) (t v : ExprId) (place : Place) (p q r : List (Option ℕ)) → i < length ss → stmt.Assign t v place ≡ get_or ss i (stmt.Assign t v place)
    → IsMarked (driven pool (block_of (take i ss))) k p q → IsMarked (target_signals pool t.0) k q r → IsMarked (driven pool (block_of (take (i + 1) ss))) k p r
driven_turn pool ss i k t v place p q r lt is before now =
    let s : Stmt = stmt.Assign t v place in
    let more : take (i + 1) ss ≡ take i ss ++ s ∷ [] = take_more ss i s lt ∙ ap (λ (x : Stmt). take i ss ++ x ∷ []) (sym is) in
    let whole : driven pool (block_of (take (i + 1) ss)) ≡ driven pool (block_of (take i ss)) ++ target_signals pool t.0 =
    ap (λ xs. driven pool (block_of xs)) more ∙ driven_more pool (take i ss) s ∙ ap (λ xs. driven pool (block_of (take i ss)) ++ xs) (append-nil (target_signals pool t.0)) in
    subst (λ xs. IsMarked xs k p r) (sym whole) (marked_both (driven pool (block_of (take i ss))) (target_signals pool t.0) k p q r before now)

pub marked_as : (ss ts : List ℕ) (k : ℕ) (p q : List (Option ℕ)) → ss ≡ ts → IsMarked ts k p q → IsMarked ss k p q
marked_as ss ts k p q same h = subst (λ xs. IsMarked xs k p q) (sym same) h

-- the expressions that a join or a pick names
pub joined_signals : (f : ℕ → List ℕ) (e : Expr) (es : List ExprId) → (e ≡ expr.Cat es) ⊎ ((x : ExprId) × (e ≡ expr.Pick x es)) → signals_step f e ≡ flat_map (λ (a : ExprId). f a.0) es
joined_signals f e es h = ⊎_elim (λ (p : e ≡ expr.Cat es). ap (signals_step f) p) (λ (p : (x : ExprId) × (e ≡ expr.Pick x es)). ap (signals_step f) p.1) h

pub joined_below : (k : ℕ) (e : Expr) (es : List ExprId) → (e ≡ expr.Cat es) ⊎ ((x : ExprId) × (e ≡ expr.Pick x es)) → AllBelow k (named e) → AllBelow k es
joined_below k e es h below = ⊎_elim (λ (p : e ≡ expr.Cat es). subst (λ (x : Expr). AllBelow k (named x)) p below) (λ (p : (x : ExprId) × (e ≡ expr.Pick x es)). (subst (λ (x : Expr). AllBelow k (named x)) p.1 below).1) h

-- ---- expressions that stand for no bits, and those that read another one

abbrev pub IsLeaf : Expr → Type 0
IsLeaf e =
    ((x : ℤ) × (y : Form) × (e ≡ expr.Const x y))
    ⊎ (((x : Op) × (y : ExprId) × (e ≡ expr.Unary x y))
    ⊎ (((x : Op) × (y : ExprId) × (z : ExprId) × (e ≡ expr.Binary x y z))
    ⊎ (((x : ExprId) × (y : ExprId) × (z : ExprId) × (e ≡ expr.Mux x y z))
    ⊎ (((x : ExprId) × (y : List Pattern) × (e ≡ expr.Matches x y))
    ⊎ ((x : List ℕ) × (y : Place) × (e ≡ expr.Reset x y))))))

pub leaf_signals : (f : ℕ → List ℕ) (e : Expr) → IsLeaf e → signals_step f e ≡ []
leaf_signals f e (inl (x, y, p)) = ap (signals_step f) p
leaf_signals f e (inr (inl (x, y, p))) = ap (signals_step f) p
leaf_signals f e (inr (inr (inl (x, y, z, p)))) = ap (signals_step f) p
leaf_signals f e (inr (inr (inr (inl (x, y, z, p))))) = ap (signals_step f) p
leaf_signals f e (inr (inr (inr (inr (inl (x, y, p)))))) = ap (signals_step f) p
leaf_signals f e (inr (inr (inr (inr (inr (x, y, p)))))) = ap (signals_step f) p

abbrev pub Reads : Expr → ExprId → Type 0
Reads e a = ((x : ℕ) × (y : ℕ) × (e ≡ expr.Slice a x y)) ⊎ (((x : ExprId) × (y : ℕ) × (z : ℕ) × (e ≡ expr.Part a x y z)) ⊎ ((x : Bool) × (e ≡ expr.Cast a x)))

pub read_signals : (f : ℕ → List ℕ) (e : Expr) (a : ExprId) → Reads e a → signals_step f e ≡ f a.0
read_signals f e a (inl (x, y, p)) = ap (signals_step f) p
read_signals f e a (inr (inl (x, y, z, p))) = ap (signals_step f) p
read_signals f e a (inr (inr (x, p))) = ap (signals_step f) p

pub read_below : (k : ℕ) (e : Expr) (a : ExprId) → Reads e a → AllBelow k (named e) → a.0 < k
read_below k e a (inl (x, y, p)) h = (subst (λ (z : Expr). AllBelow k (named z)) p h).0
read_below k e a (inr (inl (x, y, z, p))) h = (subst (λ (z : Expr). AllBelow k (named z)) p h).0
read_below k e a (inr (inr (x, p))) h = (subst (λ (z : Expr). AllBelow k (named z)) p h).0

pub leaf_marked : (pool : Pooled) (t k : ℕ) (e : Expr) (places : List (Option ℕ)) → IsPool pool → slice_get pool.exprs t ≡ Some e → IsLeaf e → IsMarked (target_signals pool t) k places places
leaf_marked pool t k e places h is leaf =
    marked_as (target_signals pool t) [] k places places (target_signals_is pool t e h is ∙ leaf_signals (target_signals pool) e leaf) (marked_none k places)

-- ---- processes, from the last on

pub drivers_turn : (c : Circuit) (ps : List DesignProcess) (count j : ℕ) (p : DesignProcess) (places places' : List (Option ℕ)) → ps ≡ c.processes → j < count → count ≡ length ps → p ≡ get_or ps (count - 1 - j) p
    → ArePlaces DesignProcess (drives c) c.processes (count - j) (length c.pool.signals) places → IsMarked (driven c.pool p.body) (count - 1 - j) places places' → ArePlaces DesignProcess (drives c) c.processes (count - (j + 1)) (length c.pool.signals) places'
drivers_turn c ps count j p places places' same lt all is old marked =
    let n : ℕ = length c.pool.signals in
    let k : ℕ = count - 1 - j in
    let next : count - j ≡ k + 1 = omega arith in
    let here : count - (j + 1) ≡ k = omega arith in
    let inside : k < length ps = omega (arith, all) in
    let at : slice_get c.processes k ≡ Some p = subst (λ (xs : List DesignProcess). slice_get xs k ≡ Some p) same (slice_get_read ps (length ps) k p refl inside is) in
    let before : ArePlaces DesignProcess (drives c) c.processes (k + 1) n places = subst (λ i. ArePlaces DesignProcess (drives c) c.processes i n places) next old in
    subst (λ i. ArePlaces DesignProcess (drives c) c.processes i n places') (sym here)
    (places_more DesignProcess (drives c) c.processes k n p places places' (omega (arith, inside, ap length same)) at before (marked.long ∙ old.long) (λ s below. marked.each s))
