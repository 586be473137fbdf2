-- Signals that are found one after another.
use Rattle.std.specs.Prelude.{◌≡◌, ◌≢◌, refl, ℕ, zero, suc, ◌+◌, ◌<◌, ◌==◌, ◌||◌, Bool, true, false, List, [], ◌∷◌, ◌++◌, take, length, slice_get, slice_index_or, slice_set, Some, Result, Ok, Err, OnOk, IfOk, ◌⊎◌}
use Rattle.std.specs.List.{flat_map}
use Rattle.std.proofs.Common.{sym, ◌∙◌, ap, arith, subst, append_assoc, append-nil, ⊎_elim, inl, inr}
use Rattle.std.proofs.lemmas.Bool.{cases_eq, cases_Bool, eq-eqb, eqb-true, false≢true}
use Rattle.std.proofs.lemmas.List.{take_more, length-set, get_or-set_same, get_or-set_other}
use Rattle.std.proofs.lemmas.List.Elements.{All-push}
use Rattle.std.proofs.lemmas.List.Concat.{flat_map-append}
use Rattle.std.proofs.lemmas.List.Folds.{list_any-append}
use Rattle.design_ir.specs.declared.ids.ExprId.{ExprId}
use Rattle.design_ir.specs.declared.ids.SigId.{SigId}
use Rattle.design_ir.specs.declared.expr.Expr.{Expr}
use Rattle.design_ir.specs.declared.expr.Expr.TheVariants as expr
use Rattle.design_ir.specs.Pools.{Pooled}
use Rattle.design_ir.specs.PoolRules.{IsPool}
use Rattle.design_ir.specs.Named.{named, AllBelow}
use Rattle.design_ir.specs.Targets.{target_signals, signals_step}
use Rattle.design_ir.specs.Guards.{Guarded}
use Rattle.design_ir.specs.Circuits.{is_among}
use Rattle.design_ir.proofs.Congruence.{AreSame, same_below}
use Rattle.design_ir.proofs.Equations.{standing, answer_at}
use Rattle.flat_design.specs.Found.{AreFound, numbers_of, targets_of}

pub among_append : (xs ys : List ℕ) (s : ℕ) → is_among (xs ++ ys) s ≡ (is_among xs s || is_among ys s)
among_append xs ys s = list_any-append (λ x. x == s) xs ys

numbers_push : (xs : List SigId) (x : SigId) → numbers_of (xs ++ x ∷ []) ≡ numbers_of xs ++ x.0 ∷ []
numbers_push [] x = refl
numbers_push (y ∷ xs) x = ap (λ ys. y.0 ∷ ys) (numbers_push xs x)

not_eqb : (a b : ℕ) → a ≢ b → (a == b) ≡ false
not_eqb a b apart = ⊎_elim (λ (e : (a == b) ≡ true). absurd (apart (eqb-true a b e))) (λ e. e) (cases_Bool (a == b))

or_true : (a b c : Bool) → b ≡ true → true ≡ (a || (b || c))
or_true true b c e = refl
or_true false true c e = refl
or_true false false c e = absurd (false≢true e)

or_false : (a b : Bool) → b ≡ false → a ≡ (a || (b || false))
or_false true b e = refl
or_false false b e = sym (ap (λ x. x || false) e)

or_kept : (a b : Bool) → a ≡ true → a ≡ (a || b)
or_kept true b e = refl
or_kept false b e = absurd (false≢true e)

module _ (n : ℕ) (ss : List ℕ) (marks : List Bool) (signals : List SigId) (x : SigId) (h : AreFound n ss marks signals) where
  marked_more : x.0 < length marks → (s : ℕ) → slice_index_or (slice_set marks x.0 true) s false ≡ is_among (ss ++ x.0 ∷ []) s
  marked_more there s =
      ⊎_elim
      (λ (e : s ≡ x.0). subst (λ u. slice_index_or (slice_set marks x.0 true) u false ≡ (is_among ss u || ((x.0 == u) || false))) (sym e) (get_or-set_same marks x.0 true false there ∙ or_true (is_among ss x.0) (x.0 == x.0) false (eq-eqb x.0 x.0 refl)))
      (λ (apart : s ≢ x.0). get_or-set_other marks x.0 s true false apart ∙ h.marked s ∙ or_false (is_among ss s) (x.0 == s) (not_eqb x.0 s (λ e. apart (sym e))))
      (cases_eq s x.0)
      ∙ sym (among_append ss (x.0 ∷ []) s)

  pub found_push : x.0 < length marks → AreFound n (ss ++ x.0 ∷ []) (slice_set marks x.0 true) (signals ++ x ∷ [])
  found_push there = record {
    size = length-set marks x.0 true ∙ h.size;
    marked = marked_more there;
    listed = λ s.
        ap (λ ys. is_among ys s) (numbers_push signals x) ∙ among_append (numbers_of signals) (x.0 ∷ []) s ∙ ap (λ b. b || is_among (x.0 ∷ []) s) (h.listed s) ∙ sym (among_append ss (x.0 ∷ []) s);
    there = All-push (λ (y : SigId). y.0 < n) signals x h.there (omega (arith, there, h.size));
  }

  already : is_among ss x.0 ≡ true → (s : ℕ) → is_among ss s ≡ is_among (ss ++ x.0 ∷ []) s
  already is s =
      ⊎_elim
      (λ (e : s ≡ x.0). or_kept (is_among ss s) ((x.0 == s) || false) (ap (is_among ss) e ∙ is))
      (λ (apart : s ≢ x.0). or_false (is_among ss s) (x.0 == s) (not_eqb x.0 s (λ e. apart (sym e))))
      (cases_eq s x.0)
      ∙ sym (among_append ss (x.0 ∷ []) s)

  pub found_kept : is_among ss x.0 ≡ true → AreFound n (ss ++ x.0 ∷ []) marks signals
  found_kept is = record { size = h.size; marked = λ s. h.marked s ∙ already is s; listed = λ s. h.listed s ∙ already is s; there = h.there }

-- ---- nothing more, and more behind more

pub found_as : (n : ℕ) (ss more : List ℕ) (marks : List Bool) (signals : List SigId) → ss ≡ more → AreFound n ss marks signals → AreFound n more marks signals
found_as n ss more marks signals e h = subst (λ xs. AreFound n xs marks signals) e h

-- ---- the signals of a target

flat_same : {A : Type 0} (f g : ℕ → List A) (es : List ExprId) → AreSame f g es → flat_map (λ (e : ExprId). f e.0) es ≡ flat_map (λ (e : ExprId). g e.0) es
flat_same f g [] h = refl
flat_same f g (e ∷ es) h = let a = h.0 in let b = flat_same f g es h.1 in cc

signals_same : (f g : ℕ → List ℕ) (e : Expr) → AreSame f g (named e) → signals_step f e ≡ signals_step g e
signals_same f g (expr.Const n s) h = refl
signals_same f g (expr.Sig s) h = refl
signals_same f g (expr.Unary op a) h = refl
signals_same f g (expr.Binary op a b) h = refl
signals_same f g (expr.Mux s a b) h = refl
signals_same f g (expr.Slice a low width) h = h.0
signals_same f g (expr.Cat es) h = flat_same f g es h
signals_same f g (expr.Part a offset width stride) h = h.0
signals_same f g (expr.Pick index es) h = flat_same f g es h.1
signals_same f g (expr.Cast a signed) h = h.0
signals_same f g (expr.Matches a patterns) h = refl
signals_same f g (expr.Reset domain place) h = refl

pub target_signals_is : (p : Pooled) (k : ℕ) (e : Expr) → IsPool p → slice_get p.exprs k ≡ Some e → target_signals p k ≡ signals_step (target_signals p) e
unfolding target_signals
target_signals_is p k e h is =
    let names = (standing p k e h is).names in
    answer_at [] signals_step p.exprs k e is (λ f g same. signals_same f g e (same_below f g k (named e) same names))

-- ---- one more

pub targets_append : (p : Pooled) (xs ys : List Guarded) → targets_of p (xs ++ ys) ≡ targets_of p xs ++ targets_of p ys
targets_append p xs ys = flat_map-append (λ (g : Guarded). target_signals p g.target.0) xs ys

pub items_more : (f : ℕ → List ℕ) (es : List ExprId) (i : ℕ) (d : ExprId) → i < length es → flat_map (λ (x : ExprId). f x.0) (take (i + 1) es) ≡ flat_map (λ (x : ExprId). f x.0) (take i es) ++ f (slice_index_or es i d).0
items_more f es i d h =
    let e : ExprId = slice_index_or es i d in
    ap (flat_map (λ (x : ExprId). f x.0)) (take_more es i d h) ∙ flat_map-append (λ (x : ExprId). f x.0) (take i es) (e ∷ []) ∙ ap (λ xs. flat_map (λ (x : ExprId). f x.0) (take i es) ++ xs) (append-nil (f e.0))

-- the expressions that a join or a pick names
pub joined_signals : (f : ℕ → List ℕ) (e : Expr) (es : List ExprId) → (e ≡ expr.Cat es) ⊎ ((x : ExprId) × (e ≡ expr.Pick x es)) → signals_step f e ≡ flat_map (λ (a : ExprId). f a.0) es
joined_signals f e es h = ⊎_elim (λ (p : e ≡ expr.Cat es). ap (signals_step f) p) (λ (p : (x : ExprId) × (e ≡ expr.Pick x es)). ap (signals_step f) p.1) h

pub joined_below : (k : ℕ) (e : Expr) (es : List ExprId) → (e ≡ expr.Cat es) ⊎ ((x : ExprId) × (e ≡ expr.Pick x es)) → AllBelow k (named e) → AllBelow k es
joined_below k e es h below = ⊎_elim (λ (p : e ≡ expr.Cat es). subst (λ (x : Expr). AllBelow k (named x)) p below) (λ (p : (x : ExprId) × (e ≡ expr.Pick x es)). (subst (λ (x : Expr). AllBelow k (named x)) p.1 below).1) h

pub below_get : (n : ℕ) (es : List ExprId) (i : ℕ) (d : ExprId) → AllBelow n es → i < length es → (slice_index_or es i d).0 < n
below_get n [] i d h lt = absurd (omega arith)
below_get n (e ∷ es) zero d h lt = h.0
below_get n (e ∷ es) (suc i) d h lt = below_get n es i d h.1 (omega arith)

-- an expression that stands for bits of another one
abbrev pub Reads : Expr → ExprId → Type 0
Reads e a = ((x y : ℕ) × (e ≡ expr.Slice a x y)) ⊎ (((x : ExprId) × (y z : ℕ) × (e ≡ expr.Part a x y z)) ⊎ ((x : Bool) × (e ≡ expr.Cast a x)))

pub read_signals : (f : ℕ → List ℕ) (e : Expr) (a : ExprId) → Reads e a → signals_step f e ≡ f a.0
read_signals f e a (inl (x, y, p)) = ap (signals_step f) p
read_signals f e a (inr (inl (x, y, z, p))) = ap (signals_step f) p
read_signals f e a (inr (inr (x, p))) = ap (signals_step f) p

pub read_below : (k : ℕ) (e : Expr) (a : ExprId) → Reads e a → AllBelow k (named e) → a.0 < k
read_below k e a (inl (x, y, p)) h = (subst (λ (z : Expr). AllBelow k (named z)) p h).0
read_below k e a (inr (inl (x, y, z, p))) h = (subst (λ (z : Expr). AllBelow k (named z)) p h).0
read_below k e a (inr (inr (x, p))) h = (subst (λ (z : Expr). AllBelow k (named z)) p h).0

pub found_pushed : (n : ℕ) (ss : List ℕ) (marks : List Bool) (signals : List SigId) (x : SigId) → AreFound n ss marks signals → x.0 < length marks → {E : Type 0} {U : Type 0} (r : Result U E) (new : List SigId) → OnOk r (new ≡ signals ++ x ∷ []) → IfOk r (λ u. AreFound n (ss ++ x.0 ∷ []) (slice_set marks x.0 true) new)
found_pushed n ss marks signals x h there (Ok u) new e = subst (AreFound n (ss ++ x.0 ∷ []) (slice_set marks x.0 true)) (sym e) (found_push n ss marks signals x h there)
found_pushed n ss marks signals x h there (Err e') new e = tt

-- an expression that stands for no bits
pub other_signals : (f : ℕ → List ℕ) (e : Expr) → ((s : SigId) → e ≡ expr.Sig s → ⊥) → ((a : ExprId) (x y : ℕ) → e ≡ expr.Slice a x y → ⊥) → ((es : List ExprId) → e ≡ expr.Cat es → ⊥) → ((a b : ExprId) (x y : ℕ) → e ≡ expr.Part a b x y → ⊥) → ((a : ExprId) (es : List ExprId) → e ≡ expr.Pick a es → ⊥)
    → ((a : ExprId) (x : Bool) → e ≡ expr.Cast a x → ⊥) → signals_step f e ≡ []
other_signals f (expr.Const n s) sig slice cat part pick cast = refl
other_signals f (expr.Sig s) sig slice cat part pick cast = absurd (sig s refl)
other_signals f (expr.Unary op a) sig slice cat part pick cast = refl
other_signals f (expr.Binary op a b) sig slice cat part pick cast = refl
other_signals f (expr.Mux s a b) sig slice cat part pick cast = refl
other_signals f (expr.Slice a low width) sig slice cat part pick cast = absurd (slice a low width refl)
other_signals f (expr.Cat es) sig slice cat part pick cast = absurd (cat es refl)
other_signals f (expr.Part a offset width stride) sig slice cat part pick cast = absurd (part a offset width stride refl)
other_signals f (expr.Pick index es) sig slice cat part pick cast = absurd (pick index es refl)
other_signals f (expr.Cast a signed) sig slice cat part pick cast = absurd (cast a signed refl)
other_signals f (expr.Matches a patterns) sig slice cat part pick cast = refl
other_signals f (expr.Reset domain place) sig slice cat part pick cast = refl

pub unset_push : (xs : List Bool) → ((s : ℕ) → slice_index_or xs s false ≡ false) → (s : ℕ) → slice_index_or (xs ++ false ∷ []) s false ≡ false
unset_push [] h zero = refl
unset_push [] h (suc s) = refl
unset_push (x ∷ xs) h zero = h zero
unset_push (x ∷ xs) h (suc s) = unset_push xs (λ t. h (suc t)) s

pub found_none : (n : ℕ) (marks : List Bool) → length marks ≡ n → ((s : ℕ) → slice_index_or marks s false ≡ false) → AreFound n [] marks []
found_none n marks size unset = record { size = size; marked = unset; listed = λ s. refl; there = λ k d lt. absurd (omega (arith, lt)) }

-- one more assignment, or more of them
pub found_turn : (p : Pooled) (n : ℕ) (ss : List ℕ) (before more all : List Guarded) (marks : List Bool) (signals : List SigId) → all ≡ before ++ more → AreFound n ((ss ++ targets_of p before) ++ targets_of p more) marks signals → AreFound n (ss ++ targets_of p all) marks signals
found_turn p n ss before more all marks signals e h =
    found_as n ((ss ++ targets_of p before) ++ targets_of p more) (ss ++ targets_of p all) marks signals
    (append_assoc ss (targets_of p before) (targets_of p more) ∙ ap (λ xs. ss ++ xs) (sym (targets_append p before more) ∙ ap (targets_of p) (sym e))) h
