-- Pools that agree on expressions with all that stand in these.
use Rattle.std.proofs.Common.{◌≡◌, ℕ, zero, suc, ◌+◌, ◌<◌, ◌≤◌, ◌==◌, Bool, true, false, ◌||◌, ◌&&◌, cond, List, [], ◌∷◌, ◌++◌, length, Option, Some, None, slice_get, refl, sym, ap, ◌∙◌, subst, arith}
use Rattle.std.specs.Prelude.{is_some, option_and_then, slice_index_or}
use Rattle.std.specs.List.{AllByRecursion, find, flat_map, list_all, list_any}
use Rattle.std.proofs.lemmas.Bool.{false≢true}
use Rattle.std.proofs.lemmas.Bool.Decides.{nat_tests}
use Rattle.lists.specs.Texts.{text_eq}
use Rattle.shape_rules.specs.Forms.{Form, unsigned}
use Rattle.design_ir.specs.declared.ids.ExprId.{ExprId}
use Rattle.design_ir.specs.declared.ids.SigId.{SigId}
use Rattle.design_ir.specs.declared.signal.Sig.{Sig}
use Rattle.design_ir.specs.declared.domain.Domain.{Domain}
use Rattle.design_ir.specs.declared.expr.Expr as expr
use Rattle.design_ir.specs.declared.expr.Expr.{Expr}
use Rattle.design_ir.specs.declared.expr.Expr.TheVariants.{Const, Unary, Binary, Mux, Slice, Cat, Part, Pick, Cast, Matches, Reset}
use Rattle.design_ir.specs.Named.{named, AllBelow}
use Rattle.design_ir.specs.Pools.{Pooled, answer, answers}
use Rattle.design_ir.specs.PoolRules.{AreExprs, IsExpr, IsPool, most_exprs, shape_stop}
use Rattle.design_ir.specs.Circuits.{is_among}
use Rattle.design_ir.specs.Designs.{holds_reset, reset_test}
use Rattle.design_ir.specs.Targets.{is_target, target_test, is_open_target, open_target_test}
use Rattle.design_ir.specs.Values.{form, form_step, signal_form}
use Rattle.design_ir.proofs.Answers.{answer_past}
use Rattle.design_ir.proofs.Congruence.{AreSame, same_below}
use Rattle.design_ir.proofs.Equations.{answer_at, standing}
use Rattle.design_ir.proofs.TargetLaws.{is_target_is}
use Rattle.fragment_walks.specs.Held.{inside, inside_step, is_within}
use Rattle.fragment_walks.specs.Marks.{numbers}
use Rattle.fragment_walks.proofs.HolderLaws.{inside_lead}
use Rattle.fragment_walks.proofs.Lists.{any-append, any_none}
use Rattle.fragment_walks.proofs.Outs.{among_flat}
use Rattle.clock_domains.specs.Placed.{or_signal, placed_expr, placed_from, placed_pool, reset_of}
use Rattle.clock_domains.specs.Resolvable.{IsBit, IsDomainOf, IsResetOf}

-- ---- past the end

none_past : {A : Type 0} (xs : List A) (k : ℕ) → slice_get xs k ≡ None → length xs ≤ k
none_past [] k h = omega arith
none_past (x ∷ xs) zero h = absurd cc
none_past (x ∷ xs) (suc k) h = omega (arith, none_past xs k h)

-- ---- what stands in an expression that is within stands within

-- the parts of an expression that is within
abbrev pub AreWithin : (ℕ → Bool) → List ExprId → Type 0
AreWithin w es = AllByRecursion (λ (e : ExprId). w e.0 ≡ true) es

or_end : (a b : Bool) → b ≡ true → (a || b) ≡ true
or_end true b h = refl
or_end false b h = h

or_begin : (a b : Bool) → a ≡ true → (a || b) ≡ true
or_begin a b h = ap (λ x. x || b) h

same_number : (j k : ℕ) → (j == k) ≡ true → k ≡ j
same_number j k h = grind (arith, nat_tests)

-- some element passes, where one that is among them does
any_found : (p : ℕ → Bool) (ks : List ℕ) (k : ℕ) → is_among ks k ≡ true → p k ≡ true → list_any p ks ≡ true
any_found p [] k among h = absurd (false≢true among)
any_found p (j ∷ ks) k among h = split (λ later. any_found p ks k later h) (j == k) refl
  where
    split : (is_among ks k ≡ true → list_any p ks ≡ true) → (b : Bool) → (j == k) ≡ b → (p j || list_any p ks) ≡ true
    split rest true e = or_begin (p j) (list_any p ks) (sym (ap p (same_number j k e)) ∙ h)
    split rest false e = or_end (p j) (list_any p ks) (rest (sym (ap (λ b. b || is_among ks k) e) ∙ among))

-- or passes another test, where each that passes the one does
any_wider : (p s : ℕ → Bool) (ks : List ℕ) → AllByRecursion (λ k. p k ≡ true → s k ≡ true) ks → list_any p ks ≡ true → list_any s ks ≡ true
any_wider p s [] h any = any
any_wider p s (k ∷ ks) h any = split (any_wider p s ks h.1) (p k) refl
  where
    split : (list_any p ks ≡ true → list_any s ks ≡ true) → (b : Bool) → p k ≡ b → (s k || list_any s ks) ≡ true
    split rest true e = or_begin (s k) (list_any s ks) (h.0 e)
    split rest false e = or_end (s k) (list_any s ks) (rest (sym (ap (λ b. b || list_any p ks) e) ∙ any))

-- each of these is a number among theirs
all_among : (es : List ExprId) (P : ℕ → Type 0) → ((k : ℕ) → is_among (numbers es) k ≡ true → P k) → AllByRecursion (λ (e : ExprId). P e.0) es
all_among [] P h = tt
all_among (e ∷ es) P h = (h e.0 (or_begin (e.0 == e.0) (is_among (numbers es) e.0) (own e.0)), all_among es P (λ k later. h k (or_end (e.0 == k) (is_among (numbers es) k) later)))
  where
    own : (n : ℕ) → (n == n) ≡ true
    own n = grind (arith, nat_tests)

all_numbered : (es : List ExprId) (P : ℕ → Type 0) → AllByRecursion (λ (e : ExprId). P e.0) es → AllByRecursion P (numbers es)
all_numbered [] P h = tt
all_numbered (e ∷ es) P h = (h.0, all_numbered es P h.1)

-- each of these below a number
all_below : (n : ℕ) (es : List ExprId) (P : ℕ → Type 0) → AllBelow n es → ((k : ℕ) → k < n → P k) → AllByRecursion (λ (e : ExprId). P e.0) es
all_below n [] P low h = tt
all_below n (e ∷ es) P low h = (h e.0 low.0, all_below n es P low.1 h)

or_cases : (a b : Bool) (C : Type 0) → (a || b) ≡ true → (a ≡ true → C) → (b ≡ true → C) → C
or_cases true b C h left right = left refl
or_cases false b C h left right = right h

module _ (q : Pooled) (rules : IsPool q) where
  inside_none : (k : ℕ) → slice_get q.exprs k ≡ None → inside q k ≡ []
  unfolding inside
  inside_none k at = answer_past [] inside_step q.exprs k (none_past q.exprs k at)

  -- what stands in what stands in one stands in it
  inside_deeper : (n r k m : ℕ) → r < n → is_among (inside q r) k ≡ true → is_among (inside q k) m ≡ true → is_among (inside q r) m ≡ true
  inside_deeper zero r k m low h deep = absurd (omega (arith, low))
  inside_deeper (suc n) r k m low h deep = by (λ j less in_j. inside_deeper n j k m less in_j deep) (slice_get q.exprs r) refl
    where
      by : ((j : ℕ) → j < n → is_among (inside q j) k ≡ true → is_among (inside q j) m ≡ true) → (o : Option Expr) → slice_get q.exprs r ≡ o → is_among (inside q r) m ≡ true
      by rest None at = absurd (false≢true (sym (ap (λ ss. is_among ss k) (inside_none r at)) ∙ h))
      by rest (Some x) at =
          let names = (standing q r x rules at).names in
          let ks = numbers (named x) in
          let deeper : list_any (λ j. is_among (inside q j) m) ks ≡ true =
          or_cases (is_among ks k) (list_any (λ j. is_among (inside q j) k) ks) (list_any (λ j. is_among (inside q j) m) ks ≡ true) (sym (inside_lead q r x k rules at) ∙ h)
          (λ here. any_found (λ j. is_among (inside q j) m) ks k here deep)
          (λ there.
          any_wider (λ j. is_among (inside q j) k) (λ j. is_among (inside q j) m) ks
          (all_numbered (named x) (λ j. is_among (inside q j) k ≡ true → is_among (inside q j) m ≡ true) (all_below r (named x) (λ j. is_among (inside q j) k ≡ true → is_among (inside q j) m ≡ true) names (λ j less. rest j (omega (arith, less, low)))))
          there) in
          inside_lead q r x m rules at ∙ or_end (is_among ks m) (list_any (λ j. is_among (inside q j) m) ks) deeper

pub parts_within : (q : Pooled) (roots : List ExprId) (k : ℕ) (e : Expr) → IsPool q → slice_get q.exprs k ≡ Some e → is_within q roots k ≡ true → AreWithin (is_within q roots) (named e)
parts_within q roots k e rules at h = all_among (named e) (λ m. is_within q roots m ≡ true) each
  where
    parted : (m : ℕ) → is_within q roots m ≡ (is_among (numbers roots) m || list_any (λ r. is_among (inside q r) m) (numbers roots))
    parted m = any-append (λ x. x == m) (numbers roots) (flat_map (inside q) (numbers roots)) ∙ ap (λ b. is_among (numbers roots) m || b) (among_flat (inside q) (numbers roots) m)

    in_one : (m : ℕ) → list_any (λ r. is_among (inside q r) m) (numbers roots) ≡ true → is_within q roots m ≡ true
    in_one m there = parted m ∙ or_end (is_among (numbers roots) m) (list_any (λ r. is_among (inside q r) m) (numbers roots)) there

    all_wider : (m : ℕ) → is_among (inside q k) m ≡ true → (ns : List ℕ) → AllByRecursion (λ r. is_among (inside q r) k ≡ true → is_among (inside q r) m ≡ true) ns
    all_wider m deep [] = tt
    all_wider m deep (n ∷ ns) = ((λ there. inside_deeper q rules (suc n) n k m (omega arith) there deep), all_wider m deep ns)

    each : (m : ℕ) → is_among (numbers (named e)) m ≡ true → is_within q roots m ≡ true
    each m part =
        let deep : is_among (inside q k) m ≡ true = inside_lead q k e m rules at ∙ or_begin (is_among (numbers (named e)) m) (list_any (λ j. is_among (inside q j) m) (numbers (named e))) part in
        or_cases (is_among (numbers roots) k) (list_any (λ r. is_among (inside q r) k) (numbers roots)) (is_within q roots m ≡ true) (sym (parted k) ∙ h)
        (λ here. in_one m (any_found (λ r. is_among (inside q r) m) (numbers roots) k here deep))
        (λ there. in_one m (any_wider (λ r. is_among (inside q r) k) (λ r. is_among (inside q r) m) (numbers roots) (all_wider m deep (numbers roots)) there))

-- ---- where two pools agree there, so do the answers for them

-- by what is asked of the parts alone
abbrev pub IsByParts : {A : Type 0} → ((ℕ → A) → Expr → A) → Type 0
IsByParts {A} step = (f g : ℕ → A) (e : Expr) → AreSame f g (named e) → step f e ≡ step g e

module _ {A : Type 0} (d : A) (step : (ℕ → A) → Expr → A) (q p : Pooled) (w : ℕ → Bool) (closed : (k : ℕ) (e : Expr) → slice_get q.exprs k ≡ Some e → w k ≡ true → AreWithin w (named e)) (rules : IsPool q) (rules' : IsPool p) (agree : (k : ℕ) → w k ≡ true → slice_get p.exprs k ≡ slice_get q.exprs k)
    (by_parts : IsByParts step) where
  below_same : (n : ℕ) (es : List ExprId) → ((j : ℕ) → j < n → w j ≡ true → answer d step p.exprs j ≡ answer d step q.exprs j) → AllBelow n es → AreWithin w es → AreSame (answer d step p.exprs) (answer d step q.exprs) es
  below_same n [] h low in_w = tt
  below_same n (e ∷ es) h low in_w = (h e.0 low.0 in_w.0, below_same n es h low.1 in_w.1)

  up_to : (n k : ℕ) → k < n → w k ≡ true → answer d step p.exprs k ≡ answer d step q.exprs k
  up_to zero k low h = absurd (omega (arith, low))
  up_to (suc n) k low h = by (λ j less in_w. up_to n j less in_w) (slice_get q.exprs k) refl
    where
      by : ((j : ℕ) → j < n → w j ≡ true → answer d step p.exprs j ≡ answer d step q.exprs j) → (o : Option Expr) → slice_get q.exprs k ≡ o → answer d step p.exprs k ≡ answer d step q.exprs k
      -- past the pool both are the default
      by rest None at = answer_past d step p.exprs k (none_past p.exprs k (agree k h ∙ at)) ∙ sym (answer_past d step q.exprs k (none_past q.exprs k at))
      by rest (Some e) at =
          let here = agree k h ∙ at in
          let looks : (f g : ℕ → A) → ((j : ℕ) → j < k → f j ≡ g j) → step f e ≡ step g e = λ f g same. by_parts f g e (same_below f g k (named e) same (standing q k e rules at).names) in
          answer_at d step p.exprs k e here looks
          ∙ by_parts (answer d step p.exprs) (answer d step q.exprs) e (below_same k (named e) (λ j less in_w. rest j (omega (arith, less, low)) in_w) (standing q k e rules at).names (closed k e at h))
          ∙ sym (answer_at d step q.exprs k e at looks)

  pub same_within : (k : ℕ) → w k ≡ true → answer d step p.exprs k ≡ answer d step q.exprs k
  same_within k h = up_to (suc k) k (omega arith) h

-- ---- resets in their places

abbrev pub HasSignal : List Domain → Expr → Type 0
HasSignal ds (Reset name place) = is_some (reset_of ds name) ≡ true
HasSignal ds e = Unit {0}

-- each reset within has a signal
abbrev pub AreSignals : List Domain → Pooled → List ExprId → Type 0
AreSignals ds q roots = (k : ℕ) (e : Expr) → slice_get q.exprs k ≡ Some e → is_within q roots k ≡ true → HasSignal ds e

-- the expression at a number
pub placed_at : (ds : List Domain) (passes : ℕ → Bool) (n : ℕ) (es : List Expr) (k : ℕ) (e : Expr) → slice_get es k ≡ Some e → slice_get (placed_from ds passes n es) k ≡ Some (cond (passes (n + k)) (placed_expr ds e) e)
placed_at ds passes n [] k e at = absurd cc
placed_at ds passes n (x ∷ es) zero e at =
    let same : x ≡ e = cc in
    ap (λ y. Some (cond (passes n) (placed_expr ds y) y)) same ∙ ap (λ m. Some (cond (passes m) (placed_expr ds e) e)) (let next : n ≡ n + 0 = omega arith in next)
placed_at ds passes n (x ∷ es) (suc k) e at = placed_at ds passes (suc n) es k e at ∙ ap (λ m. Some (cond (passes m) (placed_expr ds e) e)) (let next : suc n + k ≡ n + suc k = omega arith in next)

pub placed_length : (ds : List Domain) (passes : ℕ → Bool) (n : ℕ) (es : List Expr) → length (placed_from ds passes n es) ≡ length es
placed_length ds passes n [] = refl
placed_length ds passes n (e ∷ es) = ap suc (placed_length ds passes (suc n) es)

-- what has a signal is one
signal_step : {A : Type 0} (f : Expr → A) (a : A) (ds : List Domain) (name : List ℕ) (e : Expr) → is_some (reset_of ds name) ≡ true → ((s : SigId) → f (expr.TheVariants.Sig s) ≡ a) → f (or_signal e (reset_of ds name)) ≡ a
signal_step f a ds name e h each = by (reset_of ds name) h
  where
    by : (o : Option SigId) → is_some o ≡ true → f (or_signal e o) ≡ a
    by None none = absurd (false≢true none)
    by (Some s) some = each s

plain_step : (ds : List Domain) (holds : ℕ → Bool) (e : Expr) → HasSignal ds e → AllByRecursion (λ (a : ExprId). holds a.0 ≡ false) (named e) → reset_test holds (placed_expr ds e) ≡ false
plain_step ds holds (Reset name place) h parts = signal_step (reset_test holds) false ds name (Reset name place) h (λ s. refl)
plain_step ds holds (Const n s) h parts = refl
plain_step ds holds (expr.TheVariants.Sig s) h parts = refl
plain_step ds holds (Unary op a) h parts = any_none (λ (x : ExprId). holds x.0) (a ∷ []) parts
plain_step ds holds (Binary op a b) h parts = any_none (λ (x : ExprId). holds x.0) (a ∷ b ∷ []) parts
plain_step ds holds (Mux s a b) h parts = any_none (λ (x : ExprId). holds x.0) (s ∷ a ∷ b ∷ []) parts
plain_step ds holds (Slice a low width) h parts = any_none (λ (x : ExprId). holds x.0) (a ∷ []) parts
plain_step ds holds (Cat es) h parts = any_none (λ (x : ExprId). holds x.0) es parts
plain_step ds holds (Part a offset width stride) h parts = any_none (λ (x : ExprId). holds x.0) (a ∷ offset ∷ []) parts
plain_step ds holds (Pick index es) h parts = any_none (λ (x : ExprId). holds x.0) (index ∷ es) parts
plain_step ds holds (Cast a signed) h parts = any_none (λ (x : ExprId). holds x.0) (a ∷ []) parts
plain_step ds holds (Matches a patterns) h parts = any_none (λ (x : ExprId). holds x.0) (a ∷ []) parts

any_same : (f g : ℕ → Bool) (es : List ExprId) → AreSame f g es → list_any (λ (k : ExprId). f k.0) es ≡ list_any (λ (k : ExprId). g k.0) es
any_same f g [] h = refl
any_same f g (e ∷ es) h = let a = h.0 in let b = any_same f g es h.1 in cc

reset_same : (f g : ℕ → Bool) (e : Expr) → AreSame f g (named e) → reset_test f e ≡ reset_test g e
reset_same f g (Reset name place) h = refl
reset_same f g (Const n s) h = refl
reset_same f g (expr.TheVariants.Sig s) h = refl
reset_same f g (Unary op a) h = any_same f g (a ∷ []) h
reset_same f g (Binary op a b) h = any_same f g (a ∷ b ∷ []) h
reset_same f g (Mux s a b) h = any_same f g (s ∷ a ∷ b ∷ []) h
reset_same f g (Slice a low width) h = any_same f g (a ∷ []) h
reset_same f g (Cat es) h = any_same f g es h
reset_same f g (Part a offset width stride) h = any_same f g (a ∷ offset ∷ []) h
reset_same f g (Pick index es) h = any_same f g (index ∷ es) h
reset_same f g (Cast a signed) h = any_same f g (a ∷ []) h
reset_same f g (Matches a patterns) h = any_same f g (a ∷ []) h

all_same : (f g : ℕ → Bool) (es : List ExprId) → AreSame f g es → list_all (λ (k : ExprId). f k.0) es ≡ list_all (λ (k : ExprId). g k.0) es
all_same f g [] h = refl
all_same f g (e ∷ es) h = let a = h.0 in let b = all_same f g es h.1 in cc

pub open_same : (f g : ℕ → Bool) (e : Expr) → AreSame f g (named e) → open_target_test f e ≡ open_target_test g e
open_same f g (Reset name place) h = refl
open_same f g (Const n s) h = refl
open_same f g (expr.TheVariants.Sig s) h = refl
open_same f g (Unary op a) h = refl
open_same f g (Binary op a b) h = refl
open_same f g (Mux s a b) h = refl
open_same f g (Slice a low width) h = h.0
open_same f g (Cat es) h = all_same f g es h
open_same f g (Part a offset width stride) h = h.0
open_same f g (Pick index es) h = all_same f g es h.1
open_same f g (Cast a signed) h = h.0
open_same f g (Matches a patterns) h = refl

and_cases : (a b : Bool) → (a && b) ≡ true → (a ≡ true) × (b ≡ true)
and_cases true b h = (refl, h)
and_cases false b h = absurd (false≢true h)

-- the one test gives the other
abbrev Gives : (ℕ → Bool) → (ℕ → Bool) → List ExprId → Type 0
Gives f g es = AllByRecursion (λ (a : ExprId). f a.0 ≡ true → g a.0 ≡ true) es

all_given : (f g : ℕ → Bool) (es : List ExprId) → Gives f g es → list_all (λ (k : ExprId). f k.0) es ≡ true → list_all (λ (k : ExprId). g k.0) es ≡ true
all_given f g [] h all = refl
all_given f g (e ∷ es) h all =
    let parts = and_cases (f e.0) (list_all (λ (k : ExprId). f k.0) es) all in
    ap (λ b. b && list_all (λ (k : ExprId). g k.0) es) (h.0 parts.0) ∙ all_given f g es h.1 parts.1

target_step : (ds : List Domain) (f g : ℕ → Bool) (e : Expr) → HasSignal ds e → Gives f g (named e) → open_target_test f e ≡ true → target_test g (placed_expr ds e) ≡ true
target_step ds f g (Reset name place) h parts t = signal_step (target_test g) true ds name (Reset name place) h (λ s. refl)
target_step ds f g (Const n s) h parts t = t
target_step ds f g (expr.TheVariants.Sig s) h parts t = refl
target_step ds f g (Unary op a) h parts t = t
target_step ds f g (Binary op a b) h parts t = t
target_step ds f g (Mux s a b) h parts t = t
target_step ds f g (Slice a low width) h parts t = parts.0 t
target_step ds f g (Cat es) h parts t = all_given f g es parts t
target_step ds f g (Part a offset width stride) h parts t = parts.0 t
target_step ds f g (Pick index es) h parts t = all_given f g es parts.1 t
target_step ds f g (Cast a signed) h parts t = parts.0 t
target_step ds f g (Matches a patterns) h parts t = t

-- what holds of each part that is within, below a number
all_parts : (n : ℕ) (w : ℕ → Bool) (P : ℕ → Type 0) (es : List ExprId) → AllBelow n es → AreWithin w es → ((j : ℕ) → j < n → w j ≡ true → P j) → AllByRecursion (λ (e : ExprId). P e.0) es
all_parts n w P [] low in_w h = tt
all_parts n w P (e ∷ es) low in_w h = (h e.0 low.0 in_w.0, all_parts n w P es low.1 in_w.1 h)

module _ (ds : List Domain) (q : Pooled) (roots : List ExprId) (rules : IsPool q) (rules' : IsPool (placed_pool ds q roots)) (signals : AreSignals ds q roots) where
  -- the expression in the placed pool
  here_placed : (k : ℕ) (e : Expr) → slice_get q.exprs k ≡ Some e → is_within q roots k ≡ true → slice_get (placed_pool ds q roots).exprs k ≡ Some (placed_expr ds e)
  unfolding placed_pool
  here_placed k e at h =
      placed_at ds (is_within q roots) 0 q.exprs k e at
      ∙ ap (λ b. Some (cond b (placed_expr ds e) e)) (ap (is_within q roots) (let next : 0 + k ≡ k = omega arith in next) ∙ h)

  past_placed : (k : ℕ) → slice_get q.exprs k ≡ None → length (placed_pool ds q roots).exprs ≤ k
  unfolding placed_pool
  past_placed k at = omega (arith, placed_length ds (is_within q roots) 0 q.exprs, none_past q.exprs k at)

  holds_none : (k : ℕ) → slice_get q.exprs k ≡ None → holds_reset (placed_pool ds q roots) k ≡ false
  unfolding holds_reset
  holds_none k at = answer_past false reset_test (placed_pool ds q roots).exprs k (past_placed k at)

  holds_is : (k : ℕ) (x : Expr) → slice_get (placed_pool ds q roots).exprs k ≡ Some x → holds_reset (placed_pool ds q roots) k ≡ reset_test (holds_reset (placed_pool ds q roots)) x
  unfolding holds_reset
  holds_is k x at = answer_at false reset_test (placed_pool ds q roots).exprs k x at (λ f g same. reset_same f g x (same_below f g k (named x) same (standing (placed_pool ds q roots) k x rules' at).names))

  plain_up_to : (n k : ℕ) → k < n → is_within q roots k ≡ true → holds_reset (placed_pool ds q roots) k ≡ false
  plain_up_to zero k low h = absurd (omega (arith, low))
  plain_up_to (suc n) k low h = by (λ j less in_w. plain_up_to n j less in_w) (slice_get q.exprs k) refl
    where
      by : ((j : ℕ) → j < n → is_within q roots j ≡ true → holds_reset (placed_pool ds q roots) j ≡ false) → (o : Option Expr) → slice_get q.exprs k ≡ o → holds_reset (placed_pool ds q roots) k ≡ false
      by rest None at = holds_none k at
      by rest (Some e) at =
          holds_is k (placed_expr ds e) (here_placed k e at h)
          ∙ plain_step ds (holds_reset (placed_pool ds q roots)) e (signals k e at h)
          (all_parts k (is_within q roots) (λ j. holds_reset (placed_pool ds q roots) j ≡ false) (named e) (standing q k e rules at).names (parts_within q roots k e rules at h) (λ j less in_w. rest j (omega (arith, less, low)) in_w))

  open_none : (k : ℕ) → slice_get q.exprs k ≡ None → is_open_target q k ≡ false
  unfolding is_open_target
  open_none k at = answer_past false open_target_test q.exprs k (none_past q.exprs k at)

  open_is : (k : ℕ) (e : Expr) → slice_get q.exprs k ≡ Some e → is_open_target q k ≡ open_target_test (is_open_target q) e
  unfolding is_open_target
  open_is k e at = answer_at false open_target_test q.exprs k e at (λ f g same. open_same f g e (same_below f g k (named e) same (standing q k e rules at).names))

  target_up_to : (n k : ℕ) → k < n → is_within q roots k ≡ true → is_open_target q k ≡ true → is_target (placed_pool ds q roots) k ≡ true
  target_up_to zero k low h t = absurd (omega (arith, low))
  target_up_to (suc n) k low h t = by (λ j less in_w. target_up_to n j less in_w) (slice_get q.exprs k) refl
    where
      by : ((j : ℕ) → j < n → is_within q roots j ≡ true → is_open_target q j ≡ true → is_target (placed_pool ds q roots) j ≡ true) → (o : Option Expr) → slice_get q.exprs k ≡ o → is_target (placed_pool ds q roots) k ≡ true
      by rest None at = absurd (false≢true (sym (open_none k at) ∙ t))
      by rest (Some e) at =
          is_target_is (placed_pool ds q roots) k (placed_expr ds e) rules' (here_placed k e at h)
          ∙ target_step ds (is_open_target q) (is_target (placed_pool ds q roots)) e (signals k e at h)
          (all_parts k (is_within q roots) (λ j. is_open_target q j ≡ true → is_target (placed_pool ds q roots) j ≡ true) (named e) (standing q k e rules at).names (parts_within q roots k e rules at h) (λ j less in_w. rest j (omega (arith, less, low)) in_w))
          (sym (open_is k e at) ∙ t)

-- so no reset stands in what is within
pub placed_plain : (ds : List Domain) (q : Pooled) (roots : List ExprId) → IsPool q → IsPool (placed_pool ds q roots) → AreSignals ds q roots → (k : ℕ) → is_within q roots k ≡ true → holds_reset (placed_pool ds q roots) k ≡ false
placed_plain ds q roots rules rules' signals k h = plain_up_to ds q roots rules rules' signals (suc k) k (omega arith) h

-- and a target where resets were taken for signals is one
pub placed_target : (ds : List Domain) (q : Pooled) (roots : List ExprId) → IsPool q → IsPool (placed_pool ds q roots) → AreSignals ds q roots → (k : ℕ) → is_within q roots k ≡ true → is_open_target q k ≡ true → is_target (placed_pool ds q roots) k ≡ true
placed_target ds q roots rules rules' signals k h t = target_up_to ds q roots rules rules' signals (suc k) k (omega arith) h t

-- ---- shapes and rules stay

-- the signal of a reset is a bit of the pool
pub reset_bit : (q : Pooled) (ds : List Domain) (name : List ℕ) (s : SigId) → AllByRecursion (IsDomainOf q) ds → reset_of ds name ≡ Some s → IsBit q s
reset_bit q [] name s h is = absurd cc
reset_bit q (d ∷ ds) name s h is = split (λ more. reset_bit q ds name s h.1 more) (text_eq d.name name) is
  where
    own : (o : Option SigId) → IsResetOf q d.clk o → o ≡ Some s → IsBit q s
    own None there e = absurd cc
    own (Some x) there e = subst (IsBit q) (let same : x ≡ s = cc in same) there.0

    split : (reset_of ds name ≡ Some s → IsBit q s) → (b : Bool) → option_and_then (λ (x : Domain). x.rst) (cond b (Some d) (find (λ (x : Domain). text_eq x.name name) ds)) ≡ Some s → IsBit q s
    split rest true e = own d.rst h.0.reset e
    split rest false e = rest e

-- so a reset that becomes it keeps its shape
module _ (sigs : List Sig) (ds : List Domain) (there : (name : List ℕ) (s : SigId) → reset_of ds name ≡ Some s → s.0 < length sigs) (bits : (name : List ℕ) (s : SigId) → reset_of ds name ≡ Some s → signal_form sigs s.0 ≡ unsigned 1) where
  form_placed : (f : ℕ → Form) (e : Expr) → form_step sigs f (placed_expr ds e) ≡ form_step sigs f e
  form_placed f (Reset name place) = by (reset_of ds name) refl
    where
      by : (o : Option SigId) → reset_of ds name ≡ o → form_step sigs f (or_signal (Reset name place) o) ≡ unsigned 1
      by None is = refl
      by (Some s) is = bits name s is
  form_placed f (Const n s) = refl
  form_placed f (expr.TheVariants.Sig s) = refl
  form_placed f (Unary op a) = refl
  form_placed f (Binary op a b) = refl
  form_placed f (Mux s a b) = refl
  form_placed f (Slice a low width) = refl
  form_placed f (Cat es) = refl
  form_placed f (Part a offset width stride) = refl
  form_placed f (Pick index es) = refl
  form_placed f (Cast a signed) = refl
  form_placed f (Matches a patterns) = refl

  form_chosen : (f : ℕ → Form) (e : Expr) (b : Bool) → form_step sigs f (cond b (placed_expr ds e) e) ≡ form_step sigs f e
  form_chosen f e true = form_placed f e
  form_chosen f e false = refl

  is_placed : (known : List Form) (e : Expr) → IsExpr sigs known e → IsExpr sigs known (placed_expr ds e)
  is_placed known (Reset name place) h = by (reset_of ds name) refl
    where
      by : (o : Option SigId) → reset_of ds name ≡ o → IsExpr sigs known (or_signal (Reset name place) o)
      by None is = h
      by (Some s) is = record { names = tt; formed = tt; parts = there name s is; accepted = ap (λ (f : Form). shape_stop false f.width) (bits name s is) }
  is_placed known (Const n s) h = h
  is_placed known (expr.TheVariants.Sig s) h = h
  is_placed known (Unary op a) h = h
  is_placed known (Binary op a b) h = h
  is_placed known (Mux s a b) h = h
  is_placed known (Slice a low width) h = h
  is_placed known (Cat es) h = h
  is_placed known (Part a offset width stride) h = h
  is_placed known (Pick index es) h = h
  is_placed known (Cast a signed) h = h
  is_placed known (Matches a patterns) h = h

  is_chosen : (known : List Form) (e : Expr) (b : Bool) → IsExpr sigs known e → IsExpr sigs known (cond b (placed_expr ds e) e)
  is_chosen known e true h = is_placed known e h
  is_chosen known e false h = h

  abbrev known_form : List Form → ℕ → Form
  known_form known k = slice_index_or known k (unsigned 0)

  shapes_placed : (passes : ℕ → Bool) (n : ℕ) (known : List Form) (es : List Expr) → answers (unsigned 0) (form_step sigs) known (placed_from ds passes n es) ≡ answers (unsigned 0) (form_step sigs) known es
  shapes_placed passes n known [] = refl
  shapes_placed passes n known (e ∷ es) =
      shapes_placed passes (suc n) (known ++ form_step sigs (known_form known) (cond (passes n) (placed_expr ds e) e) ∷ []) es
      ∙ ap (λ (f : Form). answers (unsigned 0) (form_step sigs) (known ++ f ∷ []) es) (form_chosen (known_form known) e (passes n))

  exprs_placed : (passes : ℕ → Bool) (n : ℕ) (known : List Form) (es : List Expr) → AreExprs sigs known es → AreExprs sigs known (placed_from ds passes n es)
  exprs_placed passes n known [] h = tt
  exprs_placed passes n known (e ∷ es) h =
      let same = form_chosen (known_form known) e (passes n) in (
        is_chosen known e (passes n) h.0,
        exprs_placed passes (suc n) (known ++ form_step sigs (known_form known) (cond (passes n) (placed_expr ds e) e) ∷ []) es (subst (λ (f : Form). AreExprs sigs (known ++ f ∷ []) es) (sym same) h.1),
      )

pub placed_form : (ds : List Domain) (q : Pooled) (roots : List ExprId) (k : ℕ) → AllByRecursion (IsDomainOf q) ds → form (placed_pool ds q roots) k ≡ form q k
unfolding form placed_pool
placed_form ds q roots k h =
    ap (λ (fs : List Form). slice_index_or fs k (unsigned 0))
    (shapes_placed q.signals ds (λ name s is. (reset_bit q ds name s h is).there) (λ name s is. (reset_bit q ds name s h is).form) (is_within q roots) 0 [] q.exprs)

pub placed_rules : (ds : List Domain) (q : Pooled) (roots : List ExprId) → AllByRecursion (IsDomainOf q) ds → IsPool q → IsPool (placed_pool ds q roots)
unfolding placed_pool
placed_rules ds q roots h rules = record {
  few_signals = rules.few_signals;
  few_bits = rules.few_bits;
  few_exprs = subst (λ n. n ≤ most_exprs) (sym (placed_length ds (is_within q roots) 0 q.exprs)) rules.few_exprs;
  shapes = rules.shapes;
  inits = rules.inits;
  exprs = exprs_placed q.signals ds (λ name s is. (reset_bit q ds name s h is).there) (λ name s is. (reset_bit q ds name s h is).form) (is_within q roots) 0 [] q.exprs rules.exprs;
}

pub placed_signals : (ds : List Domain) (q : Pooled) (roots : List ExprId) → (placed_pool ds q roots).signals ≡ q.signals
unfolding placed_pool
placed_signals ds q roots = refl

pub placed_count : (ds : List Domain) (q : Pooled) (roots : List ExprId) → length (placed_pool ds q roots).exprs ≡ length q.exprs
unfolding placed_pool
placed_count ds q roots = placed_length ds (is_within q roots) 0 q.exprs
