-- What marks come to when they are handed down from an expression to its parts.
use Rattle.std.proofs.Common.{◌≡◌, ℕ, zero, suc, ◌+◌, ◌<◌, ◌≤◌, ◌==◌, Bool, true, false, ◌&&◌, ◌||◌, List, [], ◌∷◌, ◌++◌, length, Some, slice_get, refl, sym, ap, ◌∙◌, arith}
use Rattle.std.specs.List.{AllByRecursion, list_any, flat_map}
use Rattle.design_ir.specs.declared.ids.ExprId.{ExprId}
use Rattle.design_ir.specs.declared.expr.Expr as expr
use Rattle.design_ir.specs.declared.expr.Expr.{Expr}
use Rattle.design_ir.specs.declared.expr.Expr.TheVariants.{Const, Unary, Binary, Mux, Slice, Cat, Part, Pick, Cast, Matches, Reset}
use Rattle.design_ir.specs.Named.{named, AllBelow}
use Rattle.design_ir.specs.Pools.{Pooled, answer, answers}
use Rattle.design_ir.specs.PoolRules.{IsPool}
use Rattle.design_ir.specs.Targets.{signals_step, target_signals}
use Rattle.design_ir.specs.Circuits.{is_among}
use Rattle.design_ir.proofs.Congruence.{AreSame, same_below}
use Rattle.design_ir.proofs.Equations.{standing, answer_at}
use Rattle.design_ir.proofs.Related.{related}
use Rattle.design_ir.proofs.Answers.{answers_begin}
use Rattle.std.proofs.lemmas.List.{get_or_past}
use Rattle.fragment_walks.specs.Marks.{is_marked, marked, numbers, any_below, comes_out, target_parts, own_offsets, hit_step}
use Rattle.fragment_walks.specs.Reads.{own_signals, read_step, signals_in, offset_step, offsets_in}
use Rattle.fragment_walks.proofs.Lists.{or_false, or_assoc, any-append, below_all, below_wider, all_imp}
use Rattle.fragment_walks.proofs.Markings.{marked_at, more_below}

-- ---- a marked expression is looked at

module _ (leads : ℕ → List ℕ) (marks out : List Bool) (k n : ℕ) where
  abbrev leads_to : ℕ → Bool
  leads_to j = is_among (leads j) n

  pub spread_no : is_marked marks k ≡ false → comes_out leads marks out k n ≡ comes_out leads marks out (k + 1) n
  spread_no is =
      ap (λ b. is_marked out n || ((b && leads_to k) || any_below (λ j. is_marked marks j && leads_to j) k)) (sym is)
      ∙ ap (λ m. comes_out leads marks out m n) (let e : suc k ≡ k + 1 = omega arith in e)

  pub spread_yes : (parts own : List ℕ) → is_marked marks k ≡ true → k < length marks → AllByRecursion (λ j. j < k) parts → AllByRecursion (λ j. j < length out) own
      → is_among (leads k) n ≡ (is_among own n || list_any leads_to parts) → comes_out leads (marked parts marks) (marked own out) k n ≡ comes_out leads marks out (k + 1) n
  spread_yes parts own is there low inside whole =
      ap (λ b. b || any_below (λ j. is_marked (marked parts marks) j && leads_to j) k) (marked_at own out n inside)
      ∙ ap (λ b. (is_marked out n || is_among own n) || b) (more_below leads_to parts marks k low (omega (arith, there)))
      ∙ or_assoc (is_marked out n) (is_among own n) (list_any leads_to parts || any_below (λ j. is_marked marks j && leads_to j) k)
      ∙ ap (λ b. is_marked out n || b) (sym (or_assoc (is_among own n) (list_any leads_to parts) (any_below (λ j. is_marked marks j && leads_to j) k)))
      ∙ ap (λ b. is_marked out n || (b || any_below (λ j. is_marked marks j && leads_to j) k)) (sym whole)
      ∙ ap (λ b. is_marked out n || ((b && leads_to k) || any_below (λ j. is_marked marks j && leads_to j) k)) (sym is)
      ∙ ap (λ m. comes_out leads marks out m n) (let e : suc k ≡ k + 1 = omega arith in e)

-- ---- joins

pub among_flat : {A : Type 0} (f : A → List ℕ) (xs : List A) (n : ℕ) → is_among (flat_map f xs) n ≡ list_any (λ x. is_among (f x) n) xs
among_flat f [] n = refl
among_flat f (x ∷ xs) n = any-append (λ y. y == n) (f x) (flat_map f xs) ∙ ap (λ b. is_among (f x) n || b) (among_flat f xs n)

any_numbers : (p : ℕ → Bool) (es : List ExprId) → list_any (λ (e : ExprId). p e.0) es ≡ list_any p (numbers es)
any_numbers p [] = refl
any_numbers p (e ∷ es) = ap (λ b. p e.0 || b) (any_numbers p es)

flat_same : (f g : ℕ → List ℕ) (es : List ExprId) → AreSame f g es → flat_map (λ (e : ExprId). f e.0) es ≡ flat_map (λ (e : ExprId). g e.0) es
flat_same f g [] h = refl
flat_same f g (e ∷ es) h = let a = h.0 in let b = flat_same f g es h.1 in cc

parts_below : (n : ℕ) (e : Expr) → AllBelow n (named e) → AllBelow n (target_parts e)
parts_below n (expr.TheVariants.Sig s) h = tt
parts_below n (Slice a low width) h = (h.0, tt)
parts_below n (Cat es) h = h
parts_below n (Part a offset width stride) h = (h.0, tt)
parts_below n (Pick index es) h = h.1
parts_below n (Cast a signed) h = (h.0, tt)
parts_below n (Const k s) h = tt
parts_below n (Unary op a) h = tt
parts_below n (Binary op a b) h = tt
parts_below n (Mux s a b) h = tt
parts_below n (Matches a patterns) h = tt
parts_below n (Reset domain place) h = tt

offsets_below : (n : ℕ) (e : Expr) → AllBelow n (named e) → AllByRecursion (λ k. k < n) (own_offsets e)
offsets_below n (expr.TheVariants.Sig s) h = tt
offsets_below n (Slice a low width) h = tt
offsets_below n (Cat es) h = tt
offsets_below n (Part a offset width stride) h = (h.1.0, tt)
offsets_below n (Pick index es) h = (h.0, tt)
offsets_below n (Cast a signed) h = tt
offsets_below n (Const k s) h = tt
offsets_below n (Unary op a) h = tt
offsets_below n (Binary op a b) h = tt
offsets_below n (Mux s a b) h = tt
offsets_below n (Matches a patterns) h = tt
offsets_below n (Reset domain place) h = tt

pub own_below : (q : Pooled) (k : ℕ) (e : Expr) → IsPool q → slice_get q.exprs k ≡ Some e → AllByRecursion (λ s. s < length q.signals) (own_signals e)
own_below q k (expr.TheVariants.Sig s) rules at = ((standing q k (expr.TheVariants.Sig s) rules at).askable.parts, tt)
own_below q k (Slice a low width) rules at = tt
own_below q k (Cat es) rules at = tt
own_below q k (Part a offset width stride) rules at = tt
own_below q k (Pick index es) rules at = tt
own_below q k (Cast a signed) rules at = tt
own_below q k (Const n s) rules at = tt
own_below q k (Unary op a) rules at = tt
own_below q k (Binary op a b) rules at = tt
own_below q k (Mux s a b) rules at = tt
own_below q k (Matches a patterns) rules at = tt
own_below q k (Reset domain place) rules at = tt

place_below : {A : Type 0} (xs : List A) (k : ℕ) (x : A) → slice_get xs k ≡ Some x → k < length xs
place_below [] k x e = cc
place_below (y ∷ xs) zero x e = omega arith
place_below (y ∷ xs) (suc k) x e = omega (arith, place_below xs k x e)

pub names_inside : (q : Pooled) (k : ℕ) (e : Expr) (n : ℕ) → IsPool q → slice_get q.exprs k ≡ Some e → n ≡ length q.exprs → AllBelow n (named e)
names_inside q k e n rules at size = below_wider k n (named e) (omega (arith, size, place_below q.exprs k e at)) (standing q k e rules at).names

pub own_inside : (q : Pooled) (k : ℕ) (e : Expr) (n : ℕ) → IsPool q → slice_get q.exprs k ≡ Some e → n ≡ 16384 → AllByRecursion (λ s. s < n) (own_signals e)
own_inside q k e n rules at size = all_imp (λ s below. omega (arith, below, rules.few_signals, size)) (own_signals e) (own_below q k e rules at)

pub parts_there : (q : Pooled) (k : ℕ) (e : Expr) → IsPool q → slice_get q.exprs k ≡ Some e → AllByRecursion (λ j. j < k) (numbers (target_parts e))
parts_there q k e rules at = below_all k (target_parts e) (parts_below k e (standing q k e rules at).names)

pub offsets_there : (q : Pooled) (k : ℕ) (e : Expr) → IsPool q → slice_get q.exprs k ≡ Some e → AllByRecursion (λ j. j < k) (own_offsets e)
offsets_there q k e rules at = offsets_below k e (standing q k e rules at).names

pub named_there : (q : Pooled) (k : ℕ) (e : Expr) → IsPool q → slice_get q.exprs k ≡ Some e → AllByRecursion (λ j. j < k) (numbers (named e))
named_there q k e rules at = below_all k (named e) (standing q k e rules at).names

-- ---- the signals of targets

signals_same : (f g : ℕ → List ℕ) (e : Expr) → AreSame f g (named e) → signals_step f e ≡ signals_step g e
signals_same f g (Slice a low width) h = h.0
signals_same f g (Cat es) h = flat_same f g es h
signals_same f g (Part a offset width stride) h = h.0
signals_same f g (Pick index es) h = flat_same f g es h.1
signals_same f g (Cast a signed) h = h.0
signals_same f g (expr.TheVariants.Sig s) h = refl
signals_same f g (Const n s) h = refl
signals_same f g (Unary op a) h = refl
signals_same f g (Binary op a b) h = refl
signals_same f g (Mux s a b) h = refl
signals_same f g (Matches a patterns) h = refl
signals_same f g (Reset domain place) h = refl

pub target_signals_is : (q : Pooled) (k : ℕ) (e : Expr) → IsPool q → slice_get q.exprs k ≡ Some e → target_signals q k ≡ signals_step (target_signals q) e
unfolding target_signals
target_signals_is q k e rules at = answer_at [] signals_step q.exprs k e at (λ f g same. signals_same f g e (same_below f g k (named e) same (standing q k e rules at).names))

one_part : (b : Bool) → b ≡ (b || false)
one_part b = sym (or_false b)

module _ (f : ℕ → List ℕ) (n : ℕ) where
  abbrev leads : ℕ → Bool
  leads j = is_among (f j) n

  joined : (es : List ExprId) → is_among (flat_map (λ (e : ExprId). f e.0) es) n ≡ list_any leads (numbers es)
  joined es = among_flat (λ (e : ExprId). f e.0) es n ∙ any_numbers leads es

  signals_leads : (e : Expr) → is_among (signals_step f e) n ≡ (is_among (own_signals e) n || list_any leads (numbers (target_parts e)))
  signals_leads (expr.TheVariants.Sig s) = one_part ((s.0 == n) || false)
  signals_leads (Slice a low width) = one_part (leads a.0)
  signals_leads (Cat es) = joined es
  signals_leads (Part a offset width stride) = one_part (leads a.0)
  signals_leads (Pick index es) = joined es
  signals_leads (Cast a signed) = one_part (leads a.0)
  signals_leads (Const m s) = refl
  signals_leads (Unary op a) = refl
  signals_leads (Binary op a b) = refl
  signals_leads (Mux s a b) = refl
  signals_leads (Matches a patterns) = refl
  signals_leads (Reset domain place) = refl

  offsets_leads : (e : Expr) → is_among (offset_step f e) n ≡ (is_among (own_offsets e) n || list_any leads (numbers (target_parts e)))
  offsets_leads (expr.TheVariants.Sig s) = refl
  offsets_leads (Slice a low width) = one_part (leads a.0)
  offsets_leads (Cat es) = joined es
  offsets_leads (Part a offset width stride) = ap (λ b. (offset.0 == n) || b) (one_part (leads a.0)) ∙ nested (offset.0 == n) (leads a.0 || false)
    where
      nested : (a b : Bool) → (a || b) ≡ ((a || false) || b)
      nested true b = refl
      nested false b = refl
  offsets_leads (Pick index es) = ap (λ b. (index.0 == n) || b) (joined es) ∙ nested (index.0 == n) (list_any leads (numbers es))
    where
      nested : (a b : Bool) → (a || b) ≡ ((a || false) || b)
      nested true b = refl
      nested false b = refl
  offsets_leads (Cast a signed) = one_part (leads a.0)
  offsets_leads (Const m s) = refl
  offsets_leads (Unary op a) = refl
  offsets_leads (Binary op a b) = refl
  offsets_leads (Mux s a b) = refl
  offsets_leads (Matches a patterns) = refl
  offsets_leads (Reset domain place) = refl

  read_leads : (e : Expr) → is_among (read_step f e) n ≡ (is_among (own_signals e) n || list_any leads (numbers (named e)))
  read_leads e = any-append (λ y. y == n) (own_signals e) (flat_map (λ (a : ExprId). f a.0) (named e)) ∙ ap (λ b. is_among (own_signals e) n || b) (joined (named e))

pub signals_lead : (q : Pooled) (k : ℕ) (e : Expr) (n : ℕ) → IsPool q → slice_get q.exprs k ≡ Some e → is_among (target_signals q k) n ≡ (is_among (own_signals e) n || list_any (λ j. is_among (target_signals q j) n) (numbers (target_parts e)))
signals_lead q k e n rules at = ap (λ ss. is_among ss n) (target_signals_is q k e rules at) ∙ signals_leads (target_signals q) n e

-- ---- offsets and indices

offsets_same : (f g : ℕ → List ℕ) (e : Expr) → AreSame f g (named e) → offset_step f e ≡ offset_step g e
offsets_same f g (Slice a low width) h = h.0
offsets_same f g (Cat es) h = flat_same f g es h
offsets_same f g (Part a offset width stride) h = ap (λ ks. offset.0 ∷ ks) h.0
offsets_same f g (Pick index es) h = ap (λ ks. index.0 ∷ ks) (flat_same f g es h.1)
offsets_same f g (Cast a signed) h = h.0
offsets_same f g (expr.TheVariants.Sig s) h = refl
offsets_same f g (Const n s) h = refl
offsets_same f g (Unary op a) h = refl
offsets_same f g (Binary op a b) h = refl
offsets_same f g (Mux s a b) h = refl
offsets_same f g (Matches a patterns) h = refl
offsets_same f g (Reset domain place) h = refl

offsets_in_is : (q : Pooled) (k : ℕ) (e : Expr) → IsPool q → slice_get q.exprs k ≡ Some e → offsets_in q k ≡ offset_step (offsets_in q) e
unfolding offsets_in
offsets_in_is q k e rules at = answer_at [] offset_step q.exprs k e at (λ f g same. offsets_same f g e (same_below f g k (named e) same (standing q k e rules at).names))

pub offsets_lead : (q : Pooled) (k : ℕ) (e : Expr) (n : ℕ) → IsPool q → slice_get q.exprs k ≡ Some e → is_among (offsets_in q k) n ≡ (is_among (own_offsets e) n || list_any (λ j. is_among (offsets_in q j) n) (numbers (target_parts e)))
offsets_lead q k e n rules at = ap (λ ss. is_among ss n) (offsets_in_is q k e rules at) ∙ offsets_leads (offsets_in q) n e

-- ---- the signals that stand in expressions

signals_in_is : (q : Pooled) (k : ℕ) (e : Expr) → IsPool q → slice_get q.exprs k ≡ Some e → signals_in q k ≡ read_step (signals_in q) e
unfolding signals_in
signals_in_is q k e rules at = answer_at [] read_step q.exprs k e at (λ f g same. ap (λ ss. own_signals e ++ ss) (flat_same f g (named e) (same_below f g k (named e) same (standing q k e rules at).names)))

pub reads_lead : (q : Pooled) (k : ℕ) (e : Expr) (n : ℕ) → IsPool q → slice_get q.exprs k ≡ Some e → is_among (signals_in q k) n ≡ (is_among (own_signals e) n || list_any (λ j. is_among (signals_in q j) n) (numbers (named e)))
reads_lead q k e n rules at = ap (λ ss. is_among ss n) (signals_in_is q k e rules at) ∙ read_leads (signals_in q) n e

-- ---- targets that stand for a marked signal

pub hits_is : (q : Pooled) (bad : ℕ → Bool) (k : ℕ) → answer false (hit_step bad) q.exprs k ≡ list_any bad (target_signals q k)
unfolding target_signals
hits_is q bad k = sym (related [] false signals_step (hit_step bad) (λ ss b. list_any bad ss ≡ b) refl each q.exprs k)
  where
    flat : (f : ℕ → List ℕ) (g : ℕ → Bool) → ((j : ℕ) → list_any bad (f j) ≡ g j) → (es : List ExprId) → list_any bad (flat_map (λ (e : ExprId). f e.0) es) ≡ list_any (λ (e : ExprId). g e.0) es
    flat f g h [] = refl
    flat f g h (e ∷ es) = any-append bad (f e.0) (flat_map (λ (e : ExprId). f e.0) es) ∙ ap (λ b. b || list_any bad (flat_map (λ (e : ExprId). f e.0) es)) (h e.0) ∙ ap (λ b. g e.0 || b) (flat f g h es)

    each : (f : ℕ → List ℕ) (g : ℕ → Bool) (e : Expr) → ((j : ℕ) → list_any bad (f j) ≡ g j) → list_any bad (signals_step f e) ≡ hit_step bad g e
    each f g (expr.TheVariants.Sig s) h = or_false (bad s.0)
    each f g (Slice a low width) h = h a.0
    each f g (Cat es) h = flat f g h es
    each f g (Part a offset width stride) h = h a.0
    each f g (Pick index es) h = flat f g h es
    each f g (Cast a signed) h = h a.0
    each f g (Const m s) h = refl
    each f g (Unary op a) h = refl
    each f g (Binary op a b) h = refl
    each f g (Mux s a b) h = refl
    each f g (Matches a patterns) h = refl
    each f g (Reset domain place) h = refl

-- ---- past the end

past : {A : Type 0} (step : (ℕ → List A) → Expr → List A) (es : List Expr) (k : ℕ) → length es ≤ k → answer [] step es k ≡ []
past step es k le = let r = answers_begin [] step [] es in get_or_past (answers [] step [] es) k [] (omega (arith, le, ap length r.1, r.2))

pub target_signals_past : (q : Pooled) (k : ℕ) → length q.exprs ≤ k → target_signals q k ≡ []
unfolding target_signals
target_signals_past q k le = past signals_step q.exprs k le

pub signals_in_past : (q : Pooled) (k : ℕ) → length q.exprs ≤ k → signals_in q k ≡ []
unfolding signals_in
signals_in_past q k le = past read_step q.exprs k le

pub offsets_in_past : (q : Pooled) (k : ℕ) → length q.exprs ≤ k → offsets_in q k ≡ []
unfolding offsets_in
offsets_in_past q k le = past offset_step q.exprs k le
