-- One expression more whose parts are marked.
use Rattle.std.specs.Prelude.{◌≡◌, refl, ℕ, zero, suc, ◌+◌, ◌<◌, ◌≤◌, ◌⊎◌, ◌==◌, ◌||◌, Bool, true, false, List, [], ◌∷◌, length, slice_get, Some}
use Rattle.std.specs.List.{list_any, list_all}
use Rattle.std.proofs.Common.{sym, ◌∙◌, ap, arith, subst, inl, inr, ⊎_elim, get_or}
use Rattle.std.proofs.lemmas.Bool.{cases_Bool, cases_lt, eq-eqb, eqb-true, false≢true}
use Rattle.std.proofs.lemmas.List.{get_or_past}
use Rattle.design_ir.specs.declared.ids.ExprId.{ExprId}
use Rattle.design_ir.specs.declared.expr.Expr as expr
use Rattle.design_ir.specs.declared.expr.Expr.{Expr}
use Rattle.design_ir.specs.declared.expr.Expr.TheVariants.{Const, Unary, Binary, Mux, Slice, Cat, Part, Pick, Cast, Matches, Reset}
use Rattle.design_ir.specs.Circuits.{is_among}
use Rattle.design_ir.specs.Named.{named, AllBelow}
use Rattle.design_ir.specs.Pools.{Pooled}
use Rattle.design_ir.specs.PoolRules.{IsPool}
use Rattle.design_ir.specs.Targets.{is_target, target_test}
use Rattle.design_ir.proofs.Equations.{standing}
use Rattle.design_ir.proofs.TargetLaws.{and_true, is_target_is}
use Rattle.sim_plans.specs.Given.{marked}
use Rattle.sim_plans.specs.Marks.{aimed_names, placing_names, is_marked, AreMarked, AimsSpread, ValuesSpread, ReadOnly, StandsOnly, Stays}
use Rattle.sim_plans.specs.Reads.{stands_step, stands_in, placing_step, places}
use Rattle.sim_plans.specs.Tasks.{places_of}
use Rattle.sim_plans.specs.Waiting.{Waiting, IsWaiting, IsFront}
use Rattle.sim_plans.proofs.Agrees.{stands_is, places_is, left, right}
use Rattle.sim_plans.proofs.Fronts.{front_get}
use Rattle.sim_plans.proofs.Marks.{marked_at, marked_length}
use Rattle.sim_plans.proofs.Waits.{count_most, waits_below}

-- ---- marks

pub within : (xs : List Bool) (k : ℕ) → is_marked xs k ≡ true → k < length xs
within xs k h = ⊎_elim (λ l. l) (λ (past : length xs ≤ k). absurd (false≢true (sym (get_or_past xs k false past) ∙ h))) (cases_lt k (length xs))

pub marks_stay : (ss : List ℕ) (m : List Bool) → Stays m (marked ss m)
marks_stay ss m k h = marked_at ss m k (within m k h) ∙ left (is_marked m k) (is_among ss k) h

or_cases : (a b : Bool) → (a || b) ≡ true → (a ≡ true) ⊎ (b ≡ true)
or_cases true b e = inl refl
or_cases false b e = inr e

pub marks_back : (ss : List ℕ) (m : List Bool) (k : ℕ) → is_marked (marked ss m) k ≡ true → (is_marked m k ≡ true) ⊎ (is_among ss k ≡ true)
marks_back ss m k h = or_cases (is_marked m k) (is_among ss k) (sym (marked_at ss m k (subst (λ n. k < n) (marked_length ss m) (within (marked ss m) k h))) ∙ h)

among_of : (es : List ExprId) (e : ExprId) (rest : List ExprId) → is_among (places_of (e ∷ rest)) e.0 ≡ true
among_of es e rest = left (e.0 == e.0) (is_among (places_of rest) e.0) (eq-eqb e.0 e.0 refl)

pub marks_new : (es : List ExprId) (m : List Bool) → AllBelow (length m) es → AreMarked (marked (places_of es) m) es
marks_new es m below = go es below (λ k h. h)
  where
    go : (xs : List ExprId) → AllBelow (length m) xs → ((k : ℕ) → is_among (places_of xs) k ≡ true → is_among (places_of es) k ≡ true) → AreMarked (marked (places_of es) m) xs
    go [] b f = tt
    go (x ∷ xs) b f = (
      marked_at (places_of es) m x.0 b.0 ∙ right (is_marked m x.0) (is_among (places_of es) x.0) (f x.0 (left (x.0 == x.0) (is_among (places_of xs) x.0) (eq-eqb x.0 x.0 refl))),
      go xs b.1 (λ k h. f k (right (x.0 == k) (is_among (places_of xs) k) h)),
    )

pub all_stay : (was is : List Bool) (es : List ExprId) → Stays was is → AreMarked was es → AreMarked is es
all_stay was is [] s h = tt
all_stay was is (e ∷ es) s h = (s e.0 h.0, all_stay was is es s h.1)

among_all : (holds : ℕ → Bool) (es : List ExprId) (k : ℕ) → is_among (places_of es) k ≡ true → holds k ≡ true → list_any (λ (e : ExprId). holds e.0) es ≡ true
among_all holds [] k h t = absurd (false≢true h)
among_all holds (e ∷ es) k h t =
    ⊎_elim
    (λ (s : (e.0 == k) ≡ true). left (holds e.0) (list_any (λ (x : ExprId). holds x.0) es) (ap holds (eqb-true e.0 k s) ∙ t))
    (λ (s : (e.0 == k) ≡ false). right (holds e.0) (list_any (λ (x : ExprId). holds x.0) es) (among_all holds es k (sym (ap (λ b. b || is_among (places_of es) k) s) ∙ h) t))
    (cases_Bool (e.0 == k))

-- ---- what names what

-- a signal that stands in what is named stands in the expression
stands_up : (p : Pooled) (s : ℕ) (x : Expr) (k : ℕ) → is_among (places_of (named x)) k ≡ true → stands_in p s k ≡ true → stands_step s (stands_in p s) x ≡ true
stands_up p s (Const n f) k h t = absurd (false≢true h)
stands_up p s (expr.TheVariants.Sig y) k h t = absurd (false≢true h)
stands_up p s (Unary op a) k h t = among_all (stands_in p s) (named (Unary op a)) k h t
stands_up p s (Binary op a b) k h t = among_all (stands_in p s) (named (Binary op a b)) k h t
stands_up p s (Mux i a b) k h t = among_all (stands_in p s) (named (Mux i a b)) k h t
stands_up p s (Slice a low width) k h t = among_all (stands_in p s) (named (Slice a low width)) k h t
stands_up p s (Cat es) k h t = among_all (stands_in p s) es k h t
stands_up p s (Part a offset width stride) k h t = among_all (stands_in p s) (named (Part a offset width stride)) k h t
stands_up p s (Pick index es) k h t = among_all (stands_in p s) (named (Pick index es)) k h t
stands_up p s (Cast a signed) k h t = among_all (stands_in p s) (named (Cast a signed)) k h t
stands_up p s (Matches a patterns) k h t = among_all (stands_in p s) (named (Matches a patterns)) k h t
stands_up p s (Reset domain place) k h t = absurd (false≢true h)

or_false : (a : Bool) → (a || false) ≡ true → a ≡ true
or_false true e = refl
or_false false e = e

one_place : (holds : ℕ → Bool) (a : ExprId) (k : ℕ) → is_among (places_of (a ∷ [])) k ≡ true → holds k ≡ true → holds a.0 ≡ true
one_place holds a k h t = ap holds (eqb-true a.0 k (or_false (a.0 == k) h)) ∙ t

aims_up : (p : Pooled) (s : ℕ) (x : Expr) (k : ℕ) → is_among (places_of (aimed_names x)) k ≡ true → places p s k ≡ true → placing_step p s (places p s) x ≡ true
aims_up p s (Slice a low width) k h t = one_place (places p s) a k h t
aims_up p s (Cat es) k h t = among_all (places p s) es k h t
aims_up p s (Part a offset width stride) k h t = right (stands_in p s offset.0) (places p s a.0) (one_place (places p s) a k h t)
aims_up p s (Pick index es) k h t = right (stands_in p s index.0) (list_any (λ (e : ExprId). places p s e.0) es) (among_all (places p s) es k h t)
aims_up p s (Cast a signed) k h t = one_place (places p s) a k h t
aims_up p s (Const n f) k h t = absurd (false≢true h)
aims_up p s (expr.TheVariants.Sig y) k h t = absurd (false≢true h)
aims_up p s (Unary op a) k h t = absurd (false≢true h)
aims_up p s (Binary op a b) k h t = absurd (false≢true h)
aims_up p s (Mux i a b) k h t = absurd (false≢true h)
aims_up p s (Matches a patterns) k h t = absurd (false≢true h)
aims_up p s (Reset domain place) k h t = absurd (false≢true h)

placed_up : (p : Pooled) (s : ℕ) (x : Expr) (k : ℕ) → is_among (places_of (placing_names x)) k ≡ true → stands_in p s k ≡ true → placing_step p s (places p s) x ≡ true
placed_up p s (Part a offset width stride) k h t = left (stands_in p s offset.0) (places p s a.0) (one_place (stands_in p s) offset k h t)
placed_up p s (Pick index es) k h t = left (stands_in p s index.0) (list_any (λ (e : ExprId). places p s e.0) es) (one_place (stands_in p s) index k h t)
placed_up p s (Slice a low width) k h t = absurd (false≢true h)
placed_up p s (Cat es) k h t = absurd (false≢true h)
placed_up p s (Cast a signed) k h t = absurd (false≢true h)
placed_up p s (Const n f) k h t = absurd (false≢true h)
placed_up p s (expr.TheVariants.Sig y) k h t = absurd (false≢true h)
placed_up p s (Unary op a) k h t = absurd (false≢true h)
placed_up p s (Binary op a b) k h t = absurd (false≢true h)
placed_up p s (Mux i a b) k h t = absurd (false≢true h)
placed_up p s (Matches a patterns) k h t = absurd (false≢true h)
placed_up p s (Reset domain place) k h t = absurd (false≢true h)

all_place : (holds : ℕ → Bool) (es : List ExprId) (k : ℕ) → list_all (λ (e : ExprId). holds e.0) es ≡ true → is_among (places_of es) k ≡ true → holds k ≡ true
all_place holds [] k h t = absurd (false≢true t)
all_place holds (e ∷ es) k h t =
    let parts = and_true (holds e.0) (list_all (λ (x : ExprId). holds x.0) es) h in
    ⊎_elim (λ (s : (e.0 == k) ≡ true). ap holds (sym (eqb-true e.0 k s)) ∙ parts.0) (λ (s : (e.0 == k) ≡ false). all_place holds es k parts.1 (sym (ap (λ b. b || is_among (places_of es) k) s) ∙ t)) (cases_Bool (e.0 == k))

-- what a target is made of are targets
aims_are : (p : Pooled) (x : Expr) (k : ℕ) → target_test (is_target p) x ≡ true → is_among (places_of (aimed_names x)) k ≡ true → is_target p k ≡ true
aims_are p (Slice a low width) k t h = ap (is_target p) (sym (eqb-true a.0 k (or_false (a.0 == k) h))) ∙ t
aims_are p (Cat es) k t h = all_place (is_target p) es k t h
aims_are p (Part a offset width stride) k t h = ap (is_target p) (sym (eqb-true a.0 k (or_false (a.0 == k) h))) ∙ t
aims_are p (Pick index es) k t h = all_place (is_target p) es k t h
aims_are p (Cast a signed) k t h = ap (is_target p) (sym (eqb-true a.0 k (or_false (a.0 == k) h))) ∙ t
aims_are p (Const n f) k t h = absurd (false≢true h)
aims_are p (expr.TheVariants.Sig y) k t h = absurd (false≢true h)
aims_are p (Unary op a) k t h = absurd (false≢true h)
aims_are p (Binary op a b) k t h = absurd (false≢true h)
aims_are p (Mux i a b) k t h = absurd (false≢true h)
aims_are p (Matches a patterns) k t h = absurd (false≢true h)
aims_are p (Reset domain place) k t h = absurd (false≢true h)

-- both kinds of names are among those that are named
pub aimed_below : (k : ℕ) (x : Expr) → AllBelow k (named x) → AllBelow k (aimed_names x)
aimed_below k (Slice a low width) h = h
aimed_below k (Cat es) h = h
aimed_below k (Part a offset width stride) h = (h.0, tt)
aimed_below k (Pick index es) h = h.1
aimed_below k (Cast a signed) h = h
aimed_below k (Const n f) h = tt
aimed_below k (expr.TheVariants.Sig y) h = tt
aimed_below k (Unary op a) h = tt
aimed_below k (Binary op a b) h = tt
aimed_below k (Mux i a b) h = tt
aimed_below k (Matches a patterns) h = tt
aimed_below k (Reset domain place) h = tt

pub placing_below : (k : ℕ) (x : Expr) → AllBelow k (named x) → AllBelow k (placing_names x)
placing_below k (Part a offset width stride) h = (h.1.0, tt)
placing_below k (Pick index es) h = (h.0, tt)
placing_below k (Slice a low width) h = tt
placing_below k (Cat es) h = tt
placing_below k (Cast a signed) h = tt
placing_below k (Const n f) h = tt
placing_below k (expr.TheVariants.Sig y) h = tt
placing_below k (Unary op a) h = tt
placing_below k (Binary op a b) h = tt
placing_below k (Mux i a b) h = tt
placing_below k (Matches a patterns) h = tt
placing_below k (Reset domain place) h = tt

-- ---- one expression more

-- the first so many of these targets have what they are made of marked
abbrev pub AimsDone : Pooled → ℕ → List ℕ → List Bool → List Bool → Type 0
AimsDone p n list aims values = (j : ℕ) (x : Expr) → j < n → j < length list → slice_get p.exprs (get_or list j 0) ≡ Some x → AreMarked aims (aimed_names x) × AreMarked values (placing_names x)

-- the first so many of these expressions have what they name marked
abbrev pub ValuesDone : Pooled → ℕ → List ℕ → List Bool → Type 0
ValuesDone p n list values = (j : ℕ) (x : Expr) → j < n → j < length list → slice_get p.exprs (get_or list j 0) ≡ Some x → AreMarked values (named x)

pub place_of : (xs : List ℕ) (k : ℕ) → is_among xs k ≡ true → (i : ℕ) × (i < length xs) × (get_or xs i 0 ≡ k)
place_of [] k h = absurd (false≢true h)
place_of (x ∷ xs) k h =
    ⊎_elim
    (λ (e : (x == k) ≡ true). (0, omega arith, eqb-true x k e))
    (λ (e : is_among xs k ≡ true). let r = place_of xs k e in (suc r.0, omega (arith, r.1), r.2))
    (or_cases (x == k) (is_among xs k) h)

-- once all are done, all that is marked is
pub aims_spread : (p : Pooled) (i : ℕ) (w : Waiting) (values : List Bool) → IsWaiting w → length w.list ≤ i → AimsDone p i w.list w.marks values → AimsSpread p w.marks values
aims_spread p i w values rules h done = record {
  named = λ j x is m. (at j x is m).0;
  placed = λ j x is m. (at j x is m).1;
}
  where
    at : (j : ℕ) (x : Expr) → slice_get p.exprs j ≡ Some x → is_marked w.marks j ≡ true → AreMarked w.marks (aimed_names x) × AreMarked values (placing_names x)
    at j x is m =
        let r = place_of w.list j (sym (rules.listed j) ∙ m) in
        done r.0 x (omega (arith, r.1, h)) r.1 (ap (slice_get p.exprs) r.2 ∙ is)

pub values_spread : (p : Pooled) (i : ℕ) (w : Waiting) → IsWaiting w → length w.list ≤ i → ValuesDone p i w.list w.marks → ValuesSpread p w.marks
values_spread p i w rules h done j x is m =
    let r = place_of w.list j (sym (rules.listed j) ∙ m) in
    done r.0 x (omega (arith, r.1, h)) r.1 (ap (slice_get p.exprs) r.2 ∙ is)

-- no more wait than there are expressions
pub turns_left : (n i : ℕ) (w : Waiting) → IsWaiting w → length w.marks ≡ n → i < length w.list → i < n
turns_left n i w rules long h = omega (arith, rules.count, count_most w.marks, long, h)

among_get : (xs : List ℕ) (i : ℕ) → i < length xs → is_among xs (get_or xs i 0) ≡ true
among_get [] i h = absurd (omega (arith, h))
among_get (x ∷ xs) zero h = left (x == x) (is_among xs x) (eq-eqb x x refl)
among_get (x ∷ xs) (suc i) h = right (x == get_or xs i 0) (is_among xs (get_or xs i 0)) (among_get xs i (omega (arith, h)))

-- one that waits is marked
pub turn_marked : (w : Waiting) → IsWaiting w → (i k : ℕ) → i < length w.list → k ≡ get_or w.list i 0 → is_marked w.marks k ≡ true
turn_marked w rules i k h e = rules.listed k ∙ ap (is_among w.list) e ∙ among_get w.list i h

-- one that waits is an expression
pub turn_there : (n i : ℕ) (w : Waiting) → IsWaiting w → length w.marks ≡ n → i < length w.list → get_or w.list i 0 < n
turn_there n i w rules long h = omega (arith, waits_below w rules i h, long)

module _ (p : Pooled) (rules : IsPool p) (k : ℕ) (x : Expr) (is : slice_get p.exprs k ≡ Some x) where
  pub names_below : AllBelow (length p.exprs) (named x)
  names_below = (standing p k x rules is).askable.names

  same : (j : ℕ) (y : Expr) → j ≡ k → slice_get p.exprs j ≡ Some y → x ≡ y
  same j y e h = let f : Some x ≡ Some y = sym is ∙ ap (slice_get p.exprs) (sym e) ∙ h in cc

  -- what a target is made of is marked
  module _ (aims values aims' values' : List Bool) (here : is_marked aims k ≡ true) (ea : aims' ≡ marked (places_of (aimed_names x)) aims) (ep : values' ≡ marked (places_of (placing_names x)) values) where
    pub aims_stay : Stays aims aims'
    aims_stay j h = ap (λ m. is_marked m j) ea ∙ marks_stay (places_of (aimed_names x)) aims j h

    pub placed_stay : Stays values values'
    placed_stay j h = ap (λ m. is_marked m j) ep ∙ marks_stay (places_of (placing_names x)) values j h

    aims_back : (j : ℕ) → is_marked aims' j ≡ true → (is_marked aims j ≡ true) ⊎ (is_among (places_of (aimed_names x)) j ≡ true)
    aims_back j h = marks_back (places_of (aimed_names x)) aims j (sym (ap (λ m. is_marked m j) ea) ∙ h)

    placed_back : (j : ℕ) → is_marked values' j ≡ true → (is_marked values j ≡ true) ⊎ (is_among (places_of (placing_names x)) j ≡ true)
    placed_back j h = marks_back (places_of (placing_names x)) values j (sym (ap (λ m. is_marked m j) ep) ∙ h)

    pub targets_turn : ((j : ℕ) → is_marked aims j ≡ true → is_target p j ≡ true) → (j : ℕ) → is_marked aims' j ≡ true → is_target p j ≡ true
    targets_turn was j h = ⊎_elim (λ a. was j a) (λ (b : is_among (places_of (aimed_names x)) j ≡ true). aims_are p x j (sym (is_target_is p k x rules is) ∙ was k here) b) (aims_back j h)

    pub read_turn : (r : ℕ → Bool) → ReadOnly p aims values r → ReadOnly p aims' values' r
    read_turn r was = (
      λ j s h t. ⊎_elim (λ a. was.0 j s a t) (λ (b : is_among (places_of (placing_names x)) j ≡ true). was.1 k s here (places_is p s k x rules is ∙ placed_up p s x j b t)) (placed_back j h),
      λ j s h t. ⊎_elim (λ a. was.1 j s a t) (λ (b : is_among (places_of (aimed_names x)) j ≡ true). was.1 k s here (places_is p s k x rules is ∙ aims_up p s x j b t)) (aims_back j h),
    )

    pub aims_turn : (i : ℕ) (list list' : List ℕ) → length aims ≡ length p.exprs → length values ≡ length p.exprs → i < length list → k ≡ get_or list i 0 → IsFront list list' → AimsDone p i list aims values → AimsDone p (i + 1) list' aims' values'
    aims_turn i list list' long long' there e front was j y lt inside at =
        ⊎_elim
        (λ (old : j < i).
        let h = was j y old (omega (arith, old, there)) (ap (slice_get p.exprs) (sym (front_get list list' front j (omega (arith, old, there)))) ∙ at) in
        (all_stay aims aims' (aimed_names y) aims_stay h.0, all_stay values values' (placing_names y) placed_stay h.1))
        (λ (new : i ≤ j).
        let last : j ≡ i = omega (arith, lt, new) in
        let y_is : x ≡ y = same (get_or list' j 0) y (ap (λ m. get_or list' m 0) last ∙ front_get list list' front i there ∙ sym e) at in
        subst (λ z. AreMarked aims' (aimed_names z) × AreMarked values' (placing_names z)) y_is (
          subst (λ m. AreMarked m (aimed_names x)) (sym ea) (marks_new (aimed_names x) aims (subst (λ n. AllBelow n (aimed_names x)) (sym long) (aimed_below (length p.exprs) x names_below))),
          subst (λ m. AreMarked m (placing_names x)) (sym ep) (marks_new (placing_names x) values (subst (λ n. AllBelow n (placing_names x)) (sym long') (placing_below (length p.exprs) x names_below))),
        ))
        (cases_lt j i)

  -- what an expression names is marked
  module _ (values values' : List Bool) (here : is_marked values k ≡ true) (ev : values' ≡ marked (places_of (named x)) values) where
    pub values_stay : Stays values values'
    values_stay j h = ap (λ m. is_marked m j) ev ∙ marks_stay (places_of (named x)) values j h

    pub stands_turn : (r : ℕ → Bool) → StandsOnly p values r → StandsOnly p values' r
    stands_turn r was j s h t =
        ⊎_elim
        (λ a. was j s a t)
        (λ (b : is_among (places_of (named x)) j ≡ true). was k s here (stands_is p s k x rules is ∙ stands_up p s x j b t))
        (marks_back (places_of (named x)) values j (sym (ap (λ m. is_marked m j) ev) ∙ h))

    pub values_turn : (i : ℕ) (list list' : List ℕ) → length values ≡ length p.exprs → i < length list → k ≡ get_or list i 0 → IsFront list list' → ValuesDone p i list values → ValuesDone p (i + 1) list' values'
    values_turn i list list' long there e front was j y lt inside at =
        ⊎_elim
        (λ (old : j < i). all_stay values values' (named y) values_stay (was j y old (omega (arith, old, there)) (ap (slice_get p.exprs) (sym (front_get list list' front j (omega (arith, old, there)))) ∙ at)))
        (λ (new : i ≤ j).
        let last : j ≡ i = omega (arith, lt, new) in
        let y_is : x ≡ y = same (get_or list' j 0) y (ap (λ m. get_or list' m 0) last ∙ front_get list list' front i there ∙ sym e) at in
        subst (λ z. AreMarked values' (named z)) y_is (subst (λ m. AreMarked m (named x)) (sym ev) (marks_new (named x) values (subst (λ n. AllBelow n (named x)) (sym long) names_below))))
        (cases_lt j i)
