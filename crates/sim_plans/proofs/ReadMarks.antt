-- The signals of the marked expressions are those that the statements read from which the marks spread.
use Rattle.std.specs.Prelude.{◌≡◌, refl, ℕ, zero, suc, ◌<◌, ◌≤◌, ◌⊎◌, ◌==◌, ◌||◌, Bool, true, false, List, [], ◌∷◌, ◌++◌, length, slice_get, Some}
use Rattle.std.specs.List.{list_any}
use Rattle.std.proofs.Common.{sym, ◌∙◌, ap, arith, subst, ⊎_elim, inl, inr}
use Rattle.std.proofs.lemmas.Bool.{cases_lt, eq-eqb, eqb-true, false≢true}
use Rattle.std.proofs.lemmas.List.{get_or_past}
use Rattle.design_ir.specs.declared.ids.ExprId.{ExprId}
use Rattle.design_ir.specs.declared.ids.SigId.{SigId}
use Rattle.design_ir.specs.declared.expr.Expr as expr
use Rattle.design_ir.specs.declared.expr.Expr.{Expr}
use Rattle.design_ir.specs.declared.expr.Expr.TheVariants.{Const, Unary, Binary, Mux, Slice, Cat, Part, Pick, Cast, Matches, Reset}
use Rattle.design_ir.specs.Circuits.{is_among}
use Rattle.design_ir.specs.Named.{named, AllBelow}
use Rattle.design_ir.specs.Pools.{Pooled}
use Rattle.design_ir.specs.PoolRules.{IsPool}
use Rattle.design_ir.specs.Trees.{Statement, assign, choose, Choices, none, arm, Block, done, next}
use Rattle.design_ir.proofs.Equations.{standing}
use Rattle.design_ir.proofs.NumbersFit.{element}
use Rattle.sim_plans.specs.Compiled.{HoldsSignal}
use Rattle.sim_plans.specs.Marks.{aimed_names, placing_names, is_marked, AreMarked, AreSpread, ReadOnly}
use Rattle.sim_plans.specs.Reads.{stands_step, stands_in, placing_step, places, statement_reads, choices_read, block_reads}
use Rattle.sim_plans.specs.Tasks.{places_of, block_targets, statement_targets, choices_targets, block_values, statement_values, choices_values}
use Rattle.sim_plans.proofs.Agrees.{stands_is, places_is, left, right}
use Rattle.sim_plans.specs.Driven.{numbers_of}
use Rattle.sim_plans.specs.Given.{marked}
use Rattle.sim_plans.proofs.Spreading.{aimed_below, placing_below, marks_back}

or_cases : (a b : Bool) → (a || b) ≡ true → (a ≡ true) ⊎ (b ≡ true)
or_cases true b e = inl refl
or_cases false b e = inr e

find : (holds : ℕ → Bool) (m : List Bool) (k : ℕ) (es : List ExprId) → AllBelow k es → AreMarked m es → list_any (λ (e : ExprId). holds e.0) es ≡ true → (j : ℕ) × (j < k) × (is_marked m j ≡ true) × (holds j ≡ true)
find holds m k [] b a h = absurd (false≢true h)
find holds m k (e ∷ es) b a h =
    ⊎_elim (λ (t : holds e.0 ≡ true). (e.0, b.0, a.0, t)) (λ (t : list_any (λ (x : ExprId). holds x.0) es ≡ true). find holds m k es b.1 a.1 t) (or_cases (holds e.0) (list_any (λ (x : ExprId). holds x.0) es) h)

abbrev IsOwn : ℕ → Expr → Type 0
IsOwn s x = (y : SigId) × (x ≡ expr.TheVariants.Sig y) × (y.0 ≡ s)

stands_cases : (s : ℕ) (stands : ℕ → Bool) (x : Expr) → stands_step s stands x ≡ true → IsOwn s x ⊎ (list_any (λ (e : ExprId). stands e.0) (named x) ≡ true)
stands_cases s stands (expr.TheVariants.Sig y) h = inl (y, refl, eqb-true y.0 s h)
stands_cases s stands (Const n f) h = absurd (false≢true h)
stands_cases s stands (Unary op a) h = inr h
stands_cases s stands (Binary op a b) h = inr h
stands_cases s stands (Mux i a b) h = inr h
stands_cases s stands (Slice a low width) h = inr h
stands_cases s stands (Cat es) h = inr h
stands_cases s stands (Part a offset width stride) h = inr h
stands_cases s stands (Pick index es) h = inr h
stands_cases s stands (Cast a signed) h = inr h
stands_cases s stands (Matches a patterns) h = inr h
stands_cases s stands (Reset domain place) h = absurd (false≢true h)

any_of : (ps : ℕ → Bool) (es : List ExprId) → Bool
any_of ps es = list_any (λ (e : ExprId). ps e.0) es

placing_cases : (p : Pooled) (s : ℕ) (ps : ℕ → Bool) (x : Expr) → placing_step p s ps x ≡ true → (list_any (λ (e : ExprId). ps e.0) (aimed_names x) ≡ true) ⊎ (list_any (λ (e : ExprId). stands_in p s e.0) (placing_names x) ≡ true)
placing_cases p s ps (Slice a low width) h = inl (left (ps a.0) false h)
placing_cases p s ps (Cat es) h = inl h
placing_cases p s ps (Part a offset width stride) h =
    ⊎_elim (λ (t : stands_in p s offset.0 ≡ true). inr (left (stands_in p s offset.0) false t)) (λ (t : ps a.0 ≡ true). inl (left (ps a.0) false t)) (or_cases (stands_in p s offset.0) (ps a.0) h)
placing_cases p s ps (Pick index es) h =
    ⊎_elim (λ (t : stands_in p s index.0 ≡ true). inr (left (stands_in p s index.0) false t)) (λ (t : list_any (λ (e : ExprId). ps e.0) es ≡ true). inl t) (or_cases (stands_in p s index.0) (list_any (λ (e : ExprId). ps e.0) es) h)
placing_cases p s ps (Cast a signed) h = inl (left (ps a.0) false h)
placing_cases p s ps (Const n f) h = absurd (false≢true h)
placing_cases p s ps (expr.TheVariants.Sig y) h = absurd (false≢true h)
placing_cases p s ps (Unary op a) h = absurd (false≢true h)
placing_cases p s ps (Binary op a b) h = absurd (false≢true h)
placing_cases p s ps (Mux i a b) h = absurd (false≢true h)
placing_cases p s ps (Matches a patterns) h = absurd (false≢true h)
placing_cases p s ps (Reset domain place) h = absurd (false≢true h)

marked_parts : (m : List Bool) (xs ys : List ExprId) → AreMarked m (xs ++ ys) → AreMarked m xs × AreMarked m ys
marked_parts m [] ys h = (tt, h)
marked_parts m (x ∷ xs) ys h = let r = marked_parts m xs ys h.1 in ((h.0, r.0), r.1)

within : (xs : List Bool) (k : ℕ) → is_marked xs k ≡ true → k < length xs
within xs k h = ⊎_elim (λ l. l) (λ (past : length xs ≤ k). absurd (false≢true (sym (get_or_past xs k false past) ∙ h))) (cases_lt k (length xs))

module _ (p : Pooled) (rules : IsPool p) (aims values : List Bool) (long : length aims ≡ length p.exprs) (long' : length values ≡ length p.exprs) (closed : AreSpread p aims values) (s : ℕ) where
  -- a marked expression in which the signal stands leads to one that is the signal
  stands_down : (n k : ℕ) → k < n → is_marked values k ≡ true → stands_in p s k ≡ true → HoldsSignal p values s
  stands_down zero k lt m h = absurd (omega (arith, lt))
  stands_down (suc n) k lt m h =
      let at = element p.exprs k (let w = within values k m in omega (arith, w, long')) in
      ⊎_elim
      (λ (own : IsOwn s at.0). record { k = k; sig = own.0; is = at.1 ∙ ap (λ z. Some z) own.1; same = own.2; marked = m })
      (λ (any : list_any (λ (e : ExprId). stands_in p s e.0) (named at.0) ≡ true).
      let r = find (stands_in p s) values k (named at.0) (standing p k at.0 rules at.1).names (closed.of_values k at.0 at.1 m) any in
      stands_down n r.0 (omega (arith, lt, r.1)) r.2 r.3)
      (stands_cases s (stands_in p s) at.0 (sym (stands_is p s k at.0 rules at.1) ∙ h))

  places_down : (n k : ℕ) → k < n → is_marked aims k ≡ true → places p s k ≡ true → HoldsSignal p values s
  places_down zero k lt m h = absurd (omega (arith, lt))
  places_down (suc n) k lt m h =
      let at = element p.exprs k (let w = within aims k m in omega (arith, w, long)) in
      let below = (standing p k at.0 rules at.1).names in
      ⊎_elim
      (λ (any : list_any (λ (e : ExprId). places p s e.0) (aimed_names at.0) ≡ true).
      let r = find (places p s) aims k (aimed_names at.0) (aimed_below k at.0 below) (closed.of_aims.named k at.0 at.1 m) any in
      places_down n r.0 (omega (arith, lt, r.1)) r.2 r.3)
      (λ (any : list_any (λ (e : ExprId). stands_in p s e.0) (placing_names at.0) ≡ true).
      let r = find (stands_in p s) values k (placing_names at.0) (placing_below k at.0 below) (closed.of_aims.placed k at.0 at.1 m) any in
      stands_down (suc r.0) r.0 (omega arith) r.2 r.3)
      (placing_cases p s (places p s) at.0 (sym (places_is p s k at.0 rules at.1) ∙ h))

  pub stands_held : (k : ℕ) → is_marked values k ≡ true → stands_in p s k ≡ true → HoldsSignal p values s
  stands_held k m h = stands_down (suc k) k (omega arith) m h

  mutual
    statement_held : (b : Statement) → AreMarked aims (statement_targets b) → AreMarked values (statement_values b) → statement_reads p s b ≡ true → HoldsSignal p values s
    statement_held (assign target value place) a v h =
        ⊎_elim (λ (t : places p s target.0 ≡ true). places_down (suc target.0) target.0 (omega arith) a.0 t) (λ (t : stands_in p s value.0 ≡ true). stands_held value.0 v.0 t) (or_cases (places p s target.0) (stands_in p s value.0) h)
    statement_held (choose arms) a v h = choices_held arms a v h

    choices_held : (b : Choices) → AreMarked aims (choices_targets b) → AreMarked values (choices_values b) → choices_read p s b ≡ true → HoldsSignal p values s
    choices_held none a v h = absurd (false≢true h)
    choices_held (arm condition body others) a v h =
        let pa = marked_parts aims (block_targets body) (choices_targets others) a in
        let pv = marked_parts values (block_values body) (choices_values others) v.1 in
        ⊎_elim
        (λ (t : stands_in p s condition.0 ≡ true). stands_held condition.0 v.0 t)
        (λ (t : (block_reads p s body || choices_read p s others) ≡ true).
        ⊎_elim (λ (u : block_reads p s body ≡ true). block_held body pa.0 pv.0 u) (λ (u : choices_read p s others ≡ true). choices_held others pa.1 pv.1 u) (or_cases (block_reads p s body) (choices_read p s others) t))
        (or_cases (stands_in p s condition.0) (block_reads p s body || choices_read p s others) h)

    pub block_held : (b : Block) → AreMarked aims (block_targets b) → AreMarked values (block_values b) → block_reads p s b ≡ true → HoldsSignal p values s
    block_held done a v h = absurd (false≢true h)
    block_held (next x rest) a v h =
        let pa = marked_parts aims (statement_targets x) (block_targets rest) a in
        let pv = marked_parts values (statement_values x) (block_values rest) v in
        ⊎_elim (λ (u : statement_reads p s x ≡ true). statement_held x pa.0 pv.0 u) (λ (u : block_reads p s rest ≡ true). block_held rest pa.1 pv.1 u) (or_cases (statement_reads p s x) (block_reads p s rest) h)

-- what stands directly in statements reads only what they read
among_parts : (xs ys : List ExprId) (j : ℕ) → is_among (places_of (xs ++ ys)) j ≡ true → (is_among (places_of xs) j ≡ true) ⊎ (is_among (places_of ys) j ≡ true)
among_parts [] ys j h = inr h
among_parts (x ∷ xs) ys j h =
    ⊎_elim (λ (t : (x.0 == j) ≡ true). inl (left (x.0 == j) (is_among (places_of xs) j) t)) (λ (t : is_among (places_of (xs ++ ys)) j ≡ true). ⊎_elim (λ u. inl (right (x.0 == j) (is_among (places_of xs) j) u)) (λ u. inr u) (among_parts xs ys j t)) (or_cases (x.0 == j) (is_among (places_of (xs ++ ys)) j) h)

or_false : (a : Bool) → (a || false) ≡ true → a ≡ true
or_false true e = refl
or_false false e = e

module _ (p : Pooled) (s j : ℕ) where
  mutual
    statement_value : (b : Statement) → is_among (places_of (statement_values b)) j ≡ true → stands_in p s j ≡ true → statement_reads p s b ≡ true
    statement_value (assign target value place) m h = right (places p s target.0) (stands_in p s value.0) (ap (stands_in p s) (eqb-true value.0 j (or_false (value.0 == j) m)) ∙ h)
    statement_value (choose arms) m h = choices_value arms m h

    choices_value : (b : Choices) → is_among (places_of (choices_values b)) j ≡ true → stands_in p s j ≡ true → choices_read p s b ≡ true
    choices_value none m h = absurd (false≢true m)
    choices_value (arm condition body others) m h =
        ⊎_elim
        (λ (t : (condition.0 == j) ≡ true). left (stands_in p s condition.0) (block_reads p s body || choices_read p s others) (ap (stands_in p s) (eqb-true condition.0 j t) ∙ h))
        (λ (t : is_among (places_of (block_values body ++ choices_values others)) j ≡ true).
        right (stands_in p s condition.0) (block_reads p s body || choices_read p s others)
        (⊎_elim (λ u. left (block_reads p s body) (choices_read p s others) (block_value body u h)) (λ u. right (block_reads p s body) (choices_read p s others) (choices_value others u h)) (among_parts (block_values body) (choices_values others) j t)))
        (or_cases (condition.0 == j) (is_among (places_of (block_values body ++ choices_values others)) j) m)

    pub block_value : (b : Block) → is_among (places_of (block_values b)) j ≡ true → stands_in p s j ≡ true → block_reads p s b ≡ true
    block_value done m h = absurd (false≢true m)
    block_value (next x rest) m h =
        ⊎_elim (λ u. left (statement_reads p s x) (block_reads p s rest) (statement_value x u h)) (λ u. right (statement_reads p s x) (block_reads p s rest) (block_value rest u h)) (among_parts (statement_values x) (block_values rest) j m)

  mutual
    statement_target : (b : Statement) → is_among (places_of (statement_targets b)) j ≡ true → places p s j ≡ true → statement_reads p s b ≡ true
    statement_target (assign target value place) m h = left (places p s target.0) (stands_in p s value.0) (ap (places p s) (eqb-true target.0 j (or_false (target.0 == j) m)) ∙ h)
    statement_target (choose arms) m h = choices_target arms m h

    choices_target : (b : Choices) → is_among (places_of (choices_targets b)) j ≡ true → places p s j ≡ true → choices_read p s b ≡ true
    choices_target none m h = absurd (false≢true m)
    choices_target (arm condition body others) m h =
        right (stands_in p s condition.0) (block_reads p s body || choices_read p s others)
        (⊎_elim (λ u. left (block_reads p s body) (choices_read p s others) (block_target body u h)) (λ u. right (block_reads p s body) (choices_read p s others) (choices_target others u h)) (among_parts (block_targets body) (choices_targets others) j m))

    pub block_target : (b : Block) → is_among (places_of (block_targets b)) j ≡ true → places p s j ≡ true → block_reads p s b ≡ true
    block_target done m h = absurd (false≢true m)
    block_target (next x rest) m h =
        ⊎_elim (λ u. left (statement_reads p s x) (block_reads p s rest) (statement_target x u h)) (λ u. right (statement_reads p s x) (block_reads p s rest) (block_target rest u h)) (among_parts (statement_targets x) (block_targets rest) j m)

-- marks that begin at the targets, right sides and conditions of statements read no more than they do
pub first_only : (p : Pooled) (b : Block) (m n : List Bool) → ((j : ℕ) → is_marked m j ≡ false) → ((j : ℕ) → is_marked n j ≡ false) → ReadOnly p (marked (places_of (block_targets b)) m) (marked (places_of (block_values b)) n) (λ s. block_reads p s b)
first_only p b m n none_m none_n = (
  λ j s h t. ⊎_elim (λ (a : is_marked n j ≡ true). absurd (false≢true (sym (none_n j) ∙ a))) (λ (a : is_among (places_of (block_values b)) j ≡ true). block_value p s j b a t) (marks_back (places_of (block_values b)) n j h),
  λ j s h t. ⊎_elim (λ (a : is_marked m j ≡ true). absurd (false≢true (sym (none_m j) ∙ a))) (λ (a : is_among (places_of (block_targets b)) j ≡ true). block_target p s j b a t) (marks_back (places_of (block_targets b)) m j h),
)

both : (a b : Bool) → (a ≡ true → b ≡ true) → (b ≡ true → a ≡ true) → a ≡ b
both true b f g = sym (f refl)
both false true f g = g refl
both false false f g = refl

-- the signals of the marked expressions are exactly what the statements read
pub reads_exact : (p : Pooled) → IsPool p → (b : Block) (aims values : List Bool) → length aims ≡ length p.exprs → length values ≡ length p.exprs → AreSpread p aims values → AreMarked aims (block_targets b) → AreMarked values (block_values b) → ReadOnly p aims values (λ s. block_reads p s b)
    → (list : List SigId) → ((k : ℕ) (s : SigId) → slice_get p.exprs k ≡ Some (expr.TheVariants.Sig s) → is_marked values k ≡ true → is_among (numbers_of list) s.0 ≡ true) → ((s : ℕ) → is_among (numbers_of list) s ≡ true → HoldsSignal p values s)
    → (s : ℕ) → is_among (numbers_of list) s ≡ block_reads p s b
reads_exact p rules b aims values long long' closed a v only list all_in only_in s =
    both (is_among (numbers_of list) s) (block_reads p s b)
    (λ h.
    let x = only_in s h in
    only.0 x.k s x.marked (stands_is p s x.k (expr.TheVariants.Sig x.sig) rules x.is ∙ eq-eqb x.sig.0 s x.same))
    (λ h.
    let x = block_held p rules aims values long long' closed s b a v h in
    subst (λ n. is_among (numbers_of list) n ≡ true) x.same (all_in x.k x.sig x.is x.marked))
