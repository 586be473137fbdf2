-- An expression is found behind all that it names.
use Rattle.std.specs.Prelude.{◌≡◌, ◌≢◌, refl, ℕ, zero, suc, ◌+◌, ◌<◌, ◌≤◌, cond, Bool, true, false, not, List, [], ◌∷◌, ◌++◌, length, take, slice_get, slice_set, slice_index_or, ℤ, pos, Some, None}
use Rattle.std.specs.List.{count_by}
use Rattle.std.proofs.Common.{sym, ◌∙◌, ap, arith, subst, ⊎_elim, length-append, add-one}
use Rattle.std.proofs.lemmas.Bool.{cases_eq, cases_Bool, false≢true}
use Rattle.std.proofs.lemmas.List.{length-set, length-take-le, get_or-take, get_or-set_same, get_or-set_other}
use Rattle.std.proofs.lemmas.List.Sums.{sum_by-cons}
use Rattle.amh_bits.specs.Patterns.{IsOf}
use Rattle.amh_bits.proofs.InShape.{of_zero}
use Rattle.design_ir.specs.declared.ids.ExprId.{ExprId}
use Rattle.design_ir.specs.declared.expr.Expr.{Expr}
use Rattle.design_ir.specs.Named.{named, AllBelow}
use Rattle.design_ir.specs.Pools.{Pooled}
use Rattle.design_ir.specs.PoolRules.{IsPool}
use Rattle.design_ir.specs.Values.{form, num, value_step}
use Rattle.design_ir.proofs.Congruence.{AreSame}
use Rattle.design_ir.proofs.Elements.{some_is}
use Rattle.design_ir.proofs.Equations.{standing, num_is}
use Rattle.design_ir.proofs.NumbersFit.{FitsSignals, num_fits}
use Rattle.delta_sim.specs.declared.evaluation.Visit.{Visit}
use Rattle.delta_sim.specs.Evaluations.{Evaluating, AreFound, IsFinding, IsIdle, IsPath, IsRooted, IsVisited, behind, lowest, number_of, work}
use Rattle.sim_plans.specs.Marks.{is_marked, AreMarked, Stays}
use Rattle.sim_plans.specs.Reading.{IsReady}
use Rattle.sim_plans.specs.Waiting.{Waiting}
use Rattle.sim_plans.proofs.Items.{below_at}
use Rattle.sim_plans.proofs.Programs.{below_more, value_named}
use Rattle.sim_plans.proofs.Spreading.{all_stay}
use Rattle.sim_plans.proofs.Waits.{none_marked}

-- ---- marks

pub mark_stays : (marks : List Bool) (k : ℕ) → Stays marks (slice_set marks k true)
mark_stays [] k j h = absurd (false≢true h)
mark_stays (b ∷ marks) zero zero h = refl
mark_stays (b ∷ marks) zero (suc j) h = h
mark_stays (b ∷ marks) (suc k) zero h = h
mark_stays (b ∷ marks) (suc k) (suc j) h = mark_stays marks k j h

-- how many are not marked
abbrev missing_in : List Bool → ℕ
missing_in marks = count_by not marks

without : (marks : List Bool) → missing_in (true ∷ marks) ≡ 0 + missing_in marks
without marks = sum_by-cons (λ b. cond (not b) 1 0) true marks

with_one : (marks : List Bool) → missing_in (false ∷ marks) ≡ 1 + missing_in marks
with_one marks = sum_by-cons (λ b. cond (not b) 1 0) false marks

pub one_less : (marks : List Bool) (k : ℕ) → k < length marks → is_marked marks k ≡ false → missing_in (slice_set marks k true) + 1 ≡ missing_in marks
one_less [] k there free = absurd (omega (arith, there))
one_less (true ∷ marks) zero there free = absurd (false≢true (sym free))
one_less (false ∷ marks) zero there free = omega (arith, without marks, with_one marks)
one_less (true ∷ marks) (suc k) there free = omega (arith, one_less marks k (omega (arith, there)) free, without marks, without (slice_set marks k true))
one_less (false ∷ marks) (suc k) there free = omega (arith, one_less marks k (omega (arith, there)) free, with_one marks, with_one (slice_set marks k true))

-- ---- those that wait

pub lowest_last : (bound : ℕ) (path : List Visit) (v : Visit) → lowest bound (path ++ v ∷ []) ≡ v.expr.0
lowest_last bound [] v = refl
lowest_last bound (w ∷ path) v = lowest_last w.expr.0 path v

module _ (p : Pooled) (marks : List Bool) where
  lowest_below : (bound : ℕ) (path : List Visit) → IsPath p marks bound path → lowest bound path ≤ bound
  lowest_below bound [] h = omega arith
  lowest_below bound (v ∷ path) h = omega (arith, lowest_below v.expr.0 path h.2, h.1)

  pub path_depth : (bound : ℕ) (path : List Visit) → IsPath p marks bound path → length path + lowest bound path ≤ bound
  path_depth bound [] h = omega arith
  path_depth bound (v ∷ path) h = omega (arith, path_depth v.expr.0 path h.2, h.1)

  pub path_on : (bound : ℕ) (path : List Visit) (v : Visit) → IsPath p marks bound path → IsVisited p marks v → v.expr.0 < lowest bound path → IsPath p marks bound (path ++ v ∷ [])
  path_on bound [] v h is below = (is, below, tt)
  path_on bound (w ∷ path) v h is below = (h.0, h.1, path_on w.expr.0 path v h.2 is below)

  pub path_before : (bound : ℕ) (path : List Visit) (v : Visit) → IsPath p marks bound (path ++ v ∷ []) → IsPath p marks bound path
  path_before bound [] v h = tt
  path_before bound (w ∷ path) v h = (h.0, h.1, path_before w.expr.0 path v h.2)

  pub path_last : (bound : ℕ) (path : List Visit) (v : Visit) → IsPath p marks bound (path ++ v ∷ []) → IsVisited p marks v × (v.expr.0 < lowest bound path)
  path_last bound [] v h = (h.0, h.1)
  path_last bound (w ∷ path) v h = path_last w.expr.0 path v h.2

  module _ (k : ℕ) where
    visited_stays : (v : Visit) → v.expr.0 ≢ k → IsVisited p marks v → IsVisited p (slice_set marks k true) v
    visited_stays v other h = record {
      there = h.there;
      missing = get_or-set_other marks k v.expr.0 true false other ∙ h.missing;
      read = λ x is. all_stay marks (slice_set marks k true) (take v.names (named x)) (mark_stays marks k) (h.read x is);
    }

    pub path_stays : (bound : ℕ) (path : List Visit) → k < lowest bound path → IsPath p marks bound path → IsPath p (slice_set marks k true) bound path
    path_stays bound [] below h = tt
    path_stays bound (v ∷ path) below h =
        let least = lowest_below v.expr.0 path h.2 in
        (visited_stays v (λ e. absurd (omega (arith, e, least, below))) h.0, h.1, path_stays v.expr.0 path below h.2)

pub rooted_on : (root : ℕ) (marks : List Bool) (path : List Visit) (v w x : Visit) → w.expr.0 ≡ v.expr.0 → IsRooted root marks (path ++ v ∷ []) → IsRooted root marks ((path ++ w ∷ []) ++ x ∷ [])
rooted_on root marks [] v w x same h = same ∙ h
rooted_on root marks (y ∷ path) v w x same h = h

pub rooted_back : (root : ℕ) (marks : List Bool) (path : List Visit) (v : Visit) → v.expr.0 < length marks → IsRooted root marks (path ++ v ∷ []) → IsRooted root (slice_set marks v.expr.0 true) path
rooted_back root marks [] v there h = ap (λ k. is_marked (slice_set marks v.expr.0 true) k) (sym h) ∙ get_or-set_same marks v.expr.0 true false there
rooted_back root marks (y ∷ path) v there h = h

-- ---- what was found

pub found_more : (p : Pooled) (env numbers : List ℤ) (marks : List Bool) (k : ℕ) → k < length numbers → k < length marks → AreFound p env numbers marks → AreFound p env (slice_set numbers k (num p env k)) (slice_set marks k true)
found_more p env numbers marks k there marked h = record {
  found = λ j is.
      ⊎_elim
      (λ (same : j ≡ k). ap (number_of (slice_set numbers k (num p env k))) same ∙ get_or-set_same numbers k (num p env k) (pos 0) there ∙ ap (num p env) (sym same))
      (λ (other : j ≢ k). get_or-set_other numbers k j (num p env k) (pos 0) other ∙ h.found j (sym (get_or-set_other marks k j true false other) ∙ is))
      (cases_eq j k);
  none = λ j is.
      let was : is_marked marks j ≡ false = ⊎_elim (λ (t : is_marked marks j ≡ true). absurd (false≢true (sym is ∙ mark_stays marks k j t))) (λ (t : is_marked marks j ≡ false). t) (cases_Bool (is_marked marks j)) in
      ⊎_elim
      (λ (same : j ≡ k). absurd (false≢true (sym is ∙ ap (is_marked (slice_set marks k true)) same ∙ get_or-set_same marks k true false marked)))
      (λ (other : j ≢ k). get_or-set_other numbers k j (num p env k) (pos 0) other ∙ h.none j was)
      (cases_eq j k);
}

-- ---- one expression

module _ (p : Pooled) (env numbers : List ℤ) (marks : List Bool) (rules : IsPool p) (fit : FitsSignals p env) (found : AreFound p env numbers marks) (k : ℕ) (x : Expr) (is : slice_get p.exprs k ≡ Some x) (there : k < length p.exprs) (inside : k < length numbers) where
  abbrev before : List ℤ
  before = take k numbers

  long : length before ≡ k
  long = length-take-le k numbers (omega (arith, inside))

  pub ready : length env ≡ length p.signals → IsReady p env before x
  ready signals =
      let s = standing p k x rules is in
      record {
        names = subst (λ n. AllBelow n (named x)) (sym long) s.names;
        askable = s.askable;
        accepted = s.accepted;
        pool = omega (arith, long, there);
        signals = signals;
        fits = λ j low.
            let below : j < k = omega (arith, low, long) in
            subst (IsOf (form p j).signed (form p j).width) (sym (get_or-take k numbers j (pos 0) below)) (
            ⊎_elim
            (λ (t : is_marked marks j ≡ true). subst (IsOf (form p j).signed (form p j).width) (sym (found.found j t)) (num_fits p env rules fit (record { 0 = j }) (omega (arith, below, there))))
            (λ (t : is_marked marks j ≡ false). subst (IsOf (form p j).signed (form p j).width) (sym (found.none j t)) (of_zero (form p j).signed (form p j).width))
            (cases_Bool (is_marked marks j)));
      }

  same_all : (es : List ExprId) → AllBelow k es → AreMarked marks es → AreSame (λ j. slice_index_or before j (pos 0)) (num p env) es
  same_all [] below h = tt
  same_all (e ∷ es) below h = (get_or-take k numbers e.0 (pos 0) below.0 ∙ found.found e.0 h.0, same_all es below.1 h.1)

  pub number_is : AreMarked marks (named x) → (n : ℤ) → n ≡ value_step (form p) env (λ j. slice_index_or before j (pos 0)) x → n ≡ num p env k
  number_is names n value =
      let s = standing p k x rules is in
      value ∙ value_named (form p) env (λ j. slice_index_or before j (pos 0)) (num p env) x (same_all (named x) s.names names) ∙ sym (num_is p env k x rules is)

-- ---- names one after another

none_taken : {A : Type 0} (xs : List A) → take 0 xs ≡ []
none_taken [] = refl
none_taken (x ∷ xs) = refl

pub marked_next : (marks : List Bool) (es : List ExprId) (i : ℕ) (e : ExprId) → slice_get es i ≡ Some e → is_marked marks e.0 ≡ true → AreMarked marks (take i es) → AreMarked marks (take (i + 1) es)
marked_next marks es i e is here h = subst (λ n. AreMarked marks (take n es)) (sym (add-one i)) (next es i is h)
  where
    next : (es : List ExprId) (i : ℕ) → slice_get es i ≡ Some e → AreMarked marks (take i es) → AreMarked marks (take (suc i) es)
    next [] i is h = tt
    next (x ∷ es) zero is h = (ap (λ (y : ExprId). is_marked marks y.0) (some_is x e is) ∙ here, subst (AreMarked marks) (sym (none_taken es)) tt)
    next (x ∷ es) (suc i) is h = (h.0, next es i is h.1)

pub marked_all : (marks : List Bool) (es : List ExprId) (i : ℕ) → slice_get es i ≡ None → AreMarked marks (take i es) → AreMarked marks es
marked_all marks [] i is h = tt
marked_all marks (x ∷ es) zero is h = cc
marked_all marks (x ∷ es) (suc i) is h = (h.0, marked_all marks es i is h.1)

-- ---- turns

abbrev pub evaluating : List ℤ → Waiting → List Visit → ℕ → Evaluating
evaluating numbers found path room = record { numbers = numbers; found = found; path = path; room = room }

-- the last of those that wait taken away
pub popped : (P : Evaluating → Type 0) (numbers : List ℤ) (found : Waiting) (path left : List Visit) (room : ℕ) (at : Visit) (s : Evaluating) → evaluating numbers found path room ≡ s → path ≡ left ++ at ∷ [] → P s → P (behind (evaluating numbers found left room) at)
popped P numbers found path left room at s is split h = subst (λ xs. P (evaluating numbers found xs room)) split (subst P (sym is) h)

-- two more that wait
pub pushed : (numbers : List ℤ) (found : Waiting) (left one two : List Visit) (x y : Visit) (room after : ℕ) → one ≡ left ++ x ∷ [] → two ≡ one ++ y ∷ [] → after ≡ room → evaluating numbers found two after ≡ behind (behind (evaluating numbers found left room) x) y
pushed numbers found left one two x y room after first second same =
    ap (λ xs. evaluating numbers found xs after) (second ∙ ap (λ xs. xs ++ y ∷ []) first) ∙ ap (evaluating numbers found ((left ++ x ∷ []) ++ y ∷ [])) same

-- a visit whose names were not looked at
abbrev pub first_visit : ExprId → Visit
first_visit e = record { expr = e; names = 0 }

fresh : (p : Pooled) (marks : List Bool) (e : ExprId) → e.0 < length p.exprs → is_marked marks e.0 ≡ false → IsVisited p marks (first_visit e)
fresh p marks e there missing = record { there = there; missing = missing; read = λ x is. subst (AreMarked marks) (sym (none_taken (named x))) tt }

pub begun : (p : Pooled) (env : List ℤ) (v : Evaluating) (e : ExprId) → IsIdle v → e.0 < length v.numbers → e.0 < length p.exprs → IsFinding p env e.0 (behind v (first_visit e))
begun p env v e idle inside there =
    let missing : (k : ℕ) → is_marked v.found.marks k ≡ false = λ k. ap (λ (w : Waiting). is_marked w.marks k) idle.found ∙ none_marked (length v.numbers) k in
    record {
      has_room = record { marks = idle.has_room.marks; path = idle.has_room.path };
      inside = inside;
      numbers = record { found = λ k is. absurd (false≢true (sym (missing k) ∙ is)); none = λ k is. idle.none k };
      path = subst (λ path. IsPath p v.found.marks (e.0 + 1) (path ++ first_visit e ∷ [])) (sym idle.path) (fresh p v.found.marks e there (missing e.0), omega arith, tt);
      rooted = subst (λ path. IsRooted e.0 v.found.marks (path ++ first_visit e ∷ [])) (sym idle.path) refl;
    }

module _ (p : Pooled) (env : List ℤ) (root : ℕ) (rules : IsPool p) (v : Evaluating) (at : Visit) (h : IsFinding p env root (behind v at)) where
  pub last : IsVisited p v.found.marks at × (at.expr.0 < lowest (root + 1) v.path)
  last = path_last p v.found.marks (root + 1) v.path at h.path

  earlier : IsPath p v.found.marks (root + 1) v.path
  earlier = path_before p v.found.marks (root + 1) v.path at h.path

  pub within : at.expr.0 < length v.numbers
  within = omega (arith, last.1, lowest_below p v.found.marks (root + 1) v.path earlier, h.inside)

  pub few : length v.path + 1 ≤ length v.numbers
  few = omega (arith, last.1, path_depth p v.found.marks (root + 1) v.path earlier, h.inside)

  pub names_inside : (x : Expr) → slice_get p.exprs at.expr.0 ≡ Some x → AllBelow (length v.found.marks) (named x)
  names_inside x is = below_more at.expr.0 (length v.found.marks) (named x) (omega (arith, within, h.has_room.marks)) (standing p at.expr.0 x rules is).names

  -- what it names is not found yet
  module _ (x : Expr) (is : slice_get p.exprs at.expr.0 ≡ Some x) (names : ℕ) (read : AreMarked v.found.marks (take names (named x))) (e : ExprId) (named_there : slice_get (named x) names ≡ Some e) (missing : is_marked v.found.marks e.0 ≡ false) where
    below : e.0 < at.expr.0
    below = below_at at.expr.0 (named x) names e (standing p at.expr.0 x rules is).names named_there

    abbrev again : Visit
    again = record { expr = at.expr; names = names }

    pub more_few : length v.path + 2 ≤ length v.numbers
    more_few = omega (arith, below, last.1, path_depth p v.found.marks (root + 1) v.path earlier, h.inside)

    pub entered : IsFinding p env root (behind (behind v again) (first_visit e))
    entered =
        let waits : IsVisited p v.found.marks again = record {
          there = last.0.there;
          missing = last.0.missing;
          read = λ y other. subst (λ z. AreMarked v.found.marks (take names (named z))) (some_is x y (sym is ∙ other)) read;
        } in
        let back = path_on p v.found.marks (root + 1) v.path again earlier waits last.1 in
        record {
          has_room = record { marks = h.has_room.marks; path = h.has_room.path };
          inside = h.inside;
          numbers = h.numbers;
          path = path_on p v.found.marks (root + 1) (v.path ++ again ∷ []) (first_visit e) back (fresh p v.found.marks e (omega (arith, below, last.0.there)) missing) (subst (λ n. e.0 < n) (sym (lowest_last (root + 1) v.path again)) below);
          rooted = rooted_on root v.found.marks v.path at again (first_visit e) refl h.rooted;
        }

    pub entered_less : work (behind (behind v again) (first_visit e)) < work (behind v at)
    entered_less =
        omega (arith, more_few, length-append v.path (again ∷ []), length-append (v.path ++ again ∷ []) (first_visit e ∷ []), length-append v.path (at ∷ []))

  -- all that it names is found, and so it is
  module _ (w : Evaluating) (numbers : w.numbers ≡ slice_set v.numbers at.expr.0 (num p env at.expr.0)) (marks : w.found.marks ≡ slice_set v.found.marks at.expr.0 true) (path : w.path ≡ v.path) (room : w.room ≡ v.room) where
    marked : at.expr.0 < length v.found.marks
    marked = omega (arith, within, h.has_room.marks)

    same_long : length w.numbers ≡ length v.numbers
    same_long = ap length numbers ∙ length-set v.numbers at.expr.0 (num p env at.expr.0)

    pub settled : IsFinding p env root w
    settled =
        let m = slice_set v.found.marks at.expr.0 true in
        record {
          has_room = record {
            marks = ap length marks ∙ length-set v.found.marks at.expr.0 true ∙ h.has_room.marks ∙ sym same_long;
            path = omega (arith, same_long, h.has_room.path, room);
          };
          inside = omega (arith, same_long, h.inside);
          numbers = subst (λ xs. AreFound p env xs w.found.marks) (sym numbers) (subst (AreFound p env (slice_set v.numbers at.expr.0 (num p env at.expr.0))) (sym marks) (found_more p env v.numbers v.found.marks at.expr.0 within marked h.numbers));
          path = subst (λ xs. IsPath p xs (root + 1) w.path) (sym marks) (subst (IsPath p m (root + 1)) (sym path) (path_stays p v.found.marks at.expr.0 (root + 1) v.path last.1 earlier));
          rooted = subst (λ xs. IsRooted root xs w.path) (sym marks) (subst (IsRooted root m) (sym path) (rooted_back root v.found.marks v.path at marked h.rooted));
        }

    pub settled_less : work w < work (behind v at)
    settled_less =
        omega (arith, same_long, ap length path, length-append v.path (at ∷ []), one_less v.found.marks at.expr.0 marked last.0.missing, ap missing_in marks)
