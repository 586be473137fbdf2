-- Where the deltas of an event begin, and that they end.
use Rattle.std.specs.Prelude.{◌≡◌, refl, ℕ, zero, suc, ◌+◌, ◌<◌, ◌≤◌, if◌then◌else◌, Bool, true, false, List, [], ◌∷◌, ◌++◌, take, drop, length, ℤ}
use Rattle.std.proofs.Common.{sym, ◌∙◌, ap, arith, subst, ⊎_elim}
use Rattle.std.proofs.lemmas.Bool.{cases_Bool, false≢true}
use Rattle.design_ir.specs.declared.event.Event.{Event}
use Rattle.design_ir.specs.Circuits.{Circuit, State, at, is_among, is_held}
use Rattle.design_ir.specs.Designs.{IsDesign}
use Rattle.design_ir.specs.Histories.{with_held, Deltas, DeltasFrom}
use Rattle.design_ir.specs.Legal.{IsLegal}
use Rattle.design_ir.specs.PoolRules.{IsPool}
use Rattle.design_ir.specs.Settled.{delta}
use Rattle.design_ir.specs.Steps.{step}
use Rattle.design_ir.proofs.NumbersFit.{FitsSignals}
use Rattle.comb_graph.specs.Laws.{FitsState, HasDeltas, DeltasAreFew}
use Rattle.comb_graph.specs.Orders.{is_comb}
use Rattle.comb_graph.proofs.DeltaLaws.{delta_length}
use Rattle.comb_graph.proofs.EventStarts.{begin_ready}
use Rattle.sim_plans.specs.declared.plan.Plan.{Plan}
use Rattle.sim_plans.specs.Driven.{numbers_of}
use Rattle.sim_plans.specs.Plans.{Rests, Wakes, WakesPorts, taken}
use Rattle.sim_plans.specs.Settling.{EndsIn}
use Rattle.delta_sim.specs.Standing.{Simulated, state_of, AreNumbersOf, AreRowsOf, IsSimOf}
use Rattle.sim_plans.specs.Woken.{AreChanged}
use Rattle.sim_plans.proofs.DeltaSteps.{below_of}
use Rattle.delta_sim.proofs.Lives.{same_state, fits_state, step_numbers, step_rows}
use Rattle.delta_sim.proofs.PortHeld.{comb_free}
use Rattle.delta_sim.proofs.Resting.{rests_first}
use Rattle.sim_plans.proofs.Settling.{same_lists}
use Rattle.sim_plans.proofs.Taking.{taken_at, taken_other, taken_length}

-- ---- what a state gives, put in

module _ (c : Circuit) (st : State) where
  with_length : (a : ℕ) (env : List ℤ) → length (with_held c st a env) ≡ length env
  with_length a [] = refl
  with_length a (n ∷ env) = ap suc (with_length (suc a) env)

  abbrev chosen : ℕ → ℤ → ℤ
  chosen s n = if is_held c s then at st.held s else n

  with_at : (a : ℕ) (env : List ℤ) (k : ℕ) → k < length env → at (with_held c st a env) k ≡ chosen (a + k) (at env k)
  with_at a [] k h = absurd (omega (arith, h))
  with_at a (n ∷ env) zero h = let e : a ≡ a + 0 = omega arith in ap (λ s. chosen s n) e
  with_at a (n ∷ env) (suc k) h = let e : suc a + k ≡ a + suc k = omega arith in with_at (suc a) env k (omega (arith, h)) ∙ ap (λ s. chosen s (at env k)) e

  with_here : (env : List ℤ) (s : ℕ) → s < length env → at (with_held c st 0 env) s ≡ chosen s (at env s)
  with_here env s h = let e : 0 + s ≡ s = omega arith in with_at 0 env s h ∙ ap (λ k. chosen k (at env s)) e

  -- the signals that a state gives take their numbers
  taken_is : (given : List ℕ) (env : List ℤ) → length env ≡ length c.pool.signals → ((s : ℕ) → s < length c.pool.signals → is_among given s ≡ is_held c s) → taken st.held given env ≡ with_held c st 0 env
  taken_is given env long like =
      same_lists (taken st.held given env) (with_held c st 0 env) (taken_length st.held given env ∙ sym (with_length 0 env)) (λ s h.
      let inside : s < length env = omega (arith, h, taken_length st.held given env) in
      let is = like s (omega (arith, inside, long)) in
      ⊎_elim
      (λ (t : is_held c s ≡ true). taken_at st.held given env s (is ∙ t) inside ∙ sym (with_here env s inside ∙ ap (λ b. if b then at st.held s else at env s) t))
      (λ (t : is_held c s ≡ false). taken_other st.held given env s (is ∙ t) ∙ sym (with_here env s inside ∙ ap (λ b. if b then at st.held s else at env s) t))
      (cases_Bool (is_held c s)))

-- the environment with the event's change in it, and the deltas behind it
pub record IsBegun (c : Circuit) (plan : Plan) (longest : ℕ) (held : List ℤ) (rows : List (List ℤ)) (env first : List ℤ) (marks : List Bool) : Type 0 where
  pub held_of : AreNumbersOf c held
  pub rows_of : AreRowsOf c rows
  pub fit : FitsState c (state_of held rows)
  pub numbers : AreNumbersOf c first
  pub rests : Rests c (state_of held rows) plan marks first
  pub ends : EndsIn c (state_of held rows) first (longest + 2)
  pub deltas : (rest : List (List ℤ)) → DeltasFrom c (state_of held rows) first rest → Deltas c (state_of held rows) env (first ∷ rest)

module _ (c : Circuit) (rules : IsPool c.pool) (design : IsDesign c) (s : Simulated) (of : IsSimOf c s) (e : Event) (legal : IsLegal c e) (laws : DeltasAreFew) where
  abbrev old : State
  old = state_of s.held s.rows

  pub begins : (held : List ℤ) (rows : List (List ℤ)) (first : List ℤ) (was between marks changed : List Bool) → held ≡ (step c old s.env e).held → rows ≡ (step c old s.env e).rows → first ≡ taken held (numbers_of s.plan.given) s.env → Wakes s.plan.readers s.env first was between
      → WakesPorts (length s.plan.tasks) s.plan.reads changed between marks → AreChanged c s.rows rows changed → IsBegun c s.plan s.longest held rows s.env first marks
  begins held rows first was between marks changed held_is rows_is first_is wakes ports are =
      let new : State = state_of held rows in
      let stepped : step c old s.env e ≡ new = same_state (step c old s.env e) held rows held_is rows_is in
      let held_of : AreNumbersOf c held = subst (AreNumbersOf c) (sym held_is) (step_numbers c rules design s.held s.rows s.env e legal of.held of.rows) in
      let rows_of : AreRowsOf c rows = subst (AreRowsOf c) (sym rows_is) (step_rows c rules design s.held s.rows s.env e legal of.held of.rows) in
      let fit_old : FitsState c old = fits_state c rules design s.held s.rows of.held of.rows in
      let fit : FitsState c new = fits_state c rules design held rows held_of rows_of in
      let all : HasDeltas c new s.env s.longest = subst (λ st. HasDeltas c st s.env s.longest) stepped (laws c s.longest rules design of.longest old s.env e fit_old of.settled legal) in
      let put_in : first ≡ with_held c new 0 s.env = first_is ∙ taken_is c new (numbers_of s.plan.given) s.env of.env.count of.plan.given in
      let begun = begin_ready c rules design old new fit_old fit s.env of.settled in
      let long : length first ≡ length c.pool.signals = ap length put_in ∙ begun.whole.long in
      let ready : (t : ℕ) → is_comb c t ≡ false → at first t ≡ at (delta c new first) t = λ t h. ap (λ xs. at xs t) put_in ∙ begun.held t h ∙ ap (λ xs. at (delta c new xs) t) (sym put_in) in
      let kept : (t : ℕ) → is_comb c t ≡ true → at first t ≡ at s.env t = λ t h. ap (λ xs. at xs t) first_is ∙ kept_at t (comb_free c design t h) in
      record {
        held_of = held_of;
        rows_of = rows_of;
        fit = fit;
        numbers = record { count = long; fits = subst (FitsSignals c.pool) (sym put_in) begun.whole.fits };
        rests = rests_first c rules design (length s.numbers) of.numbers.few s.plan of.plan old new s.env first was between marks changed of.rows.count rows_of.count wakes ports are of.settled ready kept long (delta_length c new rules design first);
        ends = ends_here new put_in all.deltas all.are all.few;
        deltas = λ rest are. (put_in, are);
      }
    where
      kept_at : (t : ℕ) → is_held c t ≡ false → at (taken held (numbers_of s.plan.given) s.env) t ≡ at s.env t
      kept_at t h = ⊎_elim
          (λ (i : is_among (numbers_of s.plan.given) t ≡ true).
          let below = below_of (length c.pool.signals) (numbers_of s.plan.given) t of.plan.given_below i in
          absurd (false≢true (sym (of.plan.given t below ∙ h) ∙ i)))
          (λ (i : is_among (numbers_of s.plan.given) t ≡ false). taken_other held (numbers_of s.plan.given) s.env t i)
          (cases_Bool (is_among (numbers_of s.plan.given) t))

      ends_here : (new : State) → first ≡ with_held c new 0 s.env → (deltas : List (List ℤ)) → Deltas c new s.env deltas → length deltas ≤ suc s.longest → EndsIn c new first (s.longest + 2)
      ends_here new put_in [] are few = absurd are
      ends_here new put_in (x ∷ rest) are few =
          let same : x ≡ first = are.0 ∙ sym put_in in
          record { rest = rest; are = subst (λ y. DeltasFrom c new y rest) same are.1; few = omega (arith, few) }

-- the items of a list whose items were all put in
pub vec_whole : (len : ℕ) (new items : List ℤ) → length new ≡ len → take len (new ++ drop (length new) items) ≡ new
vec_whole len new items e = ap (λ n. take n (new ++ drop (length new) items)) (sym e) ∙ front new (drop (length new) items)
  where
    front : (xs ys : List ℤ) → take (length xs) (xs ++ ys) ≡ xs
    front [] [] = refl
    front [] (y ∷ ys) = refl
    front (x ∷ xs) ys = ap (λ zs. x ∷ zs) (front xs ys)
