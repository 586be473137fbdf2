-- Where a simulator begins: all tasks wait, and the deltas end.
use Rattle.std.specs.Prelude.{◌≡◌, ◌≢◌, refl, ℕ, zero, suc, ◌+◌, ◌<◌, ◌≤◌, ◌⊎◌, ◌||◌, if◌then◌else◌, Bool, true, false, List, [], ◌∷◌, map, length, replicate, slice_get, slice_index_or, ℤ, pos, Some, fold}
use Rattle.std.specs.List.{AllByRecursion}
use Rattle.std.proofs.Common.{sym, ◌∙◌, ap, arith, subst, inl, inr, ⊎_elim}
use Rattle.std.proofs.lemmas.Bool.{cases_Bool, cases_lt, false≢true}
use Rattle.std.proofs.lemmas.List.{get_or_past, get_or-set_other}
use Rattle.amh_bits.specs.Patterns.{IsOf}
use Rattle.amh_bits.proofs.InShape.{of_zero}
use Rattle.design_ir.specs.declared.domain.Domain.{Domain}
use Rattle.design_ir.specs.declared.memory.Memory.{Memory}
use Rattle.design_ir.specs.declared.signal.Sig.{Sig}
use Rattle.design_ir.specs.Circuits.{Circuit, State, at, is_input, is_held, is_register}
use Rattle.design_ir.specs.Designs.{IsDesign, IsClockDomain}
use Rattle.design_ir.specs.Pools.{Pooled}
use Rattle.design_ir.specs.PoolRules.{IsPool}
use Rattle.design_ir.specs.Settled.{starts, delta, Settled}
use Rattle.design_ir.specs.Steps.{clock_low}
use Rattle.design_ir.specs.Values.{form}
use Rattle.design_ir.proofs.NumbersFit.{element}
use Rattle.comb_graph.specs.Laws.{FitsState, rounds}
use Rattle.comb_graph.specs.Orders.{is_comb, IsLongest}
use Rattle.comb_graph.proofs.ChainRounds.{IsReady, settled_after}
use Rattle.comb_graph.proofs.DeltaLaws.{delta_start, starts_length}
use Rattle.sim_plans.specs.declared.plan.Plan.{Plan}
use Rattle.sim_plans.specs.Plans.{IsPlan, Rests}
use Rattle.sim_plans.specs.Settling.{EndsIn}
use Rattle.delta_sim.specs.Standing.{state_of, AreNumbersOf}
use Rattle.sim_plans.specs.Tasks.{AreFitting}
use Rattle.sim_plans.proofs.Jobs.{driven_by}
use Rattle.delta_sim.proofs.Lives.{fits_state, first_numbers, first_rows}
use Rattle.sim_plans.proofs.TargetsInside.{inits}
use Rattle.sim_plans.proofs.TaskValues.{starts_get}
use Rattle.delta_sim.proofs.Waking.{cases_int}

-- ---- deltas end where rounds settle

cases_list : (xs ys : List ℤ) → (xs ≡ ys) ⊎ (xs ≢ ys)
cases_list [] [] = inl refl
cases_list [] (y ∷ ys) = inr (λ f. cc)
cases_list (x ∷ xs) [] = inr (λ f. cc)
cases_list (x ∷ xs) (y ∷ ys) =
    ⊎_elim
    (λ (e : x ≡ y). ⊎_elim (λ (f : xs ≡ ys). inl (λ i. e i ∷ f i)) (λ (f : xs ≢ ys). inr (λ g. f cc)) (cases_list xs ys))
    (λ (e : x ≢ y). inr (λ g. e cc))
    (cases_int x y)

module _ (c : Circuit) (st : State) (env : List ℤ) (n : ℕ) (settled : Settled c st (rounds c st n env)) where
  -- from round k on the deltas end within so many
  ends : (m k : ℕ) → k + m ≡ n → EndsIn c st (rounds c st k env) (m + 2)
  ends zero k e =
      let here : k ≡ n = omega arith in
      record { rest = []; are = subst (λ j. Settled c st (rounds c st j env)) (sym here) settled; few = omega arith }
  ends (suc m) k e =
      ⊎_elim
      (λ (same : rounds c st (suc k) env ≡ rounds c st k env). record { rest = []; are = same; few = omega arith })
      (λ (other : rounds c st (suc k) env ≢ rounds c st k env).
      let more : EndsIn c st (rounds c st (suc k) env) (m + 2) = ends m (suc k) (omega (arith, e)) in
      record { rest = rounds c st (suc k) env ∷ more.rest; are = (refl, other, more.are); few = omega (arith, more.few) })
      (cases_list (rounds c st (suc k) env) (rounds c st k env))

  pub ends_in : EndsIn c st env (n + 2)
  ends_in = ends n 0 (omega arith)

-- ---- the numbers before any event

module _ (c : Circuit) (rules : IsPool c.pool) (design : IsDesign c) where
  low_other : (s : ℕ) → is_input c s ≡ false → (ds : List Domain) (cur : List ℤ) → AllByRecursion (IsClockDomain c) ds → at (fold clock_low cur ds) s ≡ at cur s
  low_other s e [] cur h = refl
  low_other s e (d ∷ ds) cur h =
      let apart : s ≢ d.clk.0 = λ same. false≢true (sym e ∙ ap (is_input c) same ∙ h.0.clock_input) in
      low_other s e ds (clock_low cur d) h.1 ∙ get_or-set_other cur d.clk.0 s (pos 0) (pos 0) apart

  init_at : (sigs : List Sig) (s : ℕ) (x : Sig) → slice_get sigs s ≡ Some x → at (inits sigs) s ≡ x.init
  init_at [] s x is = cc
  init_at (y ∷ sigs) zero x is = let same : y ≡ x = cc in ap (λ (z : Sig). z.init) same
  init_at (y ∷ sigs) (suc s) x is = init_at sigs s x is

  no_input : (s : ℕ) → is_held c s ≡ false → is_input c s ≡ false
  no_input s h = first (is_input c s) (is_register c s) h
    where
      first : (a b : Bool) → (a || b) ≡ false → a ≡ false
      first true b e = e
      first false b e = refl

  same_at : (n s : ℕ) (E F : List ℤ) → length E ≡ n → length F ≡ n → (s < n → at E s ≡ at F s) → at E s ≡ at F s
  same_at n s E F long long' h =
      ⊎_elim h (λ (past : n ≤ s). get_or_past E s (pos 0) (omega (arith, past, long)) ∙ sym (get_or_past F s (pos 0) (omega (arith, past, long')))) (cases_lt s n)

  module _ (held : List ℤ) (is : held ≡ fold clock_low (inits c.pool.signals) c.domains) where
    pub numbers : AreNumbersOf c held
    numbers = first_numbers c held rules is

    free_at : (s : ℕ) (x : Sig) → slice_get c.pool.signals s ≡ Some x → is_held c s ≡ false → at held s ≡ x.init
    free_at s x get free = ap (λ xs. at xs s) is ∙ low_other s (no_input s free) c.domains (inits c.pool.signals) design.domains ∙ init_at c.pool.signals s x get

    module _ (rows : List (List ℤ)) (rows_is : rows ≡ map (λ (m : Memory). m.rows) c.memories) where
      abbrev st : State
      st = state_of held rows

      pub fit : FitsState c (state_of held rows)
      fit = fits_state c rules design held rows numbers (first_rows c rows rules design rows_is)

      start_at : (s : ℕ) → at held s ≡ at (starts c st 0 c.pool.signals) s
      start_at s = same_at (length c.pool.signals) s held (starts c st 0 c.pool.signals) numbers.count (starts_length c st 0 c.pool.signals) (λ inside.
          let x = element c.pool.signals s inside in
          let here : 0 + s ≡ s = omega arith in
          let begun : at (starts c st 0 c.pool.signals) s ≡ (if is_held c s then at held s else x.0.init) = starts_get c design st 0 s c.pool.signals x.0 x.1 ∙ ap (λ k. if is_held c k then at held k else x.0.init) here in
          ⊎_elim
          (λ (t : is_held c s ≡ true). sym (begun ∙ ap (λ b. if b then at held s else x.0.init) t))
          (λ (t : is_held c s ≡ false). free_at s x.0 x.1 t ∙ sym (begun ∙ ap (λ b. if b then at held s else x.0.init) t))
          (cases_Bool (is_held c s)))

      -- numbers that differ from what is held only where combinational processes drive
      module _ (env : List ℤ) (of : AreNumbersOf c env) (same : (s : ℕ) → is_comb c s ≡ false → at env s ≡ at held s) where
        ready_at : (s : ℕ) → is_comb c s ≡ false → at env s ≡ at (delta c st env) s
        ready_at s comb = same s comb ∙ start_at s ∙ sym (delta_start c st rules design env s comb)

        ready : IsReady c rules design st fit env
        ready = record { whole = record { fits = of.fits; long = of.count }; held = ready_at }

        pub first_ends : (longest : ℕ) → IsLongest c longest → EndsIn c (state_of held rows) env (longest + 2)
        first_ends longest chain = ends_in c st env longest (settled_after c rules design st fit env ready longest chain)

        -- where all tasks wait, whatever none of them drives rests
        pub first_rests : (count : ℕ) (plan : Plan) (marks : List Bool) → IsPlan c count plan → ((j : ℕ) → j < plan.jobs → slice_index_or marks j false ≡ true) → Rests c (state_of held rows) plan marks env
        first_rests count plan marks planned all s untouched =
            ⊎_elim
            (λ (comb : is_comb c s ≡ true).
            let v = driven_by c design count plan planned s comb in
            absurd (false≢true (sym (untouched v.j (all v.j v.there)) ∙ v.drives)))
            (λ (comb : is_comb c s ≡ false). sym (ready_at s comb))
            (cases_Bool (is_comb c s))

-- ---- what is computed at first

pub zeros_long : (n : ℕ) → length (replicate n (pos 0)) ≡ n
zeros_long zero = refl
zeros_long (suc n) = ap suc (zeros_long n)

zero_at : (n k : ℕ) → slice_index_or (replicate n (pos 0)) k (pos 0) ≡ pos 0
zero_at zero k = refl
zero_at (suc n) zero = refl
zero_at (suc n) (suc k) = zero_at n k

pub zeros_fit : (p : Pooled) (n : ℕ) → n ≤ length p.exprs → AreFitting p (replicate n (pos 0))
zeros_fit p n le = record {
  few = omega (arith, zeros_long n, le);
  fits = λ k h. subst (IsOf (form p k).signed (form p k).width) (sym (zero_at n k)) (of_zero (form p k).signed (form p k).width);
}
