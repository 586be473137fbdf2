-- Delta after delta: what is left, and what was counted.
use Rattle.std.specs.Prelude.{◌≡◌, ◌≢◌, refl, ℕ, ◌+◌, ◌*◌, ◌^◌, ◌<◌, ◌≤◌, ◌⊎◌, ◌==◌, ◌||◌, Bool, true, false, List, [], ◌∷◌, length, replicate, slice_index_or, ℤ}
use Rattle.std.specs.List.{count_by}
use Rattle.std.proofs.Common.{sym, ◌∙◌, ap, arith, subst, inl, inr, ⊎_elim}
use Rattle.std.proofs.Math.Nat.{mul-le-mul_left}
use Rattle.std.proofs.lemmas.Bool.{cases_Bool, false≢true}
use Rattle.design_ir.specs.Circuits.{Circuit, State, at, is_among}
use Rattle.design_ir.specs.Designs.{IsDesign}
use Rattle.design_ir.specs.Histories.{DeltasFrom}
use Rattle.design_ir.specs.PoolRules.{IsPool}
use Rattle.design_ir.specs.Settled.{delta, Settled}
use Rattle.comb_graph.proofs.DeltaLaws.{delta_length}
use Rattle.sim_plans.specs.declared.plan.Plan.{Plan}
use Rattle.sim_plans.specs.Plans.{IsPlan, Rests, Wakes, readers_of}
use Rattle.sim_plans.specs.Settling.{EndsIn, IsWoken}
use Rattle.sim_plans.specs.Waiting.{Waiting, IsWaiting}
use Rattle.sim_plans.specs.Woken.{woken, one_if_some, deltas_from, runs_from, deltas_of, runs_of}
use Rattle.delta_sim.proofs.Counting.{woken_count, woken_same}
use Rattle.delta_sim.proofs.SameRows.{no_change}
use Rattle.sim_plans.proofs.Settling.{same_lists}
use Rattle.sim_plans.proofs.WritesFit.{either}
use Rattle.sim_plans.proofs.Waits.{none_marked, none_counted, all_false}

-- none waits
abbrev pub IsIdle : List Bool → Type 0
IsIdle marks = (k : ℕ) → slice_index_or marks k false ≡ false

-- an empty list of those that wait
pub idle_of : (w : Waiting) → IsWaiting w → length w.list ≡ 0 → IsIdle w.marks
idle_of w h none k = h.listed k ∙ nothing w.list none
  where
    nothing : (xs : List ℕ) → length xs ≡ 0 → is_among xs k ≡ false
    nothing [] e = refl
    nothing (x ∷ xs) e = absurd (omega (arith, e))

-- ---- what is left

-- at turn i the deltas end within the turns that are left, or none waits any more
pub record Left (c : Circuit) (st : State) (env : List ℤ) (marks : List Bool) (most i : ℕ) : Type 0 where
  pub rest : List (List ℤ)
  pub are : DeltasFrom c st env rest
  pub enough : (i + (length rest + 2) ≤ most) ⊎ (IsIdle marks × (i + 1 ≤ most))

pub left_first : (c : Circuit) (st : State) (env : List ℤ) (marks : List Bool) (most : ℕ) → EndsIn c st env most → Left c st env marks most 0
left_first c st env marks most e = record { rest = e.rest; are = e.are; enough = inl (omega (arith, e.few)) }

-- some turn is left
pub left_turn : (c : Circuit) (st : State) (env : List ℤ) (marks : List Bool) (most i : ℕ) → Left c st env marks most i → i < most
left_turn c st env marks most i l = ⊎_elim (λ h. omega (arith, h)) (λ (h : IsIdle marks × (i + 1 ≤ most)). omega (arith, h.1)) l.enough

-- where nothing changes none is woken
unmoved : (table : List (List ℕ)) (bound : ℕ) (env : List ℤ) (marks : List Bool) → Wakes table env env (replicate bound false) marks → IsIdle marks
unmoved table bound env marks wakes k =
    ⊎_elim
    (λ (t : slice_index_or marks k false ≡ true).
    ⊎_elim (λ was. absurd (false≢true (sym (none_marked bound k) ∙ was))) (λ (x : (s : ℕ) × (at env s ≢ at env s) × (is_among (readers_of table s) k ≡ true)). absurd (x.1 refl)) (wakes.sound k t))
    (λ (t : slice_index_or marks k false ≡ false). t)
    (cases_Bool (slice_index_or marks k false))

module _ (c : Circuit) (st : State) where
  -- a delta more, where some task waits
  pub left_next : (table : List (List ℕ)) (bound : ℕ) (env new : List ℤ) (marks after : List Bool) (most i : ℕ) → Left c st env marks most i → (IsIdle marks → ⊥) → new ≡ delta c st env → Wakes table env new (replicate bound false) after → Left c st new after most (i + 1)
  left_next table bound env new marks after most i l some e wakes = left l.rest l.are (⊎_elim (λ h. h) (λ (h : IsIdle marks × (i + 1 ≤ most)). absurd (some h.0)) l.enough)
    where
      left : (rest : List (List ℤ)) → DeltasFrom c st env rest → i + (length rest + 2) ≤ most → Left c st new after most (i + 1)
      left [] are few =
          let same : new ≡ env = e ∙ are in
          record { rest = []; are = subst (Settled c st) (sym same) are; enough = inr (unmoved table bound env after (subst (λ x. Wakes table env x (replicate bound false) after) same wakes), omega (arith, few)) }
      left (x ∷ more) are few =
          let same : x ≡ new = sym are.0 ∙ sym e in
          record { rest = more; are = subst (λ y. DeltasFrom c st y more) same are.2; enough = inl (omega (arith, few)) }

  -- where none waits, it is settled
  pub idle_settles : (rules : IsPool c.pool) (design : IsDesign c) (plan : Plan) (marks : List Bool) (env : List ℤ) → length env ≡ length c.pool.signals → Rests c st plan marks env → IsIdle marks → Settled c st env
  idle_settles rules design plan marks env long rests idle =
      same_lists (delta c st env) env (delta_length c st rules design env ∙ sym long) (λ s h. rests s (λ j waits. absurd (false≢true (sym (idle j) ∙ waits))))

-- ---- what was counted

module _ (c : Circuit) (st : State) where
  -- so many deltas and runs were counted, and behind these environments come all others
  pub record Counted (plan : Plan) (env : List ℤ) (marks : List Bool) (deltas runs all_deltas all_runs : ℕ) : Type 0 where
    pub rows : List (List ℤ)
    pub old : List ℤ
    pub rest : List (List ℤ)
    pub are : DeltasFrom c st env rest
    pub wakes : IsWoken c plan old env rows st.rows marks
    pub many_deltas : deltas + deltas_of c rows st.rows old (env ∷ rest) ≡ all_deltas
    pub many_runs : runs + runs_of c rows st.rows old (env ∷ rest) ≡ all_runs

  -- the same once those that are marked have been counted
  pub record CountedHere (env : List ℤ) (deltas runs all_deltas all_runs : ℕ) : Type 0 where
    pub rest : List (List ℤ)
    pub are : DeltasFrom c st env rest
    pub many_deltas : deltas + deltas_from c st.rows env rest ≡ all_deltas
    pub many_runs : runs + runs_from c st.rows env rest ≡ all_runs

  pub count_here : (design : IsDesign c) (count : ℕ) (plan : Plan) (is : IsPlan c count plan) (env : List ℤ) (marks : List Bool) (n deltas runs all_deltas all_runs : ℕ) → length st.rows ≡ length c.memories → length marks ≡ plan.agents → n ≡ count_by (λ b. b) marks → Counted plan env marks deltas runs all_deltas all_runs → CountedHere env (deltas + one_if_some n) (runs + n) all_deltas all_runs
  count_here design count plan is env marks n deltas runs all_deltas all_runs many_rows long some h =
      let many : n ≡ woken c h.rows st.rows h.old env = some ∙ woken_count c design count plan is h.old env h.rows st.rows marks h.wakes long many_rows in
      record {
        rest = h.rest;
        are = h.are;
        many_deltas = ap (λ k. deltas + one_if_some k + deltas_from c st.rows env h.rest) many ∙ omega (arith, h.many_deltas);
        many_runs = omega (arith, h.many_runs, many);
      }

  -- where no rows change, only signals wake
  only_signals : (plan : Plan) (env new : List ℤ) (marks : List Bool) → length st.rows ≡ length c.memories → Wakes plan.processes env new (replicate plan.agents false) marks → IsWoken c plan env new st.rows st.rows marks
  only_signals plan env new marks many wakes = record {
    many = many;
    between = marks;
    changed = [];
    signals = wakes;
    ports = record { count = refl; ports = λ i t is. or_none (slice_index_or marks (length c.processes + i) false); others = λ j lt. refl };
    are_changed = λ k lt. sym (no_change (slice_index_or st.rows k []) (slice_index_or st.rows k []) refl);
  }
    where
      or_none : (a : Bool) → a ≡ (a || false)
      or_none true = refl
      or_none false = refl

  pub count_next : (plan : Plan) (env new : List ℤ) (marks : List Bool) (deltas runs all_deltas all_runs : ℕ) → length st.rows ≡ length c.memories → new ≡ delta c st env → Wakes plan.processes env new (replicate plan.agents false) marks → CountedHere env deltas runs all_deltas all_runs → Counted plan new marks deltas runs all_deltas all_runs
  count_next plan env new marks deltas runs all_deltas all_runs many e wakes h = next h.rest h.are h.many_deltas h.many_runs
    where
      next : (rest : List (List ℤ)) → DeltasFrom c st env rest → deltas + deltas_from c st.rows env rest ≡ all_deltas → runs + runs_from c st.rows env rest ≡ all_runs → Counted plan new marks deltas runs all_deltas all_runs
      next [] are d r =
          let same : new ≡ env = e ∙ are in
          let none : woken c st.rows st.rows env new ≡ 0 = ap (woken c st.rows st.rows env) same ∙ woken_same c st.rows env in
          record {
            rows = st.rows;
            old = env;
            rest = [];
            are = subst (Settled c st) (sym same) are;
            wakes = only_signals plan env new marks many wakes;
            many_deltas = ap (λ k. deltas + (one_if_some k + 0)) none ∙ d;
            many_runs = ap (λ k. runs + (k + 0)) none ∙ r;
          }
      next (x ∷ more) are d r =
          let same : x ≡ new = sym are.0 ∙ sym e in
          record {
            rows = st.rows;
            old = env;
            rest = more;
            are = subst (λ y. DeltasFrom c st y more) same are.2;
            wakes = only_signals plan env new marks many wakes;
            many_deltas = ap (λ y. deltas + (one_if_some (woken c st.rows st.rows env y) + deltas_from c st.rows y more)) (sym same) ∙ d;
            many_runs = ap (λ y. runs + (woken c st.rows st.rows env y + runs_from c st.rows y more)) (sym same) ∙ r;
          }

  -- where it is settled, all is counted
  pub count_end : (env : List ℤ) (deltas runs all_deltas all_runs : ℕ) → Settled c st env → CountedHere env deltas runs all_deltas all_runs → (deltas ≡ all_deltas) × (runs ≡ all_runs)
  count_end env deltas runs all_deltas all_runs settled h = ends h.rest h.are h.many_deltas h.many_runs
    where
      ends : (rest : List (List ℤ)) → DeltasFrom c st env rest → deltas + deltas_from c st.rows env rest ≡ all_deltas → runs + runs_from c st.rows env rest ≡ all_runs → (deltas ≡ all_deltas) × (runs ≡ all_runs)
      ends [] are d r = (omega (arith, d), omega (arith, r))
      ends (x ∷ more) are d r = absurd (are.1 (sym are.0 ∙ settled))

-- ---- few enough

pub runs_fit : (i n k r most : ℕ) → r ≤ i * n → k ≤ n → i < most → most ≤ 2 ^ 22 + 2 → n < 2 ^ 32 + 16385 → r + k < 2 ^ 64
runs_fit i n k r most few some turn enough small =
    let all : i * n ≤ i * 4294983681 = mul-le-mul_left i (omega (arith, small)) in
    omega (arith, all, few, some, turn, enough, small)

pub runs_next : (i n k r : ℕ) → r ≤ i * n → k ≤ n → r + k ≤ (i + 1) * n
runs_next i n k r few some = omega (arith, few, some)

-- where some are listed, some wait
pub awake : (w : Waiting) → IsWaiting w → (length w.list ≡ 0 → ⊥) → IsIdle w.marks → ⊥
awake w h some idle = some (h.count ∙ ap (count_by (λ b. b)) (all_false w.marks idle) ∙ none_counted (length w.marks))

pub one_most : (n : ℕ) → one_if_some n ≤ 1
one_most n = either (λ k. k ≤ 1) (n == 0) 0 1 (omega arith) (omega arith)

-- no more deltas are counted than there are environments
deltas_from_few : (c : Circuit) (rows : List (List ℤ)) (old : List ℤ) (envs : List (List ℤ)) → deltas_from c rows old envs ≤ length envs
deltas_from_few c rows old [] = omega arith
deltas_from_few c rows old (env ∷ more) = omega (arith, one_most (woken c rows rows old env), deltas_from_few c rows env more)

pub deltas_of_few : (c : Circuit) (rows after : List (List ℤ)) (old : List ℤ) (envs : List (List ℤ)) → deltas_of c rows after old envs ≤ length envs
deltas_of_few c rows after old [] = omega arith
deltas_of_few c rows after old (first ∷ more) = omega (arith, one_most (woken c rows after old first), deltas_from_few c after first more)
