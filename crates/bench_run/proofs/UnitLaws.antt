-- What a step costs: the units that are left and those that testbenches used, from one point to the next.
use Rattle.std.proofs.Common.{◌≡◌, refl, sym, ◌∙◌, ap, subst, Some, None, ℕ, zero, suc, ◌+◌, ◌<◌, List, [], ◌∷◌, map, Option, arith, Bool, true, false}
use Rattle.std.specs.Prelude.{◌^◌, nat_lt, if◌then◌else◌, slice_get, slice_set, IfOk, Result, Ok, Err, ℤ}
use Rattle.std.proofs.lemmas.Bool.{ltb-true}
use Rattle.lists.specs.declared.items.NoMemory.{NoMemory}
use Rattle.amh_host.specs.declared.place.Budget.{Budget}
use Rattle.amh_host.specs.declared.place.Place.{Place}
use Rattle.design_ir.specs.declared.ids.DomainId.{DomainId}
use Rattle.design_ir.specs.declared.event.Event.{Event}
use Rattle.design_ir.specs.Circuits.{Circuit}
use Rattle.py_heap.specs.Heaps.{Made}
use Rattle.py_values.specs.declared.val.Hw.{Hw}
use Rattle.py_values.specs.declared.val.Val.{Val}
use Rattle.py_frames.specs.declared.request.Request.{Request}
use Rattle.py_frames.specs.declared.request.Turn.{Turn}
use Rattle.py_frames.specs.declared.request.Turn.TheVariants as turn
use Rattle.elab_store.specs.declared.simulation.Testbench.{Testbench as CodeTestbench}
use Rattle.elab_store.specs.Held.{held_of}
use Rattle.elab_store.specs.Stores.{Held}
use Rattle.bench_acts.specs.declared.serving.Served.{Served}
use Rattle.bench_run.specs.declared.point.Point.{Point as CodePoint}
use Rattle.bench_run.specs.declared.setting.Setting.{Setting}
use Rattle.bench_run.specs.declared.testbench.Running.{Running}
use Rattle.bench_run.specs.declared.testbench.Stand.{Stand}
use Rattle.bench_run.specs.declared.turns.Step.{Step}
use Rattle.bench_run.specs.declared.turns.Step.TheVariants as step
use Rattle.bench_run.specs.Runs.{spent_at}
use Rattle.bench_run.specs.Standing.{IsLive, IsBehind, IsDone, IsEventDone, IsStop, StepCosts, AreAnew, all_used, event_served, happened, ticked_in, units_of, woken_in}
use Rattle.bench_run.proofs.GoLaws.{Turns}
use Rattle.bench_run.proofs.MomentLaws.{HasTicked}
use Rattle.bench_run.proofs.SafeLaws.{all_get, units_asks, units_ended}

-- ---- lists of testbenches

all_used-set : (ys : List Running) (i : ℕ) (y z : Running) → slice_get ys i ≡ Some y → all_used (slice_set ys i z) + y.machine.going.state.used ≡ all_used ys + z.machine.going.state.used
all_used-set [] i y z is = absurd ((cc))
all_used-set (w ∷ ys) zero y z is = let same = ap (λ (v : Running). v.machine.going.state.used) (some_is w y is) in omega (arith, same)
  where
    some_is : (a b : Running) → Some a ≡ Some b → a ≡ b
    some_is a b e = cc
all_used-set (w ∷ ys) (suc i) y z is = let r = all_used-set ys i y z is in omega (arith, r)

-- where it stands does not matter
all_used-stand : (ys : List Running) (i : ℕ) (y : Running) (w : Stand) → slice_get ys i ≡ Some y → all_used (slice_set ys i (record y { stand = w })) ≡ all_used ys
all_used-stand ys i y w is =
    let sum : all_used (slice_set ys i (record y { stand = w })) + y.machine.going.state.used ≡ all_used ys + y.machine.going.state.used = all_used-set ys i y (record y { stand = w }) is in
    omega (arith, sum)

all_used-woken : (t : ℕ) (ys : List Running) → all_used (map (woken_in t) ys) ≡ all_used ys
all_used-woken t [] = refl
all_used-woken t (y ∷ ys) = ap (λ n. y.machine.going.state.used + n) (all_used-woken t ys)

all_used-ticked : (c : Circuit) (h : Held) (env : List ℤ) (toggled : List DomainId) (ys : List Running) → all_used (map (ticked_in c h env toggled) ys) ≡ all_used ys
all_used-ticked c h env toggled [] = refl
all_used-ticked c h env toggled (y ∷ ys) = ap (λ n. y.machine.going.state.used + n) (all_used-ticked c h env toggled ys)

all_used-anew : (frozen : Made) (ctx : Hw) (ts : List CodeTestbench) (ys : List Running) → AreAnew frozen ctx ts ys → all_used ys ≡ 0
all_used-anew frozen ctx [] [] are = refl
all_used-anew frozen ctx [] (y ∷ ys) are = absurd are
all_used-anew frozen ctx (t ∷ ts) [] are = absurd are
all_used-anew frozen ctx (t ∷ ts) (y ∷ ys) are = let rest = all_used-anew frozen ctx ts ys are.1 in omega (arith, (are.0).unused, rest)

-- before a run nothing is used
pub units_few : (frozen : Made) (ctx : Hw) (ts : List CodeTestbench) (ys : List Running) (left : ℕ) → AreAnew frozen ctx ts ys → left < 2 ^ 64 → left + all_used ys < 2 ^ 64
units_few frozen ctx ts ys left are few = let none = all_used-anew frozen ctx ts ys are in omega (arith, none, few)

-- ---- a moment

pub units_woken : (t left : ℕ) (ys zs : List Running) → zs ≡ map (woken_in t) ys → left + all_used zs ≡ left + all_used ys
units_woken t left ys zs is = ap (λ n. left + n) (ap all_used is ∙ all_used-woken t ys)

pub units_ticked : (d f : CodePoint) (toggled : List DomainId) → HasTicked d f toggled → units_of f ≡ units_of d
units_ticked d f toggled h =
    let used = ap all_used h.benches ∙ all_used-ticked d.bench.design (held_of d.bench.held) d.sim.env toggled d.testbenches.items in
    let same = ap (λ (b : Budget). b.left) h.left in
    omega (arith, used, same)

-- ---- a turn

module _ (s : Setting) (c d : CodePoint) (i : ℕ) (y z : Running) where
  -- what is taken from the budget is what the testbench used
  turned_units : (t : Turn) → Turns s c d i y z t → z.machine.going.state.used < y.machine.going.state.used + c.left.left → units_of d ≡ units_of c
  turned_units t k below =
      let sum = all_used-set c.testbenches.items i y z k.there in
      let same = ap all_used (k.is).benches in
      omega (arith, sum, same, (k.took).left, below)

  pub asks_units : (r : Request) → Turns s c d i y z (turn.Asks r) → units_of d ≡ units_of c
  asks_units r k =
      turned_units (turn.Asks r) k (units_asks s y z (k.took).taken r c.left.left (all_get (IsLive s) c.testbenches.items i y (k.safe).live k.there) (k.took).waits (k.took).resumed)

  pub ended_units : (v : Val) → Turns s c d i y z (turn.Ended v) → units_of d ≡ units_of c
  ended_units v k =
      turned_units (turn.Ended v) k (units_ended s y z (k.took).taken v c.left.left (all_get (IsLive s) c.testbenches.items i y (k.safe).live k.there) (k.took).waits (k.took).resumed)

-- ---- steps

-- there were as many units before
pub costs_same : (c d e : CodePoint) (result : Result Step NoMemory) → units_of d ≡ units_of c → StepCosts result d e → StepCosts result c e
costs_same c d e (Ok step.Goes) same costs = costs ∙ same
costs_same c d e (Ok (step.Happens event)) same costs = costs ∙ same
costs_same c d e (Ok step.Ends) same costs = tt
costs_same c d e (Ok (step.Stops stop)) same costs = tt
costs_same c d e (Err x) same costs = tt

-- where it stops nothing is owed
pub stops_costs : (c d : CodePoint) (result : Result Step NoMemory) → IfOk result (λ z. IsStop z) → StepCosts result c d
stops_costs c d (Ok step.Goes) h = absurd h
stops_costs c d (Ok (step.Happens e)) h = absurd h
stops_costs c d (Ok step.Ends) h = tt
stops_costs c d (Ok (step.Stops stop)) h = tt
stops_costs c d (Err e) h = tt

-- an event takes one unit
pub happened_costs : (c f : CodePoint) (place : Place) (e : Event) (v : Step) → v ≡ happened c.left.left place e → IsBehind v e c f → StepCosts (Ok v) c f
happened_costs c f place e v is behind = by_test (nat_lt 1 c.left.left) refl
  where
    by_test : (b : Bool) → nat_lt 1 c.left.left ≡ b → StepCosts (Ok v) c f
    by_test true lt =
        let happens_is : v ≡ step.Happens e = is ∙ ap (λ b. if b then step.Happens e else step.Stops (spent_at place)) lt in
        let h = subst (λ (w : Step). IsBehind w e c f) happens_is behind in
        let left = ap (λ (p : CodePoint). p.left.left) h.0 in
        let used = ap (λ (p : CodePoint). all_used p.testbenches.items) h.0 in
        subst (λ (w : Step). StepCosts (Ok w) c f) (sym happens_is) (omega (arith, left, used, ltb-true 1 c.left.left lt))
    by_test false lt =
        let stops_is : v ≡ step.Stops (spent_at place) = is ∙ ap (λ b. if b then step.Happens e else step.Stops (spent_at place)) lt in
        subst (λ (w : Step). StepCosts (Ok w) c f) (sym stops_is) tt

-- what was served is done
pub done_costs : (v : Step) (i : ℕ) (place : Place) (z : Served) (c f : CodePoint) → IsDone v i place z c f → StepCosts (Ok v) c f
done_costs v i place z c f k =
    costs_same c k.middle f (Ok v) same (by_event (event_served c.bench.design.pool.signals c.sim.env z) k.event)
  where
    same : units_of k.middle ≡ units_of c
    same =
        let m = k.is_middle in
        let used = ap all_used m.benches ∙ all_used-stand c.testbenches.items i k.running k.stand k.there in
        let left = ap (λ (b : Budget). b.left) m.left in
        omega (arith, used, left)

    by_event : (o : Option Event) → IsEventDone v place o k.middle f → StepCosts (Ok v) k.middle f
    by_event None h = subst (λ (w : Step). StepCosts (Ok w) k.middle f) (sym h.0) (ap units_of h.1)
    by_event (Some e) h = happened_costs k.middle f place e v h.1 h.2
