-- What a testbench asked is served: what then holds of the point, and what the run comes to.
use Rattle.std.proofs.Common.{◌≡◌, refl, sym, ◌∙◌, ap, subst, length, Some, None, ℕ, ◌+◌, ◌<◌, List, Option, arith, Bool, true, false}
use Rattle.std.specs.Prelude.{◌^◌, nat_lt, if◌then◌else◌, slice_get, slice_set, IsSome, IfSome, IfOk, Result, Ok, Err, ℤ}
use Rattle.std.specs.List.{AllByRecursion}
use Rattle.std.specs.Option.{option_map_or}
use Rattle.std.proofs.lemmas.Bool.{ltb-true}
use Rattle.lists.specs.declared.items.NoMemory.{NoMemory}
use Rattle.amh_host.specs.declared.place.Budget.{Budget}
use Rattle.amh_host.specs.declared.place.Place.{Place}
use Rattle.design_ir.specs.declared.event.Event.{Event}
use Rattle.design_ir.specs.declared.event.Event.TheVariants.{Set}
use Rattle.design_ir.specs.declared.signal.Sig.{Sig}
use Rattle.design_ir.specs.Circuits.{Circuit, at}
use Rattle.design_ir.specs.Designs.{IsDesign}
use Rattle.design_ir.specs.Legal.{IsLegal}
use Rattle.design_ir.specs.PoolRules.{IsPool}
use Rattle.design_ir.specs.Pools.{Pooled}
use Rattle.design_ir.specs.Values.{signal_form}
use Rattle.flat_design.specs.Growing.{IsMore}
use Rattle.fragment_laws.specs.Growth.{IsGrown, GrowsOn, GrowthKeepsMeaning}
use Rattle.delta_sim.specs.Growth.{GrowthKeepsSimulators}
use Rattle.delta_sim.specs.Standing.{Simulated, IsSimOf, Tells}
use Rattle.calendar.specs.Due.{AreWithin}
use Rattle.py_heap.specs.Heaps.{Seen, seen}
use Rattle.py_frames.specs.declared.request.Answer.TheVariants as answer
use Rattle.py_frames.specs.declared.request.Cause.{Cause}
use Rattle.py_frames.specs.declared.request.Request.{Request}
use Rattle.py_machine.specs.Lives.{again}
use Rattle.elab_store.specs.Held.{held_of}
use Rattle.elab_store.specs.Stores.{Held}
use Rattle.bench_acts.specs.declared.serving.Bench.{Bench}
use Rattle.bench_acts.specs.declared.serving.Served.{Served}
use Rattle.bench_acts.specs.declared.serving.Served.TheVariants as served
use Rattle.bench_acts.specs.Context.{Serving}
use Rattle.bench_acts.specs.Held.{IsBench, GoesOn, ServesOn}
use Rattle.bench_acts.specs.Serving.{bench_served}
use Rattle.bench_acts.proofs.GrowLaws.{served_more}
use Rattle.play_text.specs.Trace.{Row}
use Rattle.bench_run.specs.declared.point.Point.{Point as CodePoint}
use Rattle.bench_run.specs.declared.setting.Setting.{Setting}
use Rattle.bench_run.specs.declared.testbench.Running.{Running}
use Rattle.bench_run.specs.declared.testbench.Stand.{Stand}
use Rattle.bench_run.specs.declared.turns.Step.{Step}
use Rattle.bench_run.specs.declared.turns.Step.TheVariants as step
use Rattle.bench_run.specs.Runs.{Testbench, Run, Point, Next, Goes, Comes, moves, asked_done, bench_behind, happens, moment_of, point_behind, spent_at, time_of, with_bench}
use Rattle.bench_run.specs.Setting.{number_with}
use Rattle.bench_run.specs.Standing.{IsLive, IsBelow, IsSafe, IsAt, IsAsking, IsWaiting, IsBehind, IsDone, IsEventDone, IsLinked, IsRefused, IsStop, IfGoes, MayBeDone, Owed, StaysSafe, StepMoves, all_left, answers_left, event_served, happened, refusal, stand_behind}
use Rattle.bench_run.proofs.LinkLaws.{HasServed, comes_asked, happens_owed, linked_served, refused_next}
use Rattle.bench_run.proofs.SafeLaws.{all_get, all_left-set, all_set, live_stand}
use Rattle.bench_run.proofs.SetLaws.{served_may}
use Rattle.bench_run.proofs.TurnLaws.{waits_none}

-- ---- refusals

pub not_refused : (z : Served) (t : Type 0) → refusal z ≡ None → GoesOn z t → t
not_refused (served.Answer (answer.Refuse why)) t none h = absurd (apart why none)
  where
    apart : (why : Cause) → Some why ≡ None → ⊥
    apart why e = cc
not_refused (served.Answer a) t none h = h
not_refused (served.Get x) t none h = h
not_refused (served.Set bits n) t none h = h
not_refused (served.Wait k) t none h = h

pub refused_is : (z : Served) (why : Cause) → refusal z ≡ Some why → z ≡ served.Answer (answer.Refuse why)
refused_is (served.Answer (answer.Refuse other)) why is = ap (λ w. served.Answer (answer.Refuse w)) (some_is other why is)
  where
    some_is : (a b : Cause) → Some a ≡ Some b → a ≡ b
    some_is a b e = cc
refused_is (served.Answer a) why is = absurd ((cc))
refused_is (served.Get x) why is = absurd ((cc))
refused_is (served.Set bits n) why is = absurd ((cc))
refused_is (served.Wait k) why is = absurd ((cc))

-- ---- the design behind what was served

module _ (s : Seen) (c : Bench) (d : Circuit) (r : Request) (bench : IsBench c) (is : d ≡ record c.design { pool = (bench_served s c.design r (held_of c.held)).held.pool }) where
  pub pool_more : IsMore c.design.pool (bench_served s c.design r (held_of c.held)).held.pool
  pool_more = subst (λ (p : Pooled). IsMore p (bench_served s c.design r (held_of c.held)).held.pool) bench.pool (served_more s c.design r (held_of c.held))

  pub served_grown : IsGrown c.design d
  served_grown =
      let pool : (bench_served s c.design r (held_of c.held)).held.pool ≡ d.pool = sym (ap (λ (w : Circuit). w.pool) is) in
      record { more = subst (IsMore c.design.pool) pool pool_more; rest = is ∙ ap (λ (p : Pooled). record c.design { pool = p }) pool }

  pub served_done : (z : Served) → IsPool c.design.pool → (bench_served s c.design r (held_of c.held)).served ≡ z → MayBeDone d z
  served_done z rules said =
      subst (MayBeDone d) said
      (subst (λ (w : Circuit). MayBeDone w (bench_served s c.design r (held_of c.held)).served) (sym is) (served_may c.design rules (held_of c.held) bench.sound bench.pool s r))

  pub served_sim : GrowthKeepsSimulators → IsPool c.design.pool → IsDesign c.design → (sim : Simulated) → IsSimOf c.design sim → IsSimOf d sim
  served_sim law pool design sim of = (law c.design d pool design served_grown sim).of_design of

-- ---- the point behind what was served

-- what was served of testbench `i`, which then stands so; no event was had yet
pub record Serves (s : Setting) (c d : CodePoint) (i : ℕ) (r : Request) (y : Running) (z : Served) (w : Stand) : Type 0 where
  pub safe : IsSafe s c
  pub there : slice_get c.testbenches.items i ≡ Some y
  pub waiting : IfSome (slice_get c.testbenches.items i) IsWaiting
  pub said : (bench_served (seen s.frozen y.machine.going.state.heap) c.bench.design r (held_of c.bench.held)).served ≡ z
  pub held_is : (bench_served (seen s.frozen y.machine.going.state.heap) c.bench.design r (held_of c.bench.held)).held ≡ held_of d.bench.held
  pub design : d.bench.design ≡ record c.bench.design { pool = (bench_served (seen s.frozen y.machine.going.state.heap) c.bench.design r (held_of c.bench.held)).held.pool }
  pub bench : IsBench d.bench
  pub of_sim : IsSimOf d.bench.design d.sim
  pub stands : w ≡ stand_behind (held_of d.bench.held) c.sim.env (option_map_or (λ t. t) c.now 0) z
  pub below : IfSome (moment_of w) (λ t. t < 2 ^ 63)
  pub sim : d.sim ≡ c.sim
  pub benches : d.testbenches.items ≡ slice_set c.testbenches.items i (record y { stand = w })
  pub turn : d.turn ≡ c.turn
  pub now : d.now ≡ c.now
  pub left : d.left ≡ c.left

abbrev next_done : Place → Option Event → Point → Next
next_done place None q = Goes q
next_done place (Some e) q = happens place e q

-- what is done is an event, or nothing more
done_is : (x : Run) (env : List ℤ) (i : ℕ) (b : Testbench) (place : Place) (p : Point) (signals : List Sig) (z : Served) (w : Stand) → signals ≡ x.design.pool.signals → w ≡ stand_behind p.held env (time_of p) z
    → asked_done x env i b place z p ≡ next_done place (event_served signals env z) (with_bench i (record b { stand = w }) p)
done_is x env i b place p signals (served.Answer a) w same is = ap (λ (v : Stand). Goes (with_bench i (record b { stand = v }) p)) (sym is)
done_is x env i b place p signals (served.Get y) w same is = ap (λ (v : Stand). Goes (with_bench i (record b { stand = v }) p)) (sym is)
done_is x env i b place p signals (served.Wait k) w same is = ap (λ (v : Stand). Goes (with_bench i (record b { stand = v }) p)) (sym is)
done_is x env i b place p signals (served.Set bits n) w same is =
    ap (λ (v : Stand). happens place (Set bits.sig (number_with (signal_form x.design.pool.signals bits.sig.0) bits (at env bits.sig.0) n)) (with_bench i (record b { stand = v }) p)) (sym is)
    ∙ ap (λ (ss : List Sig). happens place (Set bits.sig (number_with (signal_form ss bits.sig.0) bits (at env bits.sig.0) n)) (with_bench i (record b { stand = w }) p)) (sym same)

module _ (s : Setting) (c d : CodePoint) (i : ℕ) (r : Request) (y : Running) (z : Served) (w : Stand) (k : Serves s c d i r y z w) where
  abbrev owed : Serving
  owed = bench_served (seen s.frozen y.machine.going.state.heap) c.bench.design r (held_of c.bench.held)

  served_as : HasServed c d i y owed.held w
  served_as = record {
    held_is = sym k.held_is;
    design = k.design;
    more = pool_more (seen s.frozen y.machine.going.state.heap) c.bench d.bench.design r (k.safe).bench k.design;
    sim = k.sim;
    benches = k.benches;
    turn = k.turn;
    now = k.now;
    left = k.left;
  }

  -- ---- it stays safe

  waits_now : again y.machine.stage ≡ None
  waits_now = waits_none y (subst (λ o. IfSome o IsWaiting) k.there k.waiting)

  pub served_safe : IsSafe s d
  served_safe = record {
    bench = k.bench;
    sim = k.of_sim;
    live =
        subst (AllByRecursion (IsLive s)) (sym k.benches)
        (all_set (IsLive s) c.testbenches.items i (record y { stand = w }) (k.safe).live (live_stand s y w (all_get (IsLive s) c.testbenches.items i y (k.safe).live k.there) waits_now));
    below = subst (AllByRecursion IsBelow) (sym k.benches) (all_set IsBelow c.testbenches.items i (record y { stand = w }) (k.safe).below k.below);
    clocks = (k.safe).clocks;
    within = subst (λ n. AreWithin n s.clocks.items) (sym (ap (λ (x : Circuit). length x.domains) k.design)) (k.safe).within;
    now = subst (λ (o : Option ℕ). IfSome o (λ n. n < 2 ^ 63)) (sym k.now) (k.safe).now;
    units = subst (λ (b : Budget). 0 < b.left) (sym k.left) (k.safe).units;
  }

  -- as many answers are left
  pub served_left : all_left d.testbenches.items ≡ all_left c.testbenches.items
  served_left =
      let sum : all_left (slice_set c.testbenches.items i (record y { stand = w })) + answers_left y ≡ all_left c.testbenches.items + answers_left y = all_left-set c.testbenches.items i y (record y { stand = w }) k.there in
      let same = ap all_left k.benches in
      omega (arith, sum, same)

  -- ---- what the run comes to

  module _ (x : Run) (first : Point) (rows : List Row) (a : IsAsking s c i r x first rows) (grow : GrowsOn) (end : IsSome s.end) where
    same_running : y ≡ a.running
    same_running = some_is y a.running (sym k.there ∙ a.now_there)
      where
        some_is : (m n : Running) → Some m ≡ Some n → m ≡ n
        some_is m n e = cc

    abbrev point_now : Point
    point_now = record (point_behind i a.running.machine.going.state.used a.bench a.point) { held = owed.held }

    abbrev point_then : Point
    point_then = with_bench i (record (bench_behind a.taken a.running.machine.going.state.used a.bench) { stand = w }) point_now

    linked_then : IsLinked s d x rows point_then
    linked_then = linked_served grow s c d i r x first rows a owed.held w (subst (λ (v : Running). HasServed c d i v owed.held w) same_running served_as)

    comes_then : Comes x rows a.point (next_done r.place (event_served d.bench.design.pool.signals c.sim.env z) point_then)
    comes_then =
        let is = ap (λ (v : Running). bench_served (seen s.frozen v.machine.going.state.heap) c.bench.design r (held_of c.bench.held)) same_running in
        let stands : w ≡ stand_behind owed.held c.sim.env (time_of point_now) z =
        k.stands
        ∙ ap (λ (h : Held). stand_behind h c.sim.env (option_map_or (λ t. t) c.now 0) z) (sym k.held_is)
        ∙ ap (λ (n : Option ℕ). stand_behind owed.held c.sim.env (option_map_or (λ t. t) n 0) z) (a.linked).now in
        subst (Comes x rows a.point)
        (done_is x c.sim.env i (bench_behind a.taken a.running.machine.going.state.used a.bench) r.place point_now d.bench.design.pool.signals z w (linked_then.grown).more.signals stands)
        (comes_asked s c i r x first rows a owed z end is k.said)

    -- no event: the run goes on
    pub served_goes : event_served d.bench.design.pool.signals c.sim.env z ≡ None → IsAt s d x first rows
    served_goes none = record {
      point = point_then;
      follows = moves rows a.point point_then a.follows (subst (λ (o : Option Event). Comes x rows a.point (next_done r.place o point_then)) none comes_then);
      linked = linked_then;
    }

    -- an event, within the budget
    pub served_happens : GrowthKeepsMeaning → (e : Event) (f : CodePoint) (v : Step) → event_served d.bench.design.pool.signals c.sim.env z ≡ Some e → IsLegal d.bench.design e → v ≡ happened d.left.left r.place e → IsBehind v e d f → Owed (Ok v) s f x first rows
    served_happens law e f v some legal is behind =
        happens_owed law s d f x first rows a.point point_then r.place e v a.follows (subst (λ (o : Option Event). Comes x rows a.point (next_done r.place o point_then)) some comes_then) linked_then k.of_sim legal is behind

-- ---- an event

module _ (s : Setting) (c f : CodePoint) (place : Place) (e : Event) (v : Step) (is : v ≡ happened c.left.left place e) (behind : IsBehind v e c f) where
  by_budget : (P : Step → Type 0) → ((within : nat_lt 1 c.left.left ≡ true) → v ≡ step.Happens e → P (step.Happens e)) → P (step.Stops (spent_at place)) → P v
  by_budget P one other = by_test (nat_lt 1 c.left.left) refl
    where
      by_test : (b : Bool) → nat_lt 1 c.left.left ≡ b → P v
      by_test true lt =
          let v_is : v ≡ step.Happens e = is ∙ ap (λ k. if k then step.Happens e else step.Stops (spent_at place)) lt in
          subst P (sym v_is) (one lt v_is)
      by_test false lt = subst P (sym (is ∙ ap (λ k. if k then step.Happens e else step.Stops (spent_at place)) lt)) other

  pub happened_safe : IsSafe s c → StaysSafe (Ok v) s f
  happened_safe safe =
      by_budget (λ (w : Step). StaysSafe (Ok w) s f)
      (λ within v_is.
      let h = subst (λ w. IsBehind w e c f) v_is behind in
      let few = ltb-true 1 c.left.left within in
      subst (IsSafe s) (sym h.0) (record { bench = safe.bench; sim = h.1; live = safe.live; below = safe.below; clocks = safe.clocks; within = safe.within; now = safe.now; units = omega (arith, few) }))
      tt

  pub happened_left : (t : Type 0) → IfGoes (Ok v) t
  happened_left t = by_budget (λ (w : Step). IfGoes (Ok w) t) (λ within v_is. tt) tt

  pub happened_moves : (b : CodePoint) → c.sim ≡ b.sim → StepMoves (Ok v) b f
  happened_moves b same =
      by_budget (λ (w : Step). StepMoves (Ok w) b f)
      (λ within v_is.
      let h = subst (λ w. IsBehind w e c f) v_is behind in
      subst (λ (w : Simulated). Tells f.bench.design w f.sim) same (subst (λ (w : CodePoint). Tells w.bench.design c.sim f.sim) (sym h.0) h.3))
      tt

-- ---- what was done

-- what is known where it was served, and done
pub record Does (s : Setting) (c : CodePoint) (b : Bench) (i : ℕ) (r : Request) (y : Running) (z : Served) (v : Step) (f : CodePoint) : Type 0 where
  pub safe : IsSafe s c
  pub there : slice_get c.testbenches.items i ≡ Some y
  pub waiting : IfSome (slice_get c.testbenches.items i) IsWaiting
  pub said : (bench_served (seen s.frozen y.machine.going.state.heap) c.bench.design r (held_of c.bench.held)).served ≡ z
  pub held_is : (bench_served (seen s.frozen y.machine.going.state.heap) c.bench.design r (held_of c.bench.held)).held ≡ held_of b.held
  pub design : b.design ≡ record c.bench.design { pool = (bench_served (seen s.frozen y.machine.going.state.heap) c.bench.design r (held_of c.bench.held)).held.pool }
  pub bench : IsBench b
  pub of_sim : IsSimOf b.design c.sim
  pub done : IsDone v i r.place z (record c { bench = b }) f

module _ (s : Setting) (c : CodePoint) (b : Bench) (i : ℕ) (r : Request) (y : Running) (z : Served) (v : Step) (f : CodePoint) (k : Does s c b i r y z v f) where
  serves : Serves s c (k.done).middle i r y z (k.done).stand
  serves =
      let d = k.done in
      let m = d.is_middle in
      let same : d.running ≡ y = some_is d.running y (sym d.there ∙ k.there) in
      record {
        safe = k.safe;
        there = k.there;
        waiting = k.waiting;
        said = k.said;
        held_is = k.held_is ∙ ap (λ (w : Bench). held_of w.held) (sym m.bench);
        design = ap (λ (w : Bench). w.design) m.bench ∙ k.design;
        bench = subst IsBench (sym m.bench) k.bench;
        of_sim = subst (λ (w : Bench). IsSimOf w.design (d.middle).sim) (sym m.bench) (subst (λ (w : Simulated). IsSimOf b.design w) (sym m.sim) k.of_sim);
        stands = d.stands ∙ ap (λ (w : Bench). stand_behind (held_of w.held) c.sim.env (option_map_or (λ t. t) c.now 0) z) (sym m.bench);
        below = d.below;
        sim = m.sim;
        benches = m.benches ∙ ap (λ (w : Running). slice_set c.testbenches.items i (record w { stand = d.stand })) same;
        turn = m.turn;
        now = m.now;
        left = m.left;
      }
    where
      some_is : (p q : Running) → Some p ≡ Some q → p ≡ q
      some_is p q e = cc

  event_is : event_served (k.done).middle.bench.design.pool.signals c.sim.env z ≡ event_served b.design.pool.signals c.sim.env z
  event_is = ap (λ (w : Bench). event_served w.design.pool.signals c.sim.env z) ((k.done).is_middle).bench

  pub done_safe : StaysSafe (Ok v) s f
  done_safe = by_event (event_served b.design.pool.signals c.sim.env z) (k.done).event
    where
      by_event : (o : Option Event) → IsEventDone v r.place o (k.done).middle f → StaysSafe (Ok v) s f
      by_event None h =
          subst (λ (w : Step). StaysSafe (Ok w) s f) (sym h.0) (subst (IsSafe s) (sym h.1) (served_safe s c (k.done).middle i r y z (k.done).stand serves))
      by_event (Some e) h = happened_safe s (k.done).middle f r.place e v h.1 h.2 (served_safe s c (k.done).middle i r y z (k.done).stand serves)

  pub done_left : IfGoes (Ok v) (all_left f.testbenches.items ≡ all_left c.testbenches.items)
  done_left = by_event (event_served b.design.pool.signals c.sim.env z) (k.done).event
    where
      by_event : (o : Option Event) → IsEventDone v r.place o (k.done).middle f → IfGoes (Ok v) (all_left f.testbenches.items ≡ all_left c.testbenches.items)
      by_event None h =
          let same = served_left s c (k.done).middle i r y z (k.done).stand serves in
          subst (λ (w : Step). IfGoes (Ok w) (all_left f.testbenches.items ≡ all_left c.testbenches.items)) (sym h.0) (ap (λ (w : CodePoint). all_left w.testbenches.items) h.1 ∙ same)
      by_event (Some e) h = happened_left s (k.done).middle f r.place e v h.1 h.2 (all_left f.testbenches.items ≡ all_left c.testbenches.items)

  pub done_moves : StepMoves (Ok v) c f
  done_moves = by_event (event_served b.design.pool.signals c.sim.env z) (k.done).event
    where
      by_event : (o : Option Event) → IsEventDone v r.place o (k.done).middle f → StepMoves (Ok v) c f
      by_event None h = subst (λ (w : Step). StepMoves (Ok w) c f) (sym h.0) (ap (λ (w : CodePoint). w.sim) h.1 ∙ ((k.done).is_middle).sim)
      by_event (Some e) h = happened_moves s (k.done).middle f r.place e v h.1 h.2 c ((k.done).is_middle).sim

  pub done_owed : GrowsOn → GrowthKeepsMeaning → IsSome s.end → (x : Run) (first : Point) (rows : List Row) → IsAsking s c i r x first rows → Owed (Ok v) s f x first rows
  done_owed grow law end x first rows a = by_event (event_served b.design.pool.signals c.sim.env z) refl (k.done).event
    where
      by_event : (o : Option Event) → event_served b.design.pool.signals c.sim.env z ≡ o → IsEventDone v r.place o (k.done).middle f → Owed (Ok v) s f x first rows
      by_event None none h =
          subst (λ (w : Step). Owed (Ok w) s f x first rows) (sym h.0)
          (subst (λ (w : CodePoint). IsAt s w x first rows) (sym h.1) (served_goes s c (k.done).middle i r y z (k.done).stand serves x first rows a grow end (event_is ∙ none)))
      by_event (Some e) some h = served_happens s c (k.done).middle i r y z (k.done).stand serves x first rows a grow end law e f v (event_is ∙ some) h.0 h.1 h.2

-- ---- as the code has it

pub served_on : (z : Served) (before behind : Bench) (owed : Serving) → refusal z ≡ None → ServesOn (Ok z) before behind owed
    → (owed.served ≡ z) × (owed.held ≡ held_of behind.held) × (behind.design ≡ record before.design { pool = owed.held.pool }) × IsBench behind
served_on z before behind owed none h =
    let g = not_refused z ((owed.held ≡ held_of behind.held) × (behind.design ≡ record before.design { pool = owed.held.pool }) × IsBench behind) none h.1 in
    (h.0, g.0, g.1, g.2)

pub time_below : (o : Option ℕ) (n : ℕ) → n ≡ option_map_or (λ t. t) o 0 → IfSome o (λ t. t < 2 ^ 63) → n < 2 ^ 63
time_below None n e h = subst (λ k. k < 2 ^ 63) (sym e) (omega arith)
time_below (Some t) n e h = subst (λ k. k < 2 ^ 63) (sym e) h

-- it was refused: what then stands for it
pub refused_then : (s : Setting) (c d : CodePoint) (i : ℕ) (r : Request) (y : Running) (z : Served) (why : Cause) → IsSome s.end → slice_get c.testbenches.items i ≡ Some y
    → (bench_served (seen s.frozen y.machine.going.state.heap) c.bench.design r (held_of c.bench.held)).served ≡ z → refusal z ≡ Some why → d.testbenches ≡ c.testbenches → d.sim ≡ c.sim → d.left ≡ c.left
    → (x : Run) (first : Point) (rows : List Row) → IsAsking s c i r x first rows → IsRefused s d i why x first rows
refused_then s c d i r y z why end there said refuses benches sim left x first rows a =
    let owed = bench_served (seen s.frozen y.machine.going.state.heap) c.bench.design r (held_of c.bench.held) in
    let same : y ≡ a.running = some_is y a.running (sym there ∙ a.now_there) in
    let is = ap (λ (v : Running). bench_served (seen s.frozen v.machine.going.state.heap) c.bench.design r (held_of c.bench.held)) same in
    refused_next s c d i r why x first rows a owed end is (said ∙ refused_is z why refuses) benches sim left
  where
    some_is : (m n : Running) → Some m ≡ Some n → m ≡ n
    some_is m n e = cc

-- where it stops nothing else is owed
pub stops_safe : (s : Setting) (d : CodePoint) (result : Result Step NoMemory) → IfOk result (λ z. IsStop z) → StaysSafe result s d
stops_safe s d (Ok step.Goes) h = absurd h
stops_safe s d (Ok (step.Happens e)) h = absurd h
stops_safe s d (Ok step.Ends) h = tt
stops_safe s d (Ok (step.Stops stop)) h = tt
stops_safe s d (Err e) h = tt

pub stops_left : (t : Type 0) (result : Result Step NoMemory) → IfOk result (λ z. IsStop z) → IfGoes result t
stops_left t (Ok step.Goes) h = absurd h
stops_left t (Ok (step.Happens e)) h = tt
stops_left t (Ok step.Ends) h = tt
stops_left t (Ok (step.Stops stop)) h = tt
stops_left t (Err e) h = tt

pub stops_moves : (c d : CodePoint) (result : Result Step NoMemory) → IfOk result (λ z. IsStop z) → StepMoves result c d
stops_moves c d (Ok step.Goes) h = absurd h
stops_moves c d (Ok (step.Happens e)) h = absurd h
stops_moves c d (Ok step.Ends) h = tt
stops_moves c d (Ok (step.Stops stop)) h = tt
stops_moves c d (Err e) h = tt
