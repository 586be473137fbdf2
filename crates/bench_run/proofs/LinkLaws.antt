-- A run stays linked to a point where a testbench goes on, an event takes place, or a moment comes.
use Rattle.std.proofs.Common.{◌≡◌, refl, sym, ◌∙◌, ap, subst, Some, None, ℕ, ◌+◌, ◌-◌, Bool, true, false, List, [], ◌∷◌, ◌++◌, Option}
use Rattle.std.specs.Prelude.{Ok, nat_lt, if◌then◌else◌, slice_get, slice_set, IsSome, ℤ}
use Rattle.std.specs.Option.{option_map_or}
use Rattle.amh_host.specs.declared.place.Place.{Place}
use Rattle.design_ir.specs.declared.event.Event.{Event}
use Rattle.design_ir.specs.Circuits.{Circuit}
use Rattle.design_ir.specs.Histories.{Reaches}
use Rattle.design_ir.specs.Legal.{AllLegal, IsLegal}
use Rattle.design_ir.specs.Pools.{Pooled}
use Rattle.flat_design.specs.Growing.{IsMore}
use Rattle.fragment_laws.specs.Growth.{IsGrown, GrowsOn, GrowthKeepsMeaning}
use Rattle.delta_sim.specs.Standing.{Simulated, IsSimOf, Stands, state_of}
use Rattle.calendar.specs.Moments.{IsNext}
use Rattle.py_heap.specs.Heaps.{seen}
use Rattle.py_machine.specs.Lives.{StandsForBench}
use Rattle.py_frames.specs.declared.request.Answer.{Answer}
use Rattle.py_frames.specs.declared.request.Answer.TheVariants as answer
use Rattle.py_frames.specs.declared.request.Cause.{Cause}
use Rattle.py_frames.specs.declared.request.Request.{Request}
use Rattle.py_frames.specs.declared.request.Stop.{Stop}
use Rattle.py_frames.specs.declared.state.Halt.TheVariants as halt
use Rattle.py_frames.specs.Doing.{Outcome, Done, Halts}
use Rattle.py_frames.specs.Frames.{stops_as}
use Rattle.elab_store.specs.declared.simulation.RunEnd.{RunEnd}
use Rattle.elab_store.specs.Held.{held_of}
use Rattle.elab_store.specs.Stores.{Held}
use Rattle.bench_acts.specs.declared.serving.Served.{Served}
use Rattle.bench_acts.specs.declared.serving.Served.TheVariants as asked
use Rattle.bench_acts.specs.Context.{Serving}
use Rattle.bench_acts.specs.Serving.{bench_served}
use Rattle.play_text.specs.Trace.{Row, events_in}
use Rattle.bench_run.specs.declared.point.Point.{Point as CodePoint}
use Rattle.bench_run.specs.declared.setting.Setting.{Setting}
use Rattle.bench_run.specs.declared.testbench.Running.{Running}
use Rattle.bench_run.specs.declared.testbench.Stand.{Stand}
use Rattle.bench_run.specs.declared.testbench.Stand.TheVariants as stand
use Rattle.bench_run.specs.Runs
use Rattle.bench_run.specs.Runs.{Testbench, Run, Point, Next, Goes, Happens, Ends, End, Over, StopsAt, Comes, Follows, moves, takes, IsRun, HasEnv, IsToggle, design_at, time_of, happens, spent_at, with_bench, bench_behind, point_behind, outcome_of, gone_on, asks, asked_done, served, next_of, next_ready, stands_of, is_ready}
use Rattle.bench_run.specs.declared.turns.Step.{Step}
use Rattle.bench_run.specs.declared.turns.Step.TheVariants as step
use Rattle.bench_run.specs.Standing.{IsBenchOf, AreBenches, IsLinked, IsAsking, IsRefused, IsBehind, Owed, row_at, happened}
use Rattle.bench_run.proofs.BenchLists.{bench_at, benches_set, with_stand, ready_here, set_there, set_twice, stand_there}
use Rattle.bench_run.proofs.EnvLaws.{one_env, legal_more, events_more, reaches_before, reaches_more}

-- ---- what comes next

pub env_now : (s : Setting) (c : CodePoint) (x : Run) (rows : List Row) (p : Point) → IsLinked s c x rows p → HasEnv x.design (events_in rows) c.sim.env
env_now s c x rows p l = one_env x.design (events_in rows) (state_of c.sim.held c.sim.rows) c.sim.env (l.one (events_in rows) l.legal) l.reached

-- a testbench that is ready goes on
turn_is : (x : Run) (env : List ℤ) (toggle : Option ℕ) (p : Point) (how : RunEnd) (i : ℕ) (b : Testbench) (a : Answer) → x.end ≡ Some how → next_ready p.turn (stands_of p.benches) ≡ Some i
    → slice_get p.benches i ≡ Some b → b.stand ≡ stand.Ready a → gone_on x env i b a (outcome_of x b a p.left) p ≡ next_of x env toggle p
turn_is x env toggle p how i b a end ready there stands =
    sym (ap (λ (z : Stand). Runs.goes x env i b z p) stands)
    ∙ sym (ap (λ (z : Option Testbench). Runs.turned x env i z p) there)
    ∙ sym (ap (λ (z : Option ℕ). Runs.turn_of x env how toggle p z) ready)
    ∙ sym (ap (λ (z : Option RunEnd). Runs.ended_by x env toggle p z) end)

some_end : (o : Option RunEnd) → IsSome o → (how : RunEnd) × (o ≡ Some how)
some_end None is = absurd (none is)
  where
    none : false ≡ true → ⊥
    none e = cc
some_end (Some how) is = (how, refl)

pub comes_turn : (x : Run) (rows : List Row) (env : List ℤ) (p : Point) (i : ℕ) (b : Testbench) (a : Answer) (next : Next) → HasEnv x.design (events_in rows) env → IsSome x.end
    → next_ready p.turn (stands_of p.benches) ≡ Some i → slice_get p.benches i ≡ Some b → b.stand ≡ stand.Ready a → next ≡ gone_on x env i b a (outcome_of x b a p.left) p → Comes x rows p next
comes_turn x rows env p i b a next has end ready there stands is =
    let how = some_end x.end end in
    record {
      env = env;
      has = has;
      toggle = None;
      is_next = subst (λ (z : Option ℕ). IsToggle x p None z) (sym ready) tt;
      is = is ∙ turn_is x env None p how.0 i b a how.1 ready there stands;
    }

-- where a round is over
pub comes_over : (x : Run) (rows : List Row) (env : List ℤ) (p : Point) (how : RunEnd) (toggle : Option ℕ) (next : Next) → HasEnv x.design (events_in rows) env → x.end ≡ Some how
    → next_ready p.turn (stands_of p.benches) ≡ None → IsNext x.clocks p.now toggle → next ≡ Runs.round_over x env how toggle p → Comes x rows p next
comes_over x rows env p how toggle next has end over is_next is = record {
  env = env;
  has = has;
  toggle = toggle;
  is_next = subst (λ (z : Option ℕ). IsToggle x p toggle z) (sym over) is_next;
  is =
      is
      ∙ sym (ap (λ (z : Option ℕ). Runs.turn_of x env how toggle p z) over)
      ∙ sym (ap (λ (z : Option RunEnd). Runs.ended_by x env toggle p z) end);
}

-- ---- the point behind an answer

-- the testbench of the code, which took an answer and has used so many units
pub record HasTaken (c d : CodePoint) (i : ℕ) (y z : Running) : Type 0 where
  pub bench : d.bench ≡ c.bench
  pub sim : d.sim ≡ c.sim
  pub benches : d.testbenches.items ≡ slice_set c.testbenches.items i z
  pub background : z.background ≡ y.background
  pub stand : z.stand ≡ stand.Ended
  pub turn : d.turn ≡ i
  pub now : d.now ≡ c.now
  pub left : d.left.left ≡ y.machine.going.state.used + c.left.left - z.machine.going.state.used

pub linked_taken : (s : Setting) (c d : CodePoint) (x : Run) (rows : List Row) (p : Point) (i : ℕ) (y z : Running) (b : Testbench) (a : Answer) → IsLinked s c x rows p → IsBenchOf x y b → HasTaken c d i y z
    → StandsForBench x.program x.frozen b.callee x.ctx (b.given ++ a ∷ []) z.machine
    → IsLinked s d x rows (with_bench i (bench_behind a z.machine.going.state.used b) (point_behind i z.machine.going.state.used b p))
linked_taken s c d x rows p i y z b a l is t stands = record {
  setting = l.setting;
  pool = l.pool;
  is_design = l.is_design;
  one = l.one;
  held = ap (λ w. held_of w.held) t.bench ∙ l.held;
  design = ap (λ w. w.design) t.bench ∙ l.design;
  grown = subst (λ w. IsGrown x.design w) (sym (ap (λ w. w.design) t.bench)) l.grown;
  reached = subst (λ (w : Simulated). Reaches x.design (events_in rows) (state_of w.held w.rows) w.env) (sym t.sim) l.reached;
  legal = l.legal;
  benches =
      subst (λ ys. AreBenches x ys (slice_set p.benches i (bench_behind a z.machine.going.state.used b))) (sym t.benches)
      (benches_set x c.testbenches.items p.benches i z (bench_behind a z.machine.going.state.used b) l.benches
      (record { stands = stands; used = refl; background = t.background ∙ is.background; stand = t.stand }));
  turn = t.turn;
  now = t.now ∙ l.now;
  left = t.left ∙ ap (λ n. n + c.left.left - z.machine.going.state.used) is.used ∙ ap (λ n. b.used + n - z.machine.going.state.used) l.left;
}

-- ---- what is asked

-- what it asks comes to this
pub comes_asked : (s : Setting) (c : CodePoint) (i : ℕ) (r : Request) (x : Run) (first : Point) (rows : List Row) (k : IsAsking s c i r x first rows) (owed : Serving) (z : Served) → IsSome s.end
    → owed ≡ bench_served (seen s.frozen k.running.machine.going.state.heap) c.bench.design r (held_of c.bench.held) → owed.served ≡ z
    → Comes x rows k.point (asked_done x c.sim.env i (bench_behind k.taken k.running.machine.going.state.used k.bench) r.place z (record (point_behind i k.running.machine.going.state.used k.bench k.point) { held = owed.held }))
comes_asked s c i r x first rows k owed z end is said =
    let state = k.running.machine.going.state in
    let q = point_behind i state.used k.bench k.point in
    let b = bench_behind k.taken state.used k.bench in
    let whole : bench_served (seen x.frozen state.heap) (design_at x q) r q.held ≡ owed =
    sym (ap (λ f. bench_served (seen f state.heap) (design_at x q) r q.held) k.linked.setting.frozen)
    ∙ sym (ap (λ d. bench_served (seen s.frozen state.heap) d r q.held) k.linked.design)
    ∙ sym (ap (λ h. bench_served (seen s.frozen state.heap) c.bench.design r h) k.linked.held)
    ∙ sym is in
    comes_turn x rows c.sim.env k.point i k.bench k.taken (asked_done x c.sim.env i b r.place z (record q { held = owed.held })) (env_now s c x rows _ k.linked) (subst IsSome k.linked.setting.end end) k.ready k.there k.stands
    (sym
    (ap (λ (o : Outcome). gone_on x c.sim.env i k.bench k.taken o k.point) k.asks
    ∙ ap (λ (w : Serving). served x c.sim.env i b r.place w q) whole
    ∙ ap (λ (w : Served). asked_done x c.sim.env i b r.place w (record q { held = owed.held })) said))

-- the point of the code behind what was served: the pool may have grown, and the testbench stands so
pub record HasServed (c d : CodePoint) (i : ℕ) (y : Running) (held : Held) (w : Stand) : Type 0 where
  pub held_is : held_of d.bench.held ≡ held
  pub design : d.bench.design ≡ record c.bench.design { pool = held.pool }
  pub more : IsMore c.bench.design.pool held.pool
  pub sim : d.sim ≡ c.sim
  pub benches : d.testbenches.items ≡ slice_set c.testbenches.items i (record y { stand = w })
  pub turn : d.turn ≡ c.turn
  pub now : d.now ≡ c.now
  pub left : d.left ≡ c.left

grown_more : GrowsOn → (x c d : Circuit) (q : Pooled) → IsGrown x c → IsMore c.pool q → d ≡ record c { pool = q } → IsGrown x d
grown_more grow x c d q g more is =
    let pool : d.pool ≡ q = ap (λ (w : Circuit). w.pool) is in
    grow.twice x c d g (record { more = subst (IsMore c.pool) (sym pool) more; rest = is ∙ ap (λ w. record c { pool = w }) (sym pool) })

pub linked_served : GrowsOn → (s : Setting) (c d : CodePoint) (i : ℕ) (r : Request) (x : Run) (first : Point) (rows : List Row) (k : IsAsking s c i r x first rows) (held : Held) (w : Stand) → HasServed c d i k.running held w
    → IsLinked s d x rows (with_bench i (record (bench_behind k.taken k.running.machine.going.state.used k.bench) { stand = w }) (record (point_behind i k.running.machine.going.state.used k.bench k.point) { held = held }))
linked_served grow s c d i r x first rows k held w t =
    let b = bench_behind k.taken k.running.machine.going.state.used k.bench in
    let found = bench_at x c.testbenches.items (slice_set k.point.benches i b) i k.running k.linked.benches k.now_there in
    let same : found.bench ≡ b = some_is found.bench b (sym found.there ∙ set_there k.point.benches i k.bench b k.there) in
    let is : IsBenchOf x k.running b = subst (IsBenchOf x k.running) same found.is in
    let l = k.linked in
    record {
      setting = l.setting;
      pool = l.pool;
      is_design = l.is_design;
      one = l.one;
      held = t.held_is;
      design = t.design ∙ ap (λ (y : Circuit). record y { pool = held.pool }) l.design;
      grown = grown_more grow x.design c.bench.design d.bench.design held.pool l.grown t.more t.design;
      reached = subst (λ (y : Simulated). Reaches x.design (events_in rows) (state_of y.held y.rows) y.env) (sym t.sim) l.reached;
      legal = l.legal;
      benches =
          subst (λ ys. AreBenches x ys (slice_set k.point.benches i (record b { stand = w }))) (sym t.benches)
          (subst (λ bs. AreBenches x (slice_set c.testbenches.items i (record k.running { stand = w })) bs) (set_twice k.point.benches i b (record b { stand = w }))
          (benches_set x c.testbenches.items (slice_set k.point.benches i b) i (record k.running { stand = w }) (record b { stand = w }) l.benches (with_stand x k.running b w is)));
      turn = t.turn ∙ l.turn;
      now = t.now ∙ l.now;
      left = ap (λ y. y.left) t.left ∙ l.left;
    }
  where
    some_is : {A : Type 0} (a b : A) → Some a ≡ Some b → a ≡ b
    some_is a b e = cc

-- ---- an event

pub events_behind : (s : Setting) (c d : CodePoint) (x : Run) (rows : List Row) (p : Point) (e : Event) → GrowthKeepsMeaning → IsLinked s c x rows p → IsSimOf c.bench.design c.sim
    → ((events : List Event) → Stands c.bench.design events c.sim → Stands c.bench.design (events ++ e ∷ []) d.sim)
    → (r : Row) → r.event ≡ e → Reaches x.design (events_in (rows ++ r ∷ [])) (state_of d.sim.held d.sim.rows) d.sim.env
events_behind s c d x rows p e law l sim lives r is =
    let same = law x.design c.bench.design l.pool l.is_design l.grown in
    let before : Stands c.bench.design (events_in rows) c.sim =
    record { of_design = sim; reaches = reaches_more x.design c.bench.design same (events_in rows) (state_of c.sim.held c.sim.rows) c.sim.env l.reached } in
    let behind = lives (events_in rows) before in
    subst (λ es. Reaches x.design es (state_of d.sim.held d.sim.rows) d.sim.env) (ap (λ f. events_in rows ++ f ∷ []) (sym is) ∙ sym (events_more rows r))
    (reaches_before x.design c.bench.design same (events_in rows ++ e ∷ []) (state_of d.sim.held d.sim.rows) d.sim.env behind.reaches)

pub legal_behind : (s : Setting) (c : CodePoint) (x : Run) (rows : List Row) (p : Point) (e : Event) → GrowthKeepsMeaning → IsLinked s c x rows p → IsLegal c.bench.design e → (r : Row) → r.event ≡ e
    → AllLegal x.design (events_in (rows ++ r ∷ []))
legal_behind s c x rows p e law l legal r is =
    let same = law x.design c.bench.design l.pool l.is_design l.grown in
    let here : IsLegal x.design e = ((same.legal (e ∷ [])).0 (legal, tt)).0 in
    subst (AllLegal x.design) (ap (λ f. events_in rows ++ f ∷ []) (sym is) ∙ sym (events_more rows r)) (legal_more x.design (events_in rows) e l.legal here)

-- the point of the code behind an event
pub record HasHappened (c d : CodePoint) (e : Event) : Type 0 where
  pub is : d ≡ record c { sim = d.sim; left = record { left = c.left.left - 1 } }
  pub lives : (events : List Event) → Stands c.bench.design events c.sim → Stands c.bench.design (events ++ e ∷ []) d.sim

row_is : (c d : CodePoint) (p : Point) (e : Event) → c.now ≡ p.now → HasHappened c d e → record { time = time_of p; event = e } ≡ row_at d e
row_is c d p e now h = ap (λ (n : Option ℕ). record { time = option_map_or (λ t. t) n 0; event = e }) (sym now ∙ sym (ap (λ w. w.now) h.is))

pub linked_behind : GrowthKeepsMeaning → (s : Setting) (c d : CodePoint) (x : Run) (rows : List Row) (p : Point) (e : Event) → IsLinked s c x rows p → IsSimOf c.bench.design c.sim → IsLegal c.bench.design e → HasHappened c d e
    → IsLinked s d x (rows ++ row_at d e ∷ []) (record p { left = p.left - 1 })
linked_behind law s c d x rows p e l sim legal h =
    let bench : d.bench ≡ c.bench = ap (λ w. w.bench) h.is in
    record {
      setting = l.setting;
      pool = l.pool;
      is_design = l.is_design;
      one = l.one;
      held = ap (λ w. held_of w.held) bench ∙ l.held;
      design = ap (λ w. w.design) bench ∙ l.design;
      grown = subst (λ w. IsGrown x.design w) (sym (ap (λ w. w.design) bench)) l.grown;
      reached = events_behind s c d x rows p e law l sim h.lives (row_at d e) refl;
      legal = legal_behind s c x rows p e law l legal (row_at d e) refl;
      benches = subst (λ ys. AreBenches x ys p.benches) (sym (ap (λ w. w.testbenches.items) h.is)) l.benches;
      turn = ap (λ w. w.turn) h.is ∙ l.turn;
      now = ap (λ w. w.now) h.is ∙ l.now;
      left = ap (λ w. w.left.left) h.is ∙ ap (λ n. n - 1) l.left;
    }

-- what an event within the budget comes to, where it came from this point
pub happens_owed : GrowthKeepsMeaning → (s : Setting) (c d : CodePoint) (x : Run) (first : Point) (rows : List Row) (from p : Point) (place : Place) (e : Event) (z : Step) → Follows x first rows from → Comes x rows from (happens place e p)
    → IsLinked s c x rows p → IsSimOf c.bench.design c.sim → IsLegal c.bench.design e → z ≡ happened c.left.left place e → IsBehind z e c d → Owed (Ok z) s d x first rows
happens_owed law s c d x first rows from p place e z follows comes l sim legal is behind = by_test (nat_lt 1 c.left.left) refl
  where
    by_test : (b : Bool) → nat_lt 1 c.left.left ≡ b → Owed (Ok z) s d x first rows
    by_test true lt =
        let happens_is : z ≡ step.Happens e = is ∙ ap (λ k. if k then step.Happens e else step.Stops (spent_at place)) lt in
        let h = subst (λ w. IsBehind w e c d) happens_is behind in
        let hh : HasHappened c d e = record { is = h.0; lives = h.2 } in
        let q = record p { left = p.left - 1 } in
        let next : happens place e p ≡ Happens (row_at d e) q =
        ap (λ k. if k then Happens (record { time = time_of p; event = e }) q else Ends (StopsAt (spent_at place))) (ap (nat_lt 1) (sym l.left) ∙ lt)
        ∙ ap (λ r. Happens r q) (row_is c d p e l.now hh) in
        subst (λ w. Owed (Ok w) s d x first rows) (sym happens_is)
        (record { point = q; follows = takes rows from q (row_at d e) follows (subst (Comes x rows from) next comes); linked = linked_behind law s c d x rows p e l sim legal hh })
    by_test false lt =
        let stops_is : z ≡ step.Stops (spent_at place) = is ∙ ap (λ k. if k then step.Happens e else step.Stops (spent_at place)) lt in
        let next : happens place e p ≡ Ends (StopsAt (spent_at place)) =
        ap (λ k. if k then Happens (record { time = time_of p; event = e }) (record p { left = p.left - 1 }) else Ends (StopsAt (spent_at place))) (ap (nat_lt 1) (sym l.left) ∙ lt) in
        subst (λ w. Owed (Ok w) s d x first rows) (sym stops_is) (record { last = from; follows = follows; ends = subst (Comes x rows from) next comes })

-- ---- a stop

-- an outcome that stops ends the run
pub gone_stopped : (x : Run) (env : List ℤ) (i : ℕ) (b : Testbench) (a : Answer) (o : Outcome) (p : Point) (stop : Stop) (used : ℕ) → stops_as o ≡ Some (stop, used) → gone_on x env i b a o p ≡ Ends (StopsAt stop)
gone_stopped x env i b a (Done got s) p stop used is = absurd ((cc))
gone_stopped x env i b a (Halts (halt.Asks r) s) p stop used is = absurd ((cc))
gone_stopped x env i b a (Halts (halt.Stopped z) s) p stop used is = ap Runs.ends_with is
gone_stopped x env i b a (Halts halt.NoMemory s) p stop used is = absurd ((cc))

pub stopped : (x : Run) (first : Point) (rows : List Row) (p : Point) (i : ℕ) (b : Testbench) (a : Answer) (env : List ℤ) → HasEnv x.design (events_in rows) env → IsSome x.end → Follows x first rows p
    → next_ready p.turn (stands_of p.benches) ≡ Some i → slice_get p.benches i ≡ Some b → b.stand ≡ stand.Ready a → (stop : Stop) (used : ℕ)
    → stops_as (outcome_of x b a p.left) ≡ Some (stop, used) → IsRun x first rows (StopsAt stop)
stopped x first rows p i b a env has end follows ready there stands stop used is =
    record { last = p; follows = follows; ends = comes_turn x rows env p i b a (Ends (StopsAt stop)) has end ready there stands (sym (gone_stopped x env i b a (outcome_of x b a p.left) p stop used is)) }

-- ---- a refusal

-- a testbench that is refused stands so at the next point
pub refused_next : (s : Setting) (c d : CodePoint) (i : ℕ) (r : Request) (why : Cause) (x : Run) (first : Point) (rows : List Row) (k : IsAsking s c i r x first rows) (owed : Serving) → IsSome s.end
    → owed ≡ bench_served (seen s.frozen k.running.machine.going.state.heap) c.bench.design r (held_of c.bench.held) → owed.served ≡ asked.Answer (answer.Refuse why)
    → d.testbenches ≡ c.testbenches → d.sim ≡ c.sim → d.left ≡ c.left → IsRefused s d i why x first rows
refused_next s c d i r why x first rows k owed end is said benches sim left =
    let used = k.running.machine.going.state.used in
    let b = record (bench_behind k.taken used k.bench) { stand = stand.Ready (answer.Refuse why) } in
    let q = record (point_behind i used k.bench k.point) { held = owed.held } in
    let p = with_bench i b q in
    let comes = comes_asked s c i r x first rows k owed (asked.Answer (answer.Refuse why)) end is said in
    let there : slice_get (slice_set k.point.benches i b) i ≡ Some b = set_there k.point.benches i k.bench b k.there in
    let found = bench_at x c.testbenches.items (slice_set k.point.benches i (bench_behind k.taken used k.bench)) i k.running k.linked.benches k.now_there in
    let same : found.bench ≡ bench_behind k.taken used k.bench = some_same found.bench (bench_behind k.taken used k.bench) (sym found.there ∙ set_there k.point.benches i k.bench (bench_behind k.taken used k.bench) k.there) in
    let running : IsBenchOf x k.running (bench_behind k.taken used k.bench) = subst (IsBenchOf x k.running) same found.is in
    record {
      point = p;
      follows = moves rows k.point p k.follows comes;
      setting = k.linked.setting;
      ready = ready_here (stands_of (slice_set k.point.benches i b)) i b.stand (stand_there (slice_set k.point.benches i b) i b there) refl;
      bench = b;
      there = there;
      stands = refl;
      running = k.running;
      now_there = ap (λ w. slice_get w.items i) benches ∙ k.now_there;
      is_bench = running.stands;
      used = running.used;
      has = subst (λ (w : Simulated). HasEnv x.design (events_in rows) w.env) (sym sim) (env_now s c x rows _ k.linked);
      left = ap (λ w. w.left) left ∙ k.linked.left;
      end = subst IsSome k.linked.setting.end end;
    }
  where
    some_same : {A : Type 0} (a b : A) → Some a ≡ Some b → a ≡ b
    some_same a b e = cc

-- and then it stops
pub refused_stops : (s : Setting) (c : CodePoint) (i : ℕ) (why : Cause) (x : Run) (first : Point) (rows : List Row) (k : IsRefused s c i why x first rows) (stop : Stop) (used : ℕ)
    → stops_as (outcome_of x k.bench (answer.Refuse why) k.point.left) ≡ Some (stop, used) → IsRun x first rows (StopsAt stop)
refused_stops s c i why x first rows k stop used is =
    stopped x first rows k.point i k.bench (answer.Refuse why) c.sim.env k.has k.end k.follows k.ready k.there k.stands stop used is
