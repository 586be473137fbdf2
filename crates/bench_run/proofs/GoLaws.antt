-- A testbench takes its answer: the run stays safe, and comes closer to its next row.
use Rattle.std.proofs.Common.{◌≡◌, refl, sym, ◌∙◌, ap, subst, length, Some, None, ℕ, zero, suc, ◌+◌, ◌-◌, ◌*◌, ◌<◌, List, [], ◌∷◌, Option, arith, true, false}
use Rattle.std.specs.Prelude.{◌^◌, slice_get, slice_set, IsTrue, IsSome, IfSome, Result, Ok, Err}
use Rattle.std.specs.List.{AllByRecursion}
use Rattle.lists.specs.declared.items.NoMemory.{NoMemory}
use Rattle.delta_sim.specs.Standing.{Simulated, IsSimOf, Tells}
use Rattle.calendar.specs.Due.{AreWithin}
use Rattle.calendar.specs.Moments.{IsNext}
use Rattle.elab_store.specs.declared.simulation.RunEnd.{RunEnd}
use Rattle.py_frames.specs.declared.request.Answer.{Answer}
use Rattle.py_frames.specs.declared.request.Answer.TheVariants as answer
use Rattle.py_frames.specs.declared.request.Cause.{Cause}
use Rattle.py_frames.specs.declared.request.Request.{Request}
use Rattle.py_frames.specs.declared.request.Stop.{Stop}
use Rattle.py_frames.specs.declared.request.Turn.{Turn}
use Rattle.py_frames.specs.declared.request.Turn.TheVariants as turn
use Rattle.py_values.specs.declared.val.Val.{Val}
use Rattle.py_tree.specs.Programs.{program_of}
use Rattle.py_machine.specs.declared.machine.Machine.{Machine}
use Rattle.py_machine.specs.Lives.{BenchResumed, IsOf, again}
use Rattle.bench_acts.specs.declared.serving.Bench.{Bench}
use Rattle.bench_acts.specs.Held.{IsBench}
use Rattle.play_text.specs.Trace.{Row}
use Rattle.bench_run.specs.declared.point.Point.{Point as CodePoint}
use Rattle.bench_run.specs.declared.setting.Setting.{Setting}
use Rattle.bench_run.specs.declared.testbench.Running.{Running}
use Rattle.bench_run.specs.declared.testbench.Stand.{Stand}
use Rattle.bench_run.specs.declared.testbench.Stand.TheVariants as stand
use Rattle.bench_run.specs.declared.turns.Step.{Step}
use Rattle.bench_run.specs.declared.turns.Step.TheVariants as step
use Rattle.bench_run.specs.Runs
use Rattle.bench_run.specs.Runs.{Run, Point, Over, StopsAt, IsRun, IsToggle, is_ready, stands_of, has_ended, moment_of, next_ready}
use Rattle.bench_run.specs.Standing.{IsLive, IsBelow, IsSafe, IsAt, IsAsking, IsRefused, IsWaiting, IsCloser, IfGoes, StepMoves, TakesAnswer, answers_left, all_left, round_left, stands_in}
use Rattle.bench_run.proofs.BenchLists.{set_there, ready_at}
use Rattle.bench_run.proofs.LinkLaws.{env_now}
use Rattle.bench_run.proofs.TurnLaws.{Took, asking_owed, ended_owed, refused_asks, refused_ends, refused_owed, stopped_owed, waits_none}
use Rattle.bench_run.proofs.SafeLaws.{all_set, all_get, live_asks, live_ended, units_asks, units_ended, fewer_asks, fewer_ended, waits_asks, all_left-set, live_stand, round_few}

-- ---- the one that is ready

pub record ReadyIn (ys : List Running) (i : ℕ) : Type 0 where
  pub running : Running
  pub there : slice_get ys i ≡ Some running
  pub ready : IsTrue (is_ready running.stand)

-- ---- the point behind an answer

-- the code's point where testbench `i` took its answer
pub record HasTurned (c d : CodePoint) (i : ℕ) (z : Running) : Type 0 where
  pub bench : d.bench ≡ c.bench
  pub sim : d.sim ≡ c.sim
  pub benches : d.testbenches.items ≡ slice_set c.testbenches.items i z
  pub turn : d.turn ≡ i
  pub now : d.now ≡ c.now

pub record Turns (s : Setting) (c d : CodePoint) (i : ℕ) (y z : Running) (t : Turn) : Type 0 where
  pub safe : IsSafe s c
  pub ready : next_ready c.turn (stands_in c.testbenches.items) ≡ Some i
  pub there : slice_get c.testbenches.items i ≡ Some y
  pub took : TakesAnswer s y z c.left.left d.left.left t
  pub is : HasTurned c d i z

module _ (s : Setting) (c d : CodePoint) (i : ℕ) (y z : Running) where
  taken : (t : Turn) (k : Turns s c d i y z t) → Took s c d i y z k.took.taken t
  taken t k = record {
    ready = k.ready;
    there = k.there;
    stands = (k.took).stands;
    waits = (k.took).waits;
    resumed = (k.took).resumed;
    taken = record { bench = (k.is).bench; sim = (k.is).sim; benches = (k.is).benches; background = (k.took).background; stand = (k.took).ended; turn = (k.is).turn; now = (k.is).now; left = (k.took).left };
  }

  live_before : (t : Turn) → Turns s c d i y z t → IsLive s y
  live_before t k = all_get (IsLive s) c.testbenches.items i y (k.safe).live k.there

  -- it stays safe where the testbench lives on, and units are left
  safe_turned : (t : Turn) → Turns s c d i y z t → IsLive s z → z.machine.going.state.used < y.machine.going.state.used + c.left.left → IsSafe s d
  safe_turned t k live units = record {
    bench = subst IsBench (sym (k.is).bench) (k.safe).bench;
    sim = subst (λ (b : Bench). IsSimOf b.design d.sim) (sym (k.is).bench) (subst (λ (w : Simulated). IsSimOf c.bench.design w) (sym (k.is).sim) (k.safe).sim);
    live = subst (AllByRecursion (IsLive s)) (sym (k.is).benches) (all_set (IsLive s) c.testbenches.items i z (k.safe).live live);
    below =
        subst (AllByRecursion IsBelow) (sym (k.is).benches)
        (all_set IsBelow c.testbenches.items i z (k.safe).below (subst (λ (w : Stand). IfSome (moment_of w) (λ n. n < 2 ^ 63)) (sym (k.took).ended) tt));
    clocks = (k.safe).clocks;
    within = subst (λ (b : Bench). AreWithin (length b.design.domains) s.clocks.items) (sym (k.is).bench) (k.safe).within;
    now = subst (λ (o : Option ℕ). IfSome o (λ n. n < 2 ^ 63)) (sym (k.is).now) (k.safe).now;
    units = omega (arith, (k.took).left, units);
  }

  pub asks_safe : (r : Request) → Turns s c d i y z (turn.Asks r) → IsSafe s d
  asks_safe r k =
      let live = live_before (turn.Asks r) k in
      safe_turned (turn.Asks r) k (live_asks s y z (k.took).taken r c.left.left live (k.took).waits (k.took).of (k.took).ended (k.took).resumed)
      (units_asks s y z (k.took).taken r c.left.left live (k.took).waits (k.took).resumed)

  pub ended_safe : (v : Val) → Turns s c d i y z (turn.Ended v) → IsSafe s d
  ended_safe v k =
      let live = live_before (turn.Ended v) k in
      safe_turned (turn.Ended v) k (live_ended s y z (k.took).taken v c.left.left live (k.took).waits (k.took).of (k.took).ended (k.took).resumed)
      (units_ended s y z (k.took).taken v c.left.left live (k.took).waits (k.took).resumed)

  pub asks_waiting : (r : Request) → Turns s c d i y z (turn.Asks r) → IfSome (slice_get d.testbenches.items i) IsWaiting
  asks_waiting r k =
      let there : slice_get d.testbenches.items i ≡ Some z = ap (λ ys. slice_get ys i) (k.is).benches ∙ set_there c.testbenches.items i y z k.there in
      subst (λ o. IfSome o IsWaiting) (sym there) (waits_asks s y z (k.took).taken r c.left.left (live_before (turn.Asks r) k) (k.took).waits (k.took).resumed)

  -- ---- fewer answers are left

  fewer_left : answers_left z < answers_left y → slice_get c.testbenches.items i ≡ Some y → d.testbenches.items ≡ slice_set c.testbenches.items i z → all_left d.testbenches.items < all_left c.testbenches.items
  fewer_left less there benches =
      let sum = all_left-set c.testbenches.items i y z there in
      let same = ap all_left benches in
      omega (arith, sum, same, less)

  asks_fewer : (r : Request) → Turns s c d i y z (turn.Asks r) → all_left d.testbenches.items < all_left c.testbenches.items
  asks_fewer r k =
      fewer_left (fewer_asks s y z (k.took).taken r c.left.left (live_before (turn.Asks r) k) (k.took).waits (k.took).few_behind (k.took).resumed) k.there (k.is).benches

  ended_fewer : (v : Val) → Turns s c d i y z (turn.Ended v) → all_left d.testbenches.items < all_left c.testbenches.items
  ended_fewer v k =
      fewer_left (fewer_ended s y z (k.took).taken v c.left.left (live_before (turn.Ended v) k) (k.took).waits (k.took).few (k.took).resumed) k.there (k.is).benches

  -- ---- what it then comes to

  pub asks_owed : (r : Request) → Turns s c d i y z (turn.Asks r) → (x : Run) (first : Point) (rows : List Row) → IsAt s c x first rows → IsAsking s d i r x first rows
  asks_owed r k = asking_owed s c d i y z (k.took).taken r (taken (turn.Asks r) k)

  pub ends_owed : (v : Val) → IsSome s.end → Turns s c d i y z (turn.Ended v) → (x : Run) (first : Point) (rows : List Row) → IsAt s c x first rows → IsAt s d x first rows
  ends_owed v end k = ended_owed s c d i y z (k.took).taken v end (taken (turn.Ended v) k)

  pub stops_owed : (stop : Stop) → IsSome s.end → Turns s c d i y z (turn.Stopped stop) → (x : Run) (first : Point) (rows : List Row) → IsAt s c x first rows → IsRun x first rows (StopsAt stop)
  stops_owed stop end k = stopped_owed s c d i y z (k.took).taken stop end (taken (turn.Stopped stop) k)

  closer_by : (e : CodePoint) → all_left d.testbenches.items < all_left c.testbenches.items → all_left e.testbenches.items ≡ all_left d.testbenches.items
      → 2 * all_left e.testbenches.items + round_left (next_ready e.turn (stands_in e.testbenches.items)) < 2 * all_left c.testbenches.items + round_left (next_ready c.turn (stands_in c.testbenches.items))
  closer_by e less same =
      let few = round_few (next_ready e.turn (stands_in e.testbenches.items)) in
      omega (arith, less, same, few)

  -- behind what it asks too
  pub asks_closer : (r : Request) (e : CodePoint) (result : Result Step NoMemory) → Turns s c d i y z (turn.Asks r) → IfGoes result (all_left e.testbenches.items ≡ all_left d.testbenches.items) → IsCloser result c e
  asks_closer r e (Ok step.Goes) k same = closer_by e (asks_fewer r k) same
  asks_closer r e (Ok (step.Happens event)) k same = tt
  asks_closer r e (Ok step.Ends) k same = tt
  asks_closer r e (Ok (step.Stops stop)) k same = tt
  asks_closer r e (Err x) k same = tt

  pub ended_closer : (v : Val) → Turns s c d i y z (turn.Ended v) → IsCloser (Ok step.Goes) c d
  ended_closer v k = closer_by d (ended_fewer v k) refl

-- the simulator was the same before
pub moves_same : (c d e : CodePoint) (result : Result Step NoMemory) → d.sim ≡ c.sim → StepMoves result d e → StepMoves result c e
moves_same c d e (Ok step.Goes) same moves = moves ∙ same
moves_same c d e (Ok (step.Happens event)) same moves = subst (λ (w : Simulated). Tells e.bench.design w e.sim) same moves
moves_same c d e (Ok step.Ends) same moves = tt
moves_same c d e (Ok (step.Stops stop)) same moves = tt
moves_same c d e (Err x) same moves = tt

-- ---- the one that is ready

pub ready_in : (turn i : ℕ) (ys : List Running) → next_ready turn (stands_in ys) ≡ Some i → ReadyIn ys i
ready_in turn i ys is =
    let r = ready_at turn (stands_in ys) i is in
    there ys i r.found r.there r.ready
  where
    some_is : (a b : Stand) → Some a ≡ Some b → a ≡ b
    some_is a b e = cc

    there : (ys : List Running) (k : ℕ) (found : Stand) → slice_get (stands_in ys) k ≡ Some found → is_ready found ≡ true → ReadyIn ys k
    there [] k found e ready = absurd ((cc))
    there (y ∷ ys) zero found e ready = record { running = y; there = refl; ready = ap is_ready (some_is y.stand found e) ∙ ready }
    there (y ∷ ys) (suc k) found e ready = let r = there ys k found e ready in record { running = r.running; there = r.there; ready = r.ready }

-- its machine waits, so it may take the answer
pub live_waits : (s : Setting) (y : Running) → IsLive s y → IsTrue (is_ready y.stand) → again y.machine.stage ≡ None
live_waits s y live ready = live.waits (lasts y.stand ready)
  where
    lasts : (w : Stand) → IsTrue (is_ready w) → has_ended w ≡ false
    lasts (stand.Ready a) h = refl
    lasts (stand.Ticks k n) h = refl
    lasts (stand.Until t) h = refl
    lasts stand.Ended h = absurd (apart h)
      where
        apart : false ≡ true → ⊥
        apart e = cc

-- it has taken the answer that the machine was given
pub takes : (s : Setting) (y m : Running) (n : Machine) (a : Answer) (before behind : ℕ) (t : Turn) → IsLive s y → IsTrue (is_ready y.stand) → y.stand ≡ stand.Ready a → m ≡ record y { stand = stand.Ended }
    → BenchResumed (again m.machine.stage) (program_of s.program) s.frozen a t m.machine n before → IsOf (program_of s.program) n → behind ≡ m.machine.going.state.used + before - n.going.state.used
    → m.machine.going.state.taken < 2 ^ 64 → n.going.state.taken < 2 ^ 64 → TakesAnswer s y (record m { machine = n }) before behind t
takes s y m n a before behind t live ready stands rest resumed of left few few_behind =
    let same : m.machine ≡ y.machine = ap (λ (w : Running). w.machine) rest in
    record {
      taken = a;
      stands = stands;
      waits = live_waits s y live ready;
      resumed = subst (λ (w : Machine). BenchResumed (again w.stage) (program_of s.program) s.frozen a t w n before) same resumed;
      of = of;
      background = ap (λ (w : Running). w.background) rest;
      ended = ap (λ (w : Running). w.stand) rest;
      left = left ∙ ap (λ (w : Machine). w.going.state.used + before - n.going.state.used) same;
      few = subst (λ (w : Machine). w.going.state.taken < 2 ^ 64) same few;
      few_behind = few_behind;
    }

-- ---- a refusal

-- one that waits is refused: nothing is asked, and it does not end
pub record IsRefusing (s : Setting) (y z : Running) (before behind : ℕ) (t : Turn) : Type 0 where
  pub live : IsLive s y
  pub waiting : IsWaiting y
  pub units : 0 < before
  pub why : Cause
  pub stands : y.stand ≡ stand.Ready (answer.Refuse why)
  pub took : TakesAnswer s y z before behind t

taken_is : (s : Setting) (y z : Running) (before behind : ℕ) (t : Turn) (k : IsRefusing s y z before behind t) → BenchResumed (again y.machine.stage) (program_of s.program) s.frozen (answer.Refuse k.why) t y.machine z.machine before
taken_is s y z before behind t k =
    subst (λ (a : Answer). BenchResumed (again y.machine.stage) (program_of s.program) s.frozen a t y.machine z.machine before) (ready_is (k.took).taken (answer.Refuse k.why) (sym (k.took).stands ∙ k.stands)) (k.took).resumed
  where
    ready_is : (a b : Answer) → stand.Ready a ≡ stand.Ready b → a ≡ b
    ready_is a b e = cc

pub refusing_asks : (s : Setting) (y z : Running) (before behind : ℕ) (r : Request) → IsRefusing s y z before behind (turn.Asks r) → ⊥
refusing_asks s y z before behind r k =
    refused_asks (k.live).callee (k.live).ctx (program_of s.program) s.frozen (k.live).given k.why r y.machine z.machine before k.waiting k.units (k.live).stands (taken_is s y z before behind (turn.Asks r) k)

pub refusing_ends : (s : Setting) (y z : Running) (before behind : ℕ) (v : Val) → IsRefusing s y z before behind (turn.Ended v) → ⊥
refusing_ends s y z before behind v k =
    refused_ends (k.live).callee (k.live).ctx (program_of s.program) s.frozen (k.live).given k.why v y.machine z.machine before k.waiting k.units (k.live).stands (taken_is s y z before behind (turn.Ended v) k)

pub refusing_stops : (s : Setting) (c : CodePoint) (i : ℕ) (w : Running) (why : Cause) (z : Running) (behind : ℕ) (stop : Stop) (k : IsRefusing s (record w { stand = stand.Ready (answer.Refuse why) }) z c.left.left behind (turn.Stopped stop))
    → slice_get c.testbenches.items i ≡ Some w → (x : Run) (first : Point) (rows : List Row) → IsRefused s c i why x first rows → IsRun x first rows (StopsAt stop)
refusing_stops s c i w why z behind stop k there =
    let y = record w { stand = stand.Ready (answer.Refuse why) } in
    let same : k.why ≡ why = why_is k.why why (sym k.stands) in
    let resumed = subst (λ (v : Cause). BenchResumed (again y.machine.stage) (program_of s.program) s.frozen (answer.Refuse v) (turn.Stopped stop) y.machine z.machine c.left.left) same (taken_is s y z c.left.left behind (turn.Stopped stop) k) in
    refused_owed s c i why w z stop there k.waiting resumed
  where
    why_is : (a b : Cause) → stand.Ready (answer.Refuse a) ≡ stand.Ready (answer.Refuse b) → a ≡ b
    why_is a b e = cc

pub ready_of : (turn i : ℕ) (ys : List Running) (y : Running) → next_ready turn (stands_in ys) ≡ Some i → slice_get ys i ≡ Some y → IsTrue (is_ready y.stand)
ready_of turn i ys y is there =
    let r = ready_in turn i ys is in
    subst (λ (w : Running). IsTrue (is_ready w.stand)) (some_is r.running y (sym r.there ∙ there)) r.ready
  where
    some_is : (a b : Running) → Some a ≡ Some b → a ≡ b
    some_is a b e = cc

pub within : {A : Type 0} (xs : List A) (i : ℕ) (x : A) → slice_get xs i ≡ Some x → i < length xs
within [] i x e = absurd ((cc))
within (y ∷ xs) zero x e = omega arith
within (y ∷ xs) (suc i) x e = let r = within xs i x e in omega (arith, r)

pub within_set : (ys : List Running) (i : ℕ) (y z : Running) → slice_get ys i ≡ Some y → i < length (slice_set ys i z)
within_set ys i y z there = within (slice_set ys i z) i z (set_there ys i y z there)

-- what was put there stands there
pub put_is : (ys : List Running) (i : ℕ) (y z w : Running) → slice_get ys i ≡ Some y → slice_get (slice_set ys i z) i ≡ Some w → w ≡ z
put_is ys i y z w there is = some_is w z (sym is ∙ set_there ys i y z there)
  where
    some_is : (a b : Running) → Some a ≡ Some b → a ≡ b
    some_is a b e = cc

pub live_refused : (s : Setting) (ys : List Running) (i : ℕ) (y : Running) (why : Cause) → AllByRecursion (IsLive s) ys → slice_get ys i ≡ Some y → IfSome (slice_get ys i) IsWaiting → IsLive s (record y { stand = stand.Ready (answer.Refuse why) })
live_refused s ys i y why live there waits =
    live_stand s y (stand.Ready (answer.Refuse why)) (all_get (IsLive s) ys i y live there) (waits_none y (subst (λ o. IfSome o IsWaiting) there waits))

-- one that is refused, as the code has it
pub refusing : (s : Setting) (ys : List Running) (i : ℕ) (y w z : Running) (why : Cause) (before behind : ℕ) (t : Turn) → AllByRecursion (IsLive s) ys → slice_get ys i ≡ Some y → IfSome (slice_get ys i) IsWaiting → 0 < before
    → w ≡ record y { stand = stand.Ready (answer.Refuse why) } → TakesAnswer s w z before behind t → IsRefusing s (record y { stand = stand.Ready (answer.Refuse why) }) z before behind t
refusing s ys i y w z why before behind t live there waits units same took = record {
  live = live_refused s ys i y why live there waits;
  waiting = subst (λ o. IfSome o IsWaiting) there waits;
  units = units;
  why = why;
  stands = refl;
  took = subst (λ (v : Running). TakesAnswer s v z before behind t) same took;
}

-- ---- no run call

-- without a run call nothing comes
pub no_run : (s : Setting) (c : CodePoint) (toggle : Option ℕ) → s.end ≡ None → IsNext s.clocks.items c.now toggle → (x : Run) (first : Point) (rows : List Row) → IsAt s c x first rows → IsRun x first rows Over
no_run s c toggle none next x first rows at =
    let p = at.point in
    let l = at.linked in
    let end : x.end ≡ None = sym l.setting.end ∙ none in
    let is_next : IsNext x.clocks p.now toggle = subst (λ cs. IsNext cs p.now toggle) l.setting.clocks (subst (λ n. IsNext s.clocks.items n toggle) l.now next) in
    record {
      last = p;
      follows = at.follows;
      ends = record {
        env = c.sim.env;
        has = env_now s c x rows p l;
        toggle = toggle;
        is_next = by_ready p (next_ready p.turn (stands_of p.benches)) is_next;
        is = sym (ap (λ (z : Option RunEnd). Runs.ended_by x c.sim.env toggle p z) end);
      };
    }
  where
    by_ready : (p : Point) (o : Option ℕ) → IsNext x.clocks p.now toggle → IsToggle x p toggle o
    by_ready p None h = h
    by_ready p (Some i) h = tt
