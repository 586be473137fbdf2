-- What a testbench comes to by an answer, and what a run then comes to.
use Rattle.std.proofs.Common.{◌≡◌, refl, sym, ◌∙◌, ap, subst, length, Some, None, ℕ, ◌+◌, ◌<◌, List, [], ◌∷◌, ◌++◌, Option, arith}
use Rattle.std.proofs.Common.{length-append}
use Rattle.std.specs.Prelude.{slice_get, IsSome}
use Rattle.py_tree.specs.Steps.{Steps}
use Rattle.py_tree.specs.Programs.{program_of}
use Rattle.py_heap.specs.Heaps.{Made}
use Rattle.py_values.specs.declared.val.Val.{Val}
use Rattle.py_values.specs.declared.val.Hw.{Hw}
use Rattle.py_frames.specs.declared.going.Going.{Going}
use Rattle.py_frames.specs.declared.request.Answer.{Answer}
use Rattle.py_frames.specs.declared.request.Answer.TheVariants as answer
use Rattle.py_frames.specs.declared.request.Cause.{Cause}
use Rattle.py_frames.specs.declared.request.Request.{Request}
use Rattle.py_frames.specs.declared.request.Stop.{Stop}
use Rattle.py_frames.specs.declared.request.Turn.{Turn}
use Rattle.py_frames.specs.declared.request.Turn.TheVariants as turn
use Rattle.py_frames.specs.declared.state.Got.{Got}
use Rattle.py_frames.specs.declared.state.Halt.TheVariants as halt
use Rattle.py_frames.specs.Doing.{Done, Halts}
use Rattle.py_frames.specs.Frames.{stops_as}
use Rattle.py_frames.proofs.BeginLaws.{finish-halts}
use Rattle.py_machine.specs.declared.machine.Machine.{Machine}
use Rattle.py_machine.specs.declared.machine.Stage.{Stage}
use Rattle.py_machine.specs.declared.machine.Stage.TheVariants as stage
use Rattle.py_machine.specs.Lives.{StandsForBench, StandsFrom, BenchResumed, ResumedFrom, BringsFrom, IsAskedFrom, again, life, next_taken}
use Rattle.py_machine.specs.Starts.{ask_bench, bench_call, file_body}
use Rattle.py_frames.specs.declared.state.State.{State}
use Rattle.play_text.specs.Trace.{Row}
use Rattle.bench_run.specs.declared.point.Point.{Point as CodePoint}
use Rattle.bench_run.specs.declared.setting.Setting.{Setting}
use Rattle.bench_run.specs.declared.testbench.Running.{Running}
use Rattle.bench_run.specs.declared.testbench.Stand.TheVariants as stand
use Rattle.bench_run.specs.Runs.{Testbench, Run, Point, Goes, StopsAt, moves, IsRun, outcome_of, with_bench, bench_behind, point_behind, gone_on, next_ready, stands_of}
use Rattle.bench_run.specs.Standing.{IsSettingOf, IsBenchOf, IsLinked, IsAt, IsAsking, IsRefused, IsWaiting, IsWaitingAt, stands_in}
use Rattle.bench_run.proofs.BenchLists.{bench_at, stands_same, set_there}
use Rattle.bench_run.proofs.LinkLaws.{HasTaken, linked_taken, env_now, comes_turn, stopped, refused_stops}

-- ---- machines

-- one that waits goes on by what is said of each answer
resumed : (o : Option Turn) (callee : Val) (ctx : Hw) (program : Steps) (frozen : Made) (given : List Answer) (a : Answer) (t : Turn) (m n : Machine) (left : ℕ) → o ≡ None → ResumedFrom (bench_call callee ctx) o program frozen a t m n left
    → StandsForBench program frozen callee ctx given m → BringsFrom (bench_call callee ctx) program frozen given a t n.going n.stage (m.going.state.used + left)
resumed None callee ctx program frozen given a t m n left is h stands = h given stands
resumed (Some over) callee ctx program frozen given a t m n left is h stands = absurd ((cc))

pub brings : (callee : Val) (ctx : Hw) (program : Steps) (frozen : Made) (given : List Answer) (a : Answer) (t : Turn) (m n : Machine) (left : ℕ) → again m.stage ≡ None → BenchResumed (again m.stage) program frozen a t m n left
    → StandsForBench program frozen callee ctx given m → BringsFrom (bench_call callee ctx) program frozen given a t n.going n.stage (m.going.state.used + left)
brings callee ctx program frozen given a t m n left waits h stands = resumed (again m.stage) callee ctx program frozen given a t m n left waits (h callee ctx) stands

no_answers : {A : Type 0} (xs : List A) (x : A) → xs ++ x ∷ [] ≡ [] → ⊥
no_answers [] x e = cc
no_answers (y ∷ xs) x e = cc

-- behind an answer a machine that is not over has asked
waits_at : (callee : Val) (ctx : Hw) (program : Steps) (frozen : Made) (given : List Answer) (a : Answer) (g : Going) (st : Stage) → StandsFrom (bench_call callee ctx) program frozen (given ++ a ∷ []) g st → again st ≡ None → IsWaitingAt st
waits_at callee ctx program frozen given a g stage.Before stands waits = absurd (no_answers given a stands.0)
waits_at callee ctx program frozen given a g (stage.BeforeBench c x) stands waits = absurd (no_answers given a stands.0)
waits_at callee ctx program frozen given a g (stage.Waiting act place n) stands waits = tt
waits_at callee ctx program frozen given a g (stage.Ended v) stands waits = absurd ((cc))
waits_at callee ctx program frozen given a g (stage.Stopped stop) stands waits = absurd ((cc))
waits_at callee ctx program frozen given a g stage.NoMemory stands waits = absurd ((cc))

pub asked_waits : (callee : Val) (ctx : Hw) (program : Steps) (frozen : Made) (given : List Answer) (a : Answer) (r : Request) (g : Going) (st : Stage) (budget : ℕ) → IsAskedFrom (bench_call callee ctx) program frozen given a r g st budget → IsWaitingAt st
asked_waits callee ctx program frozen given a r g st budget h = waits_at callee ctx program frozen given a g st h.stands h.waits

-- as many answers were taken as were given
taken_is : (callee : Val) (ctx : Hw) (program : Steps) (frozen : Made) (given : List Answer) (g : Going) (st : Stage) → StandsFrom (bench_call callee ctx) program frozen given g st → again st ≡ None → g.state.taken ≡ length given
taken_is callee ctx program frozen given g stage.Before stands waits = absurd (not_file callee ctx stands.4)
  where
    not_file : (callee : Val) (ctx : Hw) → bench_call callee ctx ≡ file_body → ⊥
    not_file callee ctx e = cc
taken_is callee ctx program frozen given g (stage.BeforeBench c x) stands waits = ap (λ s. s.taken) stands.2 ∙ sym (ap length stands.0)
taken_is callee ctx program frozen given g (stage.Waiting act place n) stands waits = stands.0
taken_is callee ctx program frozen given g (stage.Ended v) stands waits = absurd ((cc))
taken_is callee ctx program frozen given g (stage.Stopped stop) stands waits = absurd ((cc))
taken_is callee ctx program frozen given g stage.NoMemory stands waits = absurd ((cc))

pub one_taken : (callee : Val) (ctx : Hw) (program : Steps) (frozen : Made) (given : List Answer) (a : Answer) (r : Request) (m n : Machine) (budget : ℕ) → again m.stage ≡ None → StandsForBench program frozen callee ctx given m
    → IsAskedFrom (bench_call callee ctx) program frozen given a r n.going n.stage budget → n.going.state.taken ≡ m.going.state.taken + 1
one_taken callee ctx program frozen given a r m n budget waits stands h =
    let before = taken_is callee ctx program frozen given m.going m.stage stands waits in
    h.taken ∙ length-append given (a ∷ []) ∙ ap (λ n. n + 1) (sym before)

-- ---- a refusal stops

refusal_halts : (callee : Val) (ctx : Hw) (program : Steps) (frozen : Made) (given : List Answer) (why : Cause) (g : Going) (st : Stage) (budget : ℕ) → IsWaitingAt st → StandsFrom (bench_call callee ctx) program frozen given g st → g.state.used < budget
    → (stop : Stop) × (s : State) × (ask_bench program frozen callee ctx (life given (answer.Refuse why) budget) ≡ Halts (halt.Stopped stop) s)
refusal_halts callee ctx program frozen given why g (stage.Waiting act place n) budget waits stands below = (
  record { cause = why; place = place },
  next_taken g.state,
  stands.1 (life given (answer.Refuse why) budget) (answer.Refuse why) [] below refl
      ∙ finish-halts program frozen g.state.here.room g.frames (life given (answer.Refuse why) budget) (halt.Stopped (record { cause = why; place = place })) (next_taken g.state),
)
refusal_halts callee ctx program frozen given why g stage.Before budget waits stands below = absurd waits
refusal_halts callee ctx program frozen given why g (stage.BeforeBench c x) budget waits stands below = absurd waits
refusal_halts callee ctx program frozen given why g (stage.Ended v) budget waits stands below = absurd waits
refusal_halts callee ctx program frozen given why g (stage.Stopped stop) budget waits stands below = absurd waits
refusal_halts callee ctx program frozen given why g stage.NoMemory budget waits stands below = absurd waits

is_none : (st : Stage) → IsWaitingAt st → again st ≡ None
is_none (stage.Waiting act place n) waits = refl
is_none stage.Before waits = absurd waits
is_none (stage.BeforeBench c x) waits = absurd waits
is_none (stage.Ended v) waits = absurd waits
is_none (stage.Stopped stop) waits = absurd waits
is_none stage.NoMemory waits = absurd waits

pub waits_none : (y : Running) → IsWaiting y → again y.machine.stage ≡ None
waits_none y waits = is_none y.machine.stage waits

-- nothing is asked behind a refusal, and nothing ends
pub refused_asks : (callee : Val) (ctx : Hw) (program : Steps) (frozen : Made) (given : List Answer) (why : Cause) (r : Request) (m n : Machine) (left : ℕ) → IsWaitingAt m.stage → 0 < left → StandsForBench program frozen callee ctx given m
    → BenchResumed (again m.stage) program frozen (answer.Refuse why) (turn.Asks r) m n left → ⊥
refused_asks callee ctx program frozen given why r m n left waits some stands h =
    let b = brings callee ctx program frozen given (answer.Refuse why) (turn.Asks r) m n left (is_none m.stage waits) h stands in
    let x = refusal_halts callee ctx program frozen given why m.going m.stage (m.going.state.used + left) waits stands (omega (arith, some)) in
    apart x.0 r x.1 n.going.state (sym x.2 ∙ b.asks)
  where
    apart : (stop : Stop) (r : Request) (s t : State) → Halts (halt.Stopped stop) s ≡ Halts (halt.Asks r) t → ⊥
    apart stop r s t e = cc

pub refused_ends : (callee : Val) (ctx : Hw) (program : Steps) (frozen : Made) (given : List Answer) (why : Cause) (v : Val) (m n : Machine) (left : ℕ) → IsWaitingAt m.stage → 0 < left → StandsForBench program frozen callee ctx given m
    → BenchResumed (again m.stage) program frozen (answer.Refuse why) (turn.Ended v) m n left → ⊥
refused_ends callee ctx program frozen given why v m n left waits some stands h =
    let b = brings callee ctx program frozen given (answer.Refuse why) (turn.Ended v) m n left (is_none m.stage waits) h stands in
    let x = refusal_halts callee ctx program frozen given why m.going m.stage (m.going.state.used + left) waits stands (omega (arith, some)) in
    apart x.0 b.ends.0 x.1 n.going.state (sym x.2 ∙ b.ends.1)
  where
    apart : (stop : Stop) (got : Got) (s t : State) → Halts (halt.Stopped stop) s ≡ Done got t → ⊥
    apart stop got s t e = cc

-- ---- a testbench beside the one of the point

outcome_is : (s : Setting) (x : Run) (y : Running) (b : Testbench) (a : Answer) (left left' : ℕ) → IsSettingOf s x → y.machine.going.state.used ≡ b.used → left ≡ left'
    → ask_bench x.program x.frozen b.callee x.ctx (life b.given a (y.machine.going.state.used + left)) ≡ outcome_of x b a left'
outcome_is s x y b a left left' setting used same =
    ap (λ n. ask_bench x.program x.frozen b.callee x.ctx (life b.given a (n + left))) used ∙ ap (λ n. ask_bench x.program x.frozen b.callee x.ctx (life b.given a (b.used + n))) same

-- what is brought, by the program and the heap of the run
brings_of : (s : Setting) (x : Run) (y z : Running) (b : Testbench) (a : Answer) (t : Turn) (left : ℕ) → IsSettingOf s x → again y.machine.stage ≡ None
    → BenchResumed (again y.machine.stage) (program_of s.program) s.frozen a t y.machine z.machine left → StandsForBench x.program x.frozen b.callee x.ctx b.given y.machine
    → BringsFrom (bench_call b.callee x.ctx) x.program x.frozen b.given a t z.machine.going z.machine.stage (y.machine.going.state.used + left)
brings_of s x y z b a t left setting waits h stands =
    brings b.callee x.ctx x.program x.frozen b.given a t y.machine z.machine left waits
    (subst (λ p. BenchResumed (again y.machine.stage) p x.frozen a t y.machine z.machine left) setting.program
    (subst (λ f. BenchResumed (again y.machine.stage) (program_of s.program) f a t y.machine z.machine left) setting.frozen h)) stands

-- what is known where a testbench took an answer
pub record Took (s : Setting) (c d : CodePoint) (i : ℕ) (y z : Running) (a : Answer) (t : Turn) : Type 0 where
  pub ready : next_ready c.turn (stands_in c.testbenches.items) ≡ Some i
  pub there : slice_get c.testbenches.items i ≡ Some y
  pub stands : y.stand ≡ stand.Ready a
  pub waits : again y.machine.stage ≡ None
  pub resumed : BenchResumed (again y.machine.stage) (program_of s.program) s.frozen a t y.machine z.machine c.left.left
  pub taken : HasTaken c d i y z

-- the same on the side of the point
record Beside (s : Setting) (c : CodePoint) (i : ℕ) (y : Running) (a : Answer) (x : Run) (rows : List Row) (p : Point) : Type 0 where
  bench : Testbench
  there : slice_get p.benches i ≡ Some bench
  is : IsBenchOf x y bench
  stands : bench.stand ≡ stand.Ready a
  ready : next_ready p.turn (stands_of p.benches) ≡ Some i

beside : (s : Setting) (c d : CodePoint) (i : ℕ) (y z : Running) (a : Answer) (t : Turn) (x : Run) (rows : List Row) (p : Point) → Took s c d i y z a t → IsLinked s c x rows p → Beside s c i y a x rows p
beside s c d i y z a t x rows p k l =
    let found = bench_at x c.testbenches.items p.benches i y l.benches k.there in
    record {
      bench = found.bench;
      there = found.there;
      is = found.is;
      stands = sym (found.is).stand ∙ k.stands;
      ready = ap (next_ready p.turn) (sym (stands_same x c.testbenches.items p.benches l.benches)) ∙ ap (λ n. next_ready n (stands_in c.testbenches.items)) (sym l.turn) ∙ k.ready;
    }

pub ended_owed : (s : Setting) (c d : CodePoint) (i : ℕ) (y z : Running) (a : Answer) (v : Val) → IsSome s.end → Took s c d i y z a (turn.Ended v) → (x : Run) (first : Point) (rows : List Row) → IsAt s c x first rows → IsAt s d x first rows
ended_owed s c d i y z a v end k x first rows at =
    let p = at.point in
    let l = at.linked in
    let b = beside s c d i y z a (turn.Ended v) x rows p k l in
    let used = z.machine.going.state.used in
    let q = with_bench i (bench_behind a used b.bench) (point_behind i used b.bench p) in
    let h = brings_of s x y z b.bench a (turn.Ended v) c.left.left l.setting k.waits k.resumed (b.is).stands in
    let o : Done h.ends.0 z.machine.going.state ≡ outcome_of x b.bench a p.left = sym h.ends.1 ∙ outcome_is s x y b.bench a c.left.left p.left l.setting (b.is).used l.left in
    record {
      point = q;
      follows =
          moves rows p q at.follows
          (comes_turn x rows c.sim.env p i b.bench a (Goes q) (env_now s c x rows p l) (subst IsSome l.setting.end end) b.ready b.there b.stands (ap (λ w. gone_on x c.sim.env i b.bench a w p) o));
      linked = linked_taken s c d x rows p i y z b.bench a l b.is k.taken h.stands;
    }

pub stopped_owed : (s : Setting) (c d : CodePoint) (i : ℕ) (y z : Running) (a : Answer) (stop : Stop) → IsSome s.end → Took s c d i y z a (turn.Stopped stop) → (x : Run) (first : Point) (rows : List Row) → IsAt s c x first rows → IsRun x first rows (StopsAt stop)
stopped_owed s c d i y z a stop end k x first rows at =
    let p = at.point in
    let l = at.linked in
    let b = beside s c d i y z a (turn.Stopped stop) x rows p k l in
    let h = brings_of s x y z b.bench a (turn.Stopped stop) c.left.left l.setting k.waits k.resumed (b.is).stands in
    stopped x first rows p i b.bench a c.sim.env (env_now s c x rows p l) (subst IsSome l.setting.end end) at.follows b.ready b.there b.stands stop z.machine.going.state.used
    (ap stops_as (sym (outcome_is s x y b.bench a c.left.left p.left l.setting (b.is).used l.left)) ∙ h.stops)

pub asking_owed : (s : Setting) (c d : CodePoint) (i : ℕ) (y z : Running) (a : Answer) (r : Request) → Took s c d i y z a (turn.Asks r) → (x : Run) (first : Point) (rows : List Row) → IsAt s c x first rows → IsAsking s d i r x first rows
asking_owed s c d i y z a r k x first rows at =
    let p = at.point in
    let l = at.linked in
    let b = beside s c d i y z a (turn.Asks r) x rows p k l in
    let h = brings_of s x y z b.bench a (turn.Asks r) c.left.left l.setting k.waits k.resumed (b.is).stands in
    record {
      point = p;
      follows = at.follows;
      ready = b.ready;
      bench = b.bench;
      there = b.there;
      taken = a;
      stands = b.stands;
      running = z;
      now_there = ap (λ ys. slice_get ys i) (k.taken).benches ∙ set_there c.testbenches.items i y z k.there;
      asks = sym (outcome_is s x y b.bench a c.left.left p.left l.setting (b.is).used l.left) ∙ h.asks;
      linked = linked_taken s c d x rows p i y z b.bench a l b.is k.taken h.stands;
    }

-- a refusal ends the run
pub refused_owed : (s : Setting) (c : CodePoint) (i : ℕ) (why : Cause) (y z : Running) (stop : Stop) → slice_get c.testbenches.items i ≡ Some y → IsWaiting y
    → BenchResumed (again y.machine.stage) (program_of s.program) s.frozen (answer.Refuse why) (turn.Stopped stop) y.machine z.machine c.left.left
    → (x : Run) (first : Point) (rows : List Row) → IsRefused s c i why x first rows → IsRun x first rows (StopsAt stop)
refused_owed s c i why y z stop there waits resumed x first rows k =
    let same : k.running ≡ y = some_is k.running y (sym k.now_there ∙ there) in
    let used : y.machine.going.state.used ≡ k.bench.used = sym (ap (λ w. w.machine.going.state.used) same) ∙ k.used in
    let stands : StandsForBench x.program x.frozen k.bench.callee x.ctx k.bench.given y.machine = subst (λ w. StandsForBench x.program x.frozen k.bench.callee x.ctx k.bench.given w.machine) same k.is_bench in
    let h = brings_of s x y z k.bench (answer.Refuse why) (turn.Stopped stop) c.left.left k.setting (waits_none y waits) resumed stands in
    refused_stops s c i why x first rows k stop z.machine.going.state.used
    (ap stops_as (sym (outcome_is s x y k.bench (answer.Refuse why) c.left.left k.point.left k.setting used k.left)) ∙ h.stops)
  where
    some_is : {A : Type 0} (a b : A) → Some a ≡ Some b → a ≡ b
    some_is a b e = cc
