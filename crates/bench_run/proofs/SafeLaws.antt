-- A run stays safe, and comes closer to its next row.
use Rattle.std.proofs.Common.{◌≡◌, refl, sym, ◌∙◌, ap, subst, Some, None, ℕ, zero, suc, ◌+◌, ◌-◌, ◌<◌, ◌≤◌, List, [], ◌∷◌, ◌++◌, map, Option, arith, true, false}
use Rattle.std.specs.Prelude.{◌^◌, slice_get, slice_set}
use Rattle.std.specs.List.{AllByRecursion}
use Rattle.py_tree.specs.Programs.{program_of}
use Rattle.py_values.specs.declared.val.Val.{Val}
use Rattle.py_frames.specs.declared.request.Answer.{Answer}
use Rattle.py_frames.specs.declared.request.Request.{Request}
use Rattle.py_frames.specs.declared.request.Turn.TheVariants as turn
use Rattle.py_machine.specs.Lives.{IsOf, BenchResumed, again}
use Rattle.bench_run.specs.declared.setting.Setting.{Setting}
use Rattle.bench_run.specs.declared.testbench.Running.{Running}
use Rattle.bench_run.specs.declared.testbench.Stand.{Stand}
use Rattle.bench_run.specs.declared.testbench.Stand.TheVariants as stand
use Rattle.bench_run.specs.Runs.{has_ended}
use Rattle.bench_run.specs.Standing.{IsLive, IsWaiting, answers_left, left_by, all_left, round_left, woken_in}
use Rattle.bench_run.proofs.TurnLaws.{brings, asked_waits, one_taken}

-- ---- lists

pub all_set : {A : Type 0} (P : A → Type 0) (xs : List A) (i : ℕ) (x : A) → AllByRecursion P xs → P x → AllByRecursion P (slice_set xs i x)
all_set P [] i x h is = tt
all_set P (y ∷ xs) zero x h is = (is, h.1)
all_set P (y ∷ xs) (suc i) x h is = (h.0, all_set P xs i x h.1 is)

pub all_get : {A : Type 0} (P : A → Type 0) (xs : List A) (i : ℕ) (x : A) → AllByRecursion P xs → slice_get xs i ≡ Some x → P x
all_get P [] i x h is = absurd ((cc))
all_get {A} P (y ∷ xs) zero x h is = subst P (some_is y x is) h.0
  where
    some_is : (a b : A) → Some a ≡ Some b → a ≡ b
    some_is a b e = cc
all_get P (y ∷ xs) (suc i) x h is = all_get P xs i x h.1 is

-- ---- testbenches

-- where it stands does not matter while its machine waits
pub live_stand : (s : Setting) (y : Running) (w : Stand) → IsLive s y → again y.machine.stage ≡ None → IsLive s (record y { stand = w })
live_stand s y w h waits = record { of = h.of; callee = h.callee; ctx = h.ctx; given = h.given; stands = h.stands; waits = λ e. waits }

pub live_asks : (s : Setting) (y z : Running) (a : Answer) (r : Request) (left : ℕ) → IsLive s y → again y.machine.stage ≡ None → IsOf (program_of s.program) z.machine → z.stand ≡ stand.Ended
    → BenchResumed (again y.machine.stage) (program_of s.program) s.frozen a (turn.Asks r) y.machine z.machine left → IsLive s z
live_asks s y z a r left h waits of ended resumed =
    let b = brings h.callee h.ctx (program_of s.program) s.frozen h.given a (turn.Asks r) y.machine z.machine left waits resumed h.stands in
    record { of = of; callee = h.callee; ctx = h.ctx; given = h.given ++ a ∷ []; stands = b.stands; waits = λ e. b.waits }

pub waits_asks : (s : Setting) (y z : Running) (a : Answer) (r : Request) (left : ℕ) → IsLive s y → again y.machine.stage ≡ None
    → BenchResumed (again y.machine.stage) (program_of s.program) s.frozen a (turn.Asks r) y.machine z.machine left → IsWaiting z
waits_asks s y z a r left h waits resumed =
    let b = brings h.callee h.ctx (program_of s.program) s.frozen h.given a (turn.Asks r) y.machine z.machine left waits resumed h.stands in
    asked_waits h.callee h.ctx (program_of s.program) s.frozen h.given a r z.machine.going z.machine.stage (y.machine.going.state.used + left) b

pub live_ended : (s : Setting) (y z : Running) (a : Answer) (v : Val) (left : ℕ) → IsLive s y → again y.machine.stage ≡ None → IsOf (program_of s.program) z.machine → z.stand ≡ stand.Ended
    → BenchResumed (again y.machine.stage) (program_of s.program) s.frozen a (turn.Ended v) y.machine z.machine left → IsLive s z
live_ended s y z a v left h waits of ended resumed =
    let b = brings h.callee h.ctx (program_of s.program) s.frozen h.given a (turn.Ended v) y.machine z.machine left waits resumed h.stands in
    record { of = of; callee = h.callee; ctx = h.ctx; given = h.given ++ a ∷ []; stands = b.stands; waits = λ e. over z.stand ended e }
  where
    over : (w : Stand) → w ≡ stand.Ended → has_ended w ≡ false → again z.machine.stage ≡ None
    over w is e = absurd (cc_ended (ap has_ended (sym is) ∙ e))
      where
        cc_ended : true ≡ false → ⊥
        cc_ended e = cc

-- units are left
pub units_asks : (s : Setting) (y z : Running) (a : Answer) (r : Request) (left : ℕ) → IsLive s y → again y.machine.stage ≡ None
    → BenchResumed (again y.machine.stage) (program_of s.program) s.frozen a (turn.Asks r) y.machine z.machine left → z.machine.going.state.used < y.machine.going.state.used + left
units_asks s y z a r left h waits resumed =
    (brings h.callee h.ctx (program_of s.program) s.frozen h.given a (turn.Asks r) y.machine z.machine left waits resumed h.stands).below

pub units_ended : (s : Setting) (y z : Running) (a : Answer) (v : Val) (left : ℕ) → IsLive s y → again y.machine.stage ≡ None
    → BenchResumed (again y.machine.stage) (program_of s.program) s.frozen a (turn.Ended v) y.machine z.machine left → z.machine.going.state.used < y.machine.going.state.used + left
units_ended s y z a v left h waits resumed =
    (brings h.callee h.ctx (program_of s.program) s.frozen h.given a (turn.Ended v) y.machine z.machine left waits resumed h.stands).below

-- ---- answers that are left

left_waits : (y : Running) → again y.machine.stage ≡ None → answers_left y ≡ 2 ^ 64 - y.machine.going.state.taken
left_waits y waits = ap (λ o. left_by o y.machine.going.state.taken) waits

pub fewer_asks : (s : Setting) (y z : Running) (a : Answer) (r : Request) (left : ℕ) → IsLive s y → again y.machine.stage ≡ None → z.machine.going.state.taken < 2 ^ 64
    → BenchResumed (again y.machine.stage) (program_of s.program) s.frozen a (turn.Asks r) y.machine z.machine left → answers_left z < answers_left y
fewer_asks s y z a r left h waits few resumed =
    let b = brings h.callee h.ctx (program_of s.program) s.frozen h.given a (turn.Asks r) y.machine z.machine left waits resumed h.stands in
    let more = one_taken h.callee h.ctx (program_of s.program) s.frozen h.given a r y.machine z.machine (y.machine.going.state.used + left) waits h.stands b in
    omega (arith, left_waits y waits, left_waits z b.waits, more, few)

pub fewer_ended : (s : Setting) (y z : Running) (a : Answer) (v : Val) (left : ℕ) → IsLive s y → again y.machine.stage ≡ None → y.machine.going.state.taken < 2 ^ 64
    → BenchResumed (again y.machine.stage) (program_of s.program) s.frozen a (turn.Ended v) y.machine z.machine left → answers_left z < answers_left y
fewer_ended s y z a v left h waits few resumed =
    let b = brings h.callee h.ctx (program_of s.program) s.frozen h.given a (turn.Ended v) y.machine z.machine left waits resumed h.stands in
    let none : answers_left z ≡ 0 = ap (λ st. left_by (again st) z.machine.going.state.taken) b.told in
    omega (arith, left_waits y waits, none, few)

pub all_left-set : (ys : List Running) (i : ℕ) (y z : Running) → slice_get ys i ≡ Some y → all_left (slice_set ys i z) + answers_left y ≡ all_left ys + answers_left z
all_left-set [] i y z is = absurd ((cc))
all_left-set (w ∷ ys) zero y z is = let same = ap answers_left (some_is w y is) in omega (arith, same)
  where
    some_is : (a b : Running) → Some a ≡ Some b → a ≡ b
    some_is a b e = cc
all_left-set (w ∷ ys) (suc i) y z is = let r = all_left-set ys i y z is in omega (arith, r)

pub round_few : (o : Option ℕ) → round_left o ≤ 1
round_few None = omega arith
round_few (Some i) = omega arith

pub all_left-woken : (t : ℕ) (ys : List Running) → all_left (map (woken_in t) ys) ≡ all_left ys
all_left-woken t [] = refl
all_left-woken t (y ∷ ys) = ap (λ n. answers_left y + n) (all_left-woken t ys)
