-- A statement spends its units and then means the rest; and what it comes to at once.
use Rattle.std.proofs.Common.{◌≡◌, ℕ, ◌<◌, ◌≤◌, ◌+◌, refl, ap, ◌∙◌, subst, Some, Result, Ok, Err, nat_lt, true, false, arith}
use Rattle.std.proofs.lemmas.Bool.Decides.{nat_tests}
use Rattle.amh_host.specs.declared.place.Place.{Place}
use Rattle.py_tree.specs.Programs.{steps_of}
use Rattle.py_tree.specs.Steps.{Step, Pass, Break, Continue, Return, Assert, Raise, ImportAll, Import, Assign, Annotate, Augment, Evaluate, If, While, For, With, Def, Class}
use Rattle.py_heap.specs.Heaps.{Made}
use Rattle.py_frames.specs.declared.request.Cause.TheVariants as cause
use Rattle.py_frames.specs.declared.state.Halt.{Halt}
use Rattle.py_frames.specs.declared.state.Halt.TheVariants.{Asks, Stopped, NoMemory}
use Rattle.py_frames.specs.declared.state.Got.{Got}
use Rattle.py_frames.specs.declared.state.State.{State}
use Rattle.py_frames.specs.declared.frame.Now.{Now}
use Rattle.py_frames.specs.declared.frame.Now.TheVariants.{Came}
use Rattle.py_frames.specs.declared.functions.Functions.{Functions}
use Rattle.py_frames.specs.declared.going.Going.{Going}
use Rattle.py_frames.specs.Doing.{World, Doing, Known, came, spend_each, spent_all}
use Rattle.py_frames.specs.Statements.{known, run}
use Rattle.py_frames.specs.Stmt_begun.{step_cost, step_place, run_after}
use Rattle.py_frames.specs.Begun.{Spends}
use Rattle.py_frames.specs.Frames.{finish, stops_as, GoesOn}
use Rattle.py_frames.proofs.BeginLaws.{stops_as-finish, no_memory, stop_goes, give_goes, pushed, part_begins, step_begins}

pub run-begun : (k : Known) (s : Step) → run k s ≡ spend_each (step_cost s) (step_place s) (run_after k s)
run-begun k (Pass p) = refl
run-begun k (Break p) = refl
run-begun k (Continue p) = refl
run-begun k (Return p e) = refl
run-begun k (Assert p e m) = refl
run-begun k (Raise p e) = refl
run-begun k (ImportAll p path) = refl
run-begun k (Import p path names) = refl
run-begun k (Assign p ts e) = refl
run-begun k (Annotate p t a e) = refl
run-begun k (Augment p t o e) = refl
run-begun k (Evaluate p e) = refl
run-begun k (If p bs b) = refl
run-begun k (While p e b) = refl
run-begun k (For p ts e b) = refl
run-begun k (With p e t b) = refl
run-begun k (Def p f) = refl
run-begun k (Class p n a b) = refl

-- units that are there
pub each_spent : (n : ℕ) (p : Place) (m : Doing) (w : World) (s : State) → s.used + n < w.budget → spend_each n p m w s ≡ m w (record s { used = s.used + n })
each_spent n p m w s h =
    let e : nat_lt (s.used + n) w.budget ≡ true = grind (arith, nat_tests) in
    rw e

-- units that are not
pub each_stopped : (n : ℕ) (p : Place) (m : Doing) (w : World) (s : State) → w.budget ≤ s.used + n → spend_each n p m w s ≡ spent_all (record s { used = w.budget }) p
each_stopped n p m w s h =
    let e : nat_lt (s.used + n) w.budget ≡ false = grind (arith, nat_tests) in
    rw e

-- two meanings that are the same for all that is known owe the same
pub meant_same : (fns : Functions) (frozen : Made) (r : Result Now Halt) (x z : Going) (budget : ℕ) (m n : Known → Doing) → ((k : Known) → n k ≡ m k) → GoesOn fns frozen r x z budget m → GoesOn fns frozen r x z budget n
unfolding GoesOn
meant_same fns frozen (Ok now) x z budget m n e h = λ w q. ap (λ d. finish (steps_of fns.program) frozen x.state.here.room x.frames w (d w x.state)) (e (known (steps_of fns.program) frozen x.state.here.room)) ∙ h w q
meant_same fns frozen (Err (Stopped stop)) x z budget m n e h = λ w q. ap (λ d. stops_as (finish (steps_of fns.program) frozen x.state.here.room x.frames w (d w x.state))) (e (known (steps_of fns.program) frozen x.state.here.room)) ∙ h w q
meant_same fns frozen (Err (Asks r)) x z budget m n e h = h
meant_same fns frozen (Err NoMemory) x z budget m n e h = tt

pub spent_goes : (fns : Functions) (frozen : Made) (r : Result Now Halt) (x z : Going) (budget n : ℕ) (p : Place) (m : Known → Doing) → x.state.used + n ≤ z.state.used → x.state.used + n < budget → GoesOn fns frozen r (record x { state = record x.state { used = x.state.used + n } }) z budget m → GoesOn fns frozen r x z budget (λ k. spend_each n p (m k))
unfolding GoesOn
spent_goes fns frozen (Ok now) x z budget n p m le lt h = λ w q.
    let b : x.state.used + n < w.budget = omega arith in
    ap (λ o. finish (steps_of fns.program) frozen x.state.here.room x.frames w o) (each_spent n p (m (known (steps_of fns.program) frozen x.state.here.room)) w x.state b) ∙ h w q
spent_goes fns frozen (Err (Stopped stop)) x z budget n p m le lt h = λ w q.
    let b : x.state.used + n < w.budget = omega arith in
    ap (λ o. stops_as (finish (steps_of fns.program) frozen x.state.here.room x.frames w o)) (each_spent n p (m (known (steps_of fns.program) frozen x.state.here.room)) w x.state b) ∙ h w q
spent_goes fns frozen (Err (Asks r)) x z budget n p m le lt h = h
spent_goes fns frozen (Err NoMemory) x z budget n p m le lt h = tt

pub each_stops : (fns : Functions) (frozen : Made) (e : Halt) (x y : Going) (budget n : ℕ) (p : Place) (m : Known → Doing) → Spends (Err e) n p x y budget → GoesOn fns frozen (Err e) x y budget (λ k. spend_each n p (m k))
unfolding GoesOn
each_stops fns frozen (Stopped stop) x y budget n p m h = λ w q.
    let b : w.budget ≤ x.state.used + n = omega (arith, h.2) in
    let f : stops_as (finish (steps_of fns.program) frozen x.state.here.room x.frames w (spend_each n p (m (known (steps_of fns.program) frozen x.state.here.room)) w x.state)) ≡ Some (record { cause = cause.Spent; place = p }, w.budget) =
    ap (λ o. stops_as (finish (steps_of fns.program) frozen x.state.here.room x.frames w o)) (each_stopped n p (m (known (steps_of fns.program) frozen x.state.here.room)) w x.state b)
    ∙ stops_as-finish (steps_of fns.program) frozen x.state.here.room x.frames w (record { cause = cause.Spent; place = p }) (record x.state { used = w.budget }) in
    let u : y.state.used ≡ budget = ap (λ (g : Going). g.state.used) h.1 in
    let s : stop ≡ record { cause = cause.Spent; place = p } = h.0 in
    cc
each_stops fns frozen (Asks r) x y budget n p m h = absurd h
each_stops fns frozen NoMemory x y budget n p m h = absurd h

pub run_spent : (fns : Functions) (frozen : Made) (r : Result Now Halt) (x y z : Going) (budget n : ℕ) (p : Place) (u : Unit {0}) (t : Step) → n ≡ step_cost t → Spends (Ok u) n p x y budget → y.state.used ≤ z.state.used → GoesOn fns frozen r y z budget (λ k. run_after k t) → GoesOn fns frozen r x z budget (λ k. run k t)
run_spent fns frozen r x y z budget n p u t e1 e2 le h =
    let P : Going → Type 0 = λ g. GoesOn fns frozen r g z budget (λ k. run_after k t) in
    let Q : Going → Type 0 = λ g. g.state.used ≤ z.state.used in
    let R : ℕ → Type 0 = λ j. GoesOn fns frozen r x z budget (λ k. spend_each j (step_place t) (run_after k t)) in
    meant_same fns frozen r x z budget (λ k. spend_each (step_cost t) (step_place t) (run_after k t)) (λ k. run k t) (λ k. run-begun k t)
    (subst R e1 (spent_goes fns frozen r x z budget n (step_place t) (λ k. run_after k t) (subst Q e2.0 le) e2.1 (subst P e2.0 h)))

pub run_stopped : (fns : Functions) (frozen : Made) (e : Halt) (x y : Going) (budget n : ℕ) (p : Place) (t : Step) → n ≡ step_cost t → p ≡ step_place t → Spends (Err e) n p x y budget → GoesOn fns frozen (Err e) x y budget (λ k. run k t)
run_stopped fns frozen e x y budget n p t e1 e2 h =
    let P : ℕ → Type 0 = λ j. Spends (Err e) j p x y budget in
    let Q : Place → Type 0 = λ q. Spends (Err e) (step_cost t) q x y budget in
    meant_same fns frozen (Err e) x y budget (λ k. spend_each (step_cost t) (step_place t) (run_after k t)) (λ k. run k t) (λ k. run-begun k t)
    (each_stops fns frozen e x y budget (step_cost t) (step_place t) (λ k. run_after k t) (subst Q e2 (subst P e1 h)))

-- what has come
pub came_goes : (fns : Functions) (frozen : Made) (x : Going) (budget : ℕ) (got : Got) → GoesOn fns frozen (Ok (Came got)) x x budget (λ k. came got)
unfolding GoesOn
came_goes fns frozen x budget got = λ w h. refl

pub ruleset stmt_rules = (came_goes, no_memory, stop_goes, give_goes, pushed, part_begins, step_begins)

pub ruleset run_rules = (run_spent, run_stopped)
