-- What a machine stands for behind an answer, by what its turns left.
use Rattle.std.proofs.Common.{◌≡◌, ℕ, zero, suc, ◌<◌, ◌≤◌, ◌+◌, refl, ap, ◌∙◌, sym, subst, List, [], ◌∷◌, ◌++◌, length, Option, Some, None, Result, Ok, Err, true, true≢false, is_some, arith}
use Rattle.std.specs.Prelude.{slice_get, OnOk}
use Rattle.std.proofs.lemmas.List.{length-append}
use Rattle.std.proofs.lemmas.Option.{slice_get_past}
use Rattle.amh_host.specs.declared.place.Place.{Place}
use Rattle.py_tree.specs.Steps.{Steps}
use Rattle.py_tree.specs.Programs.{steps_of}
use Rattle.py_values.specs.declared.val.Val.{Val}
use Rattle.py_values.specs.declared.val.Hw.{Hw}
use Rattle.py_tree.specs.declared.stmt.Block.{Block}
use Rattle.py_heap.specs.Heaps.{Made, nothing}
use Rattle.py_frames.specs.declared.request.Act.{Act}
use Rattle.py_frames.specs.declared.request.Answer.{Answer}
use Rattle.py_frames.specs.declared.request.Answer.TheVariants as answer
use Rattle.py_frames.specs.declared.request.Request.{Request}
use Rattle.py_frames.specs.declared.request.Turn.{Turn}
use Rattle.py_frames.specs.declared.request.Turn.TheVariants as turn
use Rattle.py_frames.specs.declared.request.Cause.TheVariants as cause
use Rattle.py_frames.specs.declared.state.State.{State}
use Rattle.py_frames.specs.declared.state.Halt.{Halt}
use Rattle.py_frames.specs.declared.state.Halt.TheVariants as halt
use Rattle.py_frames.specs.declared.frame.Frame.{Frame}
use Rattle.py_frames.specs.declared.frame.Frame.TheVariants as frame
use Rattle.py_frames.specs.declared.frame.DefFrame.TheVariants as def
use Rattle.py_frames.specs.declared.frame.Now.{Now}
use Rattle.py_frames.specs.declared.frame.Now.TheVariants.{Begin, Run, Came, Waits}
use Rattle.py_frames.specs.declared.functions.Functions.{Functions}
use Rattle.py_frames.specs.declared.going.Going.{Going}
use Rattle.py_machine.specs.declared.machine.Stage.{Stage}
use Rattle.py_machine.specs.declared.machine.Stage.TheVariants as stage
use Rattle.py_machine.specs.declared.machine.Machine.{Machine}
use Rattle.py_frames.specs.Doing.{World, Outcome, Done, Halts, Known, Doing}
use Rattle.py_frames.specs.Asking.{request, answered, asked, taken}
use Rattle.py_frames.specs.Statements.{known, run_all}
use Rattle.py_frames.specs.Whole.{begun, body, deepest, first_state}
use Rattle.py_frames.specs.Frames.{GoesOn, Moves, finish, now_means, stops_as, within}
use Rattle.py_frames.specs.Turns.{Rests, is_alone}
use Rattle.py_machine.specs.Starts.{Start, file_body, bench_call, body_means, bench_called, bench_state, ask_from}
use Rattle.py_machine.specs.Lives.{StandsFrom, BringsFrom, ResumedFrom, again, reply, next_taken, life}
use Rattle.py_machine.specs.Brought.{meant_by, took, turn_of, stage_of, KeepsTaken}
use Rattle.py_frames.proofs.BeginLaws.{finish-halts, stops_as-finish}
use Rattle.py_machine.proofs.TurnLaws.{turn_follows}

-- ---- what an answer begins

-- the body under the frame of the file is the body, and then its end
pub body_goes : (fns : Functions) (frozen : Made) (r : Result Now Halt) (x y : Going) (budget : ℕ) (b : Block) → steps_of b ≡ steps_of fns.program → GoesOn fns frozen r x y budget (within (frame.Def def.FileBody) (λ k. run_all k (steps_of b))) → GoesOn fns frozen r x y budget body_means
unfolding GoesOn
body_goes fns frozen r x y budget b e h =
    subst (λ (p : Steps). Moves (steps_of fns.program) frozen r y.frames y.state budget (λ w. finish (steps_of fns.program) frozen x.state.here.room x.frames w (within (frame.Def def.FileBody) (λ k. run_all k p) (known (steps_of fns.program) frozen x.state.here.room) w x.state))) e h

pub waiting_means : (fns : Functions) (frozen : Made) (r : Result Now Halt) (x y : Going) (budget : ℕ) (st : Stage) (act : Act) (place : Place) (n : ℕ) (a : Answer) → st ≡ stage.Waiting act place n → GoesOn fns frozen r x y budget (λ k. answered k (asked n k act) act (request act [] [] place) a) → GoesOn fns frozen r x y budget (meant_by st a)
waiting_means fns frozen r x y budget st act place n a e h = subst (λ z. GoesOn fns frozen r x y budget (meant_by z a)) (sym e) h

pub before_means : (fns : Functions) (frozen : Made) (r : Result Now Halt) (x y : Going) (budget : ℕ) (st : Stage) (a : Answer) → st ≡ stage.Before → GoesOn fns frozen r x y budget body_means → GoesOn fns frozen r x y budget (meant_by st a)
before_means fns frozen r x y budget st a e h = subst (λ z. GoesOn fns frozen r x y budget (meant_by z a)) (sym e) h

pub bench_means : (fns : Functions) (frozen : Made) (r : Result Now Halt) (x y : Going) (budget : ℕ) (st : Stage) (callee : Val) (ctx : Hw) (a : Answer) → st ≡ stage.BeforeBench callee ctx → GoesOn fns frozen r x y budget (λ k. bench_called k callee ctx) → GoesOn fns frozen r x y budget (meant_by st a)
bench_means fns frozen r x y budget st callee ctx a e h = subst (λ z. GoesOn fns frozen r x y budget (meant_by z a)) (sym e) h

-- ---- turns behind an answer

pub replied_stops : (fns : Functions) (frozen : Made) (r : Result Now Halt) (x x2 y : Going) (budget : ℕ) (m : Known → Doing) → x2 ≡ took x → GoesOn fns frozen r x2 y budget m → GoesOn fns frozen r (took x) y budget m
replied_stops fns frozen r x x2 y budget m e h = subst (λ g. GoesOn fns frozen r g y budget m) e h

pub replied_goes : (fns : Functions) (frozen : Made) (r : Result Now Halt) (x x2 y z : Going) (budget : ℕ) (now : Now) (m : Known → Doing) → x2 ≡ took x → GoesOn fns frozen (Ok now) x2 y budget m → y.state.used < budget → y.state.used ≤ z.state.used → GoesOn fns frozen r y z budget (λ k. now_means k now) → GoesOn fns frozen r (took x) z budget m
replied_goes fns frozen r x x2 y z budget now m e h left grows after = subst (λ g. GoesOn fns frozen r g z budget m) e (turn_follows fns frozen r x2 y z budget now m h left grows after)

-- ---- lists of answers

slice_get_at : {A : Type 0} (xs : List A) (b : A) (ys : List A) → slice_get (xs ++ b ∷ ys) (length xs) ≡ Some b
slice_get_at [] b ys = refl
slice_get_at (x ∷ xs) b ys = slice_get_at xs b ys

then_more : {A : Type 0} (xs : List A) (a : A) (ys : List A) → (xs ++ a ∷ []) ++ ys ≡ xs ++ a ∷ ys
then_more [] a ys = refl
then_more (x ∷ xs) a ys = ap (λ zs. x ∷ zs) (then_more xs a ys)

length_more : {A : Type 0} (xs : List A) (a : A) → length (xs ++ a ∷ []) ≡ length xs + 1
length_more xs a = length-append xs (a ∷ [])

-- ---- what an answer brings

-- an answer is told by its place alone
by_place : (k : Known) (n : ℕ) (act : Act) (r : Request) (b : Answer) → answered k (asked n k act) act r b ≡ reply k n act r.place b
by_place k n act r answer.Begin = refl
by_place k n act r (answer.Give v) = refl
by_place k n act r (answer.GiveText text) = refl
by_place k n act r (answer.GiveList vals) = refl
by_place k n act r (answer.Bind names) = refl
by_place k n act r (answer.Call callee args) = refl
by_place k n act r (answer.Through v) = refl
by_place k n act r (answer.Refuse why) = refl

-- with no answer left a request stands
no_answer : (k : Known) (n : ℕ) (act : Act) (r : Request) (w : World) (s : State) → slice_get w.answers s.taken ≡ None → asked (suc n) k act r w s ≡ Halts (halt.Asks r) s
unfolding asked
no_answer k n act r w s e = ap (λ o. taken k (asked n k act) act r o w s) e

-- the next answer is taken
one_answer : (k : Known) (n : ℕ) (act : Act) (r : Request) (w : World) (s : State) (b : Answer) → slice_get w.answers s.taken ≡ Some b → asked (suc n) k act r w s ≡ reply k n act r.place b w (next_taken s)
unfolding asked
one_answer k n act r w s b e = ap (λ o. taken k (asked n k act) act r o w s) e ∙ ap (λ (d : Doing). d w (next_taken s)) (by_place k n act r b)

-- no function more may be begun
none_begun : (k : Known) (act : Act) (r : Request) (w : World) (s : State) → asked zero k act r w s ≡ Halts (halt.Stopped (record { cause = cause.Spent; place = r.place })) s
unfolding asked
none_begun k act r w s = refl

-- what comes out of a machine behind an answer
abbrev comes_out : Functions → Made → Going → (Known → Doing) → World → Outcome
comes_out fns frozen g m w = finish (steps_of fns.program) frozen g.state.here.room g.frames w (m (known (steps_of fns.program) frozen g.state.here.room) w (next_taken g.state))

-- before the first answer
from_file : (start : Start) (fns : Functions) (frozen : Made) (g : Going) (a : Answer) (w : World) (more : List Answer) → frozen ≡ nothing → g.frames ≡ [] → g.state ≡ first_state → start ≡ file_body → w.answers ≡ a ∷ more → ask_from start (steps_of fns.program) frozen w ≡ comes_out fns frozen g body_means w
from_file start fns frozen g a w more e1 e2 e3 e4 e5 =
    let P : Made → List Frame → State → Outcome = λ f fs s. finish (steps_of fns.program) f s.here.room fs w (body_means (known (steps_of fns.program) f s.here.room) w (next_taken s)) in
    ap (λ s. ask_from s (steps_of fns.program) frozen w) e4
    ∙ ap (λ (l : List Answer). begun (body (steps_of fns.program)) (slice_get l 0) w first_state) e5
    ∙ ap (λ f. P f [] first_state) (sym e1)
    ∙ ap (λ fs. P frozen fs first_state) (sym e2)
    ∙ ap (λ s. P frozen g.frames s) (sym e3)

from_bench : (start : Start) (fns : Functions) (frozen : Made) (g : Going) (callee : Val) (ctx : Hw) (a : Answer) (w : World) (more : List Answer) → g.frames ≡ [] → g.state ≡ bench_state → start ≡ bench_call callee ctx → w.answers ≡ a ∷ more → ask_from start (steps_of fns.program) frozen w ≡ comes_out fns frozen g (λ k. bench_called k callee ctx) w
from_bench start fns frozen g callee ctx a w more e1 e2 e3 e4 =
    let P : List Frame → State → Outcome = λ fs s. finish (steps_of fns.program) frozen s.here.room fs w (bench_called (known (steps_of fns.program) frozen s.here.room) callee ctx w (next_taken s)) in
    ap (λ s. ask_from s (steps_of fns.program) frozen w) e3
    ∙ ap (λ (l : List Answer). begun (bench_called (known (steps_of fns.program) frozen deepest) callee ctx) (slice_get l 0) w bench_state) e4
    ∙ ap (λ fs. P fs bench_state) (sym e1)
    ∙ ap (λ s. P g.frames s) (sym e2)

-- the stages in which an answer is taken
open_stage : (st : Stage) (v : Turn) → again st ≡ Some v → again st ≡ None → ⊥
open_stage st v e1 e2 = true≢false (ap is_some (sym e1 ∙ e2))

came_total : (start : Start) (fns : Functions) (frozen : Made) (given : List Answer) (a : Answer) (g : Going) (st : Stage) → again st ≡ None → StandsFrom start (steps_of fns.program) frozen given g st → (w : World) (more : List Answer) → g.state.used < w.budget → w.answers ≡ given ++ a ∷ more → ask_from start (steps_of fns.program) frozen w ≡ comes_out fns frozen g (meant_by st a) w
came_total start fns frozen given a g stage.Before opened stands w more lt e =
    from_file start fns frozen g a w more stands.1 stands.2 stands.3 stands.4 (e ∙ ap (λ (l : List Answer). l ++ a ∷ more) stands.0)
came_total start fns frozen given a g (stage.BeforeBench callee ctx) opened stands w more lt e =
    from_bench start fns frozen g callee ctx a w more stands.1 stands.2 stands.3 (e ∙ ap (λ (l : List Answer). l ++ a ∷ more) stands.0)
came_total start fns frozen given a g (stage.Waiting act place n) opened stands w more lt e = stands.1 w a more lt e
came_total start fns frozen given a g (stage.Ended v) opened stands w more lt e = absurd (open_stage (stage.Ended v) (turn.Ended v) refl opened)
came_total start fns frozen given a g (stage.Stopped s) opened stands w more lt e = absurd (open_stage (stage.Stopped s) (turn.Stopped s) refl opened)
came_total start fns frozen given a g stage.NoMemory opened stands w more lt e = absurd (open_stage stage.NoMemory turn.NoMemory refl opened)

-- as many answers were taken as were given
as_given : (start : Start) (program : Steps) (frozen : Made) (given : List Answer) (g : Going) (st : Stage) → again st ≡ None → StandsFrom start program frozen given g st → g.state.taken ≡ length given
as_given start program frozen given g stage.Before opened stands = ap (λ (s : State). s.taken) stands.3 ∙ ap length (sym stands.0)
as_given start program frozen given g (stage.BeforeBench callee ctx) opened stands = ap (λ (s : State). s.taken) stands.2 ∙ ap length (sym stands.0)
as_given start program frozen given g (stage.Waiting act place n) opened stands = stands.0
as_given start program frozen given g (stage.Ended v) opened stands = absurd (open_stage (stage.Ended v) (turn.Ended v) refl opened)
as_given start program frozen given g (stage.Stopped s) opened stands = absurd (open_stage (stage.Stopped s) (turn.Stopped s) refl opened)
as_given start program frozen given g stage.NoMemory opened stands = absurd (open_stage stage.NoMemory turn.NoMemory refl opened)

alone : (fs : List Frame) → is_alone fs ≡ true → fs ≡ []
alone [] e = refl
alone (f ∷ fs) e = absurd (true≢false (sym e))

-- what turns left, as it is told
brings : (start : Start) (fns : Functions) (frozen : Made) (given : List Answer) (a : Answer) (x : Going) (st : Stage) (z : Going) (budget : ℕ) (rest : Result Now Halt)
    → again st ≡ None → StandsFrom start (steps_of fns.program) frozen given x st → x.state.used < budget
    → GoesOn fns frozen rest (took x) z budget (meant_by st a)
    → x.state.used ≤ z.state.used → OnOk rest (Rests rest z) → KeepsTaken rest x z → OnOk rest (z.state.used < budget)
    → BringsFrom start (steps_of fns.program) frozen given a (turn_of rest) z (stage_of rest) budget
unfolding GoesOn
brings start fns frozen given a x st z budget (Ok (Waits r act zero)) opened stands room moves grows rested kept left =
    let w : World = life given a budget in record {
      told = refl;
      stops = ap stops_as (came_total start fns frozen given a x st opened stands w [] room refl ∙ moves w left
          ∙ ap (finish (steps_of fns.program) frozen z.state.here.room z.frames w) (none_begun (known (steps_of fns.program) frozen z.state.here.room) act r w z.state))
          ∙ stops_as-finish (steps_of fns.program) frozen z.state.here.room z.frames w (record { cause = cause.Spent; place = r.place }) z.state;
    }
brings start fns frozen given a x st z budget (Ok (Waits r act (suc n))) opened stands room moves grows rested kept left =
    let w : World = life given a budget in
    let counted : z.state.taken ≡ length (given ++ a ∷ []) = kept ∙ ap (λ i. i + 1) (as_given start (steps_of fns.program) frozen given x st opened stands) ∙ sym (length_more given a) in
    let past : slice_get w.answers z.state.taken ≡ None = slice_get_past (given ++ a ∷ []) z.state.taken (omega (arith, counted)) in record {
      asks = (came_total start fns frozen given a x st opened stands w [] room refl ∙ moves w left
          ∙ ap (finish (steps_of fns.program) frozen z.state.here.room z.frames w) (no_answer (known (steps_of fns.program) frozen z.state.here.room) n act r w z.state past)
          ∙ finish-halts (steps_of fns.program) frozen z.state.here.room z.frames w (halt.Asks r) z.state);
      stands = (
        counted,
        (λ v b more lt e.
            came_total start fns frozen given a x st opened stands v (b ∷ more) (omega (arith, grows, lt)) (e ∙ then_more given a (b ∷ more)) ∙ moves v lt
            ∙ ap (finish (steps_of fns.program) frozen z.state.here.room z.frames v) (one_answer (known (steps_of fns.program) frozen z.state.here.room) n act r v z.state b (ap (λ (l : List Answer). slice_get l z.state.taken) e ∙ ap (slice_get ((given ++ a ∷ []) ++ b ∷ more)) counted ∙ slice_get_at (given ++ a ∷ []) b more))),
      );
      waits = refl;
      taken = counted;
      below = left;
    }
brings start fns frozen given a x st z budget (Ok (Came got)) opened stands room moves grows rested kept left =
    let ended : (w : World) (more : List Answer) → z.state.used < w.budget → w.answers ≡ given ++ a ∷ more → ask_from start (steps_of fns.program) frozen w ≡ Done got z.state = λ w more lt e.
    came_total start fns frozen given a x st opened stands w more (omega (arith, grows, lt)) e ∙ moves w lt
    ∙ ap (λ fs. finish (steps_of fns.program) frozen z.state.here.room fs w (Done got z.state)) (alone z.frames rested) in record {
      told = refl;
      stands = (λ w more lt e. (got, ended w more lt (e ∙ then_more given a more), refl));
      ends = (got, ended (life given a budget) [] left refl, refl);
      below = left;
    }
brings start fns frozen given a x st z budget (Ok (Begin e purpose)) opened stands room moves grows rested kept left = refl
brings start fns frozen given a x st z budget (Ok (Run s)) opened stands room moves grows rested kept left = refl
brings start fns frozen given a x st z budget (Err (halt.Stopped s)) opened stands room moves grows rested kept left =
    let w : World = life given a budget in
    record { told = refl; stops = ap stops_as (came_total start fns frozen given a x st opened stands w [] room refl) ∙ moves w refl }
brings start fns frozen given a x st z budget (Err (halt.Asks r)) opened stands room moves grows rested kept left = refl
brings start fns frozen given a x st z budget (Err halt.NoMemory) opened stands room moves grows rested kept left = refl

-- ---- `resume`

pub resumed_again : (start : Start) (program : Steps) (frozen : Made) (a : Answer) (t : Turn) (before behind : Machine) (left : ℕ) → again before.stage ≡ Some t → behind ≡ before → ResumedFrom start (again before.stage) program frozen a t before behind left
resumed_again start program frozen a t before behind left e same = subst (λ o. ResumedFrom start o program frozen a t before behind left) (sym e) (refl, same)

pub resumed_none : (start : Start) (program : Steps) (frozen : Made) (a : Answer) (before behind : Machine) (left : ℕ) → again before.stage ≡ None → behind.stage ≡ stage.NoMemory → ResumedFrom start (again before.stage) program frozen a turn.NoMemory before behind left
resumed_none start program frozen a before behind left e same = subst (λ o. ResumedFrom start o program frozen a turn.NoMemory before behind left) (sym e) (λ given stands. same)

-- the functions stand elsewhere while turns go on
pub resumed_goes : (start : Start) (program : Steps) (fns : Functions) (kept : Option Functions) (frozen : Made) (a : Answer) (t : Turn) (before without turned behind : Machine) (left : ℕ)
    → again before.stage ≡ None → steps_of fns.program ≡ program → without ≡ record before { functions = None } → behind ≡ record turned { functions = kept }
    → ((s : Start) → ResumedFrom s None (steps_of fns.program) frozen a t without turned left)
    → ResumedFrom start (again before.stage) program frozen a t before behind left
resumed_goes start program fns kept frozen a t before without turned behind left opened e1 e2 e3 goes =
    subst (λ o. ResumedFrom start o program frozen a t before behind left) (sym opened)
    (subst (λ m. ResumedFrom start None program frozen a t before m left) (sym e3)
    (subst (λ p. ResumedFrom start None p frozen a t before (record turned { functions = kept }) left) e1
    (subst (λ m. ResumedFrom start None (steps_of fns.program) frozen a t m turned left) e2 (goes start))))

pub turned_none : (program : Steps) (frozen : Made) (a : Answer) (before behind : Machine) (left : ℕ) → behind.stage ≡ stage.NoMemory → (start : Start) → ResumedFrom start None program frozen a turn.NoMemory before behind left
turned_none program frozen a before behind left same start = λ given stands. same

pub turned_goes : (fns : Functions) (frozen : Made) (a : Answer) (t : Turn) (before behind : Machine) (left budget : ℕ) (z : Going) (rest : Result Now Halt)
    → again before.stage ≡ None → budget ≡ before.going.state.used + left → before.going.state.used < budget
    → GoesOn fns frozen rest (took before.going) z budget (meant_by before.stage a)
    → before.going.state.used ≤ z.state.used → OnOk rest (Rests rest z) → KeepsTaken rest before.going z → OnOk rest (z.state.used < budget)
    → t ≡ turn_of rest → behind ≡ record before { going = z; stage = stage_of rest }
    → (start : Start) → ResumedFrom start None (steps_of fns.program) frozen a t before behind left
turned_goes fns frozen a t before behind left budget z rest opened e room moves grows rested kept below told stood start = λ given stands.
    subst (λ n. BringsFrom start (steps_of fns.program) frozen given a t behind.going behind.stage n) e
    (subst (λ (m : Machine). BringsFrom start (steps_of fns.program) frozen given a t m.going m.stage budget) (sym stood)
    (subst (λ u. BringsFrom start (steps_of fns.program) frozen given a u z (stage_of rest) budget) (sym told)
    (brings start fns frozen given a before.going before.stage z budget rest opened stands room moves grows rested kept below)))

pub ruleset reply_rules = (replied_stops, replied_goes)

pub ruleset meant_rules = (waiting_means, before_means, bench_means)

pub ruleset resume_rules = (resumed_again, resumed_none, resumed_goes)

pub ruleset turned_rules = (turned_none, turned_goes)
