-- Turns one after the other, and a frame that what came is handed to.
use Rattle.std.proofs.Common.{◌≡◌, ℕ, ◌<◌, ◌≤◌, refl, ap, ◌∙◌, sym, subst, List, [], ◌∷◌, Result, Ok, Err, false, true≢false, arith}
use Rattle.py_tree.specs.Programs.{steps_of}
use Rattle.py_heap.specs.Heaps.{Made}
use Rattle.py_frames.specs.declared.state.Halt.{Halt}
use Rattle.py_frames.specs.declared.state.Halt.TheVariants.{Asks, Stopped, NoMemory}
use Rattle.py_frames.specs.declared.state.Here.{Here}
use Rattle.py_frames.specs.declared.state.State.{State}
use Rattle.py_frames.specs.declared.state.Got.{Got}
use Rattle.py_frames.specs.declared.state.Got.TheVariants.{Value, Bound, Through, Next, Broke, Continued, Returned}
use Rattle.py_frames.specs.declared.frame.Now.{Now}
use Rattle.py_frames.specs.declared.frame.Now.TheVariants.{Came}
use Rattle.py_frames.specs.declared.frame.Frame.{Frame}
use Rattle.py_frames.specs.declared.frame.Frame.TheVariants as frame
use Rattle.py_frames.specs.declared.frame.CallFrame.{CallFrame}
use Rattle.py_frames.specs.declared.frame.CallFrame.TheVariants as call
use Rattle.py_frames.specs.declared.functions.Functions.{Functions}
use Rattle.py_frames.specs.declared.going.Going.{Going}
use Rattle.py_values.specs.declared.val.Val.{Val}
use Rattle.py_frames.specs.declared.request.NamedVal.{NamedVal}
use Rattle.py_frames.specs.declared.frame.ExprFrame.{ExprFrame}
use Rattle.py_frames.specs.declared.frame.WalkFrame.{WalkFrame}
use Rattle.py_frames.specs.declared.frame.StmtFrame.{StmtFrame}
use Rattle.py_frames.specs.declared.frame.DefFrame.{DefFrame}
use Rattle.py_frames.specs.Expr_frames.{expr_goes}
use Rattle.py_frames.specs.Walk_frames.{walk_goes}
use Rattle.py_frames.specs.Stmt_frames.{stmt_goes}
use Rattle.py_frames.specs.Def_frames.{def_goes}
use Rattle.py_frames.specs.Doing.{Known, Doing, came, on_value, Done}
use Rattle.py_frames.specs.Statements.{known, value_left}
use Rattle.py_frames.specs.Frames.{GoesOn, KeepsRoom, Moves, finish, goes_on, now_means, def_room, stops_as}
use Rattle.py_definitions.specs.Def_begun.{GoesUnder}
use Rattle.py_frames.specs.Turns.{is_call_end}

pub turns_begin : (fns : Functions) (frozen : Made) (x : Going) (budget : ℕ) (now : Now) → GoesOn fns frozen (Ok now) x x budget (λ k. now_means k now)
unfolding GoesOn
turns_begin fns frozen x budget now = λ w h. refl

-- a turn behind other turns
pub turn_follows : (fns : Functions) (frozen : Made) (r : Result Now Halt) (x y z : Going) (budget : ℕ) (now : Now) (m : Known → Doing) → GoesOn fns frozen (Ok now) x y budget m → y.state.used < budget → y.state.used ≤ z.state.used → GoesOn fns frozen r y z budget (λ k. now_means k now) → GoesOn fns frozen r x z budget m
unfolding GoesOn
turn_follows fns frozen (Ok next) x y z budget now m before left grows after = λ w h. before w (omega (arith, grows, h)) ∙ after w h
turn_follows fns frozen (Err (Stopped stop)) x y z budget now m before left grows after = λ w e. ap stops_as (before w (subst (λ b. y.state.used < b) (sym e) left)) ∙ after w e
turn_follows fns frozen (Err (Asks r)) x y z budget now m before left grows after = after
turn_follows fns frozen (Err NoMemory) x y z budget now m before left grows after = tt

-- nothing waits for what came
pub came_alone : (fns : Functions) (frozen : Made) (x : Going) (budget : ℕ) (got : Got) → GoesOn fns frozen (Ok (Came got)) x x budget (λ k. came got)
unfolding GoesOn
came_alone fns frozen x budget got = λ w h. refl

-- a frame that was taken out
pub taken_out : (fns : Functions) (frozen : Made) (r : Result Now Halt) (x y z : Going) (budget : ℕ) (f : Frame) (m : Known → Doing) → x.frames ≡ f ∷ y.frames → x.state ≡ y.state → GoesOn fns frozen r (record y { frames = f ∷ y.frames }) z budget m → GoesOn fns frozen r x z budget m
unfolding GoesOn
taken_out fns frozen r x y z budget f m e1 e2 h =
    let P : List Frame → State → Type 0 = λ frames s. Moves (steps_of fns.program) frozen r z.frames z.state budget (λ w. finish (steps_of fns.program) frozen s.here.room frames w (m (known (steps_of fns.program) frozen s.here.room) w s)) in
    subst (λ frames. P frames x.state) (sym e1) (subst (λ s. P (f ∷ y.frames) s) (sym e2) h)

-- what a frame does with what came is what comes out of it
pub frame_goes : (fns : Functions) (frozen : Made) (r : Result Now Halt) (y z : Going) (budget : ℕ) (f : Frame) (got : Got) → KeepsRoom f y.state.here.room → GoesOn fns frozen r y z budget (λ k. goes_on k f got) → GoesOn fns frozen r (record y { frames = f ∷ y.frames }) z budget (λ k. came got)
unfolding GoesOn
frame_goes fns frozen r y z budget f got e h =
    let P : ℕ → Type 0 = λ room. Moves (steps_of fns.program) frozen r z.frames z.state budget (λ w. finish (steps_of fns.program) frozen room y.frames w (goes_on (known (steps_of fns.program) frozen room) f got w y.state)) in
    subst P (sym e) h

-- behind a call as many calls may stand in one another as before
pub call_ends : (fns : Functions) (frozen : Made) (y : Going) (budget : ℕ) (outer : Here) (got : Got) → GoesOn fns frozen (Ok (Came (Value (value_left got)))) (record y { frames = frame.Call (call.CallEnd outer) ∷ y.frames }) (record y { state = record y.state { here = outer } }) budget (λ k. came got)
unfolding GoesOn
call_ends fns frozen y budget outer got = λ w h. refl

pub keeps_room : (room : ℕ) (f : CallFrame) → is_call_end f ≡ false → KeepsRoom (frame.Call f) room
keeps_room room (call.Trail node n way) e = refl
keeps_room room (call.Argument node j n f vs keywords u) e = refl
keeps_room room (call.Spread node j n f vs keywords u) e = refl
keeps_room room (call.ListGiven f u p) e = refl
keeps_room room (call.Indexed x p) e = refl
keeps_room room (call.Sliced node j x parts) e = refl
keeps_room room (call.Awaited p) e = refl
keeps_room room (call.AttributeTold name p n) e = refl
keeps_room room (call.GoneOver b n done rest p) e = refl
keeps_room room (call.Summing row n p) e = refl
keeps_room room (call.Initialised o p) e = refl
keeps_room room (call.InitNames o p r) e = refl
keeps_room room (call.CallEnd outer) e = absurd (true≢false e)
keeps_room room (call.Answering act p callee n) e = refl

-- what else came is handed on by a frame that waits for a value
pub handed_bound : (fns : Functions) (frozen : Made) (x : Going) (budget : ℕ) (f : ExprFrame) (names : List NamedVal) (got : Got) → got ≡ Bound names → GoesOn fns frozen (Ok (Came (Bound names))) x x budget (λ k. on_value got (expr_goes k f))
handed_bound fns frozen x budget f names got e = subst (λ g. GoesOn fns frozen (Ok (Came (Bound names))) x x budget (λ k. on_value g (expr_goes k f))) (sym e) (came_alone fns frozen x budget (Bound names))

pub handed_through : (fns : Functions) (frozen : Made) (x : Going) (budget : ℕ) (f : ExprFrame) (v : Val) (got : Got) → got ≡ Through v → GoesOn fns frozen (Ok (Came (Through v))) x x budget (λ k. on_value got (expr_goes k f))
handed_through fns frozen x budget f v got e = subst (λ g. GoesOn fns frozen (Ok (Came (Through v))) x x budget (λ k. on_value g (expr_goes k f))) (sym e) (came_alone fns frozen x budget (Through v))

pub handed_next : (fns : Functions) (frozen : Made) (x : Going) (budget : ℕ) (f : ExprFrame) (got : Got) → got ≡ Next → GoesOn fns frozen (Ok (Came Next)) x x budget (λ k. on_value got (expr_goes k f))
handed_next fns frozen x budget f got e = subst (λ g. GoesOn fns frozen (Ok (Came Next)) x x budget (λ k. on_value g (expr_goes k f))) (sym e) (came_alone fns frozen x budget Next)

pub handed_broke : (fns : Functions) (frozen : Made) (x : Going) (budget : ℕ) (f : ExprFrame) (got : Got) → got ≡ Broke → GoesOn fns frozen (Ok (Came Broke)) x x budget (λ k. on_value got (expr_goes k f))
handed_broke fns frozen x budget f got e = subst (λ g. GoesOn fns frozen (Ok (Came Broke)) x x budget (λ k. on_value g (expr_goes k f))) (sym e) (came_alone fns frozen x budget Broke)

pub handed_continued : (fns : Functions) (frozen : Made) (x : Going) (budget : ℕ) (f : ExprFrame) (got : Got) → got ≡ Continued → GoesOn fns frozen (Ok (Came Continued)) x x budget (λ k. on_value got (expr_goes k f))
handed_continued fns frozen x budget f got e = subst (λ g. GoesOn fns frozen (Ok (Came Continued)) x x budget (λ k. on_value g (expr_goes k f))) (sym e) (came_alone fns frozen x budget Continued)

pub handed_returned : (fns : Functions) (frozen : Made) (x : Going) (budget : ℕ) (f : ExprFrame) (v : Val) (got : Got) → got ≡ Returned v → GoesOn fns frozen (Ok (Came (Returned v))) x x budget (λ k. on_value got (expr_goes k f))
handed_returned fns frozen x budget f v got e = subst (λ g. GoesOn fns frozen (Ok (Came (Returned v))) x x budget (λ k. on_value g (expr_goes k f))) (sym e) (came_alone fns frozen x budget (Returned v))

pub ruleset handed = (handed_bound, handed_through, handed_next, handed_broke, handed_continued, handed_returned)

pub call_ended : (fns : Functions) (frozen : Made) (y : Going) (budget : ℕ) (f : CallFrame) (outer : Here) (got : Got) (v : Val) → f ≡ call.CallEnd outer → v ≡ value_left got → GoesOn fns frozen (Ok (Came (Value v))) (record y { frames = frame.Call f ∷ y.frames }) (record y { state = record y.state { here = outer } }) budget (λ k. came got)
call_ended fns frozen y budget f outer got v e1 e2 =
    subst (λ u. GoesOn fns frozen (Ok (Came (Value u))) (record y { frames = frame.Call f ∷ y.frames }) (record y { state = record y.state { here = outer } }) budget (λ k. came got)) (sym e2)
    (subst (λ g. GoesOn fns frozen (Ok (Came (Value (value_left got)))) (record y { frames = frame.Call g ∷ y.frames }) (record y { state = record y.state { here = outer } }) budget (λ k. came got)) (sym e1) (call_ends fns frozen y budget outer got))

pub came_none : (fns : Functions) (frozen : Made) (x y : Going) (budget : ℕ) (got : Got) → x.frames ≡ [] → y.frames ≡ [] → x.state ≡ y.state → GoesOn fns frozen (Ok (Came got)) x y budget (λ k. came got)
unfolding GoesOn
came_none fns frozen x y budget got e1 e2 e3 = λ w h.
    ap (λ fs. finish (steps_of fns.program) frozen x.state.here.room fs w (Done got x.state)) e1 ∙ ap (Done got) e3 ∙ sym (ap (λ fs. finish (steps_of fns.program) frozen y.state.here.room fs w (Done got y.state)) e2)

-- a frame of each kind
pub frame_expr : (fns : Functions) (frozen : Made) (r : Result Now Halt) (y z : Going) (budget : ℕ) (fr : Frame) (f : ExprFrame) (got : Got) → fr ≡ frame.Expr f → GoesOn fns frozen r y z budget (λ k. on_value got (expr_goes k f)) → GoesOn fns frozen r (record y { frames = fr ∷ y.frames }) z budget (λ k. came got)
frame_expr fns frozen r y z budget fr f got e h = subst (λ g. GoesOn fns frozen r (record y { frames = g ∷ y.frames }) z budget (λ k. came got)) (sym e) (frame_goes fns frozen r y z budget (frame.Expr f) got refl h)

pub frame_walk : (fns : Functions) (frozen : Made) (r : Result Now Halt) (y z : Going) (budget : ℕ) (fr : Frame) (f : WalkFrame) (got : Got) → fr ≡ frame.Walk f → GoesOn fns frozen r y z budget (λ k. walk_goes k f got) → GoesOn fns frozen r (record y { frames = fr ∷ y.frames }) z budget (λ k. came got)
frame_walk fns frozen r y z budget fr f got e h = subst (λ g. GoesOn fns frozen r (record y { frames = g ∷ y.frames }) z budget (λ k. came got)) (sym e) (frame_goes fns frozen r y z budget (frame.Walk f) got refl h)

pub frame_stmt : (fns : Functions) (frozen : Made) (r : Result Now Halt) (y z : Going) (budget : ℕ) (fr : Frame) (f : StmtFrame) (got : Got) → fr ≡ frame.Stmt f → GoesOn fns frozen r y z budget (λ k. stmt_goes k f got) → GoesOn fns frozen r (record y { frames = fr ∷ y.frames }) z budget (λ k. came got)
frame_stmt fns frozen r y z budget fr f got e h = subst (λ g. GoesOn fns frozen r (record y { frames = g ∷ y.frames }) z budget (λ k. came got)) (sym e) (frame_goes fns frozen r y z budget (frame.Stmt f) got refl h)

-- the end of a class body, under which as many calls may stand as where the class stands
pub def_under : (fns : Functions) (frozen : Made) (r : Result Now Halt) (y z : Going) (budget : ℕ) (f : DefFrame) (got : Got) → GoesUnder (def_room y.state.here.room f) fns frozen r y z budget (λ k. def_goes k f got) → GoesOn fns frozen r (record y { frames = frame.Def f ∷ y.frames }) z budget (λ k. came got)
unfolding GoesOn GoesUnder
def_under fns frozen r y z budget f got h = h

pub frame_def : (fns : Functions) (frozen : Made) (r : Result Now Halt) (y z : Going) (budget : ℕ) (fr : Frame) (f : DefFrame) (got : Got) → fr ≡ frame.Def f → GoesUnder (def_room y.state.here.room f) fns frozen r y z budget (λ k. def_goes k f got) → GoesOn fns frozen r (record y { frames = fr ∷ y.frames }) z budget (λ k. came got)
frame_def fns frozen r y z budget fr f got e h = subst (λ g. GoesOn fns frozen r (record y { frames = g ∷ y.frames }) z budget (λ k. came got)) (sym e) (def_under fns frozen r y z budget f got h)

pub under_no_memory : (room : ℕ) (fns : Functions) (frozen : Made) (x y : Going) (budget : ℕ) (m : Known → Doing) → GoesUnder room fns frozen (Err NoMemory) x y budget m
unfolding GoesUnder
under_no_memory room fns frozen x y budget m = tt

pub ruleset frames = (frame_expr, frame_walk, frame_stmt, frame_def)
