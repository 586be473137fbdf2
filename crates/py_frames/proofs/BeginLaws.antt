-- A node spends its units and then means the rest; and what follows from units spent, or not.
use Rattle.std.proofs.Common.{◌≡◌, ℕ, refl, ap, ◌∙◌, subst, List, [], ◌∷◌, Some, Result, Ok, Err}
use Rattle.amh_host.specs.declared.place.Place.{Place}
use Rattle.py_tree.specs.Steps.{Steps}
use Rattle.py_tree.specs.Tree.{Tree, Name, Number, Decimal_time, Quotient, Str, Format, Constant_value, Tuple, Display, Dict, ListOf, DictOf, Trailed, Await, Power, Unary, Not, Binary, Compare, Boolean, Choice}
use Rattle.py_heap.specs.Heaps.{Made}
use Rattle.py_tree.specs.Programs.{step_of, steps_of}
use Rattle.py_values.specs.declared.val.Val.{Val}
use Rattle.py_values.specs.declared.val.ValueStop.{ValueStop}
use Rattle.py_values.specs.declared.val.ValueStop.TheVariants as refusal
use Rattle.py_values.specs.Runs.{Answers, paired}
use Rattle.py_heap.specs.Heaps.{seen}
use Rattle.py_heap.specs.Places.{new_list}
use Rattle.py_frames.specs.declared.request.Cause.{Cause}
use Rattle.py_frames.specs.declared.request.Cause.TheVariants as cause
use Rattle.py_frames.specs.declared.request.Stop.{Stop}
use Rattle.py_frames.specs.declared.state.Halt.TheVariants.{Stopped, NoMemory}
use Rattle.py_frames.specs.declared.state.Got.TheVariants.{Value}
use Rattle.py_frames.specs.declared.frame.Now.{Now}
use Rattle.py_frames.specs.declared.frame.Now.TheVariants.{Begin, Run, Came}
use Rattle.py_frames.specs.declared.frame.Purpose.TheVariants.{Plain}
use Rattle.py_tree.specs.declared.expr.Expr.{Expr}
use Rattle.py_tree.specs.declared.stmt.Stmt.{Stmt}
use Rattle.py_tree.specs.Seen.{tree}
use Rattle.py_tree.specs.Steps.{Step}
use Rattle.py_frames.specs.declared.functions.Functions.{Functions}
use Rattle.py_frames.specs.declared.going.Going.{Going}
use Rattle.py_frames.specs.Statements.{known, run}
use Rattle.py_frames.specs.declared.state.State.{State}
use Rattle.py_frames.specs.declared.state.Halt.{Halt}
use Rattle.py_frames.specs.declared.frame.Frame.{Frame}
use Rattle.py_frames.specs.declared.frame.Purpose.{Purpose}
use Rattle.py_frames.specs.Doing.{World, after, Halts, Doing, Known, spend_each, stop, give, making, made, heap_seen}
use Rattle.py_frames.specs.Parts.{place_of}
use Rattle.py_frames.specs.Expressions.{value_of, list_made}
use Rattle.py_frames.specs.Begun.{cost_of, value_after}
use Rattle.py_frames.specs.Frames.{finish, room_under, goes_on, within, KeepsRoom, Moves, stops_as, told, GoesOn}

pub value_of-begun : (k : Known) (u : Purpose) (t : Tree) → value_of k u t ≡ spend_each (cost_of t) (place_of t) (value_after k u t)
value_of-begun k u (Name p n) = refl
value_of-begun k u (Number p n) = refl
value_of-begun k u (Decimal_time p d) = refl
value_of-begun k u (Quotient p n a) = refl
value_of-begun k u (Str p text) = refl
value_of-begun k u (Format p ps) = refl
value_of-begun k u (Constant_value p c) = refl
value_of-begun k u (Tuple p ts) = refl
value_of-begun k u (Display p ts) = refl
value_of-begun k u (Dict p ps) = refl
value_of-begun k u (ListOf p t c) = refl
value_of-begun k u (DictOf p a b c) = refl
value_of-begun k u (Trailed p t ts) = refl
value_of-begun k u (Await p t) = refl
value_of-begun k u (Power p a b) = refl
value_of-begun k u (Unary p o t) = refl
value_of-begun k u (Not p t) = refl
value_of-begun k u (Binary p t ls) = refl
value_of-begun k u (Compare p t ls) = refl
value_of-begun k u (Boolean p t ls) = refl
value_of-begun k u (Choice p a t b) = refl

-- a halt passes through all frames
pub finish-halts : (program : Steps) (frozen : Made) (room : ℕ) (fs : List Frame) (w : World) (h : Halt) (s : State) → finish program frozen room fs w (Halts h s) ≡ Halts h s
finish-halts program frozen room [] w h s = refl
finish-halts program frozen room (f ∷ fs) w h s = finish-halts program frozen (room_under room f) fs w h s

-- what stops at once stops behind all frames
pub stops_as-finish : (program : Steps) (frozen : Made) (room : ℕ) (fs : List Frame) (w : World) (stop : Stop) (s : State) → stops_as (finish program frozen room fs w (Halts (Stopped stop) s)) ≡ Some (stop, s.used)
stops_as-finish program frozen room fs w stop s = ap stops_as (finish-halts program frozen room fs w (Stopped stop) s)

-- want of memory owes nothing
pub no_memory : (fns : Functions) (frozen : Made) (x y : Going) (budget : ℕ) (m : Known → Doing) → GoesOn fns frozen (Err NoMemory) x y budget m
unfolding GoesOn
no_memory fns frozen x y budget m = tt

-- a stop
pub stop_goes : (fns : Functions) (frozen : Made) (x : Going) (budget : ℕ) (cause : Cause) (place : Place) → GoesOn fns frozen (Err (Stopped (record { cause = cause; place = place }))) x x budget (λ k. stop cause place)
unfolding GoesOn
stop_goes fns frozen x budget cause place = λ w e. stops_as-finish (steps_of fns.program) frozen x.state.here.room x.frames w (record { cause = cause; place = place }) x.state

-- a value
pub give_goes : (fns : Functions) (frozen : Made) (x : Going) (budget : ℕ) (v : Val) → GoesOn fns frozen (Ok (Came (Value v))) x x budget (λ k. give v)
unfolding GoesOn
give_goes fns frozen x budget v = λ w h. refl

-- what is made in the heap, and told
pub making_told : (fns : Functions) (frozen : Made) (given : Result Val ValueStop) (x : Going) (heap : Made) (place : Place) (budget : ℕ) (m : Known → State → Result (Val × Made) ValueStop) → Answers (paired given heap) (m (known (steps_of fns.program) frozen x.state.here.room) x.state) → GoesOn fns frozen (told given place) x (record x { state = record x.state { heap = heap } }) budget (λ k. making (m k) place give)
unfolding GoesOn
making_told fns frozen (Ok v) x heap place budget m h = λ w q. ap (λ r. finish (steps_of fns.program) frozen x.state.here.room x.frames w (made r place give w x.state)) h
making_told fns frozen (Err refusal.Raised) x heap place budget m h = λ w q. ap (λ r. stops_as (finish (steps_of fns.program) frozen x.state.here.room x.frames w (made r place give w x.state))) h ∙ stops_as-finish (steps_of fns.program) frozen x.state.here.room x.frames w (record { cause = cause.Raised; place = place }) x.state
making_told fns frozen (Err refusal.Width) x heap place budget m h = λ w q. ap (λ r. stops_as (finish (steps_of fns.program) frozen x.state.here.room x.frames w (made r place give w x.state))) h ∙ stops_as-finish (steps_of fns.program) frozen x.state.here.room x.frames w (record { cause = cause.Width; place = place }) x.state
making_told fns frozen (Err refusal.Limit) x heap place budget m h = λ w q. ap (λ r. stops_as (finish (steps_of fns.program) frozen x.state.here.room x.frames w (made r place give w x.state))) h ∙ stops_as-finish (steps_of fns.program) frozen x.state.here.room x.frames w (record { cause = cause.Limit; place = place }) x.state
making_told fns frozen (Err refusal.Spent) x heap place budget m h = absurd h
making_told fns frozen (Err refusal.NoMemory) x heap place budget m h = tt

pub list_told : (fns : Functions) (frozen : Made) (given : Result Val ValueStop) (x : Going) (heap : Made) (place : Place) (budget : ℕ) (vals : List Val) → Answers (paired given heap) (new_list (seen frozen x.state.heap) vals) → GoesOn fns frozen (told given place) x (record x { state = record x.state { heap = heap } }) budget (λ k. list_made k place vals)
list_told fns frozen given x heap place budget vals h = making_told fns frozen given x heap place budget (λ k s. new_list (heap_seen k s) vals) h

-- what begins is what comes out
pub expr_goes_on : (fns : Functions) (frozen : Made) (x : Going) (budget : ℕ) (e : Expr) → GoesOn fns frozen (Ok (Begin e Plain)) x x budget (λ k. value_of k Plain (tree e))
unfolding GoesOn
expr_goes_on fns frozen x budget e = λ w h. refl

pub step_goes_on : (fns : Functions) (frozen : Made) (x : Going) (budget : ℕ) (s : Stmt) → GoesOn fns frozen (Ok (Run s)) x x budget (λ k. run k (step_of s))
unfolding GoesOn
step_goes_on fns frozen x budget s = λ w h. refl

-- a frame is pushed, and then its part goes on
pub pushed : (fns : Functions) (frozen : Made) (r : Result Now Halt) (x y : Going) (budget : ℕ) (f : Frame) (m : Known → Doing) → KeepsRoom f x.state.here.room → GoesOn fns frozen r (record x { frames = f ∷ x.frames }) y budget m → GoesOn fns frozen r x y budget (within f m)
unfolding GoesOn
pushed fns frozen r x y budget f m e h =
    let P : ℕ → Type 0 = λ room. Moves (steps_of fns.program) frozen r y.frames y.state budget (λ w. finish (steps_of fns.program) frozen room x.frames w (after (m (known (steps_of fns.program) frozen x.state.here.room) w x.state) (λ got. goes_on (known (steps_of fns.program) frozen room) f got w))) in
    subst P e h

-- a part begins under its frame
pub part_begins : (fns : Functions) (frozen : Made) (x : Going) (budget : ℕ) (f : Frame) (e : Expr) (t : Tree) → tree e ≡ t → KeepsRoom f x.state.here.room → GoesOn fns frozen (Ok (Begin e Plain)) x (record x { frames = f ∷ x.frames }) budget (within f (λ k. value_of k Plain t))
part_begins fns frozen x budget f e t q room =
    pushed fns frozen (Ok (Begin e Plain)) x (record x { frames = f ∷ x.frames }) budget f (λ k. value_of k Plain t) room
    (let P : Tree → Type 0 = λ z. GoesOn fns frozen (Ok (Begin e Plain)) (record x { frames = f ∷ x.frames }) (record x { frames = f ∷ x.frames }) budget (λ k. value_of k Plain z) in
    subst P q (expr_goes_on fns frozen (record x { frames = f ∷ x.frames }) budget e))

pub step_begins : (fns : Functions) (frozen : Made) (x : Going) (budget : ℕ) (f : Frame) (s : Stmt) (t : Step) → step_of s ≡ t → KeepsRoom f x.state.here.room → GoesOn fns frozen (Ok (Run s)) x (record x { frames = f ∷ x.frames }) budget (within f (λ k. run k t))
step_begins fns frozen x budget f s t q room =
    pushed fns frozen (Ok (Run s)) x (record x { frames = f ∷ x.frames }) budget f (λ k. run k t) room
    (let P : Step → Type 0 = λ z. GoesOn fns frozen (Ok (Run s)) (record x { frames = f ∷ x.frames }) (record x { frames = f ∷ x.frames }) budget (λ k. run k z) in
    subst P q (step_goes_on fns frozen (record x { frames = f ∷ x.frames }) budget s))

-- the rules of turns that every function may need
pub ruleset turn_rules = (no_memory, stop_goes, give_goes, pushed, part_begins, step_begins)
