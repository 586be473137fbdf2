-- Laws of turns: what is read from the heap at once, what is made there, and what is asked.
use Rattle.std.proofs.Common.{◌≡◌, ℕ, ap, ◌∙◌, sym, subst, List, ◌∷◌, Some, Result, Ok, Err, Bool, true, false}
use Rattle.amh_host.specs.declared.place.Place.{Place}
use Rattle.py_tree.specs.Programs.{steps_of}
use Rattle.py_values.specs.declared.val.Val.{Val}
use Rattle.py_values.specs.declared.val.ValueStop.{ValueStop}
use Rattle.py_values.specs.declared.val.ValueStop.TheVariants as refusal
use Rattle.py_values.specs.declared.func.Func.{Func}
use Rattle.py_heap.specs.Heaps.{Made, Seen, seen}
use Rattle.py_values.specs.Runs.{Answers, paired}
use Rattle.py_heap.specs.Names.{new_func}
use Rattle.py_frames.specs.declared.request.Request.{Request}
use Rattle.py_frames.specs.declared.request.Cause.TheVariants as cause
use Rattle.py_frames.specs.declared.state.State.{State}
use Rattle.py_frames.specs.declared.state.Halt.{Halt}
use Rattle.py_frames.specs.declared.state.Halt.TheVariants.{Asks, Stopped, NoMemory}
use Rattle.py_frames.specs.declared.frame.Now.{Now}
use Rattle.py_frames.specs.declared.frame.Frame.{Frame}
use Rattle.py_frames.specs.declared.functions.Functions.{Functions}
use Rattle.py_frames.specs.declared.going.Going.{Going}
use Rattle.py_frames.specs.Doing.{World, Doing, Known, give, making, made, heap_seen, choose}
use Rattle.py_frames.specs.Asking.{ask}
use Rattle.py_frames.specs.Statements.{known}
use Rattle.py_frames.specs.Frames.{GoesOn, told, finish, stops_as, within, KeepsRoom}
use Rattle.py_frames.proofs.BeginLaws.{making_told, stops_as-finish, pushed}

-- what a meaning reads from the heap is what stands there at its begin
pub looked : {A : Type 0} (fns : Functions) (frozen : Made) (r : Result Now Halt) (x y : Going) (budget : ℕ) (look : Seen → A) (m : A → Known → Doing) (a : A) → a ≡ look (seen frozen x.state.heap) → GoesOn fns frozen r x y budget (m a) → GoesOn fns frozen r x y budget (λ k w s. m (look (heap_seen k s)) k w s)
unfolding GoesOn
looked fns frozen r x y budget look m a e h =
    let P : _ → Type 0 = λ z. GoesOn fns frozen r x y budget (m z) in subst P e h

-- one meaning for another that is the same
pub same_goes : {A : Type 0} (fns : Functions) (frozen : Made) (r : Result Now Halt) (x y : Going) (budget : ℕ) (m : A → Known → Doing) (a b : A) → a ≡ b → GoesOn fns frozen r x y budget (m a) → GoesOn fns frozen r x y budget (m b)
same_goes fns frozen r x y budget m a b e h = let P : _ → Type 0 = λ z. GoesOn fns frozen r x y budget (m z) in subst P e h

-- what is the same in each world, from where it begins
pub same_runs : (fns : Functions) (frozen : Made) (r : Result Now Halt) (x y : Going) (budget : ℕ) (m n : Known → Doing) → ((w : World) → n (known (steps_of fns.program) frozen x.state.here.room) w x.state ≡ m (known (steps_of fns.program) frozen x.state.here.room) w x.state) → GoesOn fns frozen r x y budget m → GoesOn fns frozen r x y budget n
unfolding GoesOn
same_runs fns frozen (Ok now) x y budget m n e h = λ w q. ap (finish (steps_of fns.program) frozen x.state.here.room x.frames w) (e w) ∙ h w q
same_runs fns frozen (Err (Stopped stop)) x y budget m n e h = λ w q. ap (λ o. stops_as (finish (steps_of fns.program) frozen x.state.here.room x.frames w o)) (e w) ∙ h w q
same_runs fns frozen (Err (Asks r)) x y budget m n e h = h
same_runs fns frozen (Err NoMemory) x y budget m n e h = tt

pub func_told : (fns : Functions) (frozen : Made) (given : Result Val ValueStop) (x : Going) (heap : Made) (place : Place) (budget : ℕ) (f : Func) → Answers (paired given heap) (new_func (seen frozen x.state.heap) f) → GoesOn fns frozen (told given place) x (record x { state = record x.state { heap = heap } }) budget (λ k. making (λ s. new_func (heap_seen k s) f) place give)
func_told fns frozen given x heap place budget f h = making_told fns frozen given x heap place budget (λ k s. new_func (heap_seen k s) f) h

moved_heap : (fns : Functions) (frozen : Made) (r : Result Now Halt) (x y : Going) (budget : ℕ) (heap : Made) (m : Known → Doing) → GoesOn fns frozen r (record x { state = record x.state { heap = heap } }) y budget m → GoesOn fns frozen r x y budget (λ k w s. m k w (record s { heap = heap }))
unfolding GoesOn
moved_heap fns frozen r x y budget heap m h = h

-- what was made goes on from there
pub made_ok : {A : Type 0} (fns : Functions) (frozen : Made) (r : Result Now Halt) (x y : Going) (budget : ℕ) (heap : Made) (place : Place) (v : A) (m : Known → State → Result (A × Made) ValueStop) (f : A → Known → Doing) → m (known (steps_of fns.program) frozen x.state.here.room) x.state ≡ Ok (v, heap) → GoesOn fns frozen r (record x { state = record x.state { heap = heap } }) y budget (f v) → GoesOn fns frozen r x y budget (λ k. making (m k) place (λ a. f a k))
made_ok fns frozen r x y budget heap place v m f e h =
    same_runs fns frozen r x y budget (λ k w s. f v k w (record s { heap = heap })) (λ k. making (m k) place (λ a. f a k))
    (λ w. ap (λ z. made z place (λ a. f a (known (steps_of fns.program) frozen x.state.here.room)) w x.state) e)
    (moved_heap fns frozen r x y budget heap (f v) h)

-- what is not made stops, whatever would follow
pub made_err : {A : Type 0} (fns : Functions) (frozen : Made) (x y : Going) (budget : ℕ) (place : Place) (e : ValueStop) (heap : Made) (m : Known → State → Result (A × Made) ValueStop) (f : Known → A → Doing) → Answers (paired {A = A} (Err e) heap) (m (known (steps_of fns.program) frozen x.state.here.room) x.state) → y.state.used ≡ x.state.used → GoesOn fns frozen (told (Err e) place) x y budget (λ k. making (m k) place (f k))
unfolding GoesOn
made_err fns frozen x y budget place refusal.Raised heap m f h q = λ w b. ap (λ r. stops_as (finish (steps_of fns.program) frozen x.state.here.room x.frames w (made r place (f (known (steps_of fns.program) frozen x.state.here.room)) w x.state))) h ∙ stops_as-finish (steps_of fns.program) frozen x.state.here.room x.frames w (record { cause = cause.Raised; place = place }) x.state ∙ ap (λ n. Some (record { cause = cause.Raised; place = place }, n)) (sym q)
made_err fns frozen x y budget place refusal.Width heap m f h q = λ w b. ap (λ r. stops_as (finish (steps_of fns.program) frozen x.state.here.room x.frames w (made r place (f (known (steps_of fns.program) frozen x.state.here.room)) w x.state))) h ∙ stops_as-finish (steps_of fns.program) frozen x.state.here.room x.frames w (record { cause = cause.Width; place = place }) x.state ∙ ap (λ n. Some (record { cause = cause.Width; place = place }, n)) (sym q)
made_err fns frozen x y budget place refusal.Limit heap m f h q = λ w b. ap (λ r. stops_as (finish (steps_of fns.program) frozen x.state.here.room x.frames w (made r place (f (known (steps_of fns.program) frozen x.state.here.room)) w x.state))) h ∙ stops_as-finish (steps_of fns.program) frozen x.state.here.room x.frames w (record { cause = cause.Limit; place = place }) x.state ∙ ap (λ n. Some (record { cause = cause.Limit; place = place }, n)) (sym q)
made_err fns frozen x y budget place refusal.Spent heap m f h q = absurd h
made_err fns frozen x y budget place refusal.NoMemory heap m f h q = tt

-- a choice that is known
pub choose_true : (fns : Functions) (frozen : Made) (r : Result Now Halt) (x y : Going) (budget : ℕ) (b : Bool) (m n : Known → Doing) → b ≡ true → GoesOn fns frozen r x y budget m → GoesOn fns frozen r x y budget (λ k. choose b (m k) (n k))
choose_true fns frozen r x y budget b m n e h = same_goes fns frozen r x y budget (λ z k. choose z (m k) (n k)) true b (sym e) h

pub choose_false : (fns : Functions) (frozen : Made) (r : Result Now Halt) (x y : Going) (budget : ℕ) (b : Bool) (m n : Known → Doing) → b ≡ false → GoesOn fns frozen r x y budget n → GoesOn fns frozen r x y budget (λ k. choose b (m k) (n k))
choose_false fns frozen r x y budget b m n e h = same_goes fns frozen r x y budget (λ z k. choose z (m k) (n k)) false b (sym e) h

pub ruleset choose_rules = (choose_true, choose_false)

-- one request for another that is the same
pub asked_same : (fns : Functions) (frozen : Made) (r : Result Now Halt) (x y : Going) (budget : ℕ) (q p : Request) → q ≡ p → GoesOn fns frozen r x y budget (λ k. ask k q) → GoesOn fns frozen r x y budget (λ k. ask k p)
asked_same fns frozen r x y budget q p e h = same_goes fns frozen r x y budget (λ z k. ask k z) q p e h

-- a frame stands first, and then its part goes on
pub pushed_as : (fns : Functions) (frozen : Made) (r : Result Now Halt) (x y : Going) (budget : ℕ) (f : Frame) (fs : List Frame) (m : Known → Doing) → KeepsRoom f x.state.here.room → fs ≡ f ∷ x.frames → GoesOn fns frozen r (record x { frames = fs }) y budget m → GoesOn fns frozen r x y budget (within f m)
pushed_as fns frozen r x y budget f fs m room e h =
    let P : List Frame → Type 0 = λ g. GoesOn fns frozen r (record x { frames = g }) y budget m in
    pushed fns frozen r x y budget f m room (subst P e h)
