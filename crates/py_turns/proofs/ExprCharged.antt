-- What a turn owes where a value of the heap costs units.
use Rattle.std.proofs.Common.{◌≡◌, ℕ, ◌<◌, ◌≤◌, ◌+◌, ◌-◌, refl, ap, ◌∙◌, sym, subst, List, [], ◌∷◌, Some, Result, Ok, Err, Bool, true, false, OnOk, arith}
use Rattle.amh_host.specs.declared.place.Place.{Place}
use Rattle.py_tree.specs.Programs.{steps_of}
use Rattle.py_heap.specs.Heaps.{Made}
use Rattle.py_values.specs.declared.val.Val.{Val}
use Rattle.py_values.specs.declared.val.ValueStop.{ValueStop}
use Rattle.py_values.specs.declared.val.ValueStop.TheVariants as refusal
use Rattle.py_values.specs.declared.op.PyOp.{PyOp}
use Rattle.py_values.specs.declared.op.Builtin.{Builtin}
use Rattle.py_values.specs.Runs.{Run, free, Answers, Charged, paired}
use Rattle.py_operators.specs.Operators.{operate}
use Rattle.py_builtins.specs.Builtins.{builtin}
use Rattle.py_frames.specs.declared.request.Cause.TheVariants as cause
use Rattle.py_frames.specs.declared.request.Act.TheVariants.{Operator}
use Rattle.py_frames.specs.declared.state.Halt.{Halt}
use Rattle.py_frames.specs.declared.state.Halt.TheVariants.{Stopped, NoMemory}
use Rattle.py_frames.specs.declared.frame.Now.{Now}
use Rattle.py_frames.specs.declared.functions.Functions.{Functions}
use Rattle.py_frames.specs.declared.going.Going.{Going}
use Rattle.py_frames.specs.declared.state.State.{State}
use Rattle.py_frames.specs.Statements.{known}
use Rattle.py_frames.specs.Doing.{Doing, Known, spend_each, give, made, charging, choose}
use Rattle.py_frames.specs.Asking.{request, ask}
use Rattle.py_frames.specs.Values.{asks_operator, sign_of, operated, turned, built}
use Rattle.py_values.specs.declared.val.Val.TheVariants as val
use Rattle.py_frames.specs.Frames.{told, GoesOn}
use Rattle.py_frames.proofs.BeginLaws.{making_told}
use Rattle.py_frames.proofs.ExprLaws.{same_total, units_spent, units_short}

pub charged_made : (fns : Functions) (frozen : Made) (given : Result Val ValueStop) (x : Going) (heap : Made) (place : Place) (budget left used n : ℕ) (a : Result (Val × Made) ValueStop) → x.state.used < budget → used ≡ budget - left → left + n ≡ budget - x.state.used → 0 < left → Answers (paired given heap) a → GoesOn fns frozen (told given place) x (record x { state = record x.state { heap = heap; used = used } }) budget (λ k. spend_each n place (made a place give))
charged_made fns frozen given x heap place budget left used n a lt e1 e2 pos_left h =
    let e : used ≡ x.state.used + n = omega arith in
    let P : ℕ → Type 0 = λ z. GoesOn fns frozen (told given place) x (record x { state = record x.state { heap = heap; used = z } }) budget (λ k. spend_each n place (made a place give)) in
    subst P (sym e)
    (units_spent fns frozen (told given place) x (record x { state = record x.state { heap = heap; used = x.state.used + n } }) budget n place (λ k. made a place give) (omega arith) (omega arith)
    (making_told fns frozen given (record x { state = record x.state { used = x.state.used + n } }) heap place budget (λ k s. a) h))

pub charged_short : (fns : Functions) (frozen : Made) (x : Going) (heap : Made) (place : Place) (budget used n : ℕ) (a : Result (Val × Made) ValueStop) → used ≡ budget → budget ≤ x.state.used + n → GoesOn fns frozen (Err (Stopped (record { cause = cause.Spent; place = place }))) x (record x { state = record x.state { heap = heap; used = used } }) budget (λ k. spend_each n place (made a place give))
unfolding GoesOn
charged_short fns frozen x heap place budget used n a e h =
    λ w q. (units_short fns frozen x budget n place (λ k. made a place give) h) w q ∙ ap (λ (z : ℕ). Some (record { cause = cause.Spent; place = place }, z)) (sym e)

charged_none : (fns : Functions) (frozen : Made) (x y : Going) (budget : ℕ) (m : Known → Doing) → GoesOn fns frozen (Err NoMemory) x y budget m
unfolding GoesOn
charged_none fns frozen x y budget m = tt

charged_run : (fns : Functions) (frozen : Made) (given : Result Val ValueStop) (x : Going) (heap : Made) (place : Place) (budget left used : ℕ) (run : Run (Val × Made)) → x.state.used < budget → (x.state.used ≤ budget - left → used ≡ budget - left) → Charged (paired given heap) (budget - x.state.used) left run → GoesOn fns frozen (told given place) x (record x { state = record x.state { heap = heap; used = used } }) budget (λ k. spend_each run.cost place (made run.answer place give))
charged_run fns frozen (Ok v) x heap place budget left used run lt f h = charged_made fns frozen (Ok v) x heap place budget left used run.cost run.answer lt (f (omega (arith, h.1, h.2))) h.1 h.2 h.0
charged_run fns frozen (Err refusal.Raised) x heap place budget left used run lt f h = charged_made fns frozen (Err refusal.Raised) x heap place budget left used run.cost run.answer lt (f (omega (arith, h.1, h.2))) h.1 h.2 h.0
charged_run fns frozen (Err refusal.Width) x heap place budget left used run lt f h = charged_made fns frozen (Err refusal.Width) x heap place budget left used run.cost run.answer lt (f (omega (arith, h.1, h.2))) h.1 h.2 h.0
charged_run fns frozen (Err refusal.Limit) x heap place budget left used run lt f h = charged_made fns frozen (Err refusal.Limit) x heap place budget left used run.cost run.answer lt (f (omega (arith, h.1, h.2))) h.1 h.2 h.0
charged_run fns frozen (Err refusal.Spent) x heap place budget left used run lt f h =
    let e : used ≡ budget - left = f (omega (arith, h.1)) in
    charged_short fns frozen x heap place budget used run.cost run.answer (omega (arith, h.1)) (omega (arith, h.0))
charged_run fns frozen (Err refusal.NoMemory) x heap place budget left used run lt f h = charged_none fns frozen x (record x { state = record x.state { heap = heap; used = used } }) budget (λ k. spend_each run.cost place (made run.answer place give))

-- what costs units, and is told
pub charged_told : (fns : Functions) (frozen : Made) (given : Result Val ValueStop) (x : Going) (heap : Made) (place : Place) (budget left used : ℕ) (m : Known → State → Run (Val × Made)) → x.state.used < budget → (x.state.used ≤ budget - left → used ≡ budget - left) → Charged (paired given heap) (budget - x.state.used) left (m (known (steps_of fns.program) frozen x.state.here.room) x.state) → GoesOn fns frozen (told given place) x (record x { state = record x.state { heap = heap; used = used } }) budget (λ k. charging (m k) place give)
charged_told fns frozen given x heap place budget left used m lt f h =
    let run : Run (Val × Made) = m (known (steps_of fns.program) frozen x.state.here.room) x.state in
    same_total fns frozen (told given place) x (record x { state = record x.state { heap = heap; used = used } }) budget (λ k. spend_each run.cost place (made run.answer place give)) (λ k. charging (m k) place give) (λ w. refl)
    (charged_run fns frozen given x heap place budget left used run lt f h)

-- where a value came, units are left
pub charged_left : (given : Result Val ValueStop) (heap : Made) (place : Place) (budget before left used : ℕ) (run : Run (Val × Made)) → before < budget → (before ≤ budget - left → used ≡ budget - left) → Charged (paired given heap) (budget - before) left run → OnOk (told given place) (used < budget)
charged_left (Ok v) heap place budget before left used run lt f h = let e : used ≡ budget - left = f (omega (arith, h.1, h.2)) in omega (arith, h.2)
charged_left (Err refusal.Raised) heap place budget before left used run lt f h = tt
charged_left (Err refusal.Width) heap place budget before left used run lt f h = tt
charged_left (Err refusal.Limit) heap place budget before left used run lt f h = tt
charged_left (Err refusal.Spent) heap place budget before left used run lt f h = tt
charged_left (Err refusal.NoMemory) heap place budget before left used run lt f h = tt

-- ---- operators and builtins

pub operator_told : (fns : Functions) (frozen : Made) (given : Result Val ValueStop) (x : Going) (heap : Made) (place : Place) (budget left used : ℕ) (o : PyOp) (a b : Val) → x.state.used < budget → (x.state.used ≤ budget - left → used ≡ budget - left) → Charged (paired given heap) (budget - x.state.used) left (operate frozen x.state.heap o a b) → GoesOn fns frozen (told given place) x (record x { state = record x.state { heap = heap; used = used } }) budget (λ k. charging (λ s. operate k.frozen s.heap o a b) place give)
operator_told fns frozen given x heap place budget left used o a b lt f h = charged_told fns frozen given x heap place budget left used (λ k s. operate k.frozen s.heap o a b) lt f h

pub built_told : (fns : Functions) (frozen : Made) (given : Result Val ValueStop) (x : Going) (heap : Made) (place : Place) (budget left used : ℕ) (b : Builtin) (vals : List Val) → x.state.used < budget → (x.state.used ≤ budget - left → used ≡ budget - left) → Charged (paired given heap) (budget - x.state.used) left (free (builtin frozen x.state.heap b vals)) → GoesOn fns frozen (told given place) x (record x { state = record x.state { heap = heap; used = used } }) budget (λ k. built k b vals place)
built_told fns frozen given x heap place budget left used b vals lt f h = charged_told fns frozen given x heap place budget left used (λ k s. free (builtin k.frozen s.heap b vals)) lt f h

pub operated_asks : (fns : Functions) (frozen : Made) (r : Result Now Halt) (x y : Going) (budget : ℕ) (o : PyOp) (a b : Val) (place : Place) → asks_operator o a b ≡ true → GoesOn fns frozen r x y budget (λ k. ask k (request Operator (a ∷ b ∷ []) (sign_of o ∷ []) place)) → GoesOn fns frozen r x y budget (λ k. operated k o a b place)
operated_asks fns frozen r x y budget o a b place e h =
    let P : Bool → Type 0 = λ z. GoesOn fns frozen r x y budget (λ k. choose z (ask k (request Operator (a ∷ b ∷ []) (sign_of o ∷ []) place)) (charging (λ s. operate k.frozen s.heap o a b) place give)) in
    subst P (sym e) h

pub operated_made : (fns : Functions) (frozen : Made) (r : Result Now Halt) (x y : Going) (budget : ℕ) (o : PyOp) (a b : Val) (place : Place) → asks_operator o a b ≡ false → GoesOn fns frozen r x y budget (λ k. charging (λ s. operate k.frozen s.heap o a b) place give) → GoesOn fns frozen r x y budget (λ k. operated k o a b place)
operated_made fns frozen r x y budget o a b place e h =
    let P : Bool → Type 0 = λ z. GoesOn fns frozen r x y budget (λ k. choose z (ask k (request Operator (a ∷ b ∷ []) (sign_of o ∷ []) place)) (charging (λ s. operate k.frozen s.heap o a b) place give)) in
    subst P (sym e) h

pub turned_asks : (fns : Functions) (frozen : Made) (r : Result Now Halt) (x y : Going) (budget : ℕ) (o : PyOp) (a : Val) (place : Place) → asks_operator o a val.None ≡ true → GoesOn fns frozen r x y budget (λ k. ask k (request Operator (a ∷ []) (sign_of o ∷ []) place)) → GoesOn fns frozen r x y budget (λ k. turned k o a place)
turned_asks fns frozen r x y budget o a place e h =
    let P : Bool → Type 0 = λ z. GoesOn fns frozen r x y budget (λ k. choose z (ask k (request Operator (a ∷ []) (sign_of o ∷ []) place)) (charging (λ s. operate k.frozen s.heap o a val.None) place give)) in
    subst P (sym e) h

pub turned_made : (fns : Functions) (frozen : Made) (r : Result Now Halt) (x y : Going) (budget : ℕ) (o : PyOp) (a : Val) (place : Place) → asks_operator o a val.None ≡ false → GoesOn fns frozen r x y budget (λ k. charging (λ s. operate k.frozen s.heap o a val.None) place give) → GoesOn fns frozen r x y budget (λ k. turned k o a place)
turned_made fns frozen r x y budget o a place e h =
    let P : Bool → Type 0 = λ z. GoesOn fns frozen r x y budget (λ k. choose z (ask k (request Operator (a ∷ []) (sign_of o ∷ []) place)) (charging (λ s. operate k.frozen s.heap o a val.None) place give)) in
    subst P (sym e) h
