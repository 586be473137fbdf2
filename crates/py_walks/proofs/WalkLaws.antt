-- What turns owe that push a frame, take elements, leave a block or enter a scope: laws that targets, comprehensions and
-- loops share.
use Rattle.std.proofs.Common.{◌≡◌, ℕ, ◌==◌, ap, sym, subst, List, ◌∷◌, Result, Ok, Err, Bool, true, false, arith}
use Rattle.amh_host.specs.declared.place.Place.{Place}
use Rattle.py_tree.specs.Programs.{steps_of}
use Rattle.py_heap.specs.Heaps.{Made, seen}
use Rattle.py_operators.specs.Elements.{elements, counts_to}
use Rattle.py_values.specs.declared.val.Val.{Val}
use Rattle.py_values.specs.declared.val.ScopeId.{ScopeId}
use Rattle.py_values.specs.declared.val.ValueStop.{ValueStop}
use Rattle.py_frames.specs.declared.request.Cause.TheVariants as cause
use Rattle.py_frames.specs.declared.request.Stop.{Stop}
use Rattle.py_frames.specs.declared.state.Halt.{Halt}
use Rattle.py_frames.specs.declared.state.Halt.TheVariants.{Asks, Stopped, NoMemory}
use Rattle.py_frames.specs.declared.state.Got.{Got}
use Rattle.py_frames.specs.declared.frame.Now.{Now}
use Rattle.py_frames.specs.declared.frame.Now.TheVariants.{Came}
use Rattle.py_frames.specs.declared.frame.Frame.{Frame}
use Rattle.py_frames.specs.declared.functions.Functions.{Functions}
use Rattle.py_frames.specs.declared.going.Going.{Going}
use Rattle.py_frames.specs.Doing.{Doing, Known, on_next, came, stop, choose, cause_of}
use Rattle.py_frames.specs.Statements.{known}
use Rattle.py_frames.specs.Expressions.{with_elements, on_elements, as_many, back_in}
use Rattle.py_frames.specs.Stmt_begun.{leaves}
use Rattle.py_walks.specs.Walk_parts.{TellsElements}
use Rattle.py_frames.specs.Frames.{GoesOn, KeepsRoom, within}
use Rattle.py_frames.proofs.BeginLaws.{stop_goes, no_memory, pushed}
use Rattle.py_frames.proofs.ExprLaws.{same_total}
use Rattle.py_frames.proofs.StmtLaws.{meant_same, came_goes}
use Rattle.py_frames.proofs.StmtGoes.{next_leaves, next_stays}

-- a part under a frame that was pushed
pub under_frame : (fns : Functions) (frozen : Made) (r : Result Now Halt) (x z : Going) (budget : ℕ) (f : Frame) (fs : List Frame) (m : Known → Doing) → KeepsRoom f x.state.here.room → fs ≡ f ∷ x.frames → GoesOn fns frozen r (record x { frames = fs }) z budget m → GoesOn fns frozen r x z budget (within f m)
under_frame fns frozen r x z budget f fs m room e h =
    let P : List Frame → Type 0 = λ g. GoesOn fns frozen r (record x { frames = g }) z budget m in
    pushed fns frozen r x z budget f m room (subst P e h)

-- ---- what leaves a block, and what does not

pub next_left : (fns : Functions) (frozen : Made) (x : Going) (budget : ℕ) (got : Got) (m : Known → Doing) → leaves got ≡ true → GoesOn fns frozen (Ok (Came got)) x x budget (λ k. on_next got (m k))
next_left fns frozen x budget got m e =
    meant_same fns frozen (Ok (Came got)) x x budget (λ k. came got) (λ k. on_next got (m k)) (λ k. next_leaves got (m k) e) (came_goes fns frozen x budget got)

pub next_on : (fns : Functions) (frozen : Made) (r : Result Now Halt) (x z : Going) (budget : ℕ) (got : Got) (m : Known → Doing) → leaves got ≡ false → GoesOn fns frozen r x z budget m → GoesOn fns frozen r x z budget (λ k. on_next got (m k))
next_on fns frozen r x z budget got m e h =
    meant_same fns frozen r x z budget m (λ k. on_next got (m k)) (λ k. next_stays got (m k) e) h

-- ---- elements

pub counts_hold : (fns : Functions) (frozen : Made) (r : Result Now Halt) (x z : Going) (budget n : ℕ) (v : Val) (p : Place) (m : Known → Doing) → counts_to (seen frozen x.state.heap) v n ≡ true → GoesOn fns frozen r x z budget m → GoesOn fns frozen r x z budget (λ k. as_many k n v p (m k))
counts_hold fns frozen r x z budget n v p m e h =
    same_total fns frozen r x z budget m (λ k. as_many k n v p (m k)) (λ w. ap (λ (b : Bool). choose b (m (known (steps_of fns.program) frozen x.state.here.room)) (stop cause.Raised p) w x.state) (sym e)) h

pub counts_differ : (fns : Functions) (frozen : Made) (x : Going) (budget n : ℕ) (v : Val) (p : Place) (m : Known → Doing) → counts_to (seen frozen x.state.heap) v n ≡ false → GoesOn fns frozen (Err (Stopped (record { cause = cause.Raised; place = p }))) x x budget (λ k. as_many k n v p (m k))
counts_differ fns frozen x budget n v p m e =
    same_total fns frozen (Err (Stopped (record { cause = cause.Raised; place = p }))) x x budget (λ k. stop cause.Raised p) (λ k. as_many k n v p (m k)) (λ w. ap (λ (b : Bool). choose b (m (known (steps_of fns.program) frozen x.state.here.room)) (stop cause.Raised p) w x.state) (sym e)) (stop_goes fns frozen x budget cause.Raised p)

pub elements_come : (fns : Functions) (frozen : Made) (r : Result Now Halt) (x z : Going) (budget : ℕ) (v : Val) (vs : List Val) (p : Place) (f : Known → List Val → Doing) → TellsElements (Ok vs) (elements (seen frozen x.state.heap) v) p → GoesOn fns frozen r x z budget (λ k. f k vs) → GoesOn fns frozen r x z budget (λ k. with_elements k v p (f k))
elements_come fns frozen r x z budget v vs p f e h =
    same_total fns frozen r x z budget (λ k. f k vs) (λ k. with_elements k v p (f k)) (λ w. ap (λ (o : Result (List Val) ValueStop). on_elements o p (f (known (steps_of fns.program) frozen x.state.here.room)) w x.state) (sym e)) h

pub elements_lack : (fns : Functions) (frozen : Made) (h : Halt) (x : Going) (budget : ℕ) (v : Val) (p : Place) (f : Known → List Val → Doing) → TellsElements (Err h) (elements (seen frozen x.state.heap) v) p → GoesOn fns frozen (Err h) x x budget (λ k. with_elements k v p (f k))
elements_lack fns frozen (Stopped st) x budget v p f t =
    let P : Stop → Type 0 = λ z. GoesOn fns frozen (Err (Stopped z)) x x budget (λ k. with_elements k v p (f k)) in
    subst P (sym t.2)
    (same_total fns frozen (Err (Stopped (record { cause = cause_of t.0; place = p }))) x x budget (λ k. stop (cause_of t.0) p) (λ k. with_elements k v p (f k))
    (λ w. ap (λ (o : Result (List Val) ValueStop). on_elements o p (f (known (steps_of fns.program) frozen x.state.here.room)) w x.state) (sym t.1))
    (stop_goes fns frozen x budget (cause_of t.0) p))
elements_lack fns frozen (Asks r) x budget v p f t = absurd t
elements_lack fns frozen NoMemory x budget v p f t = no_memory fns frozen x x budget (λ k. with_elements k v p (f k))

-- ---- sizes

pub is_same : (m n : ℕ) → m ≡ n → (m == n) ≡ true
is_same m n e = grind arith

pub is_other : (m n : ℕ) → (m ≡ n → ⊥) → (m == n) ≡ false
is_other m n e = grind arith

-- ---- scopes

pub back_goes : (fns : Functions) (frozen : Made) (r : Result Now Halt) (x z : Going) (budget : ℕ) (outer : ScopeId) (m : Known → Doing) → GoesOn fns frozen r (record x { state = record x.state { here = record x.state.here { scope = outer } } }) z budget m → GoesOn fns frozen r x z budget (λ k. back_in outer (m k))
unfolding GoesOn
back_goes fns frozen r x z budget outer m h = h

pub ruleset left_rules = (next_left, next_on)
