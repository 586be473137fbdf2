-- How frames of statements go on with a value, and with what else may come.
use Rattle.std.proofs.Common.{◌≡◌, ℕ, refl, ap, ◌∙◌, true, false, Some, None, Result}
use Rattle.py_tree.specs.Steps.{Steps}
use Rattle.py_heap.specs.Heaps.{Made}
use Rattle.py_values.specs.declared.val.Val.{Val}
use Rattle.py_frames.specs.declared.state.Halt.{Halt}
use Rattle.py_frames.specs.declared.state.Got.{Got}
use Rattle.py_frames.specs.declared.state.Got.TheVariants.{Value, Bound, Through, Next, Broke, Continued, Returned}
use Rattle.py_frames.specs.declared.frame.Now.{Now}
use Rattle.py_frames.specs.declared.frame.StmtFrame.{StmtFrame}
use Rattle.py_frames.specs.declared.frame.StmtFrame.TheVariants as stmt
use Rattle.py_frames.specs.declared.functions.Functions.{Functions}
use Rattle.py_frames.specs.declared.going.Going.{Going}
use Rattle.py_frames.specs.Doing.{Doing, Known, on_value, on_next, came}
use Rattle.py_frames.specs.Statements.{run_all, turn_on}
use Rattle.py_frames.specs.Stmt_begun.{takes_any, value_come, leaves, loop_left}
use Rattle.py_frames.specs.Stmt_frames.{stmt_goes, stmt_value_goes}
use Rattle.py_frames.specs.Frames.{GoesOn}
use Rattle.py_frames.proofs.StmtLaws.{meant_same}

-- a frame that waits for a value
value_frame : (k : Known) (f : StmtFrame) (got : Got) → takes_any f ≡ false → stmt_goes k f got ≡ on_value got (stmt_value_goes k f)
value_frame k (stmt.Block b n) got e = cc
value_frame k (stmt.LetGo) got e = refl
value_frame k (stmt.Return) got e = refl
value_frame k (stmt.Asserted s) got e = refl
value_frame k (stmt.Message p) got e = refl
value_frame k (stmt.Imported s n) got e = refl
value_frame k (stmt.AllImported p) got e = cc
value_frame k (stmt.Assigned s) got e = refl
value_frame k (stmt.Assigning s n v) got e = cc
value_frame k (stmt.Annotated s) got e = refl
value_frame k (stmt.Annotating s) got e = cc
value_frame k (stmt.Noted s) got e = refl
value_frame k (stmt.AugmentIndex s x) got e = refl
value_frame k (stmt.AugmentOld s c) got e = refl
value_frame k (stmt.AugmentRight s c x) got e = refl
value_frame k (stmt.AugmentNew s c) got e = refl
value_frame k (stmt.Branch s n) got e = refl
value_frame k (stmt.WhileTest s n) got e = refl
value_frame k (stmt.WhileBody s n) got e = cc
value_frame k (stmt.ForSource s) got e = refl
value_frame k (stmt.ForRow s) got e = refl
value_frame k (stmt.ForBound s w) got e = cc
value_frame k (stmt.ForBody s w) got e = cc
value_frame k (stmt.With s) got e = refl
value_frame k (stmt.Entered s x) got e = refl
value_frame k (stmt.WithBound s x) got e = cc
value_frame k (stmt.WithBody x p) got e = cc
value_frame k (stmt.Left g) got e = refl

pub value_came : (got : Got) (v : Val) (f : Val → Doing) → value_come got ≡ Some v → on_value got f ≡ f v
value_came (Value w) v f e = let q : w ≡ v = cc in ap f q
value_came (Bound names) v f e = cc
value_came (Through w) v f e = cc
value_came Next v f e = cc
value_came Broke v f e = cc
value_came Continued v f e = cc
value_came (Returned w) v f e = cc

pub value_lacks : (got : Got) (f : Val → Doing) → value_come got ≡ None → on_value got f ≡ came got
value_lacks (Value w) f e = cc
value_lacks (Bound names) f e = refl
value_lacks (Through w) f e = refl
value_lacks Next f e = refl
value_lacks Broke f e = refl
value_lacks Continued f e = refl
value_lacks (Returned w) f e = refl

pub goes_value : (fns : Functions) (frozen : Made) (r : Result Now Halt) (x y : Going) (budget : ℕ) (f : StmtFrame) (got : Got) (v : Val) → takes_any f ≡ false → value_come got ≡ Some v → GoesOn fns frozen r x y budget (λ k. stmt_value_goes k f v) → GoesOn fns frozen r x y budget (λ k. stmt_goes k f got)
goes_value fns frozen r x y budget f got v e1 e2 h =
    meant_same fns frozen r x y budget (λ k. stmt_value_goes k f v) (λ k. stmt_goes k f got) (λ k. value_frame k f got e1 ∙ value_came got v (stmt_value_goes k f) e2) h

pub goes_other : (fns : Functions) (frozen : Made) (r : Result Now Halt) (x y : Going) (budget : ℕ) (f : StmtFrame) (got : Got) → takes_any f ≡ false → value_come got ≡ None → GoesOn fns frozen r x y budget (λ k. came got) → GoesOn fns frozen r x y budget (λ k. stmt_goes k f got)
goes_other fns frozen r x y budget f got e1 e2 h =
    meant_same fns frozen r x y budget (λ k. came got) (λ k. stmt_goes k f got) (λ k. value_frame k f got e1 ∙ value_lacks got (stmt_value_goes k f) e2) h

-- what leaves a block, and what does not
pub next_leaves : (got : Got) (m : Doing) → leaves got ≡ true → on_next got m ≡ came got
next_leaves (Value w) m e = cc
next_leaves (Bound names) m e = cc
next_leaves (Through w) m e = cc
next_leaves Next m e = cc
next_leaves Broke m e = refl
next_leaves Continued m e = refl
next_leaves (Returned w) m e = refl

pub next_stays : (got : Got) (m : Doing) → leaves got ≡ false → on_next got m ≡ m
next_stays (Value w) m e = refl
next_stays (Bound names) m e = refl
next_stays (Through w) m e = refl
next_stays Next m e = refl
next_stays Broke m e = cc
next_stays Continued m e = cc
next_stays (Returned w) m e = cc

pub block_left : (fns : Functions) (frozen : Made) (r : Result Now Halt) (x y : Going) (budget : ℕ) (ss : Steps) (got : Got) → leaves got ≡ true → GoesOn fns frozen r x y budget (λ k. came got) → GoesOn fns frozen r x y budget (λ k. on_next got (run_all k ss))
block_left fns frozen r x y budget ss got e h =
    meant_same fns frozen r x y budget (λ k. came got) (λ k. on_next got (run_all k ss)) (λ k. next_leaves got (run_all k ss) e) h

pub block_stays : (fns : Functions) (frozen : Made) (r : Result Now Halt) (x y : Going) (budget : ℕ) (ss : Steps) (got : Got) → leaves got ≡ false → GoesOn fns frozen r x y budget (λ k. run_all k ss) → GoesOn fns frozen r x y budget (λ k. on_next got (run_all k ss))
block_stays fns frozen r x y budget ss got e h =
    meant_same fns frozen r x y budget (λ k. run_all k ss) (λ k. on_next got (run_all k ss)) (λ k. next_stays got (run_all k ss) e) h

-- what a turn of a loop leaves
pub turn_ends : (got left : Got) (m : Doing) → loop_left got ≡ Some left → turn_on got m ≡ came left
turn_ends (Value w) left m e = cc
turn_ends (Bound names) left m e = cc
turn_ends (Through w) left m e = cc
turn_ends Next left m e = cc
turn_ends Broke left m e = let q : Next ≡ left = cc in ap came q
turn_ends Continued left m e = cc
turn_ends (Returned w) left m e = let q : Returned w ≡ left = cc in ap came q

pub turn_stays : (got : Got) (m : Doing) → loop_left got ≡ None → turn_on got m ≡ m
turn_stays (Value w) m e = refl
turn_stays (Bound names) m e = refl
turn_stays (Through w) m e = refl
turn_stays Next m e = refl
turn_stays Broke m e = cc
turn_stays Continued m e = refl
turn_stays (Returned w) m e = cc

pub ruleset goes_rules = (goes_value, goes_other)

pub ruleset left_rules = (block_left, block_stays)
