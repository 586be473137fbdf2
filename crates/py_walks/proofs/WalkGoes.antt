-- How frames of comprehensions and of targets go on with a value, and with what else may come.
use Rattle.std.proofs.Common.{◌≡◌, ℕ, refl, ◌∙◌, sym, subst, List, false, Some, None, Result, Ok}
use Rattle.py_heap.specs.Heaps.{Made}
use Rattle.py_values.specs.declared.val.ScopeId.{ScopeId}
use Rattle.py_values.specs.declared.val.Val.{Val}
use Rattle.py_frames.specs.declared.state.Halt.{Halt}
use Rattle.py_frames.specs.declared.state.Got.{Got}
use Rattle.py_frames.specs.declared.frame.Now.{Now}
use Rattle.py_frames.specs.declared.frame.Now.TheVariants.{Came}
use Rattle.py_frames.specs.declared.frame.Comprehended.{Comprehended}
use Rattle.py_frames.specs.declared.frame.Walk.{Walk}
use Rattle.py_frames.specs.declared.frame.WalkFrame.{WalkFrame}
use Rattle.py_frames.specs.declared.frame.WalkFrame.TheVariants as walk
use Rattle.py_frames.specs.declared.functions.Functions.{Functions}
use Rattle.py_frames.specs.declared.going.Going.{Going}
use Rattle.py_frames.specs.Doing.{Known, on_value, came}
use Rattle.py_frames.specs.Stmt_begun.{value_come}
use Rattle.py_frames.specs.Walk_frames.{walk_goes, walk_value_goes}
use Rattle.py_walks.specs.Walk_parts.{takes_any}
use Rattle.py_frames.specs.Frames.{GoesOn}
use Rattle.py_frames.proofs.BeginLaws.{no_memory}
use Rattle.py_frames.proofs.StmtLaws.{meant_same, came_goes}
use Rattle.py_frames.proofs.StmtGoes.{value_came, value_lacks}

-- a frame that waits for a value
value_frame : (k : Known) (f : WalkFrame) (got : Got) → takes_any f ≡ false → walk_goes k f got ≡ on_value got (walk_value_goes k f)
value_frame k (walk.Source c) got e = refl
value_frame k (walk.SourceRow c) got e = refl
value_frame k (walk.Bound c w done outer) got e = cc
value_frame k (walk.Tested c w done outer) got e = refl
value_frame k (walk.Made c w done outer) got e = refl
value_frame k (walk.PairMade c w done outer key) got e = refl
value_frame k (walk.Unpacked node) got e = refl
value_frame k (walk.Unpacking node n vs) got e = cc
value_frame k (walk.StoredAt x v p) got e = refl

pub goes_value : (fns : Functions) (frozen : Made) (r : Result Now Halt) (x z : Going) (budget : ℕ) (f : WalkFrame) (got : Got) (v : Val) → takes_any f ≡ false → Some v ≡ value_come got → GoesOn fns frozen r x z budget (λ k. walk_value_goes k f v) → GoesOn fns frozen r x z budget (λ k. walk_goes k f got)
goes_value fns frozen r x z budget f got v e1 e2 h =
    meant_same fns frozen r x z budget (λ k. walk_value_goes k f v) (λ k. walk_goes k f got) (λ k. value_frame k f got e1 ∙ value_came got v (walk_value_goes k f) (sym e2)) h

pub goes_other : (fns : Functions) (frozen : Made) (x : Going) (budget : ℕ) (f : WalkFrame) (got : Got) → takes_any f ≡ false → None ≡ value_come got → GoesOn fns frozen (Ok (Came got)) x x budget (λ k. walk_goes k f got)
goes_other fns frozen x budget f got e1 e2 =
    meant_same fns frozen (Ok (Came got)) x x budget (λ k. came got) (λ k. walk_goes k f got) (λ k. value_frame k f got e1 ∙ value_lacks got (walk_value_goes k f) (sym e2)) (came_goes fns frozen x budget got)

-- a frame of a known kind
pub value_as : (fns : Functions) (frozen : Made) (r : Result Now Halt) (x z : Going) (budget : ℕ) (f g : WalkFrame) (v : Val) → f ≡ g → GoesOn fns frozen r x z budget (λ k. walk_value_goes k g v) → GoesOn fns frozen r x z budget (λ k. walk_value_goes k f v)
value_as fns frozen r x z budget f g v e h =
    let P : WalkFrame → Type 0 = λ a. GoesOn fns frozen r x z budget (λ k. walk_value_goes k a v) in
    subst P (sym e) h

-- a key that was made waits with its walk held apart
pub pair_as : (fns : Functions) (frozen : Made) (r : Result Now Halt) (x z : Going) (budget : ℕ) (f : WalkFrame) (c : Comprehended) (w out : Walk) (done : List Val) (outer : ScopeId) (key v : Val) → f ≡ walk.PairMade c w done outer key → out ≡ w → GoesOn fns frozen r x z budget (λ k. walk_value_goes k (walk.PairMade c out done outer key) v) → GoesOn fns frozen r x z budget (λ k. walk_value_goes k f v)
pair_as fns frozen r x z budget f c w out done outer key v e q h =
    let P : Walk → Type 0 = λ a. GoesOn fns frozen r x z budget (λ k. walk_value_goes k (walk.PairMade c a done outer key) v) in
    value_as fns frozen r x z budget f (walk.PairMade c w done outer key) v e (subst P q h)

pub frame_as : (fns : Functions) (frozen : Made) (r : Result Now Halt) (x z : Going) (budget : ℕ) (f g : WalkFrame) (got : Got) → f ≡ g → GoesOn fns frozen r x z budget (λ k. walk_goes k g got) → GoesOn fns frozen r x z budget (λ k. walk_goes k f got)
frame_as fns frozen r x z budget f g got e h =
    let P : WalkFrame → Type 0 = λ a. GoesOn fns frozen r x z budget (λ k. walk_goes k a got) in
    subst P (sym e) h

pub ruleset goes_rules = (goes_value, goes_other)

pub ruleset left_rules = (no_memory)

pub ruleset value_rules = (came_goes)
