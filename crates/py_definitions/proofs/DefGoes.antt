-- How frames of definitions go on with a value, and with what else may come.
use Rattle.std.proofs.Common.{◌≡◌, ℕ, suc, refl, ap, ◌∙◌, sym, subst, true, false, List, [], ◌∷◌, ◌++◌, Option, Some, None, Result}
use Rattle.py_tree.specs.Steps.{Step}
use Rattle.py_tree.specs.declared.stmt.Stmt.{Stmt}
use Rattle.py_tree.specs.Programs.{step_of}
use Rattle.py_heap.specs.Heaps.{Made, seen}
use Rattle.py_heap.specs.Names.{bindings_at}
use Rattle.py_values.specs.declared.val.Val.{Val}
use Rattle.py_frames.specs.declared.request.NamedVal.{NamedVal}
use Rattle.py_frames.specs.declared.request.Request.{Request}
use Rattle.py_frames.specs.declared.request.Act.TheVariants as act
use Rattle.py_frames.specs.declared.state.Halt.{Halt}
use Rattle.py_frames.specs.declared.state.Here.{Here}
use Rattle.py_frames.specs.declared.state.Got.{Got}
use Rattle.py_frames.specs.declared.frame.Now.{Now}
use Rattle.py_frames.specs.declared.frame.DefFrame.{DefFrame}
use Rattle.py_frames.specs.declared.frame.DefFrame.TheVariants as def
use Rattle.py_frames.specs.declared.functions.Functions.{Functions}
use Rattle.py_frames.specs.declared.going.Going.{Going}
use Rattle.py_frames.specs.Doing.{Doing, Known, on_value, on_next, came}
use Rattle.py_frames.specs.Asking.{request, ask}
use Rattle.py_frames.specs.Values.{named_vals, named_names}
use Rattle.py_frames.specs.Statements.{bound_names}
use Rattle.py_frames.specs.Whole.{body_ended, origin}
use Rattle.py_frames.specs.Stmt_begun.{value_come, leaves}
use Rattle.py_frames.specs.Def_frames.{def_goes, def_value_goes, default_came, class_given, class_left}
use Rattle.py_definitions.specs.Def_begun.{GoesUnder, takes_more}
use Rattle.py_frames.specs.Frames.{GoesOn, def_room}
use Rattle.py_frames.proofs.BeginLaws.{no_memory}
use Rattle.py_frames.proofs.StmtLaws.{meant_same}
use Rattle.py_frames.proofs.StmtGoes.{value_came, value_lacks, next_leaves, next_stays}
use Rattle.py_turns.proofs.IfLaws.{here_same}
use Rattle.py_definitions.proofs.ClassEnds.{under_no_memory}

-- as many calls may still stand in one another
same_room : (fns : Functions) (frozen : Made) (r : Result Now Halt) (x y : Going) (budget : ℕ) (m : Known → Doing) → GoesOn fns frozen r x y budget m → GoesUnder x.state.here.room fns frozen r x y budget m
unfolding GoesOn GoesUnder
same_room fns frozen r x y budget m h = h

under_room : (fns : Functions) (frozen : Made) (r : Result Now Halt) (x y : Going) (budget room : ℕ) (m : Known → Doing) → room ≡ x.state.here.room → GoesOn fns frozen r x y budget m → GoesUnder room fns frozen r x y budget m
under_room fns frozen r x y budget room m e h =
    let P : ℕ → Type 0 = λ j. GoesUnder j fns frozen r x y budget m in
    subst P (sym e) (same_room fns frozen r x y budget m h)

room_kept : (room : ℕ) (f : DefFrame) → takes_more f ≡ false → def_room room f ≡ room
room_kept room (def.Default s n vs) e = refl
room_kept room (def.Annotation s n vs) e = refl
room_kept room (def.ResultType s vs) e = refl
room_kept room (def.ClassArgument s n vs kw) e = refl
room_kept room (def.ClassSpread s n vs kw) e = refl
room_kept room (def.ClassList s) e = refl
room_kept room (def.ClassBody s base kw outer) e = cc
room_kept room (def.ClassTold s) e = refl
room_kept room def.FileBody e = refl

-- a frame that waits for a value
value_frame : (k : Known) (f : DefFrame) (got : Got) → takes_more f ≡ false → def_goes k f got ≡ on_value got (def_value_goes k f)
value_frame k (def.Default s n vs) got e = refl
value_frame k (def.Annotation s n vs) got e = refl
value_frame k (def.ResultType s vs) got e = refl
value_frame k (def.ClassArgument s n vs kw) got e = refl
value_frame k (def.ClassSpread s n vs kw) got e = refl
value_frame k (def.ClassList s) got e = refl
value_frame k (def.ClassBody s base kw outer) got e = cc
value_frame k (def.ClassTold s) got e = refl
value_frame k def.FileBody got e = cc

pub def_takes : (fns : Functions) (frozen : Made) (r : Result Now Halt) (x y : Going) (budget : ℕ) (f : DefFrame) (got : Got) (v : Val) → takes_more f ≡ false → value_come got ≡ Some v → GoesOn fns frozen r x y budget (λ k. def_value_goes k f v) → GoesUnder (def_room x.state.here.room f) fns frozen r x y budget (λ k. def_goes k f got)
def_takes fns frozen r x y budget f got v e1 e2 h =
    under_room fns frozen r x y budget (def_room x.state.here.room f) (λ k. def_goes k f got) (room_kept x.state.here.room f e1)
    (meant_same fns frozen r x y budget (λ k. def_value_goes k f v) (λ k. def_goes k f got) (λ k. value_frame k f got e1 ∙ value_came got v (def_value_goes k f) e2) h)

pub def_hands : (fns : Functions) (frozen : Made) (r : Result Now Halt) (x y : Going) (budget : ℕ) (f : DefFrame) (got : Got) → takes_more f ≡ false → value_come got ≡ None → GoesOn fns frozen r x y budget (λ k. came got) → GoesUnder (def_room x.state.here.room f) fns frozen r x y budget (λ k. def_goes k f got)
def_hands fns frozen r x y budget f got e1 e2 h =
    under_room fns frozen r x y budget (def_room x.state.here.room f) (λ k. def_goes k f got) (room_kept x.state.here.room f e1)
    (meant_same fns frozen r x y budget (λ k. came got) (λ k. def_goes k f got) (λ k. value_frame k f got e1 ∙ value_lacks got (def_value_goes k f) e2) h)

-- what a frame does is what the frame that it is does
pub value_as : (fns : Functions) (frozen : Made) (r : Result Now Halt) (x y : Going) (budget : ℕ) (f g : DefFrame) (v : Val) → f ≡ g → GoesOn fns frozen r x y budget (λ k. def_value_goes k g v) → GoesOn fns frozen r x y budget (λ k. def_value_goes k f v)
value_as fns frozen r x y budget f g v e h =
    let F : DefFrame → Type 0 = λ z. GoesOn fns frozen r x y budget (λ k. def_value_goes k z v) in
    subst F (sym e) h

pub default_as : (fns : Functions) (frozen : Made) (r : Result Now Halt) (x y : Going) (budget : ℕ) (f : DefFrame) (s : Stmt) (n : ℕ) (vs us : List Val) (v : Val) → f ≡ def.Default s n vs → us ≡ vs ++ v ∷ [] → GoesOn fns frozen r x y budget (λ k. default_came k (suc n) (step_of s) us) → GoesOn fns frozen r x y budget (λ k. def_value_goes k f v)
default_as fns frozen r x y budget f s n vs us v e1 e2 h =
    let V : List Val → Type 0 = λ z. GoesOn fns frozen r x y budget (λ k. default_came k (suc n) (step_of s) z) in
    value_as fns frozen r x y budget f (def.Default s n vs) v e1 (subst V e2 h)

-- the body of a class
pub class_goes : (fns : Functions) (frozen : Made) (r : Result Now Halt) (x y : Going) (budget room : ℕ) (f : DefFrame) (s : Stmt) (base : Option Val) (kw : List NamedVal) (outer out : Here) (got : Got) → f ≡ def.ClassBody s base kw outer → out ≡ outer → GoesUnder out.room fns frozen r x y budget (λ k. class_left k (step_of s) base kw out got) → GoesUnder (def_room room f) fns frozen r x y budget (λ k. def_goes k f got)
class_goes fns frozen r x y budget room f s base kw outer out got e q h =
    let F : DefFrame → Type 0 = λ z. GoesUnder (def_room room z) fns frozen r x y budget (λ k. def_goes k z got) in
    let O : Here → Type 0 = λ z. GoesUnder z.room fns frozen r x y budget (λ k. class_left k (step_of s) base kw z got) in
    subst F (sym e) (subst O q h)

-- the file's body
pub file_goes : (fns : Functions) (frozen : Made) (r : Result Now Halt) (x y : Going) (budget : ℕ) (f : DefFrame) (got : Got) → f ≡ def.FileBody → GoesOn fns frozen r x y budget (λ k. on_next got (body_ended k)) → GoesUnder (def_room x.state.here.room f) fns frozen r x y budget (λ k. def_goes k f got)
file_goes fns frozen r x y budget f got e h =
    let F : DefFrame → Type 0 = λ z. GoesUnder (def_room x.state.here.room z) fns frozen r x y budget (λ k. def_goes k z got) in
    subst F (sym e) (same_room fns frozen r x y budget (λ k. on_next got (body_ended k)) h)

pub file_leaves : (fns : Functions) (frozen : Made) (r : Result Now Halt) (x y : Going) (budget : ℕ) (got : Got) → leaves got ≡ true → GoesOn fns frozen r x y budget (λ k. came got) → GoesOn fns frozen r x y budget (λ k. on_next got (body_ended k))
file_leaves fns frozen r x y budget got e h =
    meant_same fns frozen r x y budget (λ k. came got) (λ k. on_next got (body_ended k)) (λ k. next_leaves got (body_ended k) e) h

pub file_ends : (fns : Functions) (frozen : Made) (r : Result Now Halt) (x y : Going) (budget : ℕ) (got : Got) → leaves got ≡ false → GoesOn fns frozen r x y budget (λ k. body_ended k) → GoesOn fns frozen r x y budget (λ k. on_next got (body_ended k))
file_ends fns frozen r x y budget got e h =
    meant_same fns frozen r x y budget (λ k. body_ended k) (λ k. on_next got (body_ended k)) (λ k. next_stays got (body_ended k) e) h

pub end_asks : (fns : Functions) (frozen : Made) (r : Result Now Halt) (x y : Going) (budget : ℕ) (names : List NamedVal) (q : Request) → names ≡ bound_names (bindings_at (seen frozen x.state.heap) 0) → q ≡ request act.BodyEnd (named_vals names) (named_names names) origin → GoesOn fns frozen r x y budget (λ k. ask k q) → GoesOn fns frozen r x y budget (λ k. body_ended k)
end_asks fns frozen r x y budget names q e1 e2 h =
    let R : Request → Type 0 = λ z. GoesOn fns frozen r x y budget (λ k. ask k z) in
    let N : List NamedVal → Type 0 = λ z. GoesOn fns frozen r x y budget (λ k. ask k (request act.BodyEnd (named_vals z) (named_names z) origin)) in
    here_same fns frozen r x y budget (λ k. ask k (request act.BodyEnd (named_vals (bound_names (bindings_at (seen frozen x.state.heap) 0))) (named_names (bound_names (bindings_at (seen frozen x.state.heap) 0))) origin)) (λ k. body_ended k) (λ w. refl)
    (subst N e1 (subst R e2 h))

-- the list that a comprehension made
pub class_lists : (fns : Functions) (frozen : Made) (r : Result Now Halt) (x y : Going) (budget : ℕ) (t : Step) (us vs : List Val) (kw : List NamedVal) (v : Val) → us ≡ [] → vs ≡ us ++ v ∷ [] → kw ≡ [] → GoesOn fns frozen r x y budget (λ k. class_given k t vs kw) → GoesOn fns frozen r x y budget (λ k. class_given k t (v ∷ []) [])
class_lists fns frozen r x y budget t us vs kw v e1 e2 e3 h =
    let V : List Val → Type 0 = λ z. GoesOn fns frozen r x y budget (λ k. class_given k t z []) in
    let W : List NamedVal → Type 0 = λ z. GoesOn fns frozen r x y budget (λ k. class_given k t vs z) in
    subst V (e2 ∙ ap (λ z. z ++ v ∷ []) e1) (subst W e3 h)

pub ruleset goes_rules = (def_takes, def_hands)

pub ruleset left_rules = (class_goes, file_goes, under_no_memory)

pub ruleset file_rules = (file_leaves, file_ends)

pub ruleset end_rules = (end_asks, no_memory)

pub ruleset value_rules = (no_memory)

pub ruleset listed_rules = (class_lists, no_memory)
