-- How definitions of functions go on.
use Rattle.std.proofs.Common.{◌≡◌, ℕ, suc, ◌+◌, add-one, refl, ap, ◌∙◌, sym, subst, List, [], ◌∷◌, ◌++◌, Option, Some, None, Result, Ok, Err}
use Rattle.amh_host.specs.declared.place.Place.{Place}
use Rattle.py_tree.specs.declared.stmt.Stmt.{Stmt}
use Rattle.py_tree.specs.Programs.{step_of, steps_of}
use Rattle.py_tree.specs.Tree.{Tree, Perhaps, absent, present}
use Rattle.py_tree.specs.Steps.{Step, Def, Body, Fun, Parameter}
use Rattle.py_values.specs.declared.val.Val.{Val}
use Rattle.py_values.specs.declared.val.ScopeId.{ScopeId}
use Rattle.py_values.specs.declared.val.ValueStop.{ValueStop}
use Rattle.py_heap.specs.Heaps.{Made, seen}
use Rattle.py_heap.specs.Names.{new_func}
use Rattle.py_frames.specs.declared.state.State.{State}
use Rattle.py_frames.specs.declared.state.Halt.{Halt}
use Rattle.py_frames.specs.declared.state.Halt.TheVariants.{Asks, Stopped, NoMemory}
use Rattle.py_frames.specs.declared.state.Got.TheVariants.{Next}
use Rattle.py_frames.specs.declared.frame.Now.{Now}
use Rattle.py_frames.specs.declared.frame.Purpose.TheVariants.{Plain}
use Rattle.py_frames.specs.declared.frame.DefFrame.TheVariants as def
use Rattle.py_frames.specs.declared.frame.Frame.TheVariants as frame
use Rattle.py_frames.specs.declared.functions.Functions.{Functions}
use Rattle.py_frames.specs.declared.going.Going.{Going}
use Rattle.py_frames.specs.Doing.{Doing, Known, after, on_value, came, made, making, heap_seen, ◌>>=◌}
use Rattle.py_frames.specs.Own.{body_name}
use Rattle.py_frames.specs.Functions.{body_place}
use Rattle.py_frames.specs.Values.{bind}
use Rattle.py_frames.specs.Expressions.{value_of, seen_from}
use Rattle.py_frames.specs.Statements.{known, dropped, new_function, parameters_of}
use Rattle.py_frames.specs.Stmt_begun.{run_after}
use Rattle.py_frames.specs.Def_frames.{parameters_from, function_bound, annotated_from, defaults_from, default_came, annotation_came, result_came}
use Rattle.py_definitions.specs.Def_begun.{first_default, first_annotation, result_of, result_then}
use Rattle.py_frames.specs.Frames.{finish, stops_as, GoesOn, within}
use Rattle.py_frames.proofs.BeginLaws.{no_memory}
use Rattle.py_frames.proofs.StmtLaws.{meant_same}
use Rattle.py_definitions.proofs.ParamLaws.{defaults_end, defaults_next, annotations_end, annotations_next}

-- what is made in the heap, and what goes on behind it
pub making_goes : {A : Type 0} → (fns : Functions) (frozen : Made) (r : Result Now Halt) (x z : Going) (budget : ℕ) (heap : Made) (v : A) (p : Place) (m : Known → State → Result (A × Made) ValueStop) (f : Known → A → Doing) → m (known (steps_of fns.program) frozen x.state.here.room) x.state ≡ Ok (v, heap) → GoesOn fns frozen r (record x { state = record x.state { heap = heap } }) z budget (λ k. f k v) → GoesOn fns frozen r x z budget (λ k. making (m k) p (f k))
unfolding GoesOn
making_goes fns frozen (Ok now) x z budget heap v p m f e h = λ w q. ap (λ o. finish (steps_of fns.program) frozen x.state.here.room x.frames w (made o p (f (known (steps_of fns.program) frozen x.state.here.room)) w x.state)) e ∙ h w q
making_goes fns frozen (Err (Stopped stop)) x z budget heap v p m f e h = λ w q. ap (λ o. stops_as (finish (steps_of fns.program) frozen x.state.here.room x.frames w (made o p (f (known (steps_of fns.program) frozen x.state.here.room)) w x.state))) e ∙ h w q
making_goes fns frozen (Err (Asks a)) x z budget heap v p m f e h = h
making_goes fns frozen (Err NoMemory) x z budget heap v p m f e h = tt

-- a definition, from the first default on
pub def_begins : (fns : Functions) (frozen : Made) (r : Result Now Halt) (x y : Going) (budget : ℕ) (p : Place) (f : Body) (t : Step) → t ≡ Def p f → GoesOn fns frozen r x y budget (λ k. defaults_from k p 0 f []) → GoesOn fns frozen r x y budget (λ k. run_after k t)
def_begins fns frozen r x y budget p (Fun q name is_async params result body) t e h =
    let N : Step → Type 0 = λ z. GoesOn fns frozen r x y budget (λ k. run_after k z) in
    subst N (sym e) h

pub default_waits : (fns : Functions) (frozen : Made) (r : Result Now Halt) (x y : Going) (budget n i : ℕ) (p : Place) (f : Body) (ps : List Parameter) (a : Tree) (t : Step) (node : Stmt) (vs : List Val) → t ≡ Def p f → step_of node ≡ t → ps ≡ parameters_of f → first_default n (parameters_from n ps) ≡ Some (i, a) → GoesOn fns frozen r x y budget (within (frame.Def (def.Default node i vs)) (λ k. value_of k Plain a)) → GoesOn fns frozen r x y budget (λ k. defaults_from k p n f vs)
default_waits fns frozen r x y budget n i p (Fun q name is_async params result body) ps a t node vs e1 e2 e3 e4 h =
    let f : Body = Fun q name is_async params result body in
    let S : Step → Type 0 = λ z. GoesOn fns frozen r x y budget (λ k w s. after (value_of k Plain a w s) (λ got. on_value got (λ v. default_came k (suc i) z (vs ++ v ∷ [])) w)) in
    meant_same fns frozen r x y budget (λ k. value_of k Plain a >>= (λ v. defaults_from k p (suc i) f (vs ++ v ∷ []))) (λ k. defaults_from k p n f vs)
    (λ k. defaults_next k vs (annotated_from k p 0 f) params (parameters_from n params) n i a refl (ap (λ z. first_default n (parameters_from n z)) (sym e3) ∙ e4)) (subst S (e2 ∙ e1) h)

pub defaults_done : (fns : Functions) (frozen : Made) (r : Result Now Halt) (x y : Going) (budget n : ℕ) (p : Place) (f : Body) (ps : List Parameter) (vs : List Val) → ps ≡ parameters_of f → first_default n (parameters_from n ps) ≡ None → GoesOn fns frozen r x y budget (λ k. annotated_from k p 0 f vs) → GoesOn fns frozen r x y budget (λ k. defaults_from k p n f vs)
defaults_done fns frozen r x y budget n p (Fun q name is_async params result body) ps vs e1 e2 h =
    let f : Body = Fun q name is_async params result body in
    meant_same fns frozen r x y budget (λ k. annotated_from k p 0 f vs) (λ k. defaults_from k p n f vs)
    (λ k. defaults_end k vs (annotated_from k p 0 f) (parameters_from n params) n (ap (λ z. first_default n (parameters_from n z)) (sym e1) ∙ e2)) h

pub annotation_waits : (fns : Functions) (frozen : Made) (r : Result Now Halt) (x y : Going) (budget n i : ℕ) (p : Place) (f : Body) (ps : List Parameter) (a : Tree) (t : Step) (node : Stmt) (vs : List Val) → t ≡ Def p f → step_of node ≡ t → ps ≡ parameters_of f → first_annotation n (parameters_from n ps) ≡ Some (i, a) → GoesOn fns frozen r x y budget (within (frame.Def (def.Annotation node i vs)) (λ k. value_of k Plain a)) → GoesOn fns frozen r x y budget (λ k. annotated_from k p n f vs)
annotation_waits fns frozen r x y budget n i p (Fun q name is_async params result body) ps a t node vs e1 e2 e3 e4 h =
    let f : Body = Fun q name is_async params result body in
    let S : Step → Type 0 = λ z. GoesOn fns frozen r x y budget (λ k w s. after (value_of k Plain a w s) (λ got. on_value got (λ v. annotation_came k (suc i) z vs) w)) in
    meant_same fns frozen r x y budget (λ k. value_of k Plain a >>= (λ v. annotated_from k p (suc i) f vs)) (λ k. annotated_from k p n f vs)
    (λ k. annotations_next k (result_then k p f vs) params (parameters_from n params) n i a refl (ap (λ z. first_annotation n (parameters_from n z)) (sym e3) ∙ e4)) (subst S (e2 ∙ e1) h)

pub annotations_done : (fns : Functions) (frozen : Made) (r : Result Now Halt) (x y : Going) (budget n : ℕ) (p : Place) (f : Body) (ps : List Parameter) (vs : List Val) → ps ≡ parameters_of f → first_annotation n (parameters_from n ps) ≡ None → GoesOn fns frozen r x y budget (λ k. result_then k p f vs) → GoesOn fns frozen r x y budget (λ k. annotated_from k p n f vs)
annotations_done fns frozen r x y budget n p (Fun q name is_async params result body) ps vs e1 e2 h =
    let f : Body = Fun q name is_async params result body in
    meant_same fns frozen r x y budget (λ k. result_then k p f vs) (λ k. annotated_from k p n f vs)
    (λ k. annotations_end k (result_then k p f vs) (parameters_from n params) n (ap (λ z. first_annotation n (parameters_from n z)) (sym e1) ∙ e2)) h

-- the annotation of what a function gives
pub result_waits : (fns : Functions) (frozen : Made) (r : Result Now Halt) (x y : Going) (budget : ℕ) (p : Place) (f : Body) (a : Tree) (t : Step) (node : Stmt) (vs : List Val) → t ≡ Def p f → step_of node ≡ t → result_of f ≡ present a → GoesOn fns frozen r x y budget (within (frame.Def (def.ResultType node vs)) (λ k. value_of k Plain a)) → GoesOn fns frozen r x y budget (λ k. result_then k p f vs)
result_waits fns frozen r x y budget p (Fun q name is_async params result body) a t node vs e1 e2 e3 h =
    let f : Body = Fun q name is_async params result body in
    let S : Step → Type 0 = λ z. GoesOn fns frozen r x y budget (λ k w s. after (value_of k Plain a w s) (λ got. on_value got (λ v. result_came k z vs) w)) in
    let R : Perhaps → Type 0 = λ g. GoesOn fns frozen r x y budget (λ k. dropped k g (function_bound k p f vs)) in
    subst R (sym e3) (subst S (e2 ∙ e1) h)

pub result_lacks : (fns : Functions) (frozen : Made) (r : Result Now Halt) (x y : Going) (budget : ℕ) (p : Place) (f : Body) (vs : List Val) → result_of f ≡ absent → GoesOn fns frozen r x y budget (λ k. function_bound k p f vs) → GoesOn fns frozen r x y budget (λ k. result_then k p f vs)
result_lacks fns frozen r x y budget p (Fun q name is_async params result body) vs e h =
    let f : Body = Fun q name is_async params result body in
    let R : Perhaps → Type 0 = λ g. GoesOn fns frozen r x y budget (λ k. dropped k g (function_bound k p f vs)) in
    subst R (sym e) h

-- the function is made, and bound
pub function_made : (fns : Functions) (frozen : Made) (r : Result Now Halt) (x z : Going) (budget : ℕ) (heap : Made) (v : Val) (p q : Place) (name : List ℕ) (f : Body) (vs : List Val) (scope : Option ScopeId) → q ≡ body_place f → name ≡ body_name f → scope ≡ seen_from (seen frozen x.state.heap) x.state.here.scope → new_func (seen frozen x.state.heap) (new_function q vs scope) ≡ Ok (v, heap) → GoesOn fns frozen r (record x { state = record x.state { heap = heap } }) z budget (λ k. bind k name v p (came Next)) → GoesOn fns frozen r x z budget (λ k. function_bound k p f vs)
function_made fns frozen r x z budget heap v p q name (Fun place called is_async params res body) vs scope e1 e2 e3 e4 h =
    let N : List ℕ → Type 0 = λ g. GoesOn fns frozen r (record x { state = record x.state { heap = heap } }) z budget (λ k. bind k g v p (came Next)) in
    making_goes fns frozen r x z budget heap v p (λ k s. new_func (heap_seen k s) (new_function place vs (seen_from (heap_seen k s) s.here.scope))) (λ k g. bind k called g p (came Next))
    (ap (λ g. new_func (seen frozen x.state.heap) (new_function g vs (seen_from (seen frozen x.state.heap) x.state.here.scope))) (sym e1) ∙ (ap (λ g. new_func (seen frozen x.state.heap) (new_function q vs g)) (sym e3) ∙ e4)) (subst N e2 h)

-- on from the next parameter
pub default_on : (fns : Functions) (frozen : Made) (r : Result Now Halt) (x y : Going) (budget n m : ℕ) (p : Place) (f : Body) (t : Step) (vs : List Val) → t ≡ Def p f → m ≡ n + 1 → GoesOn fns frozen r x y budget (λ k. defaults_from k p m f vs) → GoesOn fns frozen r x y budget (λ k. default_came k (suc n) t vs)
default_on fns frozen r x y budget n m p f t vs e1 e2 h =
    let N : Step → Type 0 = λ z. GoesOn fns frozen r x y budget (λ k. default_came k (suc n) z vs) in
    let M : ℕ → Type 0 = λ j. GoesOn fns frozen r x y budget (λ k. defaults_from k p j f vs) in
    subst N (sym e1) (subst M (e2 ∙ add-one n) h)

pub annotation_on : (fns : Functions) (frozen : Made) (r : Result Now Halt) (x y : Going) (budget n m : ℕ) (p : Place) (f : Body) (t : Step) (vs : List Val) → t ≡ Def p f → m ≡ n + 1 → GoesOn fns frozen r x y budget (λ k. annotated_from k p m f vs) → GoesOn fns frozen r x y budget (λ k. annotation_came k (suc n) t vs)
annotation_on fns frozen r x y budget n m p f t vs e1 e2 h =
    let N : Step → Type 0 = λ z. GoesOn fns frozen r x y budget (λ k. annotation_came k (suc n) z vs) in
    let M : ℕ → Type 0 = λ j. GoesOn fns frozen r x y budget (λ k. annotated_from k p j f vs) in
    subst N (sym e1) (subst M (e2 ∙ add-one n) h)

pub ruleset begin_rules = (def_begins)

pub ruleset default_rules = (default_waits, defaults_done, no_memory)

pub ruleset annotation_rules = (annotation_waits, annotations_done, no_memory)

pub ruleset result_rules = (result_waits, result_lacks, no_memory)

pub ruleset bound_rules = (function_made, no_memory)
