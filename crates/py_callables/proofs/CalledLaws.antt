-- Laws of calls.
use Rattle.std.proofs.Common.{◌≡◌, ℕ, refl, ap, ◌∙◌, sym, List, [], ◌∷◌, ◌++◌, length, Option, Some, None, Result, Ok, Err, Bool, true, false, codes}
use Rattle.amh_host.specs.declared.place.Place.{Place}
use Rattle.py_tree.specs.Programs.{steps_of}
use Rattle.py_values.specs.declared.val.Val.{Val}
use Rattle.py_values.specs.declared.val.Val.TheVariants as val
use Rattle.py_values.specs.declared.val.ValueStop.{ValueStop}
use Rattle.py_values.specs.declared.val.Hw.{Hw}
use Rattle.py_values.specs.declared.val.ObjId.{ObjId}
use Rattle.py_values.specs.declared.val.FuncId.{FuncId}
use Rattle.py_values.specs.declared.op.Builtin.{Builtin}
use Rattle.py_values.specs.declared.op.Builtin.TheVariants as builtins
use Rattle.py_values.specs.declared.func.Func.{Func}
use Rattle.py_values.specs.declared.func.Code.{Code}
use Rattle.py_values.specs.declared.func.Code.TheVariants as code
use Rattle.py_heap.specs.declared.scopes.LookUp.{LookUp}
use Rattle.py_heap.specs.declared.objects.Inherited.{Inherited}
use Rattle.py_heap.specs.declared.objects.Inherited.TheVariants as inherited
use Rattle.py_heap.specs.Heaps.{Made, seen, func_at}
use Rattle.py_values.specs.Runs.{Answers, paired}
use Rattle.py_heap.specs.Objects.{inherited as inherits, new_object}
use Rattle.py_frames.specs.declared.request.Act.TheVariants.{InitBase, Length}
use Rattle.py_frames.specs.declared.request.NamedVal.{NamedVal}
use Rattle.py_frames.specs.declared.request.Request.{Request}
use Rattle.py_frames.specs.declared.request.Cause.TheVariants.{Raised}
use Rattle.py_frames.specs.declared.state.State.{State}
use Rattle.py_frames.specs.declared.state.Halt.{Halt}
use Rattle.py_frames.specs.declared.frame.Now.{Now}
use Rattle.py_frames.specs.declared.frame.Frame.TheVariants as frame
use Rattle.py_frames.specs.declared.frame.CallFrame.TheVariants as call
use Rattle.py_callables.specs.declared.call_kind.CallKind.{CallKind}
use Rattle.py_callables.specs.declared.call_kind.Callable.{Callable}
use Rattle.py_frames.specs.declared.functions.Functions.{Functions}
use Rattle.py_frames.specs.declared.going.Going.{Going}
use Rattle.py_frames.specs.Doing.{Doing, World, Known, give, stop, making, made, heap_seen, choose, then_do, ◌>>=◌, on_value, after}
use Rattle.py_frames.specs.Asking.{request, ask}
use Rattle.py_frames.specs.Functions.{function_at}
use Rattle.py_frames.specs.Statements.{known}
use Rattle.py_heap.specs.Names.{look_up}
use Rattle.py_frames.specs.Async.{is_async_body}
use Rattle.py_frames.specs.Values.{method_called, func_called, builtin_called, init_thing, on_names, attributes_bound, named_vals, named_names, class_word, super_of, super_called, with_func, without_arguments, without_keywords, nothing_begun, length_called, magnitude_called, built, gone_over, initialised, code_called, made_object, object_made, class_called}
use Rattle.py_frames.specs.Calling.{bound_method}
use Rattle.py_callables.specs.Called.{kind_of, called_by_kind, callable_of, callable_code, callable_body, called_as, no_arguments, no_keywords, is_one, one_thing}
use Rattle.py_frames.specs.Frames.{GoesOn, within, told}
use Rattle.py_frames.proofs.CallLaws.{looked, same_goes, same_runs, made_ok, made_err}
use Rattle.py_callables.proofs.AttributeLaws.{from_class-made}

pub init_asked : (fns : Functions) (frozen : Made) (r : Result Now Halt) (x y : Going) (budget : ℕ) (o : ObjId) (args : List Val) (keywords : List NamedVal) (place : Place) (v : Val) (q : Request) → q ≡ request InitBase (val.Object o ∷ (args ++ named_vals keywords)) (named_names keywords) place → GoesOn fns frozen r x y budget (within (frame.Call (call.InitNames o place v)) (λ k. ask k q)) → GoesOn fns frozen r x y budget (λ k. init_thing k o args keywords place (give v))
init_asked fns frozen r x y budget o args keywords place v q e1 h = same_goes fns frozen r x y budget (λ z k. then_do (ask k z) (λ got. on_names got (λ names. attributes_bound k o names place (give v)))) q (request InitBase (val.Object o ∷ (args ++ named_vals keywords)) (named_names keywords) place) e1 h

pub super_here : (fns : Functions) (frozen : Made) (r : Result Now Halt) (x y : Going) (budget : ℕ) (place : Place) (f : Option Func) (class : LookUp) → class ≡ look_up (seen frozen x.state.heap) x.state.here.scope.0 class_word → f ≡ super_of (seen frozen x.state.heap) x.state.here.first class → GoesOn fns frozen r x y budget (λ k. with_func k f place) → GoesOn fns frozen r x y budget (λ k. super_called k None place)
super_here fns frozen r x y budget place f class e1 e2 h =
    same_runs fns frozen r x y budget (λ k. with_func k f place) (λ k. super_called k None place)
    (λ w. ap (λ (z : LookUp). with_func (known (steps_of fns.program) frozen x.state.here.room) (super_of (seen frozen x.state.heap) x.state.here.first z) place w x.state) (sym e1)
    ∙ ap (λ (z : Option Func). with_func (known (steps_of fns.program) frozen x.state.here.room) z place w x.state) (sym e2)) h

bare-none : (args : List Val) (keywords : List NamedVal) (place : Place) (m : Doing) → no_arguments args keywords ≡ true → without_arguments args keywords place m ≡ m
bare-none [] [] place m e = refl
bare-none [] (x ∷ xs) place m e = cc
bare-none (v ∷ vs) keywords place m e = cc

bare-some : (args : List Val) (keywords : List NamedVal) (place : Place) (m : Doing) → no_arguments args keywords ≡ false → without_arguments args keywords place m ≡ stop Raised place
bare-some [] [] place m e = cc
bare-some [] (x ∷ xs) place m e = refl
bare-some (v ∷ vs) keywords place m e = refl

unnamed-none : (keywords : List NamedVal) (place : Place) (m : Doing) → no_keywords keywords ≡ true → without_keywords keywords place m ≡ m
unnamed-none [] place m e = refl
unnamed-none (x ∷ xs) place m e = cc

unnamed-some : (keywords : List NamedVal) (place : Place) (m : Doing) → no_keywords keywords ≡ false → without_keywords keywords place m ≡ stop Raised place
unnamed-some [] place m e = cc
unnamed-some (x ∷ xs) place m e = refl

pub argument_none : (fns : Functions) (frozen : Made) (r : Result Now Halt) (x y : Going) (budget : ℕ) (args : List Val) (keywords : List NamedVal) (place : Place) (m : Known → Doing) → no_arguments args keywords ≡ true → GoesOn fns frozen r x y budget (λ k. m k) → GoesOn fns frozen r x y budget (λ k. without_arguments args keywords place (m k))
argument_none fns frozen r x y budget args keywords place m e1 h = same_runs fns frozen r x y budget (λ k. m k) (λ k. without_arguments args keywords place (m k)) (λ w. ap (λ (z : Doing). z w x.state) (bare-none args keywords place (m (known (steps_of fns.program) frozen x.state.here.room)) e1)) h

pub argument_some : (fns : Functions) (frozen : Made) (r : Result Now Halt) (x y : Going) (budget : ℕ) (args : List Val) (keywords : List NamedVal) (place : Place) (m : Known → Doing) → no_arguments args keywords ≡ false → GoesOn fns frozen r x y budget (λ k. stop Raised place) → GoesOn fns frozen r x y budget (λ k. without_arguments args keywords place (m k))
argument_some fns frozen r x y budget args keywords place m e1 h = same_runs fns frozen r x y budget (λ k. stop Raised place) (λ k. without_arguments args keywords place (m k)) (λ w. ap (λ (z : Doing). z w x.state) (bare-some args keywords place (m (known (steps_of fns.program) frozen x.state.here.room)) e1)) h

pub ruleset argument_rules = (argument_none, argument_some)

pub keyword_none : (fns : Functions) (frozen : Made) (r : Result Now Halt) (x y : Going) (budget : ℕ) (keywords : List NamedVal) (place : Place) (m : Known → Doing) → no_keywords keywords ≡ true → GoesOn fns frozen r x y budget (λ k. m k) → GoesOn fns frozen r x y budget (λ k. without_keywords keywords place (m k))
keyword_none fns frozen r x y budget keywords place m e1 h = same_runs fns frozen r x y budget (λ k. m k) (λ k. without_keywords keywords place (m k)) (λ w. ap (λ (z : Doing). z w x.state) (unnamed-none keywords place (m (known (steps_of fns.program) frozen x.state.here.room)) e1)) h

pub keyword_some : (fns : Functions) (frozen : Made) (r : Result Now Halt) (x y : Going) (budget : ℕ) (keywords : List NamedVal) (place : Place) (m : Known → Doing) → no_keywords keywords ≡ false → GoesOn fns frozen r x y budget (λ k. stop Raised place) → GoesOn fns frozen r x y budget (λ k. without_keywords keywords place (m k))
keyword_some fns frozen r x y budget keywords place m e1 h = same_runs fns frozen r x y budget (λ k. stop Raised place) (λ k. without_keywords keywords place (m k)) (λ w. ap (λ (z : Doing). z w x.state) (unnamed-some keywords place (m (known (steps_of fns.program) frozen x.state.here.room)) e1)) h

pub ruleset keyword_rules = (keyword_none, keyword_some)

begun-one : (args : List Val) (place : Place) → is_one args ≡ true → nothing_begun args place ≡ give val.None
begun-one [] place e = cc
begun-one (v ∷ []) place e = refl
begun-one (v ∷ u ∷ vs) place e = cc

begun-other : (args : List Val) (place : Place) → is_one args ≡ false → nothing_begun args place ≡ stop Raised place
begun-other [] place e = refl
begun-other (v ∷ []) place e = cc
begun-other (v ∷ u ∷ vs) place e = refl

pub begun_one : (fns : Functions) (frozen : Made) (r : Result Now Halt) (x y : Going) (budget : ℕ) (args : List Val) (place : Place) → is_one args ≡ true → GoesOn fns frozen r x y budget (λ k. give val.None) → GoesOn fns frozen r x y budget (λ k. nothing_begun args place)
begun_one fns frozen r x y budget args place e1 h = same_runs fns frozen r x y budget (λ k. give val.None) (λ k. nothing_begun args place) (λ w. ap (λ (z : Doing). z w x.state) (begun-one args place e1)) h

pub begun_other : (fns : Functions) (frozen : Made) (r : Result Now Halt) (x y : Going) (budget : ℕ) (args : List Val) (place : Place) → is_one args ≡ false → GoesOn fns frozen r x y budget (λ k. stop Raised place) → GoesOn fns frozen r x y budget (λ k. nothing_begun args place)
begun_other fns frozen r x y budget args place e1 h = same_runs fns frozen r x y budget (λ k. stop Raised place) (λ k. nothing_begun args place) (λ w. ap (λ (z : Doing). z w x.state) (begun-other args place e1)) h

pub ruleset begun_rules = (begun_one, begun_other)

pub begun_same : (fns : Functions) (frozen : Made) (r : Result Now Halt) (x y : Going) (budget : ℕ) (us vs : List Val) (place : Place) → vs ≡ us → GoesOn fns frozen r x y budget (λ k. nothing_begun vs place) → GoesOn fns frozen r x y budget (λ k. nothing_begun us place)
begun_same fns frozen r x y budget us vs place e1 h = same_goes fns frozen r x y budget (λ z k. nothing_begun z place) vs us e1 h

pub len_same : (fns : Functions) (frozen : Made) (r : Result Now Halt) (x y : Going) (budget : ℕ) (us vs : List Val) (place : Place) → vs ≡ us → GoesOn fns frozen r x y budget (λ k. length_called k vs place) → GoesOn fns frozen r x y budget (λ k. length_called k us place)
len_same fns frozen r x y budget us vs place e1 h = same_goes fns frozen r x y budget (λ z k. length_called k z place) vs us e1 h

pub abs_same : (fns : Functions) (frozen : Made) (r : Result Now Halt) (x y : Going) (budget : ℕ) (us vs : List Val) (place : Place) → vs ≡ us → GoesOn fns frozen r x y budget (λ k. magnitude_called k vs place) → GoesOn fns frozen r x y budget (λ k. magnitude_called k us place)
abs_same fns frozen r x y budget us vs place e1 h = same_goes fns frozen r x y budget (λ z k. magnitude_called k z place) vs us e1 h

pub gone_same : (fns : Functions) (frozen : Made) (r : Result Now Halt) (x y : Going) (budget : ℕ) (b : Builtin) (us vs ns : List Val) (n : ℕ) (place : Place) → vs ≡ us → n ≡ length vs → ns ≡ [] → GoesOn fns frozen r x y budget (λ k. gone_over k b n ns vs place) → GoesOn fns frozen r x y budget (λ k. gone_over k b (length us) [] us place)
gone_same fns frozen r x y budget b us vs ns n place e1 e2 e3 h = same_goes fns frozen r x y budget (λ z k. gone_over k b (length z) [] z place) vs us e1 (same_goes fns frozen r x y budget (λ z k. gone_over k b z [] vs place) n (length vs) e2 (same_goes fns frozen r x y budget (λ z k. gone_over k b n z vs place) ns [] e3 h))

one-thing : (args : List Val) (h1 : Hw) → Some h1 ≡ one_thing args → val.Hw h1 ∷ [] ≡ args
one-thing [] h1 e = cc
one-thing (val.Hw a ∷ []) h1 e = cc
one-thing (val.Hw a ∷ v ∷ vs) h1 e = cc
one-thing (v ∷ vs) h1 e = cc

length-other : (k : Known) (args : List Val) (place : Place) → None ≡ one_thing args → length_called k args place ≡ built k builtins.Len args place
length-other k [] place e = refl
length-other k (val.Hw a ∷ []) place e = cc
length-other k (val.Hw a ∷ v ∷ vs) place e = refl
length-other k (v ∷ vs) place e = refl

magnitude-other : (k : Known) (args : List Val) (place : Place) → None ≡ one_thing args → magnitude_called k args place ≡ built k builtins.Abs args place
magnitude-other k [] place e = refl
magnitude-other k (val.Hw a ∷ []) place e = cc
magnitude-other k (val.Hw a ∷ v ∷ vs) place e = refl
magnitude-other k (v ∷ vs) place e = refl

pub length_thing : (fns : Functions) (frozen : Made) (r : Result Now Halt) (x y : Going) (budget : ℕ) (args : List Val) (place : Place) (h1 : Hw) → Some h1 ≡ one_thing args → GoesOn fns frozen r x y budget (λ k. ask k (request Length (val.Hw h1 ∷ []) [] place)) → GoesOn fns frozen r x y budget (λ k. length_called k args place)
length_thing fns frozen r x y budget args place h1 e1 h = same_goes fns frozen r x y budget (λ z k. length_called k z place) (val.Hw h1 ∷ []) args (one-thing args h1 e1) h

pub length_other : (fns : Functions) (frozen : Made) (r : Result Now Halt) (x y : Going) (budget : ℕ) (args : List Val) (place : Place) → None ≡ one_thing args → GoesOn fns frozen r x y budget (λ k. built k builtins.Len args place) → GoesOn fns frozen r x y budget (λ k. length_called k args place)
length_other fns frozen r x y budget args place e1 h = same_runs fns frozen r x y budget (λ k. built k builtins.Len args place) (λ k. length_called k args place) (λ w. ap (λ (z : Doing). z w x.state) (length-other (known (steps_of fns.program) frozen x.state.here.room) args place e1)) h

pub ruleset length_rules = (length_thing, length_other)

pub magnitude_thing : (fns : Functions) (frozen : Made) (r : Result Now Halt) (x y : Going) (budget : ℕ) (args : List Val) (place : Place) (h1 : Hw) → Some h1 ≡ one_thing args → GoesOn fns frozen r x y budget (λ k. magnitude_called k (val.Hw h1 ∷ []) place) → GoesOn fns frozen r x y budget (λ k. magnitude_called k args place)
magnitude_thing fns frozen r x y budget args place h1 e1 h = same_goes fns frozen r x y budget (λ z k. magnitude_called k z place) (val.Hw h1 ∷ []) args (one-thing args h1 e1) h

pub magnitude_other : (fns : Functions) (frozen : Made) (r : Result Now Halt) (x y : Going) (budget : ℕ) (args : List Val) (place : Place) → None ≡ one_thing args → GoesOn fns frozen r x y budget (λ k. built k builtins.Abs args place) → GoesOn fns frozen r x y budget (λ k. magnitude_called k args place)
magnitude_other fns frozen r x y budget args place e1 h = same_runs fns frozen r x y budget (λ k. built k builtins.Abs args place) (λ k. magnitude_called k args place) (λ w. ap (λ (z : Doing). z w x.state) (magnitude-other (known (steps_of fns.program) frozen x.state.here.room) args place e1)) h

pub ruleset magnitude_rules = (magnitude_thing, magnitude_other)

by_kind-kind_of : (k : Known) (b : Builtin) (this : Option Val) (args : List Val) (keywords : List NamedVal) (place : Place) → builtin_called k b this args keywords place ≡ called_by_kind k (kind_of b) b this args keywords place
by_kind-kind_of k builtins.Super this args keywords place = refl
by_kind-kind_of k builtins.InitThing this args keywords place = refl
by_kind-kind_of k builtins.InitNothing this args keywords place = refl
by_kind-kind_of k builtins.Print this args keywords place = refl
by_kind-kind_of k builtins.Len this args keywords place = refl
by_kind-kind_of k builtins.Abs this args keywords place = refl
by_kind-kind_of k b this args keywords place = refl

called_as-code : (k : Known) (c : Code) (id : FuncId) (f : Func) (args : List Val) (keywords : List NamedVal) (place : Place) → code_called k c id f args keywords place ≡ called_as k (callable_code k.program c f.this) id args keywords place
called_as-code k (code.Def p) id f args keywords place = called_as-body k (is_async_body (function_at p k.program)) id args keywords place
  where
    called_as-body : (k : Known) (b : Bool) (id : FuncId) (args : List Val) (keywords : List NamedVal) (place : Place) → choose b (stop Raised place) (k.call (val.Func id) args keywords place) ≡ called_as k (callable_body b) id args keywords place
    called_as-body k true id args keywords place = refl
    called_as-body k false id args keywords place = refl
called_as-code k (code.Builtin b) id f args keywords place = refl

called_as-func : (k : Known) (o : Option Func) (id : FuncId) (args : List Val) (keywords : List NamedVal) (place : Place) → func_called k id o args keywords place ≡ called_as k (callable_of k.program o) id args keywords place
called_as-func k None id args keywords place = refl
called_as-func k (Some f) id args keywords place = called_as-code k f.code id f args keywords place

pub kind_called : (fns : Functions) (frozen : Made) (r : Result Now Halt) (x y : Going) (budget : ℕ) (b : Builtin) (this : Option Val) (args : List Val) (keywords : List NamedVal) (place : Place) (c : CallKind) → c ≡ kind_of b → GoesOn fns frozen r x y budget (λ k. called_by_kind k c b this args keywords place) → GoesOn fns frozen r x y budget (λ k. builtin_called k b this args keywords place)
kind_called fns frozen r x y budget b this args keywords place c e1 h = same_runs fns frozen r x y budget (λ k. called_by_kind k c b this args keywords place) (λ k. builtin_called k b this args keywords place) (λ w. ap (λ (z : Doing). z w x.state) (by_kind-kind_of (known (steps_of fns.program) frozen x.state.here.room) b this args keywords place ∙ ap (λ (z : CallKind). called_by_kind (known (steps_of fns.program) frozen x.state.here.room) z b this args keywords place) (sym e1))) h

pub func_read : (fns : Functions) (frozen : Made) (r : Result Now Halt) (x y : Going) (budget : ℕ) (n : ℕ) (args : List Val) (keywords : List NamedVal) (place : Place) (c : Callable) → c ≡ callable_of (steps_of fns.program) (func_at (seen frozen x.state.heap) n) → GoesOn fns frozen r x y budget (λ k. called_as k c (record { 0 = n }) args keywords place) → GoesOn fns frozen r x y budget (λ k. method_called k (val.Func (record { 0 = n })) args keywords place)
func_read fns frozen r x y budget n args keywords place c e1 h = same_runs fns frozen r x y budget (λ k. called_as k c (record { 0 = n }) args keywords place) (λ k. method_called k (val.Func (record { 0 = n })) args keywords place) (λ w. ap (λ (z : Doing). z w x.state) (called_as-func (known (steps_of fns.program) frozen x.state.here.room) (func_at (seen frozen x.state.heap) n) (record { 0 = n }) args keywords place ∙ ap (λ (z : Callable). called_as (known (steps_of fns.program) frozen x.state.here.room) z (record { 0 = n }) args keywords place) (sym e1))) h

pub init_found : (fns : Functions) (frozen : Made) (r : Result Now Halt) (x y : Going) (budget : ℕ) (c o : ℕ) (args : List Val) (keywords : List NamedVal) (place : Place) (i : Inherited) → i ≡ inherits (seen frozen x.state.heap) (codes "__init__") (record { 0 = c }) → GoesOn fns frozen r x y budget (λ k. made_object k (record { 0 = o }) i args keywords place) → GoesOn fns frozen r x y budget (λ k. object_made k (record { 0 = c }) (val.Object (record { 0 = o })) args keywords place)
init_found fns frozen r x y budget c o args keywords place i e1 h = looked fns frozen r x y budget (λ s. inherits s (codes "__init__") (record { 0 = c })) (λ z k. made_object k (record { 0 = o }) z args keywords place) i e1 h

-- a method that was found is bound at once, and then called
pub init_begun : (fns : Functions) (frozen : Made) (r : Result Now Halt) (x y : Going) (budget : ℕ) (o : ObjId) (v c m : Val) (args : List Val) (keywords : List NamedVal) (place : Place) (heap : Made) → bound_method (seen frozen x.state.heap) v (Some (val.Object o)) ≡ Ok (m, heap) → GoesOn fns frozen r (record x { state = record x.state { heap = heap } }) y budget (within (frame.Call (call.Initialised o place)) (λ k. method_called k m args keywords place)) → GoesOn fns frozen r x y budget (λ k. made_object k o (inherited.Found v c) args keywords place)
init_begun fns frozen r x y budget o v c m args keywords place heap e h =
    same_runs fns frozen r x y budget
    (λ k. making (λ s. bound_method (heap_seen k s) v (Some (val.Object o))) place (λ f. then_initialised k o f args keywords place))
    (λ k. made_object k o (inherited.Found v c) args keywords place)
    (λ w. ap (λ out. after out (λ got. on_value got (λ f. then_initialised (known (steps_of fns.program) frozen x.state.here.room) o f args keywords place) w)) (from_class-made (known (steps_of fns.program) frozen x.state.here.room) v (Some (val.Object o)) place w x.state)
    ∙ made-bind (bound_method (seen frozen x.state.heap) v (Some (val.Object o))) place (λ f. then_initialised (known (steps_of fns.program) frozen x.state.here.room) o f args keywords place) w x.state)
    (made_ok fns frozen r x y budget heap place m (λ k s. bound_method (heap_seen k s) v (Some (val.Object o))) (λ f k. then_initialised k o f args keywords place) e h)
  where
    then_initialised : Known → ObjId → Val → List Val → List NamedVal → Place → Doing
    then_initialised k o f args keywords place = do
      r ← method_called k f args keywords place
      initialised r o place

    made-bind : (m : Result (Val × Made) ValueStop) (place : Place) (f : Val → Doing) (w : World) (s : State) → (made m place give >>= f) w s ≡ made m place f w s
    made-bind (Ok x) place f w s = refl
    made-bind (Err e) place f w s = refl

pub class_ok : (fns : Functions) (frozen : Made) (r : Result Now Halt) (x y : Going) (budget : ℕ) (c : ObjId) (args : List Val) (keywords : List NamedVal) (place : Place) (v : Val) (heap : Made) → new_object (seen frozen x.state.heap) (val.Class c) ≡ Ok (v, heap) → GoesOn fns frozen r (record x { state = record x.state { heap = heap } }) y budget (λ k. object_made k c v args keywords place) → GoesOn fns frozen r x y budget (λ k. class_called k c args keywords place)
class_ok fns frozen r x y budget c args keywords place v heap e h =
    made_ok fns frozen r x y budget heap place v (λ k s. new_object (heap_seen k s) (val.Class c)) (λ z k. object_made k c z args keywords place) e h

pub class_err : (fns : Functions) (frozen : Made) (x y : Going) (budget : ℕ) (c : ObjId) (args : List Val) (keywords : List NamedVal) (place : Place) (e : ValueStop) (heap : Made) → Answers (paired {A = Val} (Err e) heap) (new_object (seen frozen x.state.heap) (val.Class c)) → y.state.used ≡ x.state.used → GoesOn fns frozen (told (Err e) place) x y budget (λ k. class_called k c args keywords place)
class_err fns frozen x y budget c args keywords place e heap h q =
    made_err fns frozen x y budget place e heap (λ k s. new_object (heap_seen k s) (val.Class c)) (λ k z. object_made k c z args keywords place) h q
