-- Laws of attributes.
use Rattle.std.proofs.Common.{◌≡◌, ℕ, suc, zero, ◌-◌, ◌<◌, refl, ap, ◌∙◌, sym, List, [], ◌∷◌, Option, Some, None, Result, Ok, Bool, true, false, if◌then◌else◌, arith}
use Rattle.amh_host.specs.declared.place.Place.{Place}
use Rattle.py_tree.specs.Programs.{steps_of}
use Rattle.py_values.specs.declared.val.Val.{Val}
use Rattle.py_values.specs.declared.val.Val.TheVariants as val
use Rattle.py_values.specs.declared.val.ValueStop.{ValueStop}
use Rattle.py_values.specs.declared.op.Builtin.{Builtin}
use Rattle.py_values.specs.declared.func.Func.{Func}
use Rattle.py_values.specs.declared.func.Code.{Code}
use Rattle.py_values.specs.declared.func.Code.TheVariants as code
use Rattle.py_values.specs.declared.op.Builtin.TheVariants as builtins
use Rattle.py_heap.specs.declared.objects.Inherited.{Inherited}
use Rattle.py_heap.specs.Heaps.{Made, seen, func_at, row_at}
use Rattle.py_heap.specs.Names.{new_func}
use Rattle.py_heap.specs.Objects.{attributes, attribute_in, inherited as inherits}
use Rattle.py_frames.specs.declared.request.Act.TheVariants.{Attribute}
use Rattle.py_frames.specs.declared.request.Request.{Request}
use Rattle.py_frames.specs.declared.request.Cause.TheVariants.{Raised, Spent}
use Rattle.py_frames.specs.declared.state.State.{State}
use Rattle.py_frames.specs.declared.state.Halt.{Halt}
use Rattle.py_frames.specs.declared.frame.Now.{Now}
use Rattle.py_frames.specs.declared.frame.Frame.TheVariants as frame
use Rattle.py_frames.specs.declared.frame.CallFrame.TheVariants as call
use Rattle.py_frames.specs.declared.functions.Functions.{Functions}
use Rattle.py_frames.specs.declared.going.Going.{Going}
use Rattle.py_frames.specs.Doing.{Doing, World, Known, give, stop, making, made, heap_seen, choose, then_do}
use Rattle.py_frames.specs.Asking.{request, ask}
use Rattle.py_frames.specs.Statements.{known}
use Rattle.py_frames.specs.Values.{method_of, is_plain_code, as_method, from_class, bound_builtin, builtin_made, builtin_method, list_method, dict_method, on_through, attribute_by, attribute_in_rounds, of_func, func_attribute, super_attribute, found_in, of_class, of_object, head_of, found_above, above, above_class}
use Rattle.py_frames.specs.Calling.{told_attribute, bound_func, bound_method, is_super}
use Rattle.py_frames.specs.Frames.{GoesOn, within}
use Rattle.py_frames.proofs.CallLaws.{looked, same_goes, same_runs, made_ok}

-- a choice between what is made and what stands
plain_or : (b : Bool) (s : State) (w : World) (m : State → Result (Val × Made) ValueStop) (v : Val) (place : Place) → choose b (making m place give) (give v) w s ≡ made (if b then m s else Ok (v, s.heap)) place give w s
plain_or true s w m v place = refl
plain_or false s w m v place = refl

-- a value that was found in a class is made at once
as_method-made : (k : Known) (o : Option Func) (v : Val) (this : Option Val) (place : Place) (w : World) (s : State) → as_method k o v this place w s ≡ made (bound_func (heap_seen k s) o v this) place give w s
as_method-made k None v this place w s = refl
as_method-made k (Some f) v this place w s = plain_or (is_plain_code f.code f.this) s w (λ t. new_func (heap_seen k t) (method_of f this)) v place

pub from_class-made : (k : Known) (v : Val) (this : Option Val) (place : Place) (w : World) (s : State) → from_class k v this place w s ≡ made (bound_method (heap_seen k s) v this) place give w s
from_class-made k (val.Func f) this place w s = as_method-made k (func_at (heap_seen k s) f.0) (val.Func f) this place w s
from_class-made k v this place w s = refl

pub from_class_made : (fns : Functions) (frozen : Made) (r : Result Now Halt) (x y : Going) (budget : ℕ) (v m : Val) (this : Option Val) (place : Place) (heap : Made) → bound_method (seen frozen x.state.heap) v this ≡ Ok (m, heap) → GoesOn fns frozen r (record x { state = record x.state { heap = heap } }) y budget (λ k. give m) → GoesOn fns frozen r x y budget (λ k. from_class k v this place)
from_class_made fns frozen r x y budget v m this place heap e h =
    same_runs fns frozen r x y budget (λ k. making (λ s. bound_method (heap_seen k s) v this) place give) (λ k. from_class k v this place)
    (λ w. from_class-made (known (steps_of fns.program) frozen x.state.here.room) v this place w x.state)
    (made_ok fns frozen r x y budget heap place m (λ k s. bound_method (heap_seen k s) v this) (λ z k. give z) e h)

pub told_asked : (fns : Functions) (frozen : Made) (r : Result Now Halt) (x y : Going) (budget n : ℕ) (v : Val) (name told : List ℕ) (place : Place) (q : Request) → told ≡ name → q ≡ request Attribute (v ∷ []) (name ∷ []) place → GoesOn fns frozen r x y budget (within (frame.Call (call.AttributeTold told place n)) (λ k. ask k q)) → GoesOn fns frozen r x y budget (λ k. told_attribute n k name place v)
told_asked fns frozen r x y budget n v name told place q e1 e2 h =
    same_goes fns frozen r x y budget (λ z k. told_attribute n k z place v) told name e1
    (same_goes fns frozen r x y budget (λ z k. then_do (ask k z) (λ got. on_through got (λ v. attribute_in_rounds n k v told place))) q (request Attribute (v ∷ []) (told ∷ []) place) (e2 ∙ ap (λ (z : List ℕ). request Attribute (v ∷ []) (z ∷ []) place) (sym e1)) h)

pub builtin_made_by : (fns : Functions) (frozen : Made) (r : Result Now Halt) (x y : Going) (budget : ℕ) (b : Builtin) (this : Option Val) (place : Place) (f : Func) → f ≡ bound_builtin b this → GoesOn fns frozen r x y budget (λ k. making (λ s. new_func (heap_seen k s) f) place give) → GoesOn fns frozen r x y budget (λ k. builtin_made k b this place)
builtin_made_by fns frozen r x y budget b this place f e1 h = same_goes fns frozen r x y budget (λ z k. making (λ s. new_func (heap_seen k s) z) place give) f (bound_builtin b this) e1 h

pub of_class_read : (fns : Functions) (frozen : Made) (r : Result Now Halt) (x y : Going) (budget : ℕ) (n : ℕ) (v : Val) (o : ℕ) (name : List ℕ) (place : Place) (i : Inherited) → i ≡ inherits (seen frozen x.state.heap) name (record { 0 = o }) → GoesOn fns frozen r x y budget (λ k. found_in k (told_attribute n k name place) v (Some v) name place i) → GoesOn fns frozen r x y budget (λ k. of_class k (told_attribute n k name place) v name place (val.Class (record { 0 = o })))
of_class_read fns frozen r x y budget n v o name place i e1 h = looked fns frozen r x y budget (λ s. inherits s name (record { 0 = o })) (λ z k. found_in k (told_attribute n k name place) v (Some v) name place z) i e1 h

pub class_read : (fns : Functions) (frozen : Made) (r : Result Now Halt) (x y : Going) (budget : ℕ) (n : ℕ) (o : ℕ) (name : List ℕ) (place : Place) (i : Inherited) → i ≡ inherits (seen frozen x.state.heap) name (record { 0 = o }) → GoesOn fns frozen r x y budget (λ k. found_in k (told_attribute n k name place) (val.Class (record { 0 = o })) None name place i) → GoesOn fns frozen r x y budget (λ k. attribute_by k (told_attribute n k name place) (val.Class (record { 0 = o })) name place)
class_read fns frozen r x y budget n o name place i e1 h = looked fns frozen r x y budget (λ s. inherits s name (record { 0 = o })) (λ z k. found_in k (told_attribute n k name place) (val.Class (record { 0 = o })) None name place z) i e1 h

pub object_has : (fns : Functions) (frozen : Made) (r : Result Now Halt) (x y : Going) (budget : ℕ) (n : ℕ) (o : ℕ) (name : List ℕ) (place : Place) (v : Val) → Some v ≡ attribute_in (seen frozen x.state.heap) name (attributes (row_at (seen frozen x.state.heap) o)) → GoesOn fns frozen r x y budget (λ k. give v) → GoesOn fns frozen r x y budget (λ k. attribute_by k (told_attribute n k name place) (val.Object (record { 0 = o })) name place)
object_has fns frozen r x y budget n o name place v e1 h = looked fns frozen r x y budget (λ s. attribute_in s name (attributes (row_at s o))) (λ z k. of_object k (told_attribute n k name place) (record { 0 = o }) z name place) (Some v) e1 h

pub object_lacks : (fns : Functions) (frozen : Made) (r : Result Now Halt) (x y : Going) (budget : ℕ) (n : ℕ) (o : ℕ) (name : List ℕ) (place : Place) (c : Val) → None ≡ attribute_in (seen frozen x.state.heap) name (attributes (row_at (seen frozen x.state.heap) o)) → c ≡ head_of (row_at (seen frozen x.state.heap) o) → GoesOn fns frozen r x y budget (λ k. of_class k (told_attribute n k name place) (val.Object (record { 0 = o })) name place c) → GoesOn fns frozen r x y budget (λ k. attribute_by k (told_attribute n k name place) (val.Object (record { 0 = o })) name place)
object_lacks fns frozen r x y budget n o name place c e1 e2 h = looked fns frozen r x y budget (λ s. attribute_in s name (attributes (row_at s o))) (λ z k. of_object k (told_attribute n k name place) (record { 0 = o }) z name place) None e1 (looked fns frozen r x y budget (λ s. head_of (row_at s o)) (λ z k. of_class k (told_attribute n k name place) (val.Object (record { 0 = o })) name place z) c e2 h)

pub list_named : (fns : Functions) (frozen : Made) (r : Result Now Halt) (x y : Going) (budget : ℕ) (n : ℕ) (o : ℕ) (name : List ℕ) (place : Place) (m : Option Builtin) → m ≡ list_method name → GoesOn fns frozen r x y budget (λ k. builtin_method k m (val.List (record { 0 = o })) place) → GoesOn fns frozen r x y budget (λ k. attribute_by k (told_attribute n k name place) (val.List (record { 0 = o })) name place)
list_named fns frozen r x y budget n o name place m e1 h = same_goes fns frozen r x y budget (λ z k. builtin_method k z (val.List (record { 0 = o })) place) m (list_method name) e1 h

pub dict_named : (fns : Functions) (frozen : Made) (r : Result Now Halt) (x y : Going) (budget : ℕ) (n : ℕ) (o : ℕ) (name : List ℕ) (place : Place) (m : Option Builtin) → m ≡ dict_method name → GoesOn fns frozen r x y budget (λ k. builtin_method k m (val.Dict (record { 0 = o })) place) → GoesOn fns frozen r x y budget (λ k. attribute_by k (told_attribute n k name place) (val.Dict (record { 0 = o })) name place)
dict_named fns frozen r x y budget n o name place m e1 h = same_goes fns frozen r x y budget (λ z k. builtin_method k z (val.Dict (record { 0 = o })) place) m (dict_method name) e1 h

pub above_read : (fns : Functions) (frozen : Made) (r : Result Now Halt) (x y : Going) (budget : ℕ) (n : ℕ) (this : Val) (o : ℕ) (name : List ℕ) (place : Place) (i : Inherited) → i ≡ inherits (seen frozen x.state.heap) name (record { 0 = o }) → GoesOn fns frozen r x y budget (λ k. found_above k (told_attribute n k name place) this name place i) → GoesOn fns frozen r x y budget (λ k. above k (told_attribute n k name place) this name place (val.Class (record { 0 = o })))
above_read fns frozen r x y budget n this o name place i e1 h = looked fns frozen r x y budget (λ s. inherits s name (record { 0 = o })) (λ z k. found_above k (told_attribute n k name place) this name place z) i e1 h

pub above_class_read : (fns : Functions) (frozen : Made) (r : Result Now Halt) (x y : Going) (budget : ℕ) (n : ℕ) (this : Val) (o : ℕ) (name : List ℕ) (place : Place) (c : Val) → c ≡ head_of (row_at (seen frozen x.state.heap) o) → GoesOn fns frozen r x y budget (λ k. above k (told_attribute n k name place) this name place c) → GoesOn fns frozen r x y budget (λ k. above_class k (told_attribute n k name place) this name place (val.Class (record { 0 = o })))
above_class_read fns frozen r x y budget n this o name place c e1 h = looked fns frozen r x y budget (λ s. head_of (row_at s o)) (λ z k. above k (told_attribute n k name place) this name place z) c e1 h

pub func_missing : (fns : Functions) (frozen : Made) (r : Result Now Halt) (x y : Going) (budget : ℕ) (n : ℕ) (o : ℕ) (name : List ℕ) (place : Place) → None ≡ func_at (seen frozen x.state.heap) o → GoesOn fns frozen r x y budget (λ k. stop Raised place) → GoesOn fns frozen r x y budget (λ k. attribute_by k (told_attribute n k name place) (val.Func (record { 0 = o })) name place)
func_missing fns frozen r x y budget n o name place e1 h = looked fns frozen r x y budget (λ s. func_at s o) (λ z k. of_func k (told_attribute n k name place) z name place) None e1 h

-- of other functions nothing is an attribute
other_func : (k : Known) (ask_for : Val → Doing) (c : Code) (f : Func) (name : List ℕ) (place : Place) → is_super c ≡ false → func_attribute k ask_for c f name place ≡ stop Raised place
other_func k ask_for (code.Builtin builtins.Super) f name place e = cc
other_func k ask_for c f name place e = refl

super_func : (k : Known) (ask_for : Val → Doing) (c : Code) (f : Func) (name : List ℕ) (place : Place) → is_super c ≡ true → func_attribute k ask_for c f name place ≡ super_attribute k ask_for f.this f.home name place
super_func k ask_for (code.Builtin builtins.Super) f name place e = refl
super_func k ask_for c f name place e = cc

pub func_other : (fns : Functions) (frozen : Made) (r : Result Now Halt) (x y : Going) (budget : ℕ) (n : ℕ) (o : ℕ) (name : List ℕ) (place : Place) (f : Func) → Some f ≡ func_at (seen frozen x.state.heap) o → is_super f.code ≡ false → GoesOn fns frozen r x y budget (λ k. stop Raised place) → GoesOn fns frozen r x y budget (λ k. attribute_by k (told_attribute n k name place) (val.Func (record { 0 = o })) name place)
func_other fns frozen r x y budget n o name place f e1 e2 h = looked fns frozen r x y budget (λ s. func_at s o) (λ z k. of_func k (told_attribute n k name place) z name place) (Some f) e1 (same_runs fns frozen r x y budget (λ k. stop Raised place) (λ k. func_attribute k (told_attribute n k name place) f.code f name place) (λ w. ap (λ z. z w x.state) (other_func (known (steps_of fns.program) frozen x.state.here.room) (told_attribute n (known (steps_of fns.program) frozen x.state.here.room) name place) f.code f name place e2)) h)

pub func_above : (fns : Functions) (frozen : Made) (r : Result Now Halt) (x y : Going) (budget : ℕ) (n : ℕ) (o : ℕ) (name : List ℕ) (place : Place) (f : Func) → Some f ≡ func_at (seen frozen x.state.heap) o → is_super f.code ≡ true → GoesOn fns frozen r x y budget (λ k. super_attribute k (told_attribute n k name place) f.this f.home name place) → GoesOn fns frozen r x y budget (λ k. attribute_by k (told_attribute n k name place) (val.Func (record { 0 = o })) name place)
func_above fns frozen r x y budget n o name place f e1 e2 h = looked fns frozen r x y budget (λ s. func_at s o) (λ z k. of_func k (told_attribute n k name place) z name place) (Some f) e1 (same_runs fns frozen r x y budget (λ k. super_attribute k (told_attribute n k name place) f.this f.home name place) (λ k. func_attribute k (told_attribute n k name place) f.code f name place) (λ w. ap (λ z. z w x.state) (super_func (known (steps_of fns.program) frozen x.state.here.room) (told_attribute n (known (steps_of fns.program) frozen x.state.here.room) name place) f.code f name place e2)) h)

-- so many answers may still tell of another value
rounds-more : (k : Known) (n : ℕ) (v : Val) (name : List ℕ) (place : Place) → 0 < n → attribute_in_rounds n k v name place ≡ attribute_by k (told_attribute (n - 1) k name place) v name place
unfolding attribute_in_rounds
rounds-more k zero v name place e = absurd (omega arith)
rounds-more k (suc n) v name place e =
    let q : n ≡ suc n - 1 = omega arith in
    ap (λ m. attribute_by k (told_attribute m k name place) v name place) q

rounds-out : (k : Known) (n : ℕ) (v : Val) (name : List ℕ) (place : Place) → n ≡ 0 → attribute_in_rounds n k v name place ≡ stop Spent place
unfolding attribute_in_rounds
rounds-out k zero v name place e = refl
rounds-out k (suc n) v name place e = absurd (omega arith)

pub rounds_more : (fns : Functions) (frozen : Made) (r : Result Now Halt) (x y : Going) (budget : ℕ) (n : ℕ) (v : Val) (name : List ℕ) (place : Place) → 0 < n → GoesOn fns frozen r x y budget (λ k. attribute_by k (told_attribute (n - 1) k name place) v name place) → GoesOn fns frozen r x y budget (λ k. attribute_in_rounds n k v name place)
rounds_more fns frozen r x y budget n v name place e1 h = same_runs fns frozen r x y budget (λ k. attribute_by k (told_attribute (n - 1) k name place) v name place) (λ k. attribute_in_rounds n k v name place) (λ w. ap (λ z. z w x.state) (rounds-more (known (steps_of fns.program) frozen x.state.here.room) n v name place e1)) h

pub rounds_out : (fns : Functions) (frozen : Made) (r : Result Now Halt) (x y : Going) (budget : ℕ) (n : ℕ) (v : Val) (name : List ℕ) (place : Place) → n ≡ 0 → GoesOn fns frozen r x y budget (λ k. stop Spent place) → GoesOn fns frozen r x y budget (λ k. attribute_in_rounds n k v name place)
rounds_out fns frozen r x y budget n v name place e1 h = same_runs fns frozen r x y budget (λ k. stop Spent place) (λ k. attribute_in_rounds n k v name place) (λ w. ap (λ z. z w x.state) (rounds-out (known (steps_of fns.program) frozen x.state.here.room) n v name place e1)) h

pub ruleset round_rules = (rounds_more, rounds_out)
