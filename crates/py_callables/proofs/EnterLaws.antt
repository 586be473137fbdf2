-- Laws of functions that begin.
use Rattle.std.proofs.Common.{◌≡◌, ℕ, zero, suc, ◌+◌, ◌<◌, arith, refl, ap, ◌∙◌, sym, subst, List, [], ◌∷◌, length, Option, Some, None, option_map, Result, Ok, Err, false}
use Rattle.amh_host.specs.declared.place.Place.{Place}
use Rattle.py_tree.specs.declared.stmt.Function.{Function, out-Function, fold_out-Function}
use Rattle.py_tree.specs.Programs.{steps_of, body_of, kind_step_seen, block_seen, branch_seen, function_seen, stmt_seen}
use Rattle.py_tree.specs.Tree.{Tree}
use Rattle.py_tree.specs.Steps.{Step, Steps, Body, Fun}
use Rattle.py_values.specs.declared.val.Val.{Val}
use Rattle.py_values.specs.declared.val.ScopeId.{ScopeId}
use Rattle.py_values.specs.declared.val.ValueStop.{ValueStop}
use Rattle.py_values.specs.declared.val.ValueStop.TheVariants as refusal
use Rattle.py_values.specs.declared.func.Func.{Func}
use Rattle.py_heap.specs.Heaps.{Made, seen, func_at}
use Rattle.py_values.specs.Runs.{Answers}
use Rattle.py_heap.specs.Names.{new_scope, scope_bound}
use Rattle.py_frames.specs.declared.request.NamedVal.{NamedVal}
use Rattle.py_frames.specs.declared.request.Cause.TheVariants as cause
use Rattle.py_frames.specs.declared.state.State.{State}
use Rattle.py_frames.specs.declared.state.Here.{Here}
use Rattle.py_frames.specs.declared.state.ClassBody.{ClassBody}
use Rattle.py_frames.specs.declared.state.Halt.{Halt}
use Rattle.py_frames.specs.declared.state.Halt.TheVariants.{Stopped}
use Rattle.py_frames.specs.declared.frame.Now.{Now}
use Rattle.py_frames.specs.declared.frame.Frame.{Frame}
use Rattle.py_frames.specs.declared.frame.Frame.TheVariants as frame
use Rattle.py_frames.specs.declared.frame.CallFrame.TheVariants as call
use Rattle.py_frames.specs.declared.functions.Functions.{Functions}
use Rattle.py_frames.specs.declared.going.Going.{Going}
use Rattle.py_frames.specs.Doing.{World, Doing, Known, made, stop, cause_of, then_do}
use Rattle.py_frames.specs.Functions.{function_at, parameters_met, named_val}
use Rattle.py_frames.specs.Own.{function_names}
use Rattle.py_frames.specs.Tables.{described}
use Rattle.py_frames.specs.Values.{bind_all, with_this, with_binding, kept_in}
use Rattle.py_frames.specs.Statements.{known, calls, entered, func_entered, code_entered, body_entered, body_run, with_met, parameters_of, run_all, call_ended, function_here, first_of}
use Rattle.py_callables.specs.Entering.{runs_at, body_steps, runs_under}
use Rattle.py_walks.specs.Binding_all.{after_set, names_bound}
use Rattle.py_frames.specs.Frames.{GoesOn, told, stops_as, finish}
use Rattle.py_frames.proofs.BeginLaws.{stops_as-finish, stop_goes, no_memory}
use Rattle.py_frames.proofs.CallLaws.{looked, same_goes, same_runs}

-- ---- what is called

calls-entered : (room : ℕ) (program : Steps) (frozen : Made) (f : Val) (args : List Val) (keywords : List NamedVal) (place : Place) → calls room program frozen f args keywords place ≡ entered (runs_at program frozen room) program frozen f args keywords place
unfolding calls
calls-entered zero program frozen f args keywords place = refl
calls-entered (suc room) program frozen f args keywords place = refl

pub enter_goes : (fns : Functions) (frozen : Made) (r : Result Now Halt) (x y : Going) (budget : ℕ) (f : Val) (args : List Val) (keywords : List NamedVal) (place : Place) → GoesOn fns frozen r x y budget (λ k. entered (runs_at k.program k.frozen x.state.here.room) k.program k.frozen f args keywords place) → GoesOn fns frozen r x y budget (λ k. k.call f args keywords place)
enter_goes fns frozen r x y budget f args keywords place h = same_runs fns frozen r x y budget (λ k. entered (runs_at k.program k.frozen x.state.here.room) k.program k.frozen f args keywords place) (λ k. k.call f args keywords place) (λ w. ap (λ (z : Doing). z w x.state) (calls-entered x.state.here.room (steps_of fns.program) frozen f args keywords place)) h

pub func_some : (fns : Functions) (frozen : Made) (r : Result Now Halt) (x y : Going) (budget : ℕ) (id : ℕ) (f : Func) (args : List Val) (keywords : List NamedVal) (place : Place) → Some f ≡ func_at (seen frozen x.state.heap) id → GoesOn fns frozen r x y budget (λ k. code_entered (runs_at k.program k.frozen x.state.here.room) k.program f.code f args keywords place) → GoesOn fns frozen r x y budget (λ k w s. func_entered (runs_at k.program k.frozen x.state.here.room) k.program (func_at (seen k.frozen s.heap) id) args keywords place w s)
func_some fns frozen r x y budget id f args keywords place e h = looked fns frozen r x y budget (λ s. func_at s id) (λ z k. func_entered (runs_at k.program k.frozen x.state.here.room) k.program z args keywords place) (Some f) e h

pub func_none : (fns : Functions) (frozen : Made) (r : Result Now Halt) (x y : Going) (budget : ℕ) (id : ℕ) (args : List Val) (keywords : List NamedVal) (place : Place) → None ≡ func_at (seen frozen x.state.heap) id → GoesOn fns frozen r x y budget (λ k. stop cause.Raised place) → GoesOn fns frozen r x y budget (λ k w s. func_entered (runs_at k.program k.frozen x.state.here.room) k.program (func_at (seen k.frozen s.heap) id) args keywords place w s)
func_none fns frozen r x y budget id args keywords place e h = looked fns frozen r x y budget (λ s. func_at s id) (λ z k. func_entered (runs_at k.program k.frozen x.state.here.room) k.program z args keywords place) None e h

pub ruleset func_rules = (func_some, func_none)

-- what a table tells of a function
abbrev told-body : Option (Body × List (List ℕ)) → Option Body
told-body o = option_map (λ (z : Body × List (List ℕ)). z.0) o

abbrev body-or : Body → Option (Body × List (List ℕ)) → Body
body-or b None = b
body-or b (Some x) = x.0

abbrev own-or : List (List ℕ) → Option (Body × List (List ℕ)) → List (List ℕ)
own-or own None = own
own-or own (Some x) = x.1

found-body : (b : Body) (own : List (List ℕ)) (o : Option Body) → Some (b, own) ≡ option_map described o → Some b ≡ o
found-body b own None e = ap told-body e
found-body b own (Some a) e = ap told-body e

found-none : (o : Option Body) → None ≡ option_map described o → None ≡ o
found-none None e = refl
found-none (Some a) e = cc

found-own : (b : Body) (own : List (List ℕ)) (o : Option Body) → Some (b, own) ≡ option_map described o → own ≡ function_names b
found-own b own None e = cc
found-own b own (Some a) e = ap (own-or own) e ∙ sym (ap (λ (z : Option (Body × List (List ℕ))). function_names (body-or b z)) e)

pub found_own : (fns : Functions) (at_place : Place) (b : Body) (own : List (List ℕ)) → Some (b, own) ≡ option_map described (function_at at_place (steps_of fns.program)) → own ≡ function_names b
found_own fns at_place b own e = found-own b own (function_at at_place (steps_of fns.program)) e

pub found_some : (fns : Functions) (frozen : Made) (r : Result Now Halt) (x y : Going) (budget : ℕ) (at_place : Place) (b : Body) (own : List (List ℕ)) (f : Func) (args : List Val) (keywords : List NamedVal) (place : Place) → Some (b, own) ≡ option_map described (function_at at_place (steps_of fns.program)) → GoesOn fns frozen r x y budget (λ k. body_entered (runs_at k.program k.frozen x.state.here.room) (Some b) f args keywords place) → GoesOn fns frozen r x y budget (λ k. body_entered (runs_at k.program k.frozen x.state.here.room) (function_at at_place k.program) f args keywords place)
found_some fns frozen r x y budget at_place b own f args keywords place e h = same_runs fns frozen r x y budget (λ k. body_entered (runs_at k.program k.frozen x.state.here.room) (Some b) f args keywords place) (λ k. body_entered (runs_at k.program k.frozen x.state.here.room) (function_at at_place k.program) f args keywords place) (λ w. ap (λ (z : Option Body). body_entered (runs_at (steps_of fns.program) frozen x.state.here.room) z f args keywords place w x.state) (sym (found-body b own (function_at at_place (steps_of fns.program)) e))) h

pub found_none : (fns : Functions) (frozen : Made) (r : Result Now Halt) (x y : Going) (budget : ℕ) (at_place : Place) (f : Func) (args : List Val) (keywords : List NamedVal) (place : Place) → None ≡ option_map described (function_at at_place (steps_of fns.program)) → GoesOn fns frozen r x y budget (λ k. stop cause.Raised place) → GoesOn fns frozen r x y budget (λ k. body_entered (runs_at k.program k.frozen x.state.here.room) (function_at at_place k.program) f args keywords place)
found_none fns frozen r x y budget at_place f args keywords place e h = same_runs fns frozen r x y budget (λ k. stop cause.Raised place) (λ k. body_entered (runs_at k.program k.frozen x.state.here.room) (function_at at_place k.program) f args keywords place) (λ w. ap (λ (z : Option Body). body_entered (runs_at (steps_of fns.program) frozen x.state.here.room) z f args keywords place w x.state) (sym (found-none (function_at at_place (steps_of fns.program)) e))) h

pub met_some : (fns : Functions) (frozen : Made) (r : Result Now Halt) (x y : Going) (budget : ℕ) (b : Body) (f : Func) (args vals : List Val) (keywords met : List NamedVal) (place : Place) → vals ≡ with_this f.this args → Some met ≡ parameters_met (parameters_of b) vals keywords f.defaults → GoesOn fns frozen r x y budget (λ k. (runs_at k.program k.frozen x.state.here.room).run_body f vals met b place) → GoesOn fns frozen r x y budget (λ k. body_entered (runs_at k.program k.frozen x.state.here.room) (Some b) f args keywords place)
met_some fns frozen r x y budget b f args vals keywords met place e1 e2 h =
    same_goes fns frozen r x y budget (λ z k. with_met (parameters_met (parameters_of b) z keywords f.defaults) place (λ m. (runs_at k.program k.frozen x.state.here.room).run_body f z m b place)) vals (with_this f.this args) e1
    (same_goes fns frozen r x y budget (λ z k. with_met z place (λ m. (runs_at k.program k.frozen x.state.here.room).run_body f vals m b place)) (Some met) (parameters_met (parameters_of b) vals keywords f.defaults) e2 h)

pub met_none : (fns : Functions) (frozen : Made) (r : Result Now Halt) (x y : Going) (budget : ℕ) (b : Body) (f : Func) (args vals : List Val) (keywords : List NamedVal) (place : Place) → vals ≡ with_this f.this args → None ≡ parameters_met (parameters_of b) vals keywords f.defaults → GoesOn fns frozen r x y budget (λ k. stop cause.Raised place) → GoesOn fns frozen r x y budget (λ k. body_entered (runs_at k.program k.frozen x.state.here.room) (Some b) f args keywords place)
met_none fns frozen r x y budget b f args vals keywords place e1 e2 h =
    same_goes fns frozen r x y budget (λ z k. with_met (parameters_met (parameters_of b) z keywords f.defaults) place (λ m. (runs_at k.program k.frozen x.state.here.room).run_body f z m b place)) vals (with_this f.this args) e1
    (same_goes fns frozen r x y budget (λ z k. with_met z place (λ m. (runs_at k.program k.frozen x.state.here.room).run_body f vals m b place)) None (parameters_met (parameters_of b) vals keywords f.defaults) e2 h)

pub ruleset met_rules = (met_some, met_none)

-- ---- the body

-- the statements of a function are those of its tree
pub body_block : (f : Function) → steps_of (out-Function f).body ≡ body_steps (body_of f)
body_block f = sym (ap body_steps (fold_out-Function (Place → Step) Steps (Tree × Steps) Body Step kind_step_seen block_seen branch_seen function_seen stmt_seen f))

-- statements begin elsewhere, under the frame that leads back
body-pushed : (fns : Functions) (frozen : Made) (r : Result Now Halt) (x y : Going) (budget : ℕ) (here : Here) (bound : ℕ) (ss : Steps) → GoesOn fns frozen r (record x { frames = frame.Call (call.CallEnd x.state.here) ∷ x.frames; state = record x.state { here = here; bound = bound } }) y budget (λ k. run_all k ss) → GoesOn fns frozen r x y budget (λ k. runs_under k here bound ss)
unfolding GoesOn
body-pushed fns frozen r x y budget here bound ss h = h

pub body_pushed : (fns : Functions) (frozen : Made) (r : Result Now Halt) (x y : Going) (budget : ℕ) (here there outer : Here) (bound : ℕ) (ss : Steps) (fs : List Frame) → outer ≡ x.state.here → there ≡ here → fs ≡ frame.Call (call.CallEnd outer) ∷ x.frames → GoesOn fns frozen r (record x { frames = fs; state = record x.state { here = there; bound = bound } }) y budget (λ k. run_all k ss) → GoesOn fns frozen r x y budget (λ k. runs_under k here bound ss)
body_pushed fns frozen r x y budget here there outer bound ss fs e1 e2 e3 h =
    let P : Here → Type 0 = λ z. GoesOn fns frozen r (record x { frames = frame.Call (call.CallEnd z) ∷ x.frames; state = record x.state { here = here; bound = bound } }) y budget (λ k. run_all k ss) in
    let Q : Here → Type 0 = λ z. GoesOn fns frozen r (record x { frames = frame.Call (call.CallEnd outer) ∷ x.frames; state = record x.state { here = z; bound = bound } }) y budget (λ k. run_all k ss) in
    let S : List Frame → Type 0 = λ z. GoesOn fns frozen r (record x { frames = z; state = record x.state { here = there; bound = bound } }) y budget (λ k. run_all k ss) in
    body-pushed fns frozen r x y budget here bound ss (subst P e1 (subst Q e2 (subst S e3 h)))

-- no class body keeps what a call binds
kept-none : (h : Here) (x : NamedVal) → h.body ≡ None → with_binding x h ≡ h
kept-none h x e = ap (λ (z : Option ClassBody). record h { body = z }) (ap (option_map (kept_in h.scope x)) e ∙ sym e)

bind-more : (k : Known) (x : NamedVal) (xs : List NamedVal) (p : Place) (m : Doing) (w : World) (s : State) (heap : Made) (r : Result (Unit {0} × Made) ValueStop) → s.here.body ≡ None → ((more : Made) → names_bound k.frozen s.here.scope.0 more xs ≡ Ok heap → bind_all k xs p m w (record s { heap = more; bound = s.bound + 1 }) ≡ m w (record s { heap = heap; bound = s.bound + 1 + length xs })) → after_set r (λ more. names_bound k.frozen s.here.scope.0 more xs) ≡ Ok heap → made r p (λ _ w2 s2. bind_all k xs p m w2 (record s2 { bound = s2.bound + 1; here = with_binding (named_val x.name x.val) s2.here })) w s ≡ m w (record s { heap = heap; bound = s.bound + suc (length xs) })
bind-more k x xs p m w s heap (Ok t) n h e = ap (λ (z : Here). bind_all k xs p m w (record s { heap = t.1; bound = s.bound + 1; here = z })) (kept-none s.here (named_val x.name x.val) n) ∙ let q : s.bound + 1 + length xs ≡ s.bound + suc (length xs) = omega arith in h t.1 e ∙ ap (λ (n : ℕ). m w (record s { heap = heap; bound = n })) q
bind-more k x xs p m w s heap (Err v) n h e = cc

bind-ok : (k : Known) (xs : List NamedVal) (p : Place) (m : Doing) (w : World) (s : State) (heap : Made) → s.here.body ≡ None → names_bound k.frozen s.here.scope.0 s.heap xs ≡ Ok heap → bind_all k xs p m w s ≡ m w (record s { heap = heap; bound = s.bound + length xs })
bind-ok k [] p m w s heap n e = let q : s.heap ≡ heap = cc in let z : s.bound ≡ s.bound + 0 = omega arith in ap (λ (h : Made). m w (record s { heap = h })) q ∙ ap (λ (n : ℕ). m w (record s { heap = heap; bound = n })) z
bind-ok k (x ∷ xs) p m w s heap n e = bind-more k x xs p m w s heap (scope_bound (seen k.frozen s.heap) s.here.scope.0 x.name x.val) n (λ more. bind-ok k xs p m w (record s { heap = more; bound = s.bound + 1 }) heap n) e

bind-stop : (k : Known) (x : NamedVal) (xs : List NamedVal) (p : Place) (m : Doing) (w : World) (s : State) (program : Steps) (frozen : Made) (room : ℕ) (fs : List Frame) (v : ValueStop) (r : Result (Unit {0} × Made) ValueStop) → s.here.body ≡ None → ((more : Made) → names_bound k.frozen s.here.scope.0 more xs ≡ Err v → stops_as (finish program frozen room fs w (bind_all k xs p m w (record s { heap = more; bound = s.bound + 1 }))) ≡ Some (record { cause = cause_of v; place = p }, s.used)) → after_set r (λ more. names_bound k.frozen s.here.scope.0 more xs) ≡ Err v → stops_as (finish program frozen room fs w (made r p (λ _ w2 s2. bind_all k xs p m w2 (record s2 { bound = s2.bound + 1; here = with_binding (named_val x.name x.val) s2.here })) w s)) ≡ Some (record { cause = cause_of v; place = p }, s.used)
bind-stop k x xs p m w s program frozen room fs v (Ok t) n h e =
    ap (λ (z : Here). stops_as (finish program frozen room fs w (bind_all k xs p m w (record s { heap = t.1; bound = s.bound + 1; here = z })))) (kept-none s.here (named_val x.name x.val) n) ∙ h t.1 e
bind-stop k x xs p m w s program frozen room fs v (Err u) n h e = let q : u ≡ v = cc in stops_as-finish program frozen room fs w (record { cause = cause_of u; place = p }) s ∙ ap (λ (z : ValueStop). Some (record { cause = cause_of z; place = p }, s.used)) q

bind-err : (k : Known) (xs : List NamedVal) (p : Place) (m : Doing) (w : World) (s : State) (program : Steps) (frozen : Made) (room : ℕ) (fs : List Frame) (v : ValueStop) → s.here.body ≡ None → names_bound k.frozen s.here.scope.0 s.heap xs ≡ Err v → stops_as (finish program frozen room fs w (bind_all k xs p m w s)) ≡ Some (record { cause = cause_of v; place = p }, s.used)
bind-err k [] p m w s program frozen room fs v n e = cc
bind-err k (x ∷ xs) p m w s program frozen room fs v n e = bind-stop k x xs p m w s program frozen room fs v (scope_bound (seen k.frozen s.heap) s.here.scope.0 x.name x.val) n (λ more. bind-err k xs p m w (record s { heap = more; bound = s.bound + 1 }) program frozen room fs v n) e

-- no call may stand in as many others
pub no_room_stops : (fns : Functions) (frozen : Made) (x : Going) (budget : ℕ) (f : Func) (args : List Val) (met : List NamedVal) (b : Body) (place : Place) → x.state.here.room < 1 → GoesOn fns frozen (Err (Stopped (record { cause = cause.Limit; place = place }))) x x budget (λ k. (runs_at k.program k.frozen x.state.here.room).run_body f args met b place)
no_room_stops fns frozen x budget f args met b place e =
    let q : zero ≡ x.state.here.room = omega arith in
    same_goes fns frozen (Err (Stopped (record { cause = cause.Limit; place = place }))) x x budget (λ (z : ℕ) k. (runs_at k.program k.frozen z).run_body f args met b place) zero x.state.here.room q (stop_goes fns frozen x budget cause.Limit place)

moved-heap : (fns : Functions) (frozen : Made) (r : Result Now Halt) (x y : Going) (budget : ℕ) (heap : Made) (here : Here) (bound : ℕ) (ss : Steps) → GoesOn fns frozen r (record x { state = record x.state { heap = heap } }) y budget (λ k. runs_under k here bound ss) → GoesOn fns frozen r x y budget (λ k w s. runs_under k here bound ss w (record s { heap = heap }))
unfolding GoesOn
moved-heap fns frozen r x y budget heap here bound ss h = h

run-begun : (program : Steps) (frozen : Made) (room : ℕ) (f : Func) (args : List Val) (met : List NamedVal) (b : Body) (place : Place) (w : World) (s : State) (scope : ScopeId) (heap more : Made) → new_scope (seen frozen s.heap) f.scope false (function_names b) ≡ Ok (scope, heap) → names_bound frozen scope.0 heap met ≡ Ok more → body_run (known program frozen room) room f args met b place w s ≡ runs_under (known program frozen (suc room)) (function_here room f args scope) (s.bound + length met) (body_steps b) w (record s { heap = more })
run-begun program frozen room f args met (Fun q name is_async params result body) place w s scope heap more e1 e2 =
    ap (λ z. made z place (λ scope w2 t. bind_all (known program frozen room) met place (then_do (run_all (known program frozen room) body) (call_ended s.here)) w2 (record t { here = function_here room f args scope })) w s) e1
    ∙ bind-ok (known program frozen room) met place (then_do (run_all (known program frozen room) body) (call_ended s.here)) w (record s { heap = heap; here = function_here room f args scope }) more refl e2

pub body_ok : (fns : Functions) (frozen : Made) (r : Result Now Halt) (x y : Going) (budget : ℕ) (f : Func) (args vals : List Val) (met same : List NamedVal) (b : Body) (place : Place) (room bound : ℕ) (scope : ScopeId) (heap more : Made) (own : List (List ℕ)) (first : Option Val) (notes : List NamedVal) (ss : Steps) → own ≡ function_names b → ss ≡ body_steps b → x.state.here.room ≡ suc room → bound ≡ x.state.bound + length met → vals ≡ args → first ≡ first_of vals → notes ≡ [] → new_scope (seen frozen x.state.heap) f.scope false own ≡ Ok (scope, heap) → same ≡ met → names_bound frozen scope.0 heap same ≡ Ok more → GoesOn fns frozen r (record x { state = record x.state { heap = more } }) y budget (λ k. runs_under k (record { scope = scope; first = first; body = None; notes = notes; room = room }) bound ss) → GoesOn fns frozen r x y budget (λ k. (runs_at k.program k.frozen x.state.here.room).run_body f args met b place)
body_ok fns frozen r x y budget f args vals met same b place room bound scope heap more own first notes ss e1 e2 e3 e4 i1 i2 i3 e6 i4 e7 h =
    same_goes fns frozen r x y budget (λ (z : ℕ) k. (runs_at k.program k.frozen z).run_body f args met b place) (suc room) x.state.here.room (sym e3)
    (same_runs fns frozen r x y budget (λ k w s. runs_under k (record { scope = scope; first = first; body = None; notes = notes; room = room }) bound ss w (record s { heap = more })) (λ k. body_run (known k.program k.frozen room) room f args met b place)
    (λ w. run-begun (steps_of fns.program) frozen room f args met b place w x.state scope heap more (ap (λ (z : List (List ℕ)). new_scope (seen frozen x.state.heap) f.scope false z) (sym e1) ∙ e6) (ap (names_bound frozen scope.0 heap) (sym i4) ∙ e7)
    ∙ ap (λ (z : Option Val). runs_under (known (steps_of fns.program) frozen (suc room)) (record { scope = scope; first = z; body = None; notes = []; room = room }) (x.state.bound + length met) (body_steps b) w (record x.state { heap = more })) (sym (i2 ∙ ap first_of i1))
    ∙ ap (λ (z : List NamedVal). runs_under (known (steps_of fns.program) frozen (suc room)) (record { scope = scope; first = first; body = None; notes = z; room = room }) (x.state.bound + length met) (body_steps b) w (record x.state { heap = more })) (sym i3)
    ∙ ap (λ (z : ℕ). runs_under (known (steps_of fns.program) frozen (suc room)) (record { scope = scope; first = first; body = None; notes = notes; room = room }) z (body_steps b) w (record x.state { heap = more })) (sym e4)
    ∙ ap (λ (z : Steps). runs_under (known (steps_of fns.program) frozen (suc room)) (record { scope = scope; first = first; body = None; notes = notes; room = room }) bound z w (record x.state { heap = more })) (sym e2))
    (moved-heap fns frozen r x y budget more (record { scope = scope; first = first; body = None; notes = notes; room = room }) bound ss h))

-- a new scope is never refused
pub scope_err : (fns : Functions) (frozen : Made) (x y : Going) (budget : ℕ) (f : Func) (args : List Val) (met : List NamedVal) (b : Body) (place : Place) (e : ValueStop) (own : List (List ℕ)) → Answers {A = ScopeId × Made} (Err e) (new_scope (seen frozen x.state.heap) f.scope false own) → GoesOn fns frozen (told (Err e) place) x y budget (λ k. (runs_at k.program k.frozen x.state.here.room).run_body f args met b place)
scope_err fns frozen x y budget f args met b place refusal.Raised own h = cc
scope_err fns frozen x y budget f args met b place refusal.Width own h = cc
scope_err fns frozen x y budget f args met b place refusal.Limit own h = cc
scope_err fns frozen x y budget f args met b place refusal.Spent own h = absurd h
scope_err fns frozen x y budget f args met b place refusal.NoMemory own h = no_memory fns frozen x y budget (λ k. (runs_at k.program k.frozen x.state.here.room).run_body f args met b place)

run-stopped : (program : Steps) (frozen : Made) (room : ℕ) (f : Func) (args : List Val) (met : List NamedVal) (b : Body) (place : Place) (w : World) (s : State) (scope : ScopeId) (heap : Made) (top : ℕ) (fs : List Frame) (v : ValueStop) → new_scope (seen frozen s.heap) f.scope false (function_names b) ≡ Ok (scope, heap) → names_bound frozen scope.0 heap met ≡ Err v → stops_as (finish program frozen top fs w (body_run (known program frozen room) room f args met b place w s)) ≡ Some (record { cause = cause_of v; place = place }, s.used)
run-stopped program frozen room f args met (Fun q name is_async params result body) place w s scope heap top fs v e1 e2 =
    ap (λ z. stops_as (finish program frozen top fs w (made z place (λ scope w2 t. bind_all (known program frozen room) met place (then_do (run_all (known program frozen room) body) (call_ended s.here)) w2 (record t { here = function_here room f args scope })) w s))) e1
    ∙ bind-err (known program frozen room) met place (then_do (run_all (known program frozen room) body) (call_ended s.here)) w (record s { heap = heap; here = function_here room f args scope }) program frozen top fs v refl e2

stopped-at : (fns : Functions) (frozen : Made) (x y : Going) (budget : ℕ) (f : Func) (args : List Val) (met : List NamedVal) (b : Body) (place : Place) (room : ℕ) (scope : ScopeId) (heap : Made) (e : ValueStop) → new_scope (seen frozen x.state.heap) f.scope false (function_names b) ≡ Ok (scope, heap) → Answers {A = Made} (Err e) (names_bound frozen scope.0 heap met) → y.state.used ≡ x.state.used → GoesOn fns frozen (told (Err e) place) x y budget (λ k. body_run (known k.program k.frozen room) room f args met b place)
unfolding GoesOn
stopped-at fns frozen x y budget f args met b place room scope heap refusal.Raised e1 h u = λ w q. run-stopped (steps_of fns.program) frozen room f args met b place w x.state scope heap x.state.here.room x.frames refusal.Raised e1 h ∙ ap (λ n. Some (record { cause = cause.Raised; place = place }, n)) (sym u)
stopped-at fns frozen x y budget f args met b place room scope heap refusal.Width e1 h u = λ w q. run-stopped (steps_of fns.program) frozen room f args met b place w x.state scope heap x.state.here.room x.frames refusal.Width e1 h ∙ ap (λ n. Some (record { cause = cause.Width; place = place }, n)) (sym u)
stopped-at fns frozen x y budget f args met b place room scope heap refusal.Limit e1 h u = λ w q. run-stopped (steps_of fns.program) frozen room f args met b place w x.state scope heap x.state.here.room x.frames refusal.Limit e1 h ∙ ap (λ n. Some (record { cause = cause.Limit; place = place }, n)) (sym u)
stopped-at fns frozen x y budget f args met b place room scope heap refusal.Spent e1 h u = absurd h
stopped-at fns frozen x y budget f args met b place room scope heap refusal.NoMemory e1 h u = tt

pub body_err : (fns : Functions) (frozen : Made) (x y : Going) (budget : ℕ) (f : Func) (args : List Val) (met same : List NamedVal) (b : Body) (place : Place) (room : ℕ) (scope : ScopeId) (heap : Made) (own : List (List ℕ)) (e : ValueStop) → own ≡ function_names b → x.state.here.room ≡ suc room → new_scope (seen frozen x.state.heap) f.scope false own ≡ Ok (scope, heap) → same ≡ met → Answers {A = Made} (Err e) (names_bound frozen scope.0 heap same) → y.state.used ≡ x.state.used → GoesOn fns frozen (told (Err e) place) x y budget (λ k. (runs_at k.program k.frozen x.state.here.room).run_body f args met b place)
body_err fns frozen x y budget f args met same b place room scope heap own e e1 e3 e6 i4 h u =
    same_goes fns frozen (told (Err e) place) x y budget (λ (z : ℕ) k. (runs_at k.program k.frozen z).run_body f args met b place) (suc room) x.state.here.room (sym e3)
    (stopped-at fns frozen x y budget f args met b place room scope heap e (ap (λ (z : List (List ℕ)). new_scope (seen frozen x.state.heap) f.scope false z) (sym e1) ∙ e6) (let P : List NamedVal → Type 0 = λ z. Answers {A = Made} (Err e) (names_bound frozen scope.0 heap z) in subst P i4 h) u)

pub ruleset body_rules = (no_room_stops, scope_err)
