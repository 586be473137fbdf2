-- Laws of names that are bound, and of attributes that are set, one after the other.
use Rattle.std.proofs.Common.{◌≡◌, ℕ, ◌+◌, ◌<◌, ◌≤◌, ap, ◌∙◌, sym, subst, List, [], ◌∷◌, length, get_or, drop, Some, Result, Ok, Err}
use Rattle.std.proofs.lemmas.List.{drop_more, drop_all}
use Rattle.amh_host.specs.declared.place.Place.{Place}
use Rattle.py_tree.specs.Programs.{steps_of}
use Rattle.py_tree.specs.Steps.{Steps}
use Rattle.py_values.specs.declared.val.Val.{Val}
use Rattle.py_values.specs.declared.val.ObjId.{ObjId}
use Rattle.py_values.specs.declared.val.ValueStop.{ValueStop}
use Rattle.py_values.specs.declared.val.ValueStop.TheVariants as refusal
use Rattle.py_heap.specs.Heaps.{Made, seen}
use Rattle.py_values.specs.Runs.{Answers}
use Rattle.py_heap.specs.Names.{scope_bound}
use Rattle.py_heap.specs.Objects.{attribute_set}
use Rattle.py_frames.specs.declared.request.NamedVal.{NamedVal}
use Rattle.py_frames.specs.declared.request.Cause.TheVariants as cause
use Rattle.py_frames.specs.declared.state.State.{State}
use Rattle.py_frames.specs.declared.state.Got.TheVariants.{Value}
use Rattle.py_frames.specs.declared.frame.Frame.{Frame}
use Rattle.py_frames.specs.declared.frame.Now.TheVariants.{Came}
use Rattle.py_frames.specs.declared.functions.Functions.{Functions}
use Rattle.py_frames.specs.declared.going.Going.{Going}
use Rattle.py_frames.specs.Doing.{World, Doing, Known, made, give, cause_of}
use Rattle.py_frames.specs.Statements.{known}
use Rattle.py_frames.specs.Values.{attributes_bound}
use Rattle.py_walks.specs.Binding_all.{after_set, names_bound, attributes_set}
use Rattle.py_frames.specs.Frames.{GoesOn, told, stops_as, finish}
use Rattle.py_frames.proofs.BeginLaws.{stops_as-finish, give_goes}
use Rattle.py_frames.proofs.CallLaws.{same_runs}

-- ---- one step of each walk

bound-step : (frozen : Made) (scope : ℕ) (heap : Made) (names : List NamedVal) (i : ℕ) (x : NamedVal) → i < length names → x ≡ get_or names i x → names_bound frozen scope heap (drop i names) ≡ after_set (scope_bound (seen frozen heap) scope x.name x.val) (λ more. names_bound frozen scope more (drop (i + 1) names))
bound-step frozen scope heap names i x e q = ap (names_bound frozen scope heap) (drop_more names i x e ∙ ap (λ z. z ∷ drop (i + 1) names) (sym q))

pub bound_goes : (frozen : Made) (scope : ℕ) (heap more : Made) (names : List NamedVal) (i : ℕ) (x : NamedVal) (t : Unit {0}) → i < length names → x ≡ get_or names i x → scope_bound (seen frozen heap) scope x.name x.val ≡ Ok (t, more) → names_bound frozen scope more (drop (i + 1) names) ≡ names_bound frozen scope heap (drop i names)
bound_goes frozen scope heap more names i x t e q h = sym (bound-step frozen scope heap names i x e q ∙ ap (λ z. after_set z (λ m. names_bound frozen scope m (drop (i + 1) names))) h)

answers-set : (e : ValueStop) (owed : Result (Unit {0} × Made) ValueStop) (f : Made → Result Made ValueStop) → Answers {A = Unit {0} × Made} (Err e) owed → Answers {A = Made} (Err e) (after_set owed f)
answers-set refusal.Raised owed f h = ap (λ z. after_set z f) h
answers-set refusal.Width owed f h = ap (λ z. after_set z f) h
answers-set refusal.Limit owed f h = ap (λ z. after_set z f) h
answers-set refusal.Spent owed f h = h
answers-set refusal.NoMemory owed f h = tt

answers-same : (e : ValueStop) (owed same : Result Made ValueStop) → owed ≡ same → Answers {A = Made} (Err e) owed → Answers {A = Made} (Err e) same
answers-same e owed same q h = let P : Result Made ValueStop → Type 0 = λ z. Answers {A = Made} (Err e) z in subst P q h

pub bound_stops : (frozen : Made) (scope : ℕ) (heap : Made) (names : List NamedVal) (i : ℕ) (x : NamedVal) (e : ValueStop) → i < length names → x ≡ get_or names i x → Answers {A = Unit {0} × Made} (Err e) (scope_bound (seen frozen heap) scope x.name x.val) → Answers {A = Made} (Err e) (names_bound frozen scope heap (drop i names))
bound_stops frozen scope heap names i x v e q h = answers-same v (after_set (scope_bound (seen frozen heap) scope x.name x.val) (λ more. names_bound frozen scope more (drop (i + 1) names))) (names_bound frozen scope heap (drop i names)) (sym (bound-step frozen scope heap names i x e q)) (answers-set v (scope_bound (seen frozen heap) scope x.name x.val) (λ more. names_bound frozen scope more (drop (i + 1) names)) h)

pub bound_ends : (frozen : Made) (scope : ℕ) (heap : Made) (names : List NamedVal) (i : ℕ) → length names ≤ i → names_bound frozen scope heap (drop i names) ≡ Ok heap
bound_ends frozen scope heap names i e = ap (names_bound frozen scope heap) (drop_all i names e)

pub ruleset bound_steps = (bound_goes, bound_stops, bound_ends)

set-step : (frozen : Made) (o : ℕ) (heap : Made) (names : List NamedVal) (i : ℕ) (x : NamedVal) → i < length names → x ≡ get_or names i x → attributes_set frozen o heap (drop i names) ≡ after_set (attribute_set (seen frozen heap) o x.name x.val) (λ more. attributes_set frozen o more (drop (i + 1) names))
set-step frozen o heap names i x e q = ap (attributes_set frozen o heap) (drop_more names i x e ∙ ap (λ z. z ∷ drop (i + 1) names) (sym q))

pub set_goes : (frozen : Made) (o : ℕ) (heap more : Made) (names : List NamedVal) (i : ℕ) (x : NamedVal) (t : Unit {0}) → i < length names → x ≡ get_or names i x → attribute_set (seen frozen heap) o x.name x.val ≡ Ok (t, more) → attributes_set frozen o more (drop (i + 1) names) ≡ attributes_set frozen o heap (drop i names)
set_goes frozen o heap more names i x t e q h = sym (set-step frozen o heap names i x e q ∙ ap (λ z. after_set z (λ m. attributes_set frozen o m (drop (i + 1) names))) h)

pub set_stops : (frozen : Made) (o : ℕ) (heap : Made) (names : List NamedVal) (i : ℕ) (x : NamedVal) (e : ValueStop) → i < length names → x ≡ get_or names i x → Answers {A = Unit {0} × Made} (Err e) (attribute_set (seen frozen heap) o x.name x.val) → Answers {A = Made} (Err e) (attributes_set frozen o heap (drop i names))
set_stops frozen o heap names i x v e q h = answers-same v (after_set (attribute_set (seen frozen heap) o x.name x.val) (λ more. attributes_set frozen o more (drop (i + 1) names))) (attributes_set frozen o heap (drop i names)) (sym (set-step frozen o heap names i x e q)) (answers-set v (attribute_set (seen frozen heap) o x.name x.val) (λ more. attributes_set frozen o more (drop (i + 1) names)) h)

pub set_ends : (frozen : Made) (o : ℕ) (heap : Made) (names : List NamedVal) (i : ℕ) → length names ≤ i → attributes_set frozen o heap (drop i names) ≡ Ok heap
set_ends frozen o heap names i e = ap (attributes_set frozen o heap) (drop_all i names e)

pub ruleset set_steps = (set_goes, set_stops, set_ends)

-- ---- what they mean

set-more : (k : Known) (o : ObjId) (xs : List NamedVal) (p : Place) (m : Doing) (w : World) (s : State) (heap : Made) (r : Result (Unit {0} × Made) ValueStop) → ((more : Made) → attributes_set k.frozen o.0 more xs ≡ Ok heap → attributes_bound k o xs p m w (record s { heap = more }) ≡ m w (record s { heap = heap })) → after_set r (λ more. attributes_set k.frozen o.0 more xs) ≡ Ok heap → made r p (λ _. attributes_bound k o xs p m) w s ≡ m w (record s { heap = heap })
set-more k o xs p m w s heap (Ok t) h e = h t.1 e
set-more k o xs p m w s heap (Err v) h e = cc

set-ok : (k : Known) (o : ObjId) (xs : List NamedVal) (p : Place) (m : Doing) (w : World) (s : State) (heap : Made) → attributes_set k.frozen o.0 s.heap xs ≡ Ok heap → attributes_bound k o xs p m w s ≡ m w (record s { heap = heap })
set-ok k o [] p m w s heap e = let q : s.heap ≡ heap = cc in ap (λ (z : Made). m w (record s { heap = z })) q
set-ok k o (x ∷ xs) p m w s heap e = set-more k o xs p m w s heap (attribute_set (seen k.frozen s.heap) o.0 x.name x.val) (λ more. set-ok k o xs p m w (record s { heap = more }) heap) e

-- why and where a change of the heap stops
set-stop : (k : Known) (o : ObjId) (xs : List NamedVal) (p : Place) (m : Doing) (w : World) (s : State) (program : Steps) (frozen : Made) (room : ℕ) (fs : List Frame) (v : ValueStop) (r : Result (Unit {0} × Made) ValueStop) → ((more : Made) → attributes_set k.frozen o.0 more xs ≡ Err v → stops_as (finish program frozen room fs w (attributes_bound k o xs p m w (record s { heap = more }))) ≡ Some (record { cause = cause_of v; place = p }, s.used)) → after_set r (λ more. attributes_set k.frozen o.0 more xs) ≡ Err v → stops_as (finish program frozen room fs w (made r p (λ _. attributes_bound k o xs p m) w s)) ≡ Some (record { cause = cause_of v; place = p }, s.used)
set-stop k o xs p m w s program frozen room fs v (Ok t) h e = h t.1 e
set-stop k o xs p m w s program frozen room fs v (Err u) h e = let q : u ≡ v = cc in stops_as-finish program frozen room fs w (record { cause = cause_of u; place = p }) s ∙ ap (λ (z : ValueStop). Some (record { cause = cause_of z; place = p }, s.used)) q

set-err : (k : Known) (o : ObjId) (xs : List NamedVal) (p : Place) (m : Doing) (w : World) (s : State) (program : Steps) (frozen : Made) (room : ℕ) (fs : List Frame) (v : ValueStop) → attributes_set k.frozen o.0 s.heap xs ≡ Err v → stops_as (finish program frozen room fs w (attributes_bound k o xs p m w s)) ≡ Some (record { cause = cause_of v; place = p }, s.used)
set-err k o [] p m w s program frozen room fs v e = cc
set-err k o (x ∷ xs) p m w s program frozen room fs v e = set-stop k o xs p m w s program frozen room fs v (attribute_set (seen k.frozen s.heap) o.0 x.name x.val) (λ more. set-err k o xs p m w (record s { heap = more }) program frozen room fs v) e

moved-set : (fns : Functions) (frozen : Made) (x : Going) (budget : ℕ) (heap : Made) (v : Val) → GoesOn fns frozen (Ok (Came (Value v))) (record x { state = record x.state { heap = heap } }) (record x { state = record x.state { heap = heap } }) budget (λ k. give v) → GoesOn fns frozen (Ok (Came (Value v))) x (record x { state = record x.state { heap = heap } }) budget (λ k w s. give v w (record s { heap = heap }))
unfolding GoesOn
moved-set fns frozen x budget heap v h = h

pub attributes_ok : (fns : Functions) (frozen : Made) (x : Going) (budget : ℕ) (o : ObjId) (names same : List NamedVal) (place : Place) (v : Val) (heap : Made) → same ≡ names → attributes_set frozen o.0 x.state.heap same ≡ Ok heap → GoesOn fns frozen (Ok (Came (Value v))) x (record x { state = record x.state { heap = heap } }) budget (λ k. attributes_bound k o names place (give v))
attributes_ok fns frozen x budget o names same place v heap q e =
    same_runs fns frozen (Ok (Came (Value v))) x (record x { state = record x.state { heap = heap } }) budget (λ k w s. give v w (record s { heap = heap })) (λ k. attributes_bound k o names place (give v))
    (λ w. set-ok (known (steps_of fns.program) frozen x.state.here.room) o names place (give v) w x.state heap (ap (attributes_set frozen o.0 x.state.heap) (sym q) ∙ e))
    (moved-set fns frozen x budget heap v (give_goes fns frozen (record x { state = record x.state { heap = heap } }) budget v))

pub attributes_err : (fns : Functions) (frozen : Made) (x y : Going) (budget : ℕ) (o : ObjId) (names same : List NamedVal) (place : Place) (v : Val) (e : ValueStop) → same ≡ names → Answers {A = Made} (Err e) (attributes_set frozen o.0 x.state.heap same) → y.state.used ≡ x.state.used → GoesOn fns frozen (told (Err e) place) x y budget (λ k. attributes_bound k o names place (give v))
unfolding GoesOn
attributes_err fns frozen x y budget o names same place v refusal.Raised q h u = λ w b. set-err (known (steps_of fns.program) frozen x.state.here.room) o names place (give v) w x.state (steps_of fns.program) frozen x.state.here.room x.frames refusal.Raised (ap (attributes_set frozen o.0 x.state.heap) (sym q) ∙ h) ∙ ap (λ n. Some (record { cause = cause.Raised; place = place }, n)) (sym u)
attributes_err fns frozen x y budget o names same place v refusal.Width q h u = λ w b. set-err (known (steps_of fns.program) frozen x.state.here.room) o names place (give v) w x.state (steps_of fns.program) frozen x.state.here.room x.frames refusal.Width (ap (attributes_set frozen o.0 x.state.heap) (sym q) ∙ h) ∙ ap (λ n. Some (record { cause = cause.Width; place = place }, n)) (sym u)
attributes_err fns frozen x y budget o names same place v refusal.Limit q h u = λ w b. set-err (known (steps_of fns.program) frozen x.state.here.room) o names place (give v) w x.state (steps_of fns.program) frozen x.state.here.room x.frames refusal.Limit (ap (attributes_set frozen o.0 x.state.heap) (sym q) ∙ h) ∙ ap (λ n. Some (record { cause = cause.Limit; place = place }, n)) (sym u)
attributes_err fns frozen x y budget o names same place v refusal.Spent q h u = absurd h
attributes_err fns frozen x y budget o names same place v refusal.NoMemory q h u = tt

pub ruleset attributes_rules = (attributes_ok, attributes_err)
