-- How classes end: what their bodies leave, the class, and its name.
use Rattle.std.proofs.Common.{◌≡◌, ℕ, refl, ap, ◌∙◌, sym, subst, Bool, true, false, ◌&&◌, not, List, ◌∷◌, ◌++◌, Option, Some, Result, Ok, Err, codes}
use Rattle.amh_host.specs.declared.place.Place.{Place}
use Rattle.py_tree.specs.declared.stmt.Stmt.{Stmt}
use Rattle.py_tree.specs.Programs.{step_of, steps_of}
use Rattle.py_tree.specs.Steps.{Step, Class, Steps, Bases}
use Rattle.py_values.specs.declared.val.Val.{Val}
use Rattle.py_values.specs.declared.val.ScopeId.{ScopeId}
use Rattle.py_values.specs.declared.val.ValueStop.{ValueStop}
use Rattle.py_values.specs.declared.val.ValueStop.TheVariants as refusal
use Rattle.py_heap.specs.Heaps.{Made, Seen, seen}
use Rattle.py_heap.specs.Names.{scope_bound}
use Rattle.py_heap.specs.Objects.{new_class}
use Rattle.py_values.specs.Runs.{Answers, paired}
use Rattle.py_frames.specs.declared.request.NamedVal.{NamedVal}
use Rattle.py_frames.specs.declared.request.Request.{Request}
use Rattle.py_frames.specs.declared.request.Act.TheVariants as act
use Rattle.py_frames.specs.declared.request.Cause.TheVariants as cause
use Rattle.py_frames.specs.declared.state.State.{State}
use Rattle.py_frames.specs.declared.state.Here.{Here}
use Rattle.py_frames.specs.declared.state.Halt.{Halt}
use Rattle.py_frames.specs.declared.state.Halt.TheVariants.{Asks, Stopped, NoMemory}
use Rattle.py_frames.specs.declared.state.Got.{Got}
use Rattle.py_frames.specs.declared.state.Got.TheVariants.{Value, Bound, Through, Next, Broke, Continued, Returned}
use Rattle.py_frames.specs.declared.frame.Now.{Now}
use Rattle.py_frames.specs.declared.frame.DefFrame.TheVariants as def
use Rattle.py_frames.specs.declared.frame.Frame.TheVariants as frame
use Rattle.py_frames.specs.declared.functions.Functions.{Functions}
use Rattle.py_frames.specs.declared.going.Going.{Going}
use Rattle.py_frames.specs.Doing.{Doing, Known, after, on_value, came, stop, choose, made, making, heap_seen, cause_of}
use Rattle.py_frames.specs.Asking.{request, ask}
use Rattle.py_frames.specs.Values.{bind, named_vals, class_word}
use Rattle.py_frames.specs.Expressions.{seen_from}
use Rattle.py_turns.specs.Binding.{refused}
use Rattle.py_frames.specs.Statements.{known, as_base, over_thing, known_as, class_known, made_known, known_class, kept_bindings, with_mark, are_keywords, class_bound, class_built, class_checked, class_ended}
use Rattle.py_frames.specs.Def_frames.{class_left, class_told}
use Rattle.py_definitions.specs.Def_begun.{GoesUnder, class_over, is_next}
use Rattle.py_frames.specs.Frames.{finish, stops_as, GoesOn, within}
use Rattle.py_frames.proofs.BeginLaws.{no_memory, stops_as-finish}
use Rattle.py_turns.proofs.IfLaws.{here_same}
use Rattle.py_definitions.proofs.DefLaws.{making_goes}

-- what is not made in the heap
stopped_making : {A : Type 0} → (fns : Functions) (frozen : Made) (x y : Going) (budget : ℕ) (e : ValueStop) (p : Place) (m : Known → State → Result (A × Made) ValueStop) (f : Known → A → Doing) → m (known (steps_of fns.program) frozen x.state.here.room) x.state ≡ Err e → y.state.used ≡ x.state.used → GoesOn fns frozen (Err (Stopped (record { cause = cause_of e; place = p }))) x y budget (λ k. making (m k) p (f k))
unfolding GoesOn
stopped_making fns frozen x y budget e p m f q u = λ w _.
    ap (λ o. stops_as (finish (steps_of fns.program) frozen x.state.here.room x.frames w (made o p (f (known (steps_of fns.program) frozen x.state.here.room)) w x.state))) q
    ∙ (stops_as-finish (steps_of fns.program) frozen x.state.here.room x.frames w (record { cause = cause_of e; place = p }) x.state
    ∙ ap (λ j. Some (record { cause = cause_of e; place = p }, j)) (sym u))

pub making_refused : {A : Type 0} → (fns : Functions) (frozen : Made) (x y : Going) (budget : ℕ) (e : ValueStop) (heap : Made) (p : Place) (m : Known → State → Result (A × Made) ValueStop) (f : Known → A → Doing) → Answers (paired (Err e) heap) (m (known (steps_of fns.program) frozen x.state.here.room) x.state) → y.state.used ≡ x.state.used → GoesOn fns frozen (Err (refused e p)) x y budget (λ k. making (m k) p (f k))
making_refused fns frozen x y budget refusal.Raised heap p m f a u = stopped_making fns frozen x y budget refusal.Raised p m f a u
making_refused fns frozen x y budget refusal.Width heap p m f a u = stopped_making fns frozen x y budget refusal.Width p m f a u
making_refused fns frozen x y budget refusal.Limit heap p m f a u = stopped_making fns frozen x y budget refusal.Limit p m f a u
making_refused fns frozen x y budget refusal.Spent heap p m f a u = absurd a
making_refused fns frozen x y budget refusal.NoMemory heap p m f a u = no_memory fns frozen x y budget (λ k. making (m k) p (f k))

-- ---- the class in the scope round its body

refused_as : (c : Val) (e : ValueStop) (o : Result (Unit {0} × Made) ValueStop) → Answers {A = Unit {0} × Made} (Err e) o → Answers {A = Val × Made} (Err e) (known_as c o)
refused_as c refusal.Raised o h = ap (known_as c) h
refused_as c refusal.Width o h = ap (known_as c) h
refused_as c refusal.Limit o h = ap (known_as c) h
refused_as c refusal.Spent o h = absurd h
refused_as c refusal.NoMemory o h = tt

refused_made : (s : Seen) (round : Option ScopeId) (e : ValueStop) (o : Result (Val × Made) ValueStop) → Answers {A = Val × Made} (Err e) o → Answers {A = Val × Made} (Err e) (made_known s round o)
refused_made s round refusal.Raised o h = ap (made_known s round) h
refused_made s round refusal.Width o h = ap (made_known s round) h
refused_made s round refusal.Limit o h = ap (made_known s round) h
refused_made s round refusal.Spent o h = absurd h
refused_made s round refusal.NoMemory o h = tt

pub bound_refused : (s : Seen) (round : ScopeId) (o : Option ScopeId) (c v : Val) (e : ValueStop) (heap : Made) → o ≡ Some round → v ≡ c → Answers {A = Unit {0} × Made} (paired (Err e) heap) (scope_bound s round.0 class_word v) → Answers {A = Val × Made} (paired (Err e) heap) (class_known s o c)
bound_refused s round o c v e heap e1 e2 h =
    let O : Option ScopeId → Type 0 = λ z. Answers {A = Val × Made} (Err e) (class_known s z c) in
    let V : Val → Type 0 = λ z. Answers {A = Unit {0} × Made} (Err e) (scope_bound s round.0 class_word z) in
    subst O (sym e1) (refused_as c e (scope_bound s round.0 class_word c) (subst V e2 h))

pub class_refused : (s : Seen) (base : Option Val) (scope : ScopeId) (e : ValueStop) (heap : Made) → Answers {A = Val × Made} (paired (Err e) heap) (new_class s base scope.0) → Answers {A = Val × Made} (paired (Err e) heap) (known_class s base scope)
class_refused s base scope e heap h = refused_made s (seen_from s scope) e (new_class s base scope.0) h

pub class_stands : (frozen heap more last : Made) (base : Option Val) (scope : ScopeId) (round : Option ScopeId) (c : Val) (r : Result Val ValueStop) → round ≡ seen_from (seen frozen heap) scope → new_class (seen frozen heap) base scope.0 ≡ Ok (c, more) → Answers {A = Val × Made} (paired r last) (class_known (seen frozen more) round c) → Answers {A = Val × Made} (paired r last) (known_class (seen frozen heap) base scope)
class_stands frozen heap more last base scope round c r e1 e2 h =
    let R : Option ScopeId → Type 0 = λ z. Answers {A = Val × Made} (paired r last) (made_known (seen frozen heap) z (new_class (seen frozen heap) base scope.0)) in
    let M : Result (Val × Made) ValueStop → Type 0 = λ z. Answers {A = Val × Made} (paired r last) (made_known (seen frozen heap) round z) in
    subst R e1 (subst M (sym e2) h)

-- ---- what a body leaves

left_next : (fns : Functions) (frozen : Made) (r : Result Now Halt) (x z : Going) (budget : ℕ) (p : Place) (name : List ℕ) (b : Bases) (ss : Steps) (base : Option Val) (kw : List NamedVal) (outer : Here) → GoesOn fns frozen r (record x { state = record x.state { here = outer } }) z budget (λ k. class_checked k x.state.here.scope base name kw x.state.here.notes (kept_bindings x.state.here.body) p) → GoesUnder outer.room fns frozen r x z budget (λ k. class_left k (Class p name b ss) base kw outer Next)
unfolding GoesOn GoesUnder
left_next fns frozen (Ok now) x z budget p name b ss base kw outer h = h
left_next fns frozen (Err (Stopped stop)) x z budget p name b ss base kw outer h = h
left_next fns frozen (Err (Asks a)) x z budget p name b ss base kw outer h = h
left_next fns frozen (Err NoMemory) x z budget p name b ss base kw outer h = h

-- what comes where the evaluation stands again outside
left_back : (fns : Functions) (frozen : Made) (r : Result Now Halt) (x z : Going) (budget : ℕ) (outer : Here) (got : Got) → GoesOn fns frozen r (record x { state = record x.state { here = outer } }) z budget (λ k. came got) → GoesUnder outer.room fns frozen r x z budget (λ k w s. came got w (record s { here = outer }))
unfolding GoesOn GoesUnder
left_back fns frozen (Ok now) x z budget outer got h = h
left_back fns frozen (Err (Stopped stop)) x z budget outer got h = h
left_back fns frozen (Err (Asks a)) x z budget outer got h = h
left_back fns frozen (Err NoMemory) x z budget outer got h = h

ended_here : (fns : Functions) (frozen : Made) (r : Result Now Halt) (x z : Going) (budget : ℕ) (p : Place) (name : List ℕ) (b : Bases) (ss : Steps) (t : Step) (base : Option Val) (kw : List NamedVal) (outer : Here) (got : Got) → t ≡ Class p name b ss → is_next got ≡ true → GoesOn fns frozen r (record x { state = record x.state { here = outer } }) z budget (λ k. class_checked k x.state.here.scope base name kw x.state.here.notes (kept_bindings x.state.here.body) p) → GoesUnder outer.room fns frozen r x z budget (λ k. class_left k t base kw outer got)
ended_here fns frozen r x z budget p name b ss t base kw outer Next e1 e2 h =
    let N : Step → Type 0 = λ j. GoesUnder outer.room fns frozen r x z budget (λ k. class_left k j base kw outer Next) in
    subst N (sym e1) (left_next fns frozen r x z budget p name b ss base kw outer h)
ended_here fns frozen r x z budget p name b ss t base kw outer (Value v) e1 e2 h = cc
ended_here fns frozen r x z budget p name b ss t base kw outer (Bound v) e1 e2 h = cc
ended_here fns frozen r x z budget p name b ss t base kw outer (Through v) e1 e2 h = cc
ended_here fns frozen r x z budget p name b ss t base kw outer Broke e1 e2 h = cc
ended_here fns frozen r x z budget p name b ss t base kw outer Continued e1 e2 h = cc
ended_here fns frozen r x z budget p name b ss t base kw outer (Returned v) e1 e2 h = cc

pub ended_next : (fns : Functions) (frozen : Made) (r : Result Now Halt) (x z : Going) (budget : ℕ) (p : Place) (name : List ℕ) (b : Bases) (ss : Steps) (t : Step) (base : Option Val) (kw : List NamedVal) (outer inner here : Here) (got : Got) (bs : List NamedVal) → t ≡ Class p name b ss → is_next got ≡ true → inner ≡ x.state.here → here ≡ outer → bs ≡ kept_bindings inner.body → GoesOn fns frozen r (record x { state = record x.state { here = here } }) z budget (λ k. class_checked k inner.scope base name kw inner.notes bs p) → GoesUnder outer.room fns frozen r x z budget (λ k. class_left k t base kw outer got)
ended_next fns frozen r x z budget p name b ss t base kw outer inner here got bs e1 e2 e3 e4 e5 h =
    let I : Here → Type 0 = λ g. GoesOn fns frozen r (record x { state = record x.state { here = here } }) z budget (λ k. class_checked k g.scope base name kw g.notes (kept_bindings g.body) p) in
    let B : List NamedVal → Type 0 = λ g. GoesOn fns frozen r (record x { state = record x.state { here = here } }) z budget (λ k. class_checked k inner.scope base name kw inner.notes g p) in
    let H : Here → Type 0 = λ g. GoesOn fns frozen r (record x { state = record x.state { here = g } }) z budget (λ k. class_checked k x.state.here.scope base name kw x.state.here.notes (kept_bindings x.state.here.body) p) in
    ended_here fns frozen r x z budget p name b ss t base kw outer got e1 e2 (subst H e4 (subst I e3 (subst B e5 h)))

ended_back : (k : Known) (outer : Here) (base : Option Val) (name : List ℕ) (kw : List NamedVal) (p : Place) (got : Got) → is_next got ≡ false → class_ended k outer base name kw p got ≡ (λ w s. came got w (record s { here = outer }))
ended_back k outer base name kw p Next e = cc
ended_back k outer base name kw p (Value v) e = refl
ended_back k outer base name kw p (Bound v) e = refl
ended_back k outer base name kw p (Through v) e = refl
ended_back k outer base name kw p Broke e = refl
ended_back k outer base name kw p Continued e = refl
ended_back k outer base name kw p (Returned v) e = refl

under_same : (room : ℕ) (fns : Functions) (frozen : Made) (r : Result Now Halt) (x z : Going) (budget : ℕ) (m n : Known → Doing) → ((k : Known) → n k ≡ m k) → GoesUnder room fns frozen r x z budget m → GoesUnder room fns frozen r x z budget n
unfolding GoesUnder
under_same room fns frozen (Ok now) x z budget m n e h = λ w q. ap (λ d. finish (steps_of fns.program) frozen room x.frames w (d w x.state)) (e (known (steps_of fns.program) frozen room)) ∙ h w q
under_same room fns frozen (Err (Stopped stop)) x z budget m n e h = λ w q. ap (λ d. stops_as (finish (steps_of fns.program) frozen room x.frames w (d w x.state))) (e (known (steps_of fns.program) frozen room)) ∙ h w q
under_same room fns frozen (Err (Asks a)) x z budget m n e h = h
under_same room fns frozen (Err NoMemory) x z budget m n e h = tt

pub ended_other : (fns : Functions) (frozen : Made) (r : Result Now Halt) (x z : Going) (budget : ℕ) (p : Place) (name : List ℕ) (b : Bases) (ss : Steps) (t : Step) (base : Option Val) (kw : List NamedVal) (outer here : Here) (got : Got) → t ≡ Class p name b ss → is_next got ≡ false → here ≡ outer → GoesOn fns frozen r (record x { state = record x.state { here = here } }) z budget (λ k. came got) → GoesUnder outer.room fns frozen r x z budget (λ k. class_left k t base kw outer got)
ended_other fns frozen r x z budget p name b ss t base kw outer here got e1 e2 e3 h =
    let N : Step → Type 0 = λ j. GoesUnder outer.room fns frozen r x z budget (λ k. class_left k j base kw outer got) in
    let H : Here → Type 0 = λ g. GoesOn fns frozen r (record x { state = record x.state { here = g } }) z budget (λ k. came got) in
    subst N (sym e1) (under_same outer.room fns frozen r x z budget (λ k w s. came got w (record s { here = outer })) (λ k. class_ended k outer base name kw p got) (λ k. ended_back k outer base name kw p got e2)
    (left_back fns frozen r x z budget outer got (subst H e3 h)))

-- want of memory owes nothing here either
pub under_no_memory : (room : ℕ) (fns : Functions) (frozen : Made) (x y : Going) (budget : ℕ) (m : Known → Doing) → GoesUnder room fns frozen (Err NoMemory) x y budget m
unfolding GoesUnder
under_no_memory room fns frozen x y budget m = tt

-- ---- what may be no base, and keywords

checked_as : (fns : Functions) (frozen : Made) (r : Result Now Halt) (x y : Going) (budget : ℕ) (p : Place) (name : List ℕ) (scope : ScopeId) (base : Val) (kw notes bs : List NamedVal) (c : Bool) → c ≡ (are_keywords kw && not (over_thing (seen frozen x.state.heap) base)) → GoesOn fns frozen r x y budget (λ k. choose c (stop cause.Raised p) (class_built k scope base name kw notes bs p)) → GoesOn fns frozen r x y budget (λ k. class_checked k scope (Some base) name kw notes bs p)
checked_as fns frozen r x y budget p name scope base kw notes bs c e h =
    let K : Known = known (steps_of fns.program) frozen x.state.here.room in
    here_same fns frozen r x y budget (λ k. choose c (stop cause.Raised p) (class_built k scope base name kw notes bs p)) (λ k. class_checked k scope (Some base) name kw notes bs p)
    (λ w. ap (λ z. choose z (stop cause.Raised p) (class_built K scope base name kw notes bs p) w x.state) (sym e)) h

-- keywords, and no thing
pub checked_lacks : (fns : Functions) (frozen : Made) (r : Result Now Halt) (x y : Going) (budget : ℕ) (p : Place) (name : List ℕ) (scope : ScopeId) (base : Val) (kw notes bs : List NamedVal) → are_keywords kw ≡ true → over_thing (seen frozen x.state.heap) base ≡ false → GoesOn fns frozen r x y budget (λ k. stop cause.Raised p) → GoesOn fns frozen r x y budget (λ k. class_checked k scope (Some base) name kw notes bs p)
checked_lacks fns frozen r x y budget p name scope base kw notes bs e1 e2 h =
    checked_as fns frozen r x y budget p name scope base kw notes bs true (sym (ap (λ z. z && not (over_thing (seen frozen x.state.heap) base)) e1 ∙ ap not e2)) h

pub checked_on : (fns : Functions) (frozen : Made) (r : Result Now Halt) (x y : Going) (budget : ℕ) (p : Place) (name : List ℕ) (scope : ScopeId) (base : Val) (kw notes bs : List NamedVal) (c : Bool) → c ≡ (are_keywords kw && not (over_thing (seen frozen x.state.heap) base)) → c ≡ false → GoesOn fns frozen r x y budget (λ k. class_built k scope base name kw notes bs p) → GoesOn fns frozen r x y budget (λ k. class_checked k scope (Some base) name kw notes bs p)
checked_on fns frozen r x y budget p name scope base kw notes bs c e1 e2 h = checked_as fns frozen r x y budget p name scope base kw notes bs false (sym e2 ∙ e1) h

-- ---- the class

-- the class, by whether it stands over a thing
built_as : (fns : Functions) (frozen : Made) (r : Result Now Halt) (x y : Going) (budget : ℕ) (p : Place) (name : List ℕ) (scope : ScopeId) (base : Val) (kw notes bs : List NamedVal) (o : Bool) → over_thing (seen frozen x.state.heap) base ≡ o → GoesOn fns frozen r x y budget (λ k. making (λ t. known_class (heap_seen k t) (as_base base) scope) p (λ c. class_bound k o c base name kw notes bs p)) → GoesOn fns frozen r x y budget (λ k. class_built k scope base name kw notes bs p)
built_as fns frozen r x y budget p name scope base kw notes bs o e h =
    let K : Known = known (steps_of fns.program) frozen x.state.here.room in
    here_same fns frozen r x y budget (λ k. making (λ t. known_class (heap_seen k t) (as_base base) scope) p (λ c. class_bound k o c base name kw notes bs p)) (λ k. class_built k scope base name kw notes bs p)
    (λ w. ap (λ z. making (λ t. known_class (heap_seen K t) (as_base base) scope) p (λ c. class_bound K z c base name kw notes bs p) w x.state) e) h

pub built_over : (fns : Functions) (frozen : Made) (r : Result Now Halt) (x y : Going) (budget : ℕ) (p : Place) (name : List ℕ) (scope : ScopeId) (base : Val) (kw notes bs : List NamedVal) → over_thing (seen frozen x.state.heap) base ≡ true → GoesOn fns frozen r x y budget (λ k. class_over k scope base name kw notes bs p) → GoesOn fns frozen r x y budget (λ k. class_built k scope base name kw notes bs p)
built_over fns frozen r x y budget p name scope base kw notes bs e h =
    built_as fns frozen r x y budget p name scope base kw notes bs true e
    (here_same fns frozen r x y budget (λ k. class_over k scope base name kw notes bs p) (λ k. making (λ t. known_class (heap_seen k t) (as_base base) scope) p (λ c. class_bound k true c base name kw notes bs p)) (λ w. refl) h)

pub built_plain : (fns : Functions) (frozen : Made) (r : Result Now Halt) (x z : Going) (budget : ℕ) (p : Place) (name word : List ℕ) (scope : ScopeId) (base : Val) (kw notes bs : List NamedVal) (o : Option Val) (c : Val) (heap : Made) → word ≡ name → over_thing (seen frozen x.state.heap) base ≡ false → o ≡ as_base base → known_class (seen frozen x.state.heap) o scope ≡ Ok (c, heap) → GoesOn fns frozen r (record x { state = record x.state { heap = heap } }) z budget (λ k. bind k word c p (came Next)) → GoesOn fns frozen r x z budget (λ k. class_built k scope base name kw notes bs p)
built_plain fns frozen r x z budget p name word scope base kw notes bs o c heap e0 e1 e2 e3 h =
    let N : List ℕ → Type 0 = λ g. GoesOn fns frozen r (record x { state = record x.state { heap = heap } }) z budget (λ k. bind k g c p (came Next)) in
    built_as fns frozen r x z budget p name scope base kw notes bs false e1
    (making_goes fns frozen r x z budget heap c p (λ k t. known_class (heap_seen k t) (as_base base) scope) (λ k d. bind k name d p (came Next))
    (ap (λ g. known_class (seen frozen x.state.heap) g scope) (sym e2) ∙ e3) (subst N e0 h))

pub built_refused : (fns : Functions) (frozen : Made) (x y : Going) (budget : ℕ) (p : Place) (name : List ℕ) (scope : ScopeId) (base : Val) (kw notes bs : List NamedVal) (o : Option Val) (e : ValueStop) (heap : Made) → over_thing (seen frozen x.state.heap) base ≡ false → o ≡ as_base base → Answers (paired (Err e) heap) (known_class (seen frozen x.state.heap) o scope) → y.state.used ≡ x.state.used → GoesOn fns frozen (Err (refused e p)) x y budget (λ k. class_built k scope base name kw notes bs p)
built_refused fns frozen x y budget p name scope base kw notes bs o e heap e1 e2 a u =
    let A : Option Val → Type 0 = λ g. Answers (paired (Err e) heap) (known_class (seen frozen x.state.heap) g scope) in
    built_as fns frozen (Err (refused e p)) x y budget p name scope base kw notes bs false e1
    (making_refused fns frozen x y budget e heap p (λ k t. known_class (heap_seen k t) (as_base base) scope) (λ k d. bind k name d p (came Next)) (subst A e2 a) u)

-- the store is told of a class over a thing
pub over_asks : (fns : Functions) (frozen : Made) (r : Result Now Halt) (x z : Going) (budget : ℕ) (p : Place) (name word : List ℕ) (b : Bases) (ss : Steps) (t : Step) (node : Stmt) (scope : ScopeId) (base : Val) (kw notes bs : List NamedVal) (o : Option Val) (c : Val) (heap : Made) (q : Request) → word ≡ name → t ≡ Class p name b ss → step_of node ≡ t → o ≡ as_base base → known_class (seen frozen x.state.heap) o scope ≡ Ok (c, heap) → q ≡ request act.ClassMade (c ∷ base ∷ (named_vals kw ++ (named_vals notes ++ named_vals bs))) (word ∷ (with_mark (codes "=") kw ++ (with_mark (codes ":") notes ++ with_mark (codes ".") bs))) p → GoesOn fns frozen r (record x { state = record x.state { heap = heap } }) z budget (within (frame.Def (def.ClassTold node)) (λ k. ask k q)) → GoesOn fns frozen r x z budget (λ k. class_over k scope base name kw notes bs p)
over_asks fns frozen r x z budget p name word b ss t node scope base kw notes bs o c heap q e0 e1 e2 e3 e4 e6 h =
    let y : Going = record x { state = record x.state { heap = heap } } in
    let S : Step → Type 0 = λ g. GoesOn fns frozen r y z budget (λ k w s. after (ask k q w s) (λ got. on_value got (class_told k g) w)) in
    let R : Request → Type 0 = λ g. GoesOn fns frozen r y z budget (λ k w s. after (ask k g w s) (λ got. on_value got (λ v. bind k name v p (came Next)) w)) in
    let W : List ℕ → Type 0 = λ g. GoesOn fns frozen r y z budget (λ k w s. after (ask k (request act.ClassMade (c ∷ base ∷ (named_vals kw ++ (named_vals notes ++ named_vals bs))) (g ∷ (with_mark (codes "=") kw ++ (with_mark (codes ":") notes ++ with_mark (codes ".") bs))) p) w s) (λ got. on_value got (λ v. bind k name v p (came Next)) w)) in
    let f : Known → Val → Doing = λ k d. class_bound k true d base name kw notes bs p in
    here_same fns frozen r x z budget (λ k. making (λ g. known_class (heap_seen k g) (as_base base) scope) p (f k)) (λ k. class_over k scope base name kw notes bs p) (λ w. refl)
    (making_goes fns frozen r x z budget heap c p (λ k g. known_class (heap_seen k g) (as_base base) scope) f
    (ap (λ g. known_class (seen frozen x.state.heap) g scope) (sym e3) ∙ e4)
    (subst W e0 (subst R e6 (subst S (e2 ∙ e1) h))))

pub over_refused : (fns : Functions) (frozen : Made) (x y : Going) (budget : ℕ) (p : Place) (name : List ℕ) (scope : ScopeId) (base : Val) (kw notes bs : List NamedVal) (o : Option Val) (e : ValueStop) (heap : Made) → o ≡ as_base base → Answers (paired (Err e) heap) (known_class (seen frozen x.state.heap) o scope) → y.state.used ≡ x.state.used → GoesOn fns frozen (Err (refused e p)) x y budget (λ k. class_over k scope base name kw notes bs p)
over_refused fns frozen x y budget p name scope base kw notes bs o e heap e2 a u =
    let A : Option Val → Type 0 = λ g. Answers (paired (Err e) heap) (known_class (seen frozen x.state.heap) g scope) in
    let f : Known → Val → Doing = λ k d. class_bound k true d base name kw notes bs p in
    here_same fns frozen (Err (refused e p)) x y budget (λ k. making (λ g. known_class (heap_seen k g) (as_base base) scope) p (f k)) (λ k. class_over k scope base name kw notes bs p) (λ w. refl)
    (making_refused fns frozen x y budget e heap p (λ k t. known_class (heap_seen k t) (as_base base) scope) f (subst A e2 a) u)

pub ruleset known_rules = (bound_refused, class_refused, class_stands)

pub ruleset ended_rules = (ended_next, ended_other)

pub ruleset checked_rules = (checked_on)

pub ruleset built_rules = (built_over, built_plain, built_refused)

pub ruleset over_rules = (over_asks, over_refused, no_memory)
