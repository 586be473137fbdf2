-- What turns owe that spend units, ask for a truth, make values in the heap or bind names.
use Rattle.std.proofs.Common.{◌≡◌, ℕ, ◌<◌, ◌≤◌, ◌+◌, ap, ◌∙◌, sym, subst, List, Some, Result, Ok, Err, nat_lt, Bool, true, false, if◌then◌else◌, arith}
use Rattle.std.proofs.lemmas.Bool.Decides.{nat_tests}
use Rattle.amh_host.specs.declared.place.Place.{Place}
use Rattle.py_tree.specs.Programs.{steps_of}
use Rattle.py_tree.specs.Tree.{Tree}
use Rattle.py_heap.specs.Heaps.{Made, seen}
use Rattle.py_values.specs.declared.val.Val.{Val}
use Rattle.py_values.specs.declared.val.ValueStop.{ValueStop}
use Rattle.py_values.specs.Runs.{Answers, paired}
use Rattle.py_operators.specs.Truths.{truth}
use Rattle.py_heap.specs.Places.{new_text, new_tuple}
use Rattle.py_heap.specs.Names.{literal, scope_bound}
use Rattle.py_heap.specs.Dicts.{new_dict}
use Rattle.py_frames.specs.declared.request.Cause.TheVariants as cause
use Rattle.py_frames.specs.declared.request.Stop.{Stop}
use Rattle.py_frames.specs.declared.state.Halt.{Halt}
use Rattle.py_frames.specs.declared.state.Halt.TheVariants.{Asks, Stopped, NoMemory}
use Rattle.py_frames.specs.declared.frame.Now.{Now}
use Rattle.py_frames.specs.declared.frame.Purpose.{Purpose}
use Rattle.py_frames.specs.declared.functions.Functions.{Functions}
use Rattle.py_frames.specs.declared.going.Going.{Going}
use Rattle.py_frames.specs.Statements.{known}
use Rattle.py_frames.specs.Doing.{World, Halts, Doing, Known, spend_each, stop, give, making, made, heap_seen, cause_of}
use Rattle.py_frames.specs.Parts.{place_of}
use Rattle.py_frames.specs.Values.{truth_of, by_truth, bind, with_binding}
use Rattle.py_frames.specs.Expressions.{value_of, text_literal, dict_made}
use Rattle.py_frames.specs.Begun.{cost_of, value_after, Spends}
use Rattle.py_frames.specs.Functions.{named_val}
use Rattle.py_frames.specs.Told.{TellsTruth, Binds}
use Rattle.py_frames.specs.Expr_parts.{tuple_made}
use Rattle.py_frames.specs.Frames.{finish, Moves, stops_as, told, GoesOn}
use Rattle.py_frames.proofs.BeginLaws.{stops_as-finish, stop_goes, making_told, value_of-begun}

-- meanings that come to the same in a state owe the same
pub same_total : (fns : Functions) (frozen : Made) (r : Result Now Halt) (x y : Going) (budget : ℕ) (M N : Known → Doing) → ((w : World) → M (known (steps_of fns.program) frozen x.state.here.room) w x.state ≡ N (known (steps_of fns.program) frozen x.state.here.room) w x.state) → GoesOn fns frozen r x y budget M → GoesOn fns frozen r x y budget N
unfolding GoesOn
same_total fns frozen (Ok now) x y budget M N e h = λ w q. ap (λ o. finish (steps_of fns.program) frozen x.state.here.room x.frames w o) (sym (e w)) ∙ h w q
same_total fns frozen (Err (Stopped stop)) x y budget M N e h = λ w q. ap (λ o. stops_as (finish (steps_of fns.program) frozen x.state.here.room x.frames w o)) (sym (e w)) ∙ h w q
same_total fns frozen (Err (Asks r)) x y budget M N e h = h
same_total fns frozen (Err NoMemory) x y budget M N e h = tt

-- ---- truth

pub truth_goes : (fns : Functions) (frozen : Made) (r : Result Now Halt) (x y : Going) (budget : ℕ) (b : Bool) (v : Val) (q : Place) (f : Known → Bool → Doing) → TellsTruth (Ok b) (truth (seen frozen x.state.heap) v) q → GoesOn fns frozen r x y budget (λ k. f k b) → GoesOn fns frozen r x y budget (λ k. truth_of k v q (f k))
truth_goes fns frozen r x y budget b v q f e h =
    same_total fns frozen r x y budget (λ k. f k b) (λ k. truth_of k v q (f k))
    (λ w. ap (λ o. by_truth o q (f (known (steps_of fns.program) frozen x.state.here.room)) w x.state) (sym e)) h

pub truth_stops : (fns : Functions) (frozen : Made) (h : Halt) (x : Going) (budget : ℕ) (v : Val) (q : Place) (f : Known → Bool → Doing) → TellsTruth (Err h) (truth (seen frozen x.state.heap) v) q → GoesOn fns frozen (Err h) x x budget (λ k. truth_of k v q (f k))
truth_stops fns frozen h x budget v q f e =
    let P : Halt → Type 0 = λ z. GoesOn fns frozen (Err z) x x budget (λ k. truth_of k v q (f k)) in
    subst P (sym e.1)
    (same_total fns frozen (Err (Stopped (record { cause = cause.Raised; place = q }))) x x budget (λ k. stop cause.Raised q) (λ k. truth_of k v q (f k))
    (λ w. ap (λ o. by_truth o q (f (known (steps_of fns.program) frozen x.state.here.room)) w x.state) (sym e.0))
    (stop_goes fns frozen x budget cause.Raised q))

-- ---- units

pub is_less : (a b : ℕ) → a < b → nat_lt a b ≡ true
is_less a b h = grind (arith, nat_tests)

pub is_not_less : (a b : ℕ) → b ≤ a → nat_lt a b ≡ false
is_not_less a b h = grind (arith, nat_tests)

-- units that do not reach the budget are spent
pub units_spent : (fns : Functions) (frozen : Made) (r : Result Now Halt) (x y : Going) (budget n : ℕ) (p : Place) (m : Known → Doing) → x.state.used + n < budget → x.state.used + n ≤ y.state.used → GoesOn fns frozen r (record x { state = record x.state { used = x.state.used + n } }) y budget m → GoesOn fns frozen r x y budget (λ k. spend_each n p (m k))
unfolding GoesOn
units_spent fns frozen (Ok now) x y budget n p m a b h = λ w q.
    let e : nat_lt (x.state.used + n) w.budget ≡ true = is_less (x.state.used + n) w.budget (omega arith) in
    ap (λ (z : Bool). finish (steps_of fns.program) frozen x.state.here.room x.frames w (if z then m (known (steps_of fns.program) frozen x.state.here.room) w (record x.state { used = x.state.used + n }) else Halts (Stopped (record { cause = cause.Spent; place = p })) (record x.state { used = w.budget }))) e ∙ h w q
units_spent fns frozen (Err (Stopped stop)) x y budget n p m a b h = λ w q.
    let e : nat_lt (x.state.used + n) w.budget ≡ true = is_less (x.state.used + n) w.budget (omega arith) in
    ap (λ (z : Bool). stops_as (finish (steps_of fns.program) frozen x.state.here.room x.frames w (if z then m (known (steps_of fns.program) frozen x.state.here.room) w (record x.state { used = x.state.used + n }) else Halts (Stopped (record { cause = cause.Spent; place = p })) (record x.state { used = w.budget })))) e ∙ h w q
units_spent fns frozen (Err (Asks r)) x y budget n p m a b h = h
units_spent fns frozen (Err NoMemory) x y budget n p m a b h = tt

-- units that reach it are not
pub units_short : (fns : Functions) (frozen : Made) (x : Going) (budget n : ℕ) (p : Place) (m : Known → Doing) → budget ≤ x.state.used + n → GoesOn fns frozen (Err (Stopped (record { cause = cause.Spent; place = p }))) x (record x { state = record x.state { used = budget } }) budget (λ k. spend_each n p (m k))
unfolding GoesOn
units_short fns frozen x budget n p m a = λ w q.
    let e : nat_lt (x.state.used + n) w.budget ≡ false = is_not_less (x.state.used + n) w.budget (omega arith) in
    ap (λ (z : Bool). stops_as (finish (steps_of fns.program) frozen x.state.here.room x.frames w (if z then m (known (steps_of fns.program) frozen x.state.here.room) w (record x.state { used = x.state.used + n }) else Halts (Stopped (record { cause = cause.Spent; place = p })) (record x.state { used = w.budget })))) e
    ∙ (stops_as-finish (steps_of fns.program) frozen x.state.here.room x.frames w (record { cause = cause.Spent; place = p }) (record x.state { used = w.budget })
    ∙ ap (λ (z : ℕ). Some (record { cause = cause.Spent; place = p }, z)) q)

pub spent_goes : (fns : Functions) (frozen : Made) (r : Result Now Halt) (x z y : Going) (budget n : ℕ) (u : Unit {0}) (p : Place) (m : Known → Doing) → Spends (Ok u) n p x z budget → z.state.used ≤ y.state.used → GoesOn fns frozen r z y budget m → GoesOn fns frozen r x y budget (λ k. spend_each n p (m k))
spent_goes fns frozen r x z y budget n u p m s g h =
    let P : Going → Type 0 = λ z. GoesOn fns frozen r z y budget m in
    let e : z.state.used ≡ x.state.used + n = ap (λ (g : Going). g.state.used) s.0 in
    units_spent fns frozen r x y budget n p m s.1 (omega arith) (subst P s.0 h)

pub spent_stops : (fns : Functions) (frozen : Made) (h : Halt) (x z : Going) (budget n : ℕ) (p : Place) (m : Known → Doing) → Spends (Err h) n p x z budget → GoesOn fns frozen (Err h) x z budget (λ k. spend_each n p (m k))
unfolding GoesOn
spent_stops fns frozen (Stopped stop) x z budget n p m s =
    let P : Stop → Type 0 = λ h. GoesOn fns frozen (Err (Stopped h)) x z budget (λ k. spend_each n p (m k)) in
    let Q : Going → Type 0 = λ g. GoesOn fns frozen (Err (Stopped (record { cause = cause.Spent; place = p }))) x g budget (λ k. spend_each n p (m k)) in
    subst P (sym s.0) (subst Q (sym s.1) (units_short fns frozen x budget n p m s.2))
spent_stops fns frozen (Asks r) x z budget n p m s = absurd s
spent_stops fns frozen NoMemory x z budget n p m s = absurd s

-- a node begins
pub node_spent : (fns : Functions) (frozen : Made) (r : Result Now Halt) (x z y : Going) (budget n : ℕ) (u : Unit {0}) (p : Place) (purpose : Purpose) (t : Tree) → n ≡ cost_of t → p ≡ place_of t → Spends (Ok u) n p x z budget → z.state.used ≤ y.state.used → GoesOn fns frozen r z y budget (λ k. value_after k purpose t) → GoesOn fns frozen r x y budget (λ k. value_of k purpose t)
node_spent fns frozen r x z y budget n u p purpose t e1 e2 s g h =
    let P : ℕ → Type 0 = λ a. GoesOn fns frozen r x y budget (λ k. spend_each a p (value_after k purpose t)) in
    let Q : Place → Type 0 = λ a. GoesOn fns frozen r x y budget (λ k. spend_each (cost_of t) a (value_after k purpose t)) in
    same_total fns frozen r x y budget (λ k. spend_each (cost_of t) (place_of t) (value_after k purpose t)) (λ k. value_of k purpose t)
    (λ w. ap (λ (d : Doing). d w x.state) (sym (value_of-begun (known (steps_of fns.program) frozen x.state.here.room) purpose t)))
    (subst Q e2 (subst P e1 (spent_goes fns frozen r x z y budget n u p (λ k. value_after k purpose t) s g h)))

pub node_stops : (fns : Functions) (frozen : Made) (h : Halt) (x z : Going) (budget n : ℕ) (p : Place) (purpose : Purpose) (t : Tree) → n ≡ cost_of t → p ≡ place_of t → Spends (Err h) n p x z budget → GoesOn fns frozen (Err h) x z budget (λ k. value_of k purpose t)
node_stops fns frozen h x z budget n p purpose t e1 e2 s =
    let P : ℕ → Type 0 = λ a. GoesOn fns frozen (Err h) x z budget (λ k. spend_each a p (value_after k purpose t)) in
    let Q : Place → Type 0 = λ a. GoesOn fns frozen (Err h) x z budget (λ k. spend_each (cost_of t) a (value_after k purpose t)) in
    same_total fns frozen (Err h) x z budget (λ k. spend_each (cost_of t) (place_of t) (value_after k purpose t)) (λ k. value_of k purpose t)
    (λ w. ap (λ (d : Doing). d w x.state) (sym (value_of-begun (known (steps_of fns.program) frozen x.state.here.room) purpose t)))
    (subst Q e2 (subst P e1 (spent_stops fns frozen h x z budget n p (λ k. value_after k purpose t) s)))

-- ---- the heap

pub tuple_told : (fns : Functions) (frozen : Made) (given : Result Val ValueStop) (x : Going) (heap : Made) (place : Place) (budget : ℕ) (vals : List Val) → Answers (paired given heap) (new_tuple (seen frozen x.state.heap) vals) → GoesOn fns frozen (told given place) x (record x { state = record x.state { heap = heap } }) budget (λ k. tuple_made k place vals)
tuple_told fns frozen given x heap place budget vals h = making_told fns frozen given x heap place budget (λ k s. new_tuple (heap_seen k s) vals) h

pub dict_told : (fns : Functions) (frozen : Made) (given : Result Val ValueStop) (x : Going) (heap : Made) (place : Place) (budget : ℕ) (vals : List Val) → Answers (paired given heap) (new_dict (seen frozen x.state.heap) vals) → GoesOn fns frozen (told given place) x (record x { state = record x.state { heap = heap } }) budget (λ k. dict_made k place vals)
dict_told fns frozen given x heap place budget vals h = making_told fns frozen given x heap place budget (λ k s. new_dict (heap_seen k s) vals) h

pub literal_told : (fns : Functions) (frozen : Made) (given : Result Val ValueStop) (x : Going) (heap : Made) (place : Place) (budget : ℕ) (text : List ℕ) → Answers (paired given heap) (literal (seen frozen x.state.heap) text) → GoesOn fns frozen (told given place) x (record x { state = record x.state { heap = heap } }) budget (λ k. text_literal k text place)
literal_told fns frozen given x heap place budget text h = making_told fns frozen given x heap place budget (λ k s. literal (heap_seen k s) text) h

pub text_told : (fns : Functions) (frozen : Made) (given : Result Val ValueStop) (x : Going) (heap : Made) (place : Place) (budget : ℕ) (text : List ℕ) → Answers (paired given heap) (new_text (seen frozen x.state.heap) text) → GoesOn fns frozen (told given place) x (record x { state = record x.state { heap = heap } }) budget (λ k. making (λ s. new_text (heap_seen k s) text) place give)
text_told fns frozen given x heap place budget text h = making_told fns frozen given x heap place budget (λ k s. new_text (heap_seen k s) text) h

-- ---- names

pub bind_goes : (fns : Functions) (frozen : Made) (r : Result Now Halt) (x z y : Going) (budget : ℕ) (u : Unit {0}) (name : List ℕ) (v : Val) (p : Place) (m : Known → Doing) → Binds (Ok u) (scope_bound (seen frozen x.state.heap) x.state.here.scope.0 name v) (named_val name v) p x z → GoesOn fns frozen r z y budget m → GoesOn fns frozen r x y budget (λ k. bind k name v p (m k))
unfolding GoesOn
bind_goes fns frozen r x z y budget u name v p m e h =
    let P : Going → Type 0 = λ g. GoesOn fns frozen r g y budget m in
    let Q : Result (Unit {0} × Made) ValueStop → Type 0 = λ o. Moves (steps_of fns.program) frozen r y.frames y.state budget (λ w. finish (steps_of fns.program) frozen x.state.here.room x.frames w (made o p (λ _ w2 s2. m (known (steps_of fns.program) frozen x.state.here.room) w2 (record s2 { bound = s2.bound + 1; here = with_binding (named_val name v) s2.here })) w x.state)) in
    subst Q (sym e.0) (subst P e.1 h)

pub bind_stops : (fns : Functions) (frozen : Made) (h : Halt) (x z : Going) (budget : ℕ) (name : List ℕ) (v : Val) (p : Place) (m : Known → Doing) → Binds (Err h) (scope_bound (seen frozen x.state.heap) x.state.here.scope.0 name v) (named_val name v) p x z → GoesOn fns frozen (Err h) x z budget (λ k. bind k name v p (m k))
unfolding GoesOn
bind_stops fns frozen (Stopped stop) x z budget name v p m e = λ w q.
    ap (λ (o : Result (Unit {0} × Made) ValueStop). stops_as (finish (steps_of fns.program) frozen x.state.here.room x.frames w (made o p (λ _ w2 s2. m (known (steps_of fns.program) frozen x.state.here.room) w2 (record s2 { bound = s2.bound + 1; here = with_binding (named_val name v) s2.here })) w x.state))) e.1
    ∙ (stops_as-finish (steps_of fns.program) frozen x.state.here.room x.frames w (record { cause = cause_of e.0; place = p }) x.state
    ∙ (ap (λ (h : Stop). Some (h, x.state.used)) (sym e.2) ∙ ap (λ (n : ℕ). Some (stop, n)) (sym e.3)))
bind_stops fns frozen (Asks r) x z budget name v p m e = absurd e
bind_stops fns frozen NoMemory x z budget name v p m e = tt
