-- What the turns of a `for` owe.
use Rattle.std.proofs.Common.{◌≡◌, ℕ, suc, ◌+◌, ◌-◌, ◌≤◌, ◌==◌, refl, ap, ◌∙◌, sym, subst, Bool, true, false, List, ◌∷◌, Option, Some, None, Result, Ok, Err, arith}
use Rattle.amh_host.specs.declared.place.Place.{Place}
use Rattle.py_tree.specs.declared.stmt.Stmt.{Stmt}
use Rattle.py_tree.specs.Programs.{step_of, steps_of}
use Rattle.py_tree.specs.Tree.{Tree, Name}
use Rattle.py_tree.specs.Steps.{Step, Pass, Break, Continue, Return, Assert, Raise, ImportAll, Import, Assign, Annotate, Augment, Evaluate, If, While, For, With, Def, Class, Steps}
use Rattle.py_heap.specs.Heaps.{Made, seen}
use Rattle.py_operators.specs.Elements.{element}
use Rattle.py_values.specs.declared.val.Val.{Val}
use Rattle.py_values.specs.declared.val.ValueStop.{ValueStop}
use Rattle.py_heap.specs.Names.{scope_bound}
use Rattle.py_frames.specs.declared.request.Cause.TheVariants as cause
use Rattle.py_frames.specs.declared.state.State.{State}
use Rattle.py_frames.specs.declared.state.Halt.{Halt}
use Rattle.py_frames.specs.declared.state.Halt.TheVariants.{Stopped}
use Rattle.py_frames.specs.declared.state.Got.{Got}
use Rattle.py_frames.specs.declared.state.Got.TheVariants.{Next}
use Rattle.py_frames.specs.declared.frame.Now.{Now}
use Rattle.py_frames.specs.declared.frame.Now.TheVariants.{Came}
use Rattle.py_frames.specs.declared.frame.Purpose.TheVariants.{Plain}
use Rattle.py_frames.specs.declared.frame.Walk.{Walk}
use Rattle.py_frames.specs.declared.frame.Frame.{Frame}
use Rattle.py_frames.specs.declared.frame.Frame.TheVariants as frame
use Rattle.py_frames.specs.declared.frame.StmtFrame.TheVariants as stmt
use Rattle.py_frames.specs.declared.functions.Functions.{Functions}
use Rattle.py_frames.specs.declared.going.Going.{Going}
use Rattle.py_frames.specs.Doing.{World, Doing, Known, heap_seen, after, on_value, on_next, and_then, then_do, came, stop, choose, spend, made}
use Rattle.py_frames.specs.Asking.{most}
use Rattle.py_frames.specs.Functions.{named_val}
use Rattle.py_frames.specs.Told.{Binds}
use Rattle.py_frames.specs.Values.{as_row, bind, with_binding}
use Rattle.py_frames.specs.Expressions.{value_of, assign, is_row, row_size, on_element}
use Rattle.py_frames.specs.Statements.{known, run_all, for_turns, for_loop, turn_on}
use Rattle.py_frames.specs.Stmt_begun.{run_after, loop_left}
use Rattle.py_frames.specs.Stmt_frames.{for_source, for_row, for_walks, for_bound}
use Rattle.py_frames.specs.Begun.{Spends}
use Rattle.py_walks.specs.Walk_parts.{behind_walk, for_turn, is_for}
use Rattle.py_frames.specs.Frames.{GoesOn, within}
use Rattle.py_frames.proofs.BeginLaws.{no_memory, stop_goes}
use Rattle.py_frames.proofs.ExprLaws.{same_total, spent_goes, spent_stops, bind_goes, bind_stops}
use Rattle.py_frames.proofs.StmtLaws.{meant_same, came_goes}
use Rattle.py_frames.proofs.StmtGoes.{turn_ends, turn_stays}
use Rattle.py_walks.proofs.WalkLaws.{under_frame, is_same, is_other}

-- what is there of a statement
at_step : (fns : Functions) (frozen : Made) (r : Result Now Halt) (x z : Going) (budget : ℕ) (c t : Step) (N : Step → Known → Doing) → t ≡ c → GoesOn fns frozen r x z budget (N c) → GoesOn fns frozen r x z budget (N t)
at_step fns frozen r x z budget c t N e h =
    let P : Step → Type 0 = λ a. GoesOn fns frozen r x z budget (N a) in
    subst P (sym e) h

-- ---- what it goes over

pub for_waits : (fns : Functions) (frozen : Made) (r : Result Now Halt) (x z : Going) (budget : ℕ) (p : Place) (ts a : Tree) (ss : Steps) (t : Step) (node : Stmt) → t ≡ For p ts a ss → step_of node ≡ t → GoesOn fns frozen r x z budget (within (frame.Stmt (stmt.ForSource node)) (λ k. value_of k Plain a)) → GoesOn fns frozen r x z budget (λ k. run_after k t)
for_waits fns frozen r x z budget p ts a ss t node e1 e2 h =
    let S : Step → Type 0 = λ c. GoesOn fns frozen r x z budget (λ k w s. after (value_of k Plain a w s) (λ got. on_value got (for_source k c) w)) in
    at_step fns frozen r x z budget (For p ts a ss) t (λ c k. run_after k c) e1 (subst S (e2 ∙ e1) h)

pub for_takes : (fns : Functions) (frozen : Made) (r : Result Now Halt) (x z : Going) (budget : ℕ) (p : Place) (ts a : Tree) (ss : Steps) (t : Step) (node : Stmt) (v : Val) (fs : List Frame) → t ≡ For p ts a ss → step_of node ≡ t → fs ≡ frame.Stmt (stmt.ForRow node) ∷ x.frames → GoesOn fns frozen r (record x { frames = fs }) z budget (λ k. as_row k v p) → GoesOn fns frozen r x z budget (λ k. for_source k t v)
for_takes fns frozen r x z budget p ts a ss t node v fs e1 e2 e3 h =
    let S : Step → Type 0 = λ c. GoesOn fns frozen r x z budget (λ k w s. after (as_row k v p w s) (λ got. on_value got (for_row k c) w)) in
    at_step fns frozen r x z budget (For p ts a ss) t (λ c k. for_source k c v) e1
    (subst S (e2 ∙ e1) (under_frame fns frozen r x z budget (frame.Stmt (stmt.ForRow node)) fs (λ k. as_row k v p) refl e3 h))

pub loop_refused : (fns : Functions) (frozen : Made) (x : Going) (budget : ℕ) (p : Place) (ts : Tree) (ss : Steps) (v : Val) → is_row v ≡ false → GoesOn fns frozen (Err (Stopped (record { cause = cause.Raised; place = p }))) x x budget (λ k. for_loop k v ts (run_all k ss) p)
loop_refused fns frozen x budget p ts ss v e =
    let K : Known = known (steps_of fns.program) frozen x.state.here.room in
    same_total fns frozen (Err (Stopped (record { cause = cause.Raised; place = p }))) x x budget (λ k. stop cause.Raised p) (λ k. for_loop k v ts (run_all k ss) p)
    (λ w. ap (λ (b : Bool). choose b (λ w2 (s2 : State). for_turns most K v 0 (row_size (heap_seen K s2) v) ts (run_all K ss) p w2 s2) (stop cause.Raised p) w x.state) (sym e))
    (stop_goes fns frozen x budget cause.Raised p)

pub loop_goes : (fns : Functions) (frozen : Made) (r : Result Now Halt) (x z : Going) (budget n : ℕ) (p : Place) (ts : Tree) (ss : Steps) (v : Val) (w : Walk) → is_row v ≡ true → n ≡ row_size (seen frozen x.state.heap) v → w ≡ record { over = v; next = 0; size = n; turns = most } → GoesOn fns frozen r x z budget (λ k. for_turns w.turns k w.over w.next w.size ts (run_all k ss) p) → GoesOn fns frozen r x z budget (λ k. for_loop k v ts (run_all k ss) p)
loop_goes fns frozen r x z budget n p ts ss v w e1 e2 e3 h =
    let K : Known = known (steps_of fns.program) frozen x.state.here.room in
    let W : Walk → Type 0 = λ a. GoesOn fns frozen r x z budget (λ k. for_turns a.turns k a.over a.next a.size ts (run_all k ss) p) in
    let N : ℕ → Type 0 = λ j. GoesOn fns frozen r x z budget (λ k. for_turns most k v 0 j ts (run_all k ss) p) in
    same_total fns frozen r x z budget (λ k. for_turns most k v 0 (row_size (seen frozen x.state.heap) v) ts (run_all k ss) p) (λ k. for_loop k v ts (run_all k ss) p)
    (λ u. ap (λ (b : Bool). choose b (λ w2 (s2 : State). for_turns most K v 0 (row_size (heap_seen K s2) v) ts (run_all K ss) p w2 s2) (stop cause.Raised p) u x.state) (sym e1))
    (subst N e2 (subst W e3 h))

-- ---- its turns

no_turn : (fns : Functions) (frozen : Made) (r : Result Now Halt) (x z : Going) (budget i size : ℕ) (p : Place) (ts : Tree) (ss : Steps) (v : Val) → GoesOn fns frozen r x z budget (λ k. stop cause.Spent p) → GoesOn fns frozen r x z budget (λ k. for_turns 0 k v i size ts (run_all k ss) p)
unfolding for_turns
no_turn fns frozen r x z budget i size p ts ss v h = h

sized_wrong : (fns : Functions) (frozen : Made) (r : Result Now Halt) (x z : Going) (budget n i size : ℕ) (p : Place) (ts : Tree) (ss : Steps) (v : Val) → (row_size (seen frozen x.state.heap) v == size) ≡ false → GoesOn fns frozen r x z budget (λ k. stop cause.Raised p) → GoesOn fns frozen r x z budget (λ k. for_turns (suc n) k v i size ts (run_all k ss) p)
unfolding for_turns
sized_wrong fns frozen r x z budget n i size p ts ss v e h =
    let K : Known = known (steps_of fns.program) frozen x.state.here.room in
    same_total fns frozen r x z budget (λ k. stop cause.Raised p) (λ k. for_turns (suc n) k v i size ts (run_all k ss) p)
    (λ w. ap (λ (b : Bool). choose b (λ w2 (s2 : State). on_element (element (heap_seen K s2) v i) (came Next) (λ y. spend p (and_then (assign K ts y) (then_do (run_all K ss) (λ got. turn_on got (for_turns n K v (i + 1) size ts (run_all K ss) p))))) w2 s2) (stop cause.Raised p) w x.state) (sym e)) h

-- the size has been kept
sized_right : (fns : Functions) (frozen : Made) (r : Result Now Halt) (x z : Going) (budget n i size : ℕ) (p : Place) (ts : Tree) (ss : Steps) (v : Val) → (row_size (seen frozen x.state.heap) v == size) ≡ true → GoesOn fns frozen r x z budget (λ k w s. on_element (element (heap_seen k s) v i) (came Next) (λ y. spend p (and_then (assign k ts y) (then_do (run_all k ss) (λ got. turn_on got (for_turns n k v (i + 1) size ts (run_all k ss) p))))) w s) → GoesOn fns frozen r x z budget (λ k. for_turns (suc n) k v i size ts (run_all k ss) p)
unfolding for_turns
sized_right fns frozen r x z budget n i size p ts ss v e h =
    let K : Known = known (steps_of fns.program) frozen x.state.here.room in
    same_total fns frozen r x z budget (λ k w s. on_element (element (heap_seen k s) v i) (came Next) (λ y. spend p (and_then (assign k ts y) (then_do (run_all k ss) (λ got. turn_on got (for_turns n k v (i + 1) size ts (run_all k ss) p))))) w s) (λ k. for_turns (suc n) k v i size ts (run_all k ss) p)
    (λ w. ap (λ (b : Bool). choose b (λ w2 (s2 : State). on_element (element (heap_seen K s2) v i) (came Next) (λ y. spend p (and_then (assign K ts y) (then_do (run_all K ss) (λ got. turn_on got (for_turns n K v (i + 1) size ts (run_all K ss) p))))) w2 s2) (stop cause.Raised p) w x.state) (sym e)) h

-- so many turns
at_turns : (fns : Functions) (frozen : Made) (r : Result Now Halt) (x z : Going) (budget n : ℕ) (p : Place) (ts : Tree) (ss : Steps) (w : Walk) → n ≡ w.turns → GoesOn fns frozen r x z budget (λ k. for_turns n k w.over w.next w.size ts (run_all k ss) p) → GoesOn fns frozen r x z budget (λ k. for_turns w.turns k w.over w.next w.size ts (run_all k ss) p)
at_turns fns frozen r x z budget n p ts ss w e h =
    let N : ℕ → Type 0 = λ j. GoesOn fns frozen r x z budget (λ k. for_turns j k w.over w.next w.size ts (run_all k ss) p) in
    subst N e h

pub for_out : (fns : Functions) (frozen : Made) (x : Going) (budget : ℕ) (p : Place) (ts : Tree) (ss : Steps) (w : Walk) → w.turns ≡ 0 → GoesOn fns frozen (Err (Stopped (record { cause = cause.Spent; place = p }))) x x budget (λ k. for_turns w.turns k w.over w.next w.size ts (run_all k ss) p)
for_out fns frozen x budget p ts ss w e =
    at_turns fns frozen _ x x budget 0 p ts ss w (sym e) (no_turn fns frozen _ x x budget w.next w.size p ts ss w.over (stop_goes fns frozen x budget cause.Spent p))

pub for_resized : (fns : Functions) (frozen : Made) (x : Going) (budget n : ℕ) (p : Place) (ts : Tree) (ss : Steps) (w : Walk) → (w.turns ≡ 0 → ⊥) → n ≡ row_size (seen frozen x.state.heap) w.over → (n ≡ w.size → ⊥) → GoesOn fns frozen (Err (Stopped (record { cause = cause.Raised; place = p }))) x x budget (λ k. for_turns w.turns k w.over w.next w.size ts (run_all k ss) p)
for_resized fns frozen x budget n p ts ss w ne e1 e2 =
    let q : suc (w.turns - 1) ≡ w.turns = omega arith in
    let N : ℕ → Type 0 = λ j. (j == w.size) ≡ false in
    at_turns fns frozen _ x x budget (suc (w.turns - 1)) p ts ss w q (sized_wrong fns frozen _ x x budget (w.turns - 1) w.next w.size p ts ss w.over (subst N e1 (is_other n w.size e2)) (stop_goes fns frozen x budget cause.Raised p))

pub for_over : (fns : Functions) (frozen : Made) (x : Going) (budget n : ℕ) (p : Place) (ts : Tree) (ss : Steps) (w : Walk) → (w.turns ≡ 0 → ⊥) → n ≡ row_size (seen frozen x.state.heap) w.over → n ≡ w.size → None ≡ element (seen frozen x.state.heap) w.over w.next → GoesOn fns frozen (Ok (Came Next)) x x budget (λ k. for_turns w.turns k w.over w.next w.size ts (run_all k ss) p)
for_over fns frozen x budget n p ts ss w ne e1 e2 e =
    let q : suc (w.turns - 1) ≡ w.turns = omega arith in
    let N : ℕ → Type 0 = λ j. (j == w.size) ≡ true in
    let K : Known = known (steps_of fns.program) frozen x.state.here.room in
    at_turns fns frozen _ x x budget (suc (w.turns - 1)) p ts ss w q (sized_right fns frozen _ x x budget (w.turns - 1) w.next w.size p ts ss w.over (subst N e1 (is_same n w.size e2))
    (same_total fns frozen (Ok (Came Next)) x x budget (λ k. came Next) (λ k a s. on_element (element (heap_seen k s) w.over w.next) (came Next) (λ y. for_turn k w ts (run_all k ss) p y) a s)
    (λ a. ap (λ (o : Option Val). on_element o (came Next) (λ y. for_turn K w ts (run_all K ss) p y) a x.state) e) (came_goes fns frozen x budget Next)))

pub for_more : (fns : Functions) (frozen : Made) (r : Result Now Halt) (x z : Going) (budget n : ℕ) (p : Place) (ts : Tree) (ss : Steps) (w : Walk) (v : Val) → (w.turns ≡ 0 → ⊥) → n ≡ row_size (seen frozen x.state.heap) w.over → n ≡ w.size → Some v ≡ element (seen frozen x.state.heap) w.over w.next → GoesOn fns frozen r x z budget (λ k. for_turn k w ts (run_all k ss) p v) → GoesOn fns frozen r x z budget (λ k. for_turns w.turns k w.over w.next w.size ts (run_all k ss) p)
for_more fns frozen r x z budget n p ts ss w v ne e1 e2 e h =
    let q : suc (w.turns - 1) ≡ w.turns = omega arith in
    let N : ℕ → Type 0 = λ j. (j == w.size) ≡ true in
    let K : Known = known (steps_of fns.program) frozen x.state.here.room in
    at_turns fns frozen r x z budget (suc (w.turns - 1)) p ts ss w q (sized_right fns frozen r x z budget (w.turns - 1) w.next w.size p ts ss w.over (subst N e1 (is_same n w.size e2))
    (same_total fns frozen r x z budget (λ k. for_turn k w ts (run_all k ss) p v) (λ k a s. on_element (element (heap_seen k s) w.over w.next) (came Next) (λ y. for_turn k w ts (run_all k ss) p y) a s)
    (λ a. ap (λ (o : Option Val). on_element o (came Next) (λ y. for_turn K w ts (run_all K ss) p y) a x.state) e) h))

pub for_spends : (fns : Functions) (frozen : Made) (r : Result Now Halt) (x y z : Going) (budget : ℕ) (u : Unit {0}) (p : Place) (ts a : Tree) (ss : Steps) (t : Step) (node : Stmt) (w w2 : Walk) (v : Val) → t ≡ For p ts a ss → step_of node ≡ t → w2 ≡ behind_walk w → Spends (Ok u) 1 p x y budget → y.state.used ≤ z.state.used → GoesOn fns frozen r y z budget (within (frame.Stmt (stmt.ForBound node w2)) (λ k. assign k ts v)) → GoesOn fns frozen r x z budget (λ k. for_turn k w ts (run_all k ss) p v)
for_spends fns frozen r x y z budget u p ts a ss t node w w2 v e1 e2 e3 s g h =
    let S : Step → Type 0 = λ c. GoesOn fns frozen r y z budget (λ k b st. after (assign k ts v b st) (λ got. on_next got (for_bound k w2 c) b)) in
    let W : Walk → Type 0 = λ i. GoesOn fns frozen r y z budget (λ k. and_then (assign k ts v) (for_bound k i (For p ts a ss))) in
    spent_goes fns frozen r x y z budget 1 u p (λ k. and_then (assign k ts v) (for_bound k (behind_walk w) (For p ts a ss))) s g (subst W e3 (subst S (e2 ∙ e1) h))

pub for_stops : (fns : Functions) (frozen : Made) (h : Halt) (x z : Going) (budget : ℕ) (p : Place) (ts : Tree) (ss : Steps) (w : Walk) (v : Val) → Spends (Err h) 1 p x z budget → GoesOn fns frozen (Err h) x z budget (λ k. for_turn k w ts (run_all k ss) p v)
for_stops fns frozen h x z budget p ts ss w v s =
    spent_stops fns frozen h x z budget 1 p (λ k. and_then (assign k ts v) (then_do (run_all k ss) (λ got. turn_on got (for_turns (w.turns - 1) k w.over (w.next + 1) w.size ts (run_all k ss) p)))) s

-- ---- an element that goes to a name alone

bind_next : (o : Result (Unit {0} × Made) ValueStop) (p : Place) (g : State → State) (n : Doing) (w : World) (s : State) → made o p (λ _ w2 s2. n w2 (g s2)) w s ≡ after (made o p (λ _ w2 s2. came Next w2 (g s2)) w s) (λ got. on_next got n w)
bind_next (Ok u) p g n w s = refl
bind_next (Err e) p g n w s = refl

named_same : (fns : Functions) (frozen : Made) (r : Result Now Halt) (x z : Going) (budget : ℕ) (p : Place) (name : List ℕ) (t : Tree) (v : Val) (node : Stmt) (w : Walk) → t ≡ Name p name → GoesOn fns frozen r x z budget (λ k. bind k name v p (for_bound k w (step_of node))) → GoesOn fns frozen r x z budget (within (frame.Stmt (stmt.ForBound node w)) (λ k. assign k t v))
named_same fns frozen r x z budget p name t v node w e h =
    let K : Known = known (steps_of fns.program) frozen x.state.here.room in
    let P : Tree → Type 0 = λ a. GoesOn fns frozen r x z budget (within (frame.Stmt (stmt.ForBound node w)) (λ k. assign k a v)) in
    subst P (sym e)
    (same_total fns frozen r x z budget (λ k. bind k name v p (for_bound k w (step_of node))) (within (frame.Stmt (stmt.ForBound node w)) (λ k. assign k (Name p name) v))
    (λ a. bind_next (scope_bound (seen frozen x.state.heap) x.state.here.scope.0 name v) p (λ s. record s { bound = s.bound + 1; here = with_binding (named_val name v) s.here }) (for_bound K w (step_of node)) a x.state) h)

pub named_bound : (fns : Functions) (frozen : Made) (r : Result Now Halt) (x y z : Going) (budget : ℕ) (p : Place) (name text : List ℕ) (t : Tree) (v : Val) (u : Unit {0}) (node : Stmt) (w : Walk) → t ≡ Name p name → text ≡ name → Binds (Ok u) (scope_bound (seen frozen x.state.heap) x.state.here.scope.0 text v) (named_val text v) p x y → GoesOn fns frozen r y z budget (λ k. for_bound k w (step_of node)) → GoesOn fns frozen r x z budget (within (frame.Stmt (stmt.ForBound node w)) (λ k. assign k t v))
named_bound fns frozen r x y z budget p name text t v u node w e q b h =
    let N : List ℕ → Type 0 = λ i. Binds (Ok u) (scope_bound (seen frozen x.state.heap) x.state.here.scope.0 i v) (named_val i v) p x y in
    named_same fns frozen r x z budget p name t v node w e (bind_goes fns frozen r x y z budget u name v p (λ k. for_bound k w (step_of node)) (subst N q b) h)

pub named_refused : (fns : Functions) (frozen : Made) (h : Halt) (x z : Going) (budget : ℕ) (p : Place) (name text : List ℕ) (t : Tree) (v : Val) (node : Stmt) (w : Walk) → t ≡ Name p name → text ≡ name → Binds (Err h) (scope_bound (seen frozen x.state.heap) x.state.here.scope.0 text v) (named_val text v) p x z → GoesOn fns frozen (Err h) x z budget (within (frame.Stmt (stmt.ForBound node w)) (λ k. assign k t v))
named_refused fns frozen h x z budget p name text t v node w e q b =
    let N : List ℕ → Type 0 = λ i. Binds (Err h) (scope_bound (seen frozen x.state.heap) x.state.here.scope.0 i v) (named_val i v) p x z in
    named_same fns frozen (Err h) x z budget p name t v node w e (bind_stops fns frozen h x z budget name v p (λ k. for_bound k w (step_of node)) (subst N q b))

-- ---- the body

pub body_waits : (fns : Functions) (frozen : Made) (r : Result Now Halt) (x z : Going) (budget : ℕ) (p : Place) (ts a : Tree) (ss : Steps) (t : Step) (node : Stmt) (w : Walk) (fs : List Frame) → t ≡ For p ts a ss → step_of node ≡ t → fs ≡ frame.Stmt (stmt.ForBody node w) ∷ x.frames → GoesOn fns frozen r (record x { frames = fs }) z budget (λ k. run_all k ss) → GoesOn fns frozen r x z budget (λ k. for_bound k w t)
body_waits fns frozen r x z budget p ts a ss t node w fs e1 e2 e3 h =
    let S : Step → Type 0 = λ c. GoesOn fns frozen r x z budget (λ k b st. after (run_all k ss b st) (λ got. turn_on got (for_walks k w c) b)) in
    at_step fns frozen r x z budget (For p ts a ss) t (λ c k. for_bound k w c) e1
    (subst S (e2 ∙ e1) (under_frame fns frozen r x z budget (frame.Stmt (stmt.ForBody node w)) fs (λ k. run_all k ss) refl e3 h))

pub body_over : (fns : Functions) (frozen : Made) (x : Going) (budget : ℕ) (got left : Got) (m : Known → Doing) → Some left ≡ loop_left got → GoesOn fns frozen (Ok (Came left)) x x budget (λ k. turn_on got (m k))
body_over fns frozen x budget got left m e =
    meant_same fns frozen (Ok (Came left)) x x budget (λ k. came left) (λ k. turn_on got (m k)) (λ k. turn_ends got left (m k) (sym e)) (came_goes fns frozen x budget left)

pub body_again : (fns : Functions) (frozen : Made) (r : Result Now Halt) (x z : Going) (budget : ℕ) (got : Got) (m : Known → Doing) → None ≡ loop_left got → GoesOn fns frozen r x z budget m → GoesOn fns frozen r x z budget (λ k. turn_on got (m k))
body_again fns frozen r x z budget got m e h =
    meant_same fns frozen r x z budget m (λ k. turn_on got (m k)) (λ k. turn_stays got (m k) (sym e)) h

-- ---- statements that are no `for`

true_not_false : true ≡ false → ⊥
true_not_false q = cc

-- no other statement goes over elements
others : (k : Known) (v : Val) (w : Walk) (t : Step) → is_for t ≡ false → (for_source k t v ≡ came Next) × (for_row k t v ≡ came Next) × (for_walks k w t ≡ came Next) × (for_bound k w t ≡ came Next)
others k v w (Pass p) q = (refl, refl, refl, refl)
others k v w (Break p) q = (refl, refl, refl, refl)
others k v w (Continue p) q = (refl, refl, refl, refl)
others k v w (Return p m) q = (refl, refl, refl, refl)
others k v w (Assert p a m) q = (refl, refl, refl, refl)
others k v w (Raise p a) q = (refl, refl, refl, refl)
others k v w (ImportAll p path) q = (refl, refl, refl, refl)
others k v w (Import p path names) q = (refl, refl, refl, refl)
others k v w (Assign p ts a) q = (refl, refl, refl, refl)
others k v w (Annotate p a b m) q = (refl, refl, refl, refl)
others k v w (Augment p a o b) q = (refl, refl, refl, refl)
others k v w (Evaluate p a) q = (refl, refl, refl, refl)
others k v w (If p bs b) q = (refl, refl, refl, refl)
others k v w (While p a b) q = (refl, refl, refl, refl)
others k v w (For p ts a b) q = absurd (true_not_false q)
others k v w (With p a m b) q = (refl, refl, refl, refl)
others k v w (Def p f) q = (refl, refl, refl, refl)
others k v w (Class p n a b) q = (refl, refl, refl, refl)

pub source_other : (fns : Functions) (frozen : Made) (x : Going) (budget : ℕ) (t : Step) (v : Val) → is_for t ≡ false → GoesOn fns frozen (Ok (Came Next)) x x budget (λ k. for_source k t v)
source_other fns frozen x budget t v q = meant_same fns frozen (Ok (Came Next)) x x budget (λ k. came Next) (λ k. for_source k t v) (λ k. (others k v (record { over = v; next = 0; size = 0; turns = 0 }) t q).0) (came_goes fns frozen x budget Next)

pub row_other : (fns : Functions) (frozen : Made) (x : Going) (budget : ℕ) (t : Step) (v : Val) → is_for t ≡ false → GoesOn fns frozen (Ok (Came Next)) x x budget (λ k. for_row k t v)
row_other fns frozen x budget t v q = meant_same fns frozen (Ok (Came Next)) x x budget (λ k. came Next) (λ k. for_row k t v) (λ k. (others k v (record { over = v; next = 0; size = 0; turns = 0 }) t q).1) (came_goes fns frozen x budget Next)

pub walks_other : (fns : Functions) (frozen : Made) (x : Going) (budget : ℕ) (t : Step) (w : Walk) → is_for t ≡ false → GoesOn fns frozen (Ok (Came Next)) x x budget (λ k. for_walks k w t)
walks_other fns frozen x budget t w q = meant_same fns frozen (Ok (Came Next)) x x budget (λ k. came Next) (λ k. for_walks k w t) (λ k. (others k w.over w t q).2) (came_goes fns frozen x budget Next)

pub bound_other : (fns : Functions) (frozen : Made) (x : Going) (budget : ℕ) (t : Step) (w : Walk) → is_for t ≡ false → GoesOn fns frozen (Ok (Came Next)) x x budget (λ k. for_bound k w t)
bound_other fns frozen x budget t w q = meant_same fns frozen (Ok (Came Next)) x x budget (λ k. came Next) (λ k. for_bound k w t) (λ k. (others k w.over w t q).3) (came_goes fns frozen x budget Next)

pub ruleset begin_rules = (for_waits, no_memory)

pub ruleset other_rules = (source_other, row_other, walks_other, bound_other, no_memory)

pub ruleset source_rules = (for_takes, no_memory)

pub ruleset loop_rules = (loop_refused, loop_goes)

pub ruleset walk_rules = (for_out, for_resized, for_over, for_more)

pub ruleset turn_rules = (for_spends, for_stops, no_memory)

pub ruleset under_rules = (body_waits, no_memory)

pub ruleset left_rules = (body_over, body_again)
