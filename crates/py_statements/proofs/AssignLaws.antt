-- The targets of an assignment by their number, and how it goes on.
use Rattle.std.proofs.Common.{◌≡◌, ℕ, zero, suc, ◌+◌, ◌<◌, ◌≤◌, refl, ap, ◌∙◌, sym, subst, Bool, true, false, List, [], ◌∷◌, map, length, get_or, Some, None, Result, Ok, Err, add-one}
use Rattle.std.specs.List.{slice_get}
use Rattle.std.proofs.lemmas.Option.{slice_get_read, slice_get_past}
use Rattle.amh_host.specs.declared.place.Place.{Place}
use Rattle.py_tree.specs.declared.expr.Expr.{Expr}
use Rattle.py_tree.specs.declared.stmt.Stmt.{Stmt}
use Rattle.py_tree.specs.Seen.{tree}
use Rattle.py_tree.specs.Programs.{step_of}
use Rattle.py_tree.specs.Tree.{Tree, Name, Trees, none, some, trees}
use Rattle.py_tree.specs.Steps.{Step, Pass, Break, Continue, Return, Assert, Raise, ImportAll, Import, Assign, Annotate, Augment, Evaluate, If, While, For, With, Def, Class}
use Rattle.py_heap.specs.Heaps.{Made, seen}
use Rattle.py_values.specs.declared.val.Val.{Val}
use Rattle.py_values.specs.declared.val.ValueStop.{ValueStop}
use Rattle.py_heap.specs.Names.{scope_bound}
use Rattle.py_frames.specs.declared.state.State.{State}
use Rattle.py_frames.specs.declared.state.Halt.{Halt}
use Rattle.py_frames.specs.declared.state.Got.{Got}
use Rattle.py_frames.specs.declared.state.Got.TheVariants.{Next}
use Rattle.py_frames.specs.declared.frame.Now.{Now}
use Rattle.py_frames.specs.declared.frame.Now.TheVariants.{Begin}
use Rattle.py_frames.specs.declared.leaf.Priced.{Priced}
use Rattle.py_frames.specs.declared.frame.Purpose.{Purpose}
use Rattle.py_frames.specs.declared.frame.Frame.{Frame}
use Rattle.py_frames.specs.declared.frame.StmtFrame.TheVariants as stmt
use Rattle.py_frames.specs.declared.frame.Frame.TheVariants as frame
use Rattle.py_frames.specs.declared.functions.Functions.{Functions}
use Rattle.py_frames.specs.declared.going.Going.{Going}
use Rattle.py_frames.specs.Doing.{World, made, after, on_value, on_next, came}
use Rattle.py_frames.specs.Functions.{named_val}
use Rattle.py_frames.specs.Values.{bind, with_binding}
use Rattle.py_frames.specs.Parts.{trees_from}
use Rattle.py_frames.specs.Expressions.{value_of, assign}
use Rattle.py_frames.specs.Statements.{assigned, purpose_of}
use Rattle.py_frames.specs.Stmt_begun.{run_after, leaves, is_assign}
use Rattle.py_frames.specs.Stmt_frames.{targets_of_step}
use Rattle.py_frames.specs.Frames.{GoesOn, KeepsRoom, within}
use Rattle.py_frames.specs.Leaves.{at_once}
use Rattle.py_turns.proofs.AtOnceLaws.{at_once_goes}
use Rattle.py_frames.proofs.BeginLaws.{no_memory, pushed}
use Rattle.py_frames.proofs.ExprLaws.{same_total}
use Rattle.py_frames.proofs.StmtLaws.{meant_same}
use Rattle.py_frames.proofs.StmtGoes.{next_leaves, next_stays}

targets_at : (xs : List Expr) (n : ℕ) (s : Expr) → slice_get xs n ≡ Some s → trees_from n (trees (map tree xs)) ≡ some (tree s) (trees_from (suc n) (trees (map tree xs)))
targets_at [] n s h = cc
targets_at (x ∷ xs) zero s h = let e : x ≡ s = cc in ap (λ z. some (tree z) (trees (map tree xs))) e
targets_at (x ∷ xs) (suc n) s h = targets_at xs n s h

targets_past : (xs : List Expr) (n : ℕ) → slice_get xs n ≡ None → trees_from n (trees (map tree xs)) ≡ none
targets_past [] zero h = refl
targets_past [] (suc n) h = refl
targets_past (x ∷ xs) zero h = cc
targets_past (x ∷ xs) (suc n) h = targets_past xs n h

pub target_found : (xs : List Expr) (n : ℕ) (s : Expr) → n < length xs → s ≡ get_or xs n s → trees_from n (trees (map tree xs)) ≡ some (tree s) (trees_from (n + 1) (trees (map tree xs)))
target_found xs n s h e =
    targets_at xs n s (slice_get_read xs (length xs) n s refl h e) ∙ ap (λ j. some (tree s) (trees_from j (trees (map tree xs)))) (sym (add-one n))

pub target_lacks : (xs : List Expr) (n : ℕ) → length xs ≤ n → trees_from n (trees (map tree xs)) ≡ none
target_lacks xs n h = targets_past xs n (slice_get_past xs n h)

begin_as : (fns : Functions) (frozen : Made) (x : Going) (budget : ℕ) (e : Expr) (u : Purpose) → GoesOn fns frozen (Ok (Begin e u)) x x budget (λ k. value_of k u (tree e))
unfolding GoesOn
begin_as fns frozen x budget e u = λ w h. refl

pub part_waits : (fns : Functions) (frozen : Made) (x : Going) (budget : ℕ) (f : Frame) (fs : List Frame) (e : Expr) (u : Purpose) (t : Tree) → tree e ≡ t → fs ≡ f ∷ x.frames → KeepsRoom f x.state.here.room → GoesOn fns frozen (Ok (Begin e u)) x (record x { frames = fs }) budget (within f (λ k. value_of k u t))
part_waits fns frozen x budget f fs e u t q qf room =
    let F : List Frame → Type 0 = λ g. GoesOn fns frozen (Ok (Begin e u)) x (record x { frames = g }) budget (within f (λ k. value_of k u t)) in
    let P : Tree → Type 0 = λ z. GoesOn fns frozen (Ok (Begin e u)) (record x { frames = f ∷ x.frames }) (record x { frames = f ∷ x.frames }) budget (λ k. value_of k u z) in
    subst F (sym qf) (pushed fns frozen (Ok (Begin e u)) x (record x { frames = f ∷ x.frames }) budget f (λ k. value_of k u t) room
    (subst P q (begin_as fns frozen (record x { frames = f ∷ x.frames }) budget e u)))

pub assign_begins : (fns : Functions) (frozen : Made) (r : Result Now Halt) (x y : Going) (budget : ℕ) (p : Place) (ts : Trees) (a : Tree) (u : Purpose) (t : Step) (node : Stmt) → t ≡ Assign p ts a → step_of node ≡ t → u ≡ purpose_of ts → GoesOn fns frozen r x y budget (within (frame.Stmt (stmt.Assigned node)) (λ k. value_of k u a)) → GoesOn fns frozen r x y budget (λ k. run_after k t)
assign_begins fns frozen r x y budget p ts a u t node e1 e2 e3 h =
    let U : Purpose → Type 0 = λ q. GoesOn fns frozen r x y budget (λ k w s. after (value_of k q a w s) (λ got. on_value got (assigned k ts) w)) in
    let S : Step → Type 0 = λ z. GoesOn fns frozen r x y budget (λ k w s. after (value_of k u a w s) (λ got. on_value got (assigned k (targets_of_step z)) w)) in
    let N : Step → Type 0 = λ z. GoesOn fns frozen r x y budget (λ k. run_after k z) in
    subst N (sym e1) (subst U e3 (subst S (e2 ∙ e1) h))

pub assign_at_once : (fns : Functions) (frozen : Made) (r : Result Now Halt) (x y : Going) (budget : ℕ) (p : Place) (ts : Trees) (a : Tree) (t : Step) (c : Priced) → t ≡ Assign p ts a → Some c ≡ at_once (seen frozen x.state.heap) x.state.here.scope.0 a → x.state.used + c.cost < budget → x.state.used + c.cost ≤ y.state.used → GoesOn fns frozen r (record x { state = record x.state { used = x.state.used + c.cost } }) y budget (λ k. assigned k (trees_from 0 (targets_of_step t)) c.val) → GoesOn fns frozen r x y budget (λ k. run_after k t)
assign_at_once fns frozen r x y budget p ts a t c e1 e b g h =
    let N : Step → Type 0 = λ z. GoesOn fns frozen r x y budget (λ k. run_after k z) in
    let M : Step → Type 0 = λ z. GoesOn fns frozen r (record x { state = record x.state { used = x.state.used + c.cost } }) y budget (λ k. assigned k (trees_from 0 (targets_of_step z)) c.val) in
    subst N (sym e1) (at_once_goes fns frozen r x y budget (purpose_of ts) a c (λ k v. assigned k ts v) e b g (subst M e1 h))

pub targets_next : (fns : Functions) (frozen : Made) (r : Result Now Halt) (x y : Going) (budget n : ℕ) (p : Place) (ts : Trees) (a b : Tree) (t : Step) (node : Stmt) (v u : Val) → t ≡ Assign p ts a → step_of node ≡ t → trees_from n ts ≡ some b (trees_from (n + 1) ts) → u ≡ v → GoesOn fns frozen r x y budget (within (frame.Stmt (stmt.Assigning node (n + 1) u)) (λ k. assign k b v)) → GoesOn fns frozen r x y budget (λ k. assigned k (trees_from n (targets_of_step t)) v)
targets_next fns frozen r x y budget n p ts a b t node v u e1 e2 e3 e4 h =
    let S : Step → Type 0 = λ z. GoesOn fns frozen r x y budget (λ k w s. after (assign k b v w s) (λ got. on_next got (assigned k (trees_from (n + 1) (targets_of_step z)) u) w)) in
    let V : Val → Type 0 = λ z. GoesOn fns frozen r x y budget (λ k w s. after (assign k b v w s) (λ got. on_next got (assigned k (trees_from (n + 1) ts) z) w)) in
    let N : Step → Type 0 = λ z. GoesOn fns frozen r x y budget (λ k. assigned k (trees_from n (targets_of_step z)) v) in
    let Q : Trees → Type 0 = λ z. GoesOn fns frozen r x y budget (λ k. assigned k z v) in
    subst N (sym e1) (subst Q (sym e3) (subst V e4 (subst S (e2 ∙ e1) h)))

-- a name is bound, and then nothing more is
bound_last : (o : Result (Unit {0} × Made) ValueStop) (p : Place) (g : State → State) (w : World) (s : State) → made o p (λ _ w2 s2. came Next w2 (g s2)) w s ≡ after (made o p (λ _ w2 s2. came Next w2 (g s2)) w s) (λ got. on_next got (came Next) w)
bound_last (Ok u) p g w s = refl
bound_last (Err e) p g w s = refl

named_last : (fns : Functions) (frozen : Made) (r : Result Now Halt) (x y : Going) (budget : ℕ) (q : Place) (name : List ℕ) (v : Val) → GoesOn fns frozen r x y budget (λ k. bind k name v q (came Next)) → GoesOn fns frozen r x y budget (λ k. assigned k (some (Name q name) none) v)
named_last fns frozen r x y budget q name v h =
    same_total fns frozen r x y budget (λ k. bind k name v q (came Next)) (λ k. assigned k (some (Name q name) none) v)
    (λ w. bound_last (scope_bound (seen frozen x.state.heap) x.state.here.scope.0 name v) q (λ s. record s { bound = s.bound + 1; here = with_binding (named_val name v) s.here }) w x.state) h

pub target_named : (fns : Functions) (frozen : Made) (r : Result Now Halt) (x y : Going) (budget n : ℕ) (p q : Place) (ts : Trees) (a b : Tree) (t : Step) (name text : List ℕ) (v : Val) → t ≡ Assign p ts a → trees_from n ts ≡ some b (trees_from (n + 1) ts) → trees_from (n + 1) ts ≡ none → b ≡ Name q name → text ≡ name → GoesOn fns frozen r x y budget (λ k. bind k text v q (came Next)) → GoesOn fns frozen r x y budget (λ k. assigned k (trees_from n (targets_of_step t)) v)
target_named fns frozen r x y budget n p q ts a b t name text v e1 e2 e3 e4 e5 h =
    let N : Step → Type 0 = λ z. GoesOn fns frozen r x y budget (λ k. assigned k (trees_from n (targets_of_step z)) v) in
    let Q : Trees → Type 0 = λ z. GoesOn fns frozen r x y budget (λ k. assigned k z v) in
    let T : List ℕ → Type 0 = λ z. GoesOn fns frozen r x y budget (λ k. bind k z v q (came Next)) in
    subst N (sym e1) (subst Q (sym (e2 ∙ (λ i. some (e4 i) (e3 i)))) (named_last fns frozen r x y budget q name v (subst T e5 h)))

pub targets_end : (fns : Functions) (frozen : Made) (r : Result Now Halt) (x y : Going) (budget n : ℕ) (p : Place) (ts : Trees) (a : Tree) (t : Step) (v : Val) → t ≡ Assign p ts a → trees_from n ts ≡ none → GoesOn fns frozen r x y budget (λ k. came Next) → GoesOn fns frozen r x y budget (λ k. assigned k (trees_from n (targets_of_step t)) v)
targets_end fns frozen r x y budget n p ts a t v e1 e3 h =
    let N : Step → Type 0 = λ z. GoesOn fns frozen r x y budget (λ k. assigned k (trees_from n (targets_of_step z)) v) in
    let Q : Trees → Type 0 = λ z. GoesOn fns frozen r x y budget (λ k. assigned k z v) in
    subst N (sym e1) (subst Q (sym e3) h)

pub assigning_leaves : (fns : Functions) (frozen : Made) (r : Result Now Halt) (x y : Going) (budget : ℕ) (ts : Trees) (v : Val) (got : Got) → leaves got ≡ true → GoesOn fns frozen r x y budget (λ k. came got) → GoesOn fns frozen r x y budget (λ k. on_next got (assigned k ts v))
assigning_leaves fns frozen r x y budget ts v got e h =
    meant_same fns frozen r x y budget (λ k. came got) (λ k. on_next got (assigned k ts v)) (λ k. next_leaves got (assigned k ts v) e) h

pub assigning_stays : (fns : Functions) (frozen : Made) (r : Result Now Halt) (x y : Going) (budget : ℕ) (ts : Trees) (v : Val) (got : Got) → leaves got ≡ false → GoesOn fns frozen r x y budget (λ k. assigned k ts v) → GoesOn fns frozen r x y budget (λ k. on_next got (assigned k ts v))
assigning_stays fns frozen r x y budget ts v got e h =
    meant_same fns frozen r x y budget (λ k. assigned k ts v) (λ k. on_next got (assigned k ts v)) (λ k. next_stays got (assigned k ts v) e) h

-- no statement but an assignment has targets
no_targets : (n : ℕ) → trees_from n none ≡ none
no_targets zero = refl
no_targets (suc n) = refl

assign_none : (t : Step) → is_assign t ≡ false → targets_of_step t ≡ none
assign_none (Pass p) e = refl
assign_none (Break p) e = refl
assign_none (Continue p) e = refl
assign_none (Return p e2) e = refl
assign_none (Assert p e2 m) e = refl
assign_none (Raise p e2) e = refl
assign_none (ImportAll p path) e = refl
assign_none (Import p path names) e = refl
assign_none (Assign p ts e2) e = cc
assign_none (Annotate p t a e2) e = refl
assign_none (Augment p t o e2) e = refl
assign_none (Evaluate p e2) e = refl
assign_none (If p bs b) e = refl
assign_none (While p e2 b) e = refl
assign_none (For p ts e2 b) e = refl
assign_none (With p e2 t b) e = refl
assign_none (Def p f) e = refl
assign_none (Class p m a b) e = refl

pub targets_nowhere : (fns : Functions) (frozen : Made) (r : Result Now Halt) (x y : Going) (budget n : ℕ) (t : Step) (v : Val) (b : Bool) → b ≡ is_assign t → b ≡ false → GoesOn fns frozen r x y budget (λ k. came Next) → GoesOn fns frozen r x y budget (λ k. assigned k (trees_from n (targets_of_step t)) v)
targets_nowhere fns frozen r x y budget n t v b e1 e2 h =
    let Q : Trees → Type 0 = λ z. GoesOn fns frozen r x y budget (λ k. assigned k z v) in
    subst Q (sym (ap (trees_from n) (assign_none t (sym e1 ∙ e2)) ∙ no_targets n)) h

pub ruleset on_rules = (targets_nowhere)

pub ruleset target_rules = (target_found, target_lacks)

pub ruleset waits_rules = (part_waits, no_memory)

pub ruleset begin_rules = (assign_begins, no_memory)

pub ruleset from_rules = (targets_next, targets_end, no_memory)

pub ruleset left_rules = (assigning_leaves, assigning_stays)
