-- Truths, and the branches of an `if` by their number.
use Rattle.std.proofs.Common.{◌≡◌, ℕ, zero, suc, ◌+◌, ◌<◌, ◌≤◌, refl, ap, ◌∙◌, sym, subst, Bool, true, false, List, [], ◌∷◌, map, length, get_or, Option, Some, None, option_map, Result, Ok, Err, add-one}
use Rattle.std.specs.List.{slice_get}
use Rattle.std.proofs.lemmas.Option.{slice_get_read, slice_get_past}
use Rattle.amh_host.specs.declared.place.Place.{Place}
use Rattle.py_tree.specs.declared.stmt.Stmt.{Stmt}
use Rattle.py_tree.specs.declared.stmt.Block.{Block}
use Rattle.py_tree.specs.declared.stmt.Branch.{Branch}
use Rattle.py_tree.specs.Programs.{step_of, steps_of, branch_of}
use Rattle.py_tree.specs.Tree.{Tree}
use Rattle.py_tree.specs.Steps.{Step, Pass, Break, Continue, Return, Assert, Raise, ImportAll, Import, Assign, Annotate, Augment, Evaluate, If, While, For, With, Def, Class, Steps, Branches, no_branch, branch, branches, Otherwise, nothing_else, otherwise, else_of}
use Rattle.py_heap.specs.Heaps.{Made, seen}
use Rattle.py_operators.specs.Truths.{truth}
use Rattle.py_values.specs.declared.val.Val.{Val}
use Rattle.py_frames.specs.declared.request.Cause.TheVariants as cause
use Rattle.py_frames.specs.declared.state.Halt.{Halt}
use Rattle.py_frames.specs.declared.state.Halt.TheVariants.{Asks, Stopped, NoMemory}
use Rattle.py_frames.specs.declared.state.Got.TheVariants.{Next}
use Rattle.py_frames.specs.declared.frame.Now.{Now}
use Rattle.py_frames.specs.declared.frame.Purpose.TheVariants.{Plain}
use Rattle.py_frames.specs.declared.frame.StmtFrame.TheVariants as stmt
use Rattle.py_frames.specs.declared.frame.Frame.TheVariants as frame
use Rattle.py_frames.specs.declared.functions.Functions.{Functions}
use Rattle.py_frames.specs.declared.going.Going.{Going}
use Rattle.py_frames.specs.Doing.{World, Doing, Known, after, on_value, came, stop}
use Rattle.py_frames.specs.Parts.{branches_from, place_of}
use Rattle.py_frames.specs.Values.{truth_of, by_truth}
use Rattle.py_frames.specs.Expressions.{value_of}
use Rattle.py_frames.specs.Statements.{known, run_all, run_branches}
use Rattle.py_frames.specs.Stmt_frames.{branch_came, branches_of, other_of}
use Rattle.py_frames.specs.Frames.{finish, stops_as, GoesOn, within}
use Rattle.py_frames.proofs.BeginLaws.{no_memory}
use Rattle.py_frames.specs.Stmt_begun.{is_if}
use Rattle.py_frames.proofs.StmtLaws.{meant_same}

-- two meanings that are the same in this state owe the same
pub here_same : (fns : Functions) (frozen : Made) (r : Result Now Halt) (x z : Going) (budget : ℕ) (m n : Known → Doing) → ((w : World) → n (known (steps_of fns.program) frozen x.state.here.room) w x.state ≡ m (known (steps_of fns.program) frozen x.state.here.room) w x.state) → GoesOn fns frozen r x z budget m → GoesOn fns frozen r x z budget n
unfolding GoesOn
here_same fns frozen (Ok now) x z budget m n e h = λ w q. ap (λ o. finish (steps_of fns.program) frozen x.state.here.room x.frames w o) (e w) ∙ h w q
here_same fns frozen (Err (Stopped stop)) x z budget m n e h = λ w q. ap (λ o. stops_as (finish (steps_of fns.program) frozen x.state.here.room x.frames w o)) (e w) ∙ h w q
here_same fns frozen (Err (Asks r)) x z budget m n e h = h
here_same fns frozen (Err NoMemory) x z budget m n e h = tt

-- a truth that is there, and one that is not
pub truth_is : (fns : Functions) (frozen : Made) (r : Result Now Halt) (x z : Going) (budget : ℕ) (v : Val) (p : Place) (b : Bool) (f : Known → Bool → Doing) → truth (seen frozen x.state.heap) v ≡ Some b → GoesOn fns frozen r x z budget (λ k. f k b) → GoesOn fns frozen r x z budget (λ k. truth_of k v p (f k))
truth_is fns frozen r x z budget v p b f e h =
    here_same fns frozen r x z budget (λ k. f k b) (λ k. truth_of k v p (f k)) (λ w. ap (λ o. by_truth o p (f (known (steps_of fns.program) frozen x.state.here.room)) w x.state) e) h

pub truth_lacks : (fns : Functions) (frozen : Made) (r : Result Now Halt) (x z : Going) (budget : ℕ) (v : Val) (p : Place) (f : Known → Bool → Doing) → truth (seen frozen x.state.heap) v ≡ None → GoesOn fns frozen r x z budget (λ k. stop cause.Raised p) → GoesOn fns frozen r x z budget (λ k. truth_of k v p (f k))
truth_lacks fns frozen r x z budget v p f e h =
    here_same fns frozen r x z budget (λ k. stop cause.Raised p) (λ k. truth_of k v p (f k)) (λ w. ap (λ o. by_truth o p (f (known (steps_of fns.program) frozen x.state.here.room)) w x.state) e) h

-- ---- the branches of a list

branches_at : (xs : List Branch) (n : ℕ) (s : Branch) → slice_get xs n ≡ Some s → branches_from n (branches (map branch_of xs)) ≡ branch (branch_of s).0 (branch_of s).1 (branches_from (suc n) (branches (map branch_of xs)))
branches_at [] n s h = cc
branches_at (x ∷ xs) zero s h = let e : x ≡ s = cc in ap (λ (z : Branch). branch (branch_of z).0 (branch_of z).1 (branches (map branch_of xs))) e
branches_at (x ∷ xs) (suc n) s h = branches_at xs n s h

branches_past : (xs : List Branch) (n : ℕ) → slice_get xs n ≡ None → branches_from n (branches (map branch_of xs)) ≡ no_branch
branches_past [] zero h = refl
branches_past [] (suc n) h = refl
branches_past (x ∷ xs) zero h = cc
branches_past (x ∷ xs) (suc n) h = branches_past xs n h

pub branch_found : (xs : List Branch) (n : ℕ) (s : Branch) → n < length xs → s ≡ get_or xs n s → branches_from n (branches (map branch_of xs)) ≡ branch (branch_of s).0 (branch_of s).1 (branches_from (n + 1) (branches (map branch_of xs)))
branch_found xs n s h e =
    branches_at xs n s (slice_get_read xs (length xs) n s refl h e) ∙ ap (λ j. branch (branch_of s).0 (branch_of s).1 (branches_from j (branches (map branch_of xs)))) (sym (add-one n))

pub branch_lacks : (xs : List Branch) (n : ℕ) → length xs ≤ n → branches_from n (branches (map branch_of xs)) ≡ no_branch
branch_lacks xs n h = branches_past xs n (slice_get_past xs n h)

-- ---- how an `if` goes on

-- what is there of an `if`
at_if : (fns : Functions) (frozen : Made) (r : Result Now Halt) (x y : Going) (budget : ℕ) (p : Place) (bs : Branches) (b : Otherwise) (t : Step) (N : Step → Known → Doing) → t ≡ If p bs b → GoesOn fns frozen r x y budget (N (If p bs b)) → GoesOn fns frozen r x y budget (N t)
at_if fns frozen r x y budget p bs b t N e h =
    let P : Step → Type 0 = λ z. GoesOn fns frozen r x y budget (N z) in
    subst P (sym e) h

pub if_tests : (fns : Functions) (frozen : Made) (r : Result Now Halt) (x y : Going) (budget n : ℕ) (p : Place) (bs rest : Branches) (b : Otherwise) (a a2 : Tree) (ss : Steps) (t : Step) (node : Stmt) → t ≡ If p bs b → step_of node ≡ t → branches_from n bs ≡ branch a ss rest → a2 ≡ a → GoesOn fns frozen r x y budget (within (frame.Stmt (stmt.Branch node n)) (λ k. value_of k Plain a2)) → GoesOn fns frozen r x y budget (λ k. run_branches k (branches_from n (branches_of t)) (other_of k t))
if_tests fns frozen r x y budget n p bs rest b a a2 ss t node e1 e2 e3 ea h =
    let A : Tree → Type 0 = λ z. GoesOn fns frozen r x y budget (within (frame.Stmt (stmt.Branch node n)) (λ k. value_of k Plain z)) in
    let M : Branches → Known → Doing = λ z k w s. after (value_of k Plain a w s) (λ got. on_value got (branch_came k z (other_of k (If p bs b))) w) in
    let P : Branches → Type 0 = λ z. GoesOn fns frozen r x y budget (M z) in
    let Q : Branches → Type 0 = λ z. GoesOn fns frozen r x y budget (λ k. run_branches k z (other_of k (If p bs b))) in
    let S : Step → Type 0 = λ z. GoesOn fns frozen r x y budget (λ k w s. after (value_of k Plain a w s) (λ got. on_value got (branch_came k (branches_from n (branches_of z)) (other_of k z)) w)) in
    at_if fns frozen r x y budget p bs b t (λ z k. run_branches k (branches_from n (branches_of z)) (other_of k z)) e1
    (subst Q (sym e3) (subst P e3 (subst S (e2 ∙ e1) (subst A ea h))))

pub if_others : (fns : Functions) (frozen : Made) (r : Result Now Halt) (x y : Going) (budget n : ℕ) (p : Place) (bs : Branches) (o : Option Block) (b : Block) (t : Step) → t ≡ If p bs (else_of (option_map steps_of o)) → o ≡ Some b → branches_from n bs ≡ no_branch → GoesOn fns frozen r x y budget (λ k. run_all k (steps_of b)) → GoesOn fns frozen r x y budget (λ k. run_branches k (branches_from n (branches_of t)) (other_of k t))
if_others fns frozen r x y budget n p bs o b t e1 e2 e3 h =
    let Q : Branches → Type 0 = λ z. GoesOn fns frozen r x y budget (λ k. run_branches k z (other_of k (If p bs (otherwise (steps_of b))))) in
    at_if fns frozen r x y budget p bs (otherwise (steps_of b)) t (λ z k. run_branches k (branches_from n (branches_of z)) (other_of k z))
    (e1 ∙ ap (λ z. If p bs (else_of (option_map steps_of z))) e2) (subst Q (sym e3) h)

pub if_ends : (fns : Functions) (frozen : Made) (r : Result Now Halt) (x y : Going) (budget n : ℕ) (p : Place) (bs : Branches) (o : Option Block) (t : Step) → t ≡ If p bs (else_of (option_map steps_of o)) → o ≡ None → branches_from n bs ≡ no_branch → GoesOn fns frozen r x y budget (λ k. came Next) → GoesOn fns frozen r x y budget (λ k. run_branches k (branches_from n (branches_of t)) (other_of k t))
if_ends fns frozen r x y budget n p bs o t e1 e2 e3 h =
    let Q : Branches → Type 0 = λ z. GoesOn fns frozen r x y budget (λ k. run_branches k z (other_of k (If p bs nothing_else))) in
    at_if fns frozen r x y budget p bs nothing_else t (λ z k. run_branches k (branches_from n (branches_of z)) (other_of k z))
    (e1 ∙ ap (λ z. If p bs (else_of (option_map steps_of z))) e2) (subst Q (sym e3) h)

-- ---- a branch's test

branch_is : (fns : Functions) (frozen : Made) (r : Result Now Halt) (x y : Going) (budget n : ℕ) (p : Place) (bs cs : Branches) (b : Otherwise) (t : Step) (v : Val) → t ≡ If p bs b → branches_from n bs ≡ cs → GoesOn fns frozen r x y budget (λ k. branch_came k cs (other_of k t) v) → GoesOn fns frozen r x y budget (λ k. branch_came k (branches_from n (branches_of t)) (other_of k t) v)
branch_is fns frozen r x y budget n p bs cs b t v e1 e3 h =
    let S : Step → Type 0 = λ z. GoesOn fns frozen r x y budget (λ k. branch_came k cs (other_of k z) v) in
    let Q : Branches → Type 0 = λ z. GoesOn fns frozen r x y budget (λ k. branch_came k z (other_of k (If p bs b)) v) in
    at_if fns frozen r x y budget p bs b t (λ z k. branch_came k (branches_from n (branches_of z)) (other_of k z) v) e1 (subst Q (sym e3) (subst S e1 h))

pub branch_past : (fns : Functions) (frozen : Made) (r : Result Now Halt) (x y : Going) (budget n : ℕ) (p : Place) (bs : Branches) (b : Otherwise) (t : Step) (v : Val) → t ≡ If p bs b → branches_from n bs ≡ no_branch → GoesOn fns frozen r x y budget (λ k. run_branches k (branches_from n (branches_of t)) (other_of k t)) → GoesOn fns frozen r x y budget (λ k. branch_came k (branches_from n (branches_of t)) (other_of k t) v)
branch_past fns frozen r x y budget n p bs b t v e1 e3 h =
    let S : Step → Type 0 = λ z. GoesOn fns frozen r x y budget (λ k. run_branches k (branches_from n (branches_of z)) (other_of k z)) in
    let Q : Branches → Type 0 = λ z. GoesOn fns frozen r x y budget (λ k. run_branches k z (other_of k (If p bs b))) in
    let T : Step → Type 0 = λ z. GoesOn fns frozen r x y budget (λ k. other_of k z) in
    branch_is fns frozen r x y budget n p bs no_branch b t v e1 e3 (subst T (sym e1) (subst Q e3 (subst S e1 h)))

pub branch_raises : (fns : Functions) (frozen : Made) (r : Result Now Halt) (x y : Going) (budget n : ℕ) (p q : Place) (bs rest : Branches) (b : Otherwise) (a a2 : Tree) (ss : Steps) (t : Step) (v : Val) → t ≡ If p bs b → branches_from n bs ≡ branch a ss rest → a2 ≡ a → truth (seen frozen x.state.heap) v ≡ None → q ≡ place_of a2 → GoesOn fns frozen r x y budget (λ k. stop cause.Raised q) → GoesOn fns frozen r x y budget (λ k. branch_came k (branches_from n (branches_of t)) (other_of k t) v)
branch_raises fns frozen r x y budget n p q bs rest b a a2 ss t v e1 e3 ea e4 e5 h =
    let P : Place → Type 0 = λ z. GoesOn fns frozen r x y budget (λ k. stop cause.Raised z) in
    branch_is fns frozen r x y budget n p bs (branch a ss rest) b t v e1 e3
    (truth_lacks fns frozen r x y budget v (place_of a) _ e4 (subst P (e5 ∙ ap place_of ea) h))

pub branch_holds : (fns : Functions) (frozen : Made) (r : Result Now Halt) (x y : Going) (budget n : ℕ) (p : Place) (bs rest : Branches) (b : Otherwise) (a : Tree) (ss s2 : Steps) (t : Step) (v : Val) (o : Bool) → t ≡ If p bs b → branches_from n bs ≡ branch a ss rest → s2 ≡ ss → truth (seen frozen x.state.heap) v ≡ Some o → o ≡ true → GoesOn fns frozen r x y budget (λ k. run_all k s2) → GoesOn fns frozen r x y budget (λ k. branch_came k (branches_from n (branches_of t)) (other_of k t) v)
branch_holds fns frozen r x y budget n p bs rest b a ss s2 t v o e1 e3 es e4 eo h =
    let A : Steps → Type 0 = λ z. GoesOn fns frozen r x y budget (λ k. run_all k z) in
    branch_is fns frozen r x y budget n p bs (branch a ss rest) b t v e1 e3
    (truth_is fns frozen r x y budget v (place_of a) true _ (e4 ∙ ap Some eo) (subst A es h))

pub branch_fails : (fns : Functions) (frozen : Made) (r : Result Now Halt) (x y : Going) (budget n : ℕ) (p : Place) (bs : Branches) (b : Otherwise) (a : Tree) (ss : Steps) (t : Step) (v : Val) (o : Bool) → t ≡ If p bs b → branches_from n bs ≡ branch a ss (branches_from (n + 1) bs) → truth (seen frozen x.state.heap) v ≡ Some o → o ≡ false → GoesOn fns frozen r x y budget (λ k. run_branches k (branches_from (n + 1) (branches_of t)) (other_of k t)) → GoesOn fns frozen r x y budget (λ k. branch_came k (branches_from n (branches_of t)) (other_of k t) v)
branch_fails fns frozen r x y budget n p bs b a ss t v o e1 e3 e4 eo h =
    let S : Step → Type 0 = λ z. GoesOn fns frozen r x y budget (λ k. run_branches k (branches_from (n + 1) (branches_of z)) (other_of k z)) in
    let T : Step → Type 0 = λ z. GoesOn fns frozen r x y budget (λ k. run_branches k (branches_from (n + 1) bs) (other_of k z)) in
    branch_is fns frozen r x y budget n p bs (branch a ss (branches_from (n + 1) bs)) b t v e1 e3
    (truth_is fns frozen r x y budget v (place_of a) false _ (e4 ∙ ap Some eo) (subst T (sym e1) (subst S e1 h)))

-- no statement but an `if` has branches
no_branches : (n : ℕ) → branches_from n no_branch ≡ no_branch
no_branches zero = refl
no_branches (suc n) = refl

branches_none : (n : ℕ) (t : Step) → is_if t ≡ false → branches_from n (branches_of t) ≡ no_branch
branches_none n (If p bs b) e = cc
branches_none n (Pass p) e = no_branches n
branches_none n (Break p) e = no_branches n
branches_none n (Continue p) e = no_branches n
branches_none n (Return p e2) e = no_branches n
branches_none n (Assert p e2 g) e = no_branches n
branches_none n (Raise p e2) e = no_branches n
branches_none n (ImportAll p path) e = no_branches n
branches_none n (Import p path names) e = no_branches n
branches_none n (Assign p ts e2) e = no_branches n
branches_none n (Annotate p t a e2) e = no_branches n
branches_none n (Augment p t o e2) e = no_branches n
branches_none n (Evaluate p e2) e = no_branches n
branches_none n (While p e2 b) e = no_branches n
branches_none n (For p ts e2 b) e = no_branches n
branches_none n (With p e2 t b) e = no_branches n
branches_none n (Def p f) e = no_branches n
branches_none n (Class p g a b) e = no_branches n

other_none : (k : Known) (t : Step) → is_if t ≡ false → other_of k t ≡ came Next
other_none k (If p bs b) e = cc
other_none k (Pass p) e = refl
other_none k (Break p) e = refl
other_none k (Continue p) e = refl
other_none k (Return p e2) e = refl
other_none k (Assert p e2 m) e = refl
other_none k (Raise p e2) e = refl
other_none k (ImportAll p path) e = refl
other_none k (Import p path names) e = refl
other_none k (Assign p ts e2) e = refl
other_none k (Annotate p t a e2) e = refl
other_none k (Augment p t o e2) e = refl
other_none k (Evaluate p e2) e = refl
other_none k (While p e2 b) e = refl
other_none k (For p ts e2 b) e = refl
other_none k (With p e2 t b) e = refl
other_none k (Def p f) e = refl
other_none k (Class p m a b) e = refl

pub branch_nowhere : (fns : Functions) (frozen : Made) (r : Result Now Halt) (x y : Going) (budget n : ℕ) (t : Step) (v : Val) (b : Bool) → b ≡ is_if t → b ≡ false → GoesOn fns frozen r x y budget (λ k. came Next) → GoesOn fns frozen r x y budget (λ k. branch_came k (branches_from n (branches_of t)) (other_of k t) v)
branch_nowhere fns frozen r x y budget n t v b e1 e2 h =
    let e : is_if t ≡ false = sym e1 ∙ e2 in
    let Q : Branches → Type 0 = λ z. GoesOn fns frozen r x y budget (λ k. branch_came k z (other_of k t) v) in
    subst Q (sym (branches_none n t e)) (meant_same fns frozen r x y budget (λ k. came Next) (λ k. other_of k t) (λ k. other_none k t e) h)

pub ruleset came_rules = (branch_nowhere)

pub ruleset branch_rules = (branch_found, branch_lacks)

pub ruleset if_rules = (if_tests, if_others, if_ends, no_memory)

pub ruleset tested_rules = (branch_past, branch_raises, branch_holds, branch_fails)
