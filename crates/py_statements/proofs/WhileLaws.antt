-- The turns of a `while`.
use Rattle.std.proofs.Common.{◌≡◌, ℕ, suc, ◌-◌, ◌<◌, ◌≤◌, ap, ◌∙◌, sym, subst, Bool, true, false, Some, None, Result, Ok, Err, arith}
use Rattle.amh_host.specs.declared.place.Place.{Place}
use Rattle.py_tree.specs.declared.stmt.Stmt.{Stmt}
use Rattle.py_tree.specs.Programs.{step_of}
use Rattle.py_tree.specs.Tree.{Tree}
use Rattle.py_tree.specs.Steps.{Step, While, Steps}
use Rattle.py_heap.specs.Heaps.{Made, seen}
use Rattle.py_operators.specs.Truths.{truth}
use Rattle.py_values.specs.declared.val.Val.{Val}
use Rattle.py_frames.specs.declared.request.Cause.TheVariants as cause
use Rattle.py_frames.specs.declared.state.Halt.{Halt}
use Rattle.py_frames.specs.declared.state.Got.{Got}
use Rattle.py_frames.specs.declared.state.Got.TheVariants.{Next}
use Rattle.py_frames.specs.declared.frame.Now.{Now}
use Rattle.py_frames.specs.declared.frame.Purpose.TheVariants.{Plain}
use Rattle.py_frames.specs.declared.frame.StmtFrame.TheVariants as stmt
use Rattle.py_frames.specs.declared.frame.Frame.TheVariants as frame
use Rattle.py_frames.specs.declared.functions.Functions.{Functions}
use Rattle.py_frames.specs.declared.going.Going.{Going}
use Rattle.py_frames.specs.Doing.{Doing, Known, after, on_value, then_do, came, stop}
use Rattle.py_frames.specs.Parts.{place_of}
use Rattle.py_frames.specs.Expressions.{value_of}
use Rattle.py_frames.specs.Statements.{run_all, while_turns, turn_on}
use Rattle.py_frames.specs.Stmt_begun.{while_body, loop_left}
use Rattle.py_frames.specs.Stmt_frames.{while_tested, while_left}
use Rattle.py_frames.specs.Begun.{Spends}
use Rattle.py_frames.specs.Frames.{GoesOn, within}
use Rattle.py_frames.proofs.BeginLaws.{no_memory}
use Rattle.py_frames.proofs.StmtLaws.{meant_same, spent_goes, each_stops}
use Rattle.py_frames.proofs.StmtGoes.{turn_ends, turn_stays}
use Rattle.py_turns.proofs.IfLaws.{truth_is, truth_lacks}

pub turns_out : (fns : Functions) (frozen : Made) (r : Result Now Halt) (x y : Going) (budget n : ℕ) (p : Place) (a : Tree) (ss : Steps) → n ≤ 0 → GoesOn fns frozen r x y budget (λ k. stop cause.Spent p) → GoesOn fns frozen r x y budget (λ k. while_turns n k a (run_all k ss) p)
unfolding while_turns
turns_out fns frozen r x y budget n p a ss le h =
    let e : n ≡ 0 = omega arith in
    let P : ℕ → Type 0 = λ j. GoesOn fns frozen r x y budget (λ k. while_turns j k a (run_all k ss) p) in
    subst P (sym e) h

-- a turn more is a test
turn_more : (fns : Functions) (frozen : Made) (r : Result Now Halt) (x y : Going) (budget m : ℕ) (p : Place) (a : Tree) (ss : Steps) → GoesOn fns frozen r x y budget (λ k w s. after (value_of k Plain a w s) (λ got. on_value got (while_tested k m (While p a ss)) w)) → GoesOn fns frozen r x y budget (λ k. while_turns (suc m) k a (run_all k ss) p)
unfolding while_turns
turn_more fns frozen r x y budget m p a ss h = h

pub turn_tests : (fns : Functions) (frozen : Made) (r : Result Now Halt) (x y : Going) (budget n : ℕ) (p : Place) (a : Tree) (ss : Steps) (t : Step) (node : Stmt) → 0 < n → t ≡ While p a ss → step_of node ≡ t → GoesOn fns frozen r x y budget (within (frame.Stmt (stmt.WhileTest node (n - 1))) (λ k. value_of k Plain a)) → GoesOn fns frozen r x y budget (λ k. while_turns n k a (run_all k ss) p)
turn_tests fns frozen r x y budget n p a ss t node lt e1 e2 h =
    let S : Step → Type 0 = λ z. GoesOn fns frozen r x y budget (λ k w s. after (value_of k Plain a w s) (λ got. on_value got (while_tested k (n - 1) z) w)) in
    let P : ℕ → Type 0 = λ j. GoesOn fns frozen r x y budget (λ k. while_turns j k a (run_all k ss) p) in
    let q : suc (n - 1) ≡ n = omega arith in
    subst P q (turn_more fns frozen r x y budget (n - 1) p a ss (subst S (e2 ∙ e1) h))

-- what is there of a `while`
at_while : (fns : Functions) (frozen : Made) (r : Result Now Halt) (x y : Going) (budget : ℕ) (c t : Step) (N : Step → Known → Doing) → t ≡ c → GoesOn fns frozen r x y budget (N c) → GoesOn fns frozen r x y budget (N t)
at_while fns frozen r x y budget c t N e h =
    let P : Step → Type 0 = λ z. GoesOn fns frozen r x y budget (N z) in
    subst P (sym e) h

pub while_raises : (fns : Functions) (frozen : Made) (r : Result Now Halt) (x y : Going) (budget n : ℕ) (p q : Place) (a : Tree) (ss : Steps) (t : Step) (v : Val) → t ≡ While p a ss → truth (seen frozen x.state.heap) v ≡ None → q ≡ place_of a → GoesOn fns frozen r x y budget (λ k. stop cause.Raised q) → GoesOn fns frozen r x y budget (λ k. while_tested k n t v)
while_raises fns frozen r x y budget n p q a ss t v e1 e2 e3 h =
    let P : Place → Type 0 = λ z. GoesOn fns frozen r x y budget (λ k. stop cause.Raised z) in
    at_while fns frozen r x y budget (While p a ss) t (λ z k. while_tested k n z v) e1
    (truth_lacks fns frozen r x y budget v (place_of a) _ e2 (subst P e3 h))

pub while_ends : (fns : Functions) (frozen : Made) (r : Result Now Halt) (x y : Going) (budget n : ℕ) (p : Place) (a : Tree) (ss : Steps) (t : Step) (v : Val) (o : Bool) → t ≡ While p a ss → truth (seen frozen x.state.heap) v ≡ Some o → o ≡ false → GoesOn fns frozen r x y budget (λ k. came Next) → GoesOn fns frozen r x y budget (λ k. while_tested k n t v)
while_ends fns frozen r x y budget n p a ss t v o e1 e2 eo h =
    at_while fns frozen r x y budget (While p a ss) t (λ z k. while_tested k n z v) e1
    (truth_is fns frozen r x y budget v (place_of a) false _ (e2 ∙ ap Some eo) h)

pub while_holds : (fns : Functions) (frozen : Made) (r : Result Now Halt) (x y : Going) (budget n : ℕ) (p : Place) (a : Tree) (ss : Steps) (t : Step) (v : Val) (o : Bool) → t ≡ While p a ss → truth (seen frozen x.state.heap) v ≡ Some o → o ≡ true → GoesOn fns frozen r x y budget (λ k. while_body k n t) → GoesOn fns frozen r x y budget (λ k. while_tested k n t v)
while_holds fns frozen r x y budget n p a ss t v o e1 e2 eo h =
    let S : Step → Type 0 = λ z. GoesOn fns frozen r x y budget (λ k. while_body k n z) in
    at_while fns frozen r x y budget (While p a ss) t (λ z k. while_tested k n z v) e1
    (truth_is fns frozen r x y budget v (place_of a) true _ (e2 ∙ ap Some eo) (subst S e1 h))

pub while_runs : (fns : Functions) (frozen : Made) (r : Result Now Halt) (x y z : Going) (budget n : ℕ) (p : Place) (u : Unit {0}) (a : Tree) (ss : Steps) (t : Step) (node : Stmt) → t ≡ While p a ss → step_of node ≡ t → Spends (Ok u) 1 p x y budget → y.state.used ≤ z.state.used → GoesOn fns frozen r y z budget (within (frame.Stmt (stmt.WhileBody node n)) (λ k. run_all k ss)) → GoesOn fns frozen r x z budget (λ k. while_body k n t)
while_runs fns frozen r x y z budget n p u a ss t node e1 e2 sp le h =
    let P : Going → Type 0 = λ g. GoesOn fns frozen r g z budget (λ k w s. after (run_all k ss w s) (λ got. while_left k n (While p a ss) got w)) in
    let Q : Going → Type 0 = λ g. g.state.used ≤ z.state.used in
    let S : Step → Type 0 = λ q. GoesOn fns frozen r y z budget (λ k w s. after (run_all k ss w s) (λ got. while_left k n q got w)) in
    at_while fns frozen r x z budget (While p a ss) t (λ q k. while_body k n q) e1
    (spent_goes fns frozen r x z budget 1 p (λ k. then_do (run_all k ss) (λ got. turn_on got (while_turns n k a (run_all k ss) p))) (subst Q sp.0 le) sp.1 (subst P sp.0 (subst S (e2 ∙ e1) h)))

pub while_stops : (fns : Functions) (frozen : Made) (e : Halt) (x y : Going) (budget n : ℕ) (p : Place) (a : Tree) (ss : Steps) (t : Step) → t ≡ While p a ss → Spends (Err e) 1 p x y budget → GoesOn fns frozen (Err e) x y budget (λ k. while_body k n t)
while_stops fns frozen e x y budget n p a ss t e1 sp =
    at_while fns frozen (Err e) x y budget (While p a ss) t (λ q k. while_body k n q) e1
    (each_stops fns frozen e x y budget 1 p (λ k. then_do (run_all k ss) (λ got. turn_on got (while_turns n k a (run_all k ss) p))) sp)

pub while_over : (fns : Functions) (frozen : Made) (r : Result Now Halt) (x y : Going) (budget n : ℕ) (p : Place) (a : Tree) (ss : Steps) (t : Step) (got left : Got) → t ≡ While p a ss → loop_left got ≡ Some left → GoesOn fns frozen r x y budget (λ k. came left) → GoesOn fns frozen r x y budget (λ k. while_left k n t got)
while_over fns frozen r x y budget n p a ss t got left e1 e2 h =
    at_while fns frozen r x y budget (While p a ss) t (λ z k. while_left k n z got) e1
    (meant_same fns frozen r x y budget (λ k. came left) (λ k. turn_on got (while_turns n k a (run_all k ss) p)) (λ k. turn_ends got left (while_turns n k a (run_all k ss) p) e2) h)

pub while_again : (fns : Functions) (frozen : Made) (r : Result Now Halt) (x y : Going) (budget n : ℕ) (p : Place) (a : Tree) (ss : Steps) (t : Step) (got : Got) → t ≡ While p a ss → loop_left got ≡ None → GoesOn fns frozen r x y budget (λ k. while_turns n k a (run_all k ss) p) → GoesOn fns frozen r x y budget (λ k. while_left k n t got)
while_again fns frozen r x y budget n p a ss t got e1 e2 h =
    at_while fns frozen r x y budget (While p a ss) t (λ z k. while_left k n z got) e1
    (meant_same fns frozen r x y budget (λ k. while_turns n k a (run_all k ss) p) (λ k. turn_on got (while_turns n k a (run_all k ss) p)) (λ k. turn_stays got (while_turns n k a (run_all k ss) p) e2) h)

pub ruleset turn_rules = (turns_out, turn_tests, no_memory)

pub ruleset tested_rules = (while_raises, while_ends, while_holds)

pub ruleset body_rules = (while_runs, while_stops, no_memory)

pub ruleset again_rules = (while_over, while_again)
