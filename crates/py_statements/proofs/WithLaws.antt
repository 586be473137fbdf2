-- How a `with` goes on.
use Rattle.std.proofs.Common.{◌≡◌, ℕ, refl, ◌∙◌, sym, subst, Bool, true, false, [], ◌∷◌, Result}
use Rattle.amh_host.specs.declared.place.Place.{Place}
use Rattle.py_tree.specs.declared.stmt.Stmt.{Stmt}
use Rattle.py_tree.specs.Programs.{step_of}
use Rattle.py_tree.specs.Tree.{Tree, Perhaps}
use Rattle.py_tree.specs.Steps.{Step, With, Steps}
use Rattle.py_heap.specs.Heaps.{Made}
use Rattle.py_values.specs.declared.val.Val.{Val}
use Rattle.py_frames.specs.declared.request.Act.TheVariants as act
use Rattle.py_frames.specs.declared.request.Request.{Request}
use Rattle.py_frames.specs.declared.request.Cause.TheVariants as cause
use Rattle.py_frames.specs.declared.state.Halt.{Halt}
use Rattle.py_frames.specs.declared.state.Got.{Got}
use Rattle.py_frames.specs.declared.frame.Now.{Now}
use Rattle.py_frames.specs.declared.frame.StmtFrame.TheVariants as stmt
use Rattle.py_frames.specs.declared.frame.Frame.TheVariants as frame
use Rattle.py_frames.specs.declared.functions.Functions.{Functions}
use Rattle.py_frames.specs.declared.going.Going.{Going}
use Rattle.py_frames.specs.Doing.{Doing, Known, after, on_value, came, stop, choose, ◌>>=◌}
use Rattle.py_frames.specs.Asking.{request, ask}
use Rattle.py_frames.specs.Values.{is_thing}
use Rattle.py_frames.specs.Statements.{left_with}
use Rattle.py_frames.specs.Stmt_frames.{with_came, with_entered}
use Rattle.py_frames.specs.Frames.{GoesOn, within}
use Rattle.py_frames.specs.declared.frame.Purpose.TheVariants.{Plain}
use Rattle.py_frames.specs.Expressions.{value_of}
use Rattle.py_frames.specs.Stmt_begun.{run_after}
use Rattle.py_turns.proofs.StmtBegins.{step_meant}
use Rattle.py_frames.proofs.BeginLaws.{no_memory}

pub with_raises : (fns : Functions) (frozen : Made) (r : Result Now Halt) (x y : Going) (budget : ℕ) (p : Place) (a : Tree) (o : Perhaps) (ss : Steps) (t : Step) (v : Val) → t ≡ With p a o ss → is_thing v ≡ false → GoesOn fns frozen r x y budget (λ k. stop cause.Raised p) → GoesOn fns frozen r x y budget (λ k. with_came k t v)
with_raises fns frozen r x y budget p a o ss t v e1 e2 h =
    let N : Step → Type 0 = λ z. GoesOn fns frozen r x y budget (λ k. with_came k z v) in
    let M : Bool → Known → Doing = λ b k. choose b
    (do
      w ← ask k (request act.Enter (v ∷ []) [] p)
      with_entered k v (With p a o ss) w)
    (stop cause.Raised p) in
    let B : Bool → Type 0 = λ b. GoesOn fns frozen r x y budget (M b) in
    subst N (sym e1) (subst B (sym e2) h)

pub with_enters : (fns : Functions) (frozen : Made) (r : Result Now Halt) (x y : Going) (budget : ℕ) (p : Place) (a : Tree) (o : Perhaps) (ss : Steps) (t : Step) (v : Val) (u : Val) (q : Request) (node : Stmt) → t ≡ With p a o ss → is_thing v ≡ true → step_of node ≡ t → q ≡ request act.Enter (v ∷ []) [] p → u ≡ v → GoesOn fns frozen r x y budget (within (frame.Stmt (stmt.Entered node u)) (λ k. ask k q)) → GoesOn fns frozen r x y budget (λ k. with_came k t v)
with_enters fns frozen r x y budget p a o ss t v u q node e1 e2 e3 e4 e5 h =
    let N : Step → Type 0 = λ z. GoesOn fns frozen r x y budget (λ k. with_came k z v) in
    let M : Bool → Known → Doing = λ b k. choose b
    (do
      w ← ask k (request act.Enter (v ∷ []) [] p)
      with_entered k v (With p a o ss) w)
    (stop cause.Raised p) in
    let B : Bool → Type 0 = λ b. GoesOn fns frozen r x y budget (M b) in
    let R : Request → Type 0 = λ z. GoesOn fns frozen r x y budget (λ k w s. after (ask k z w s) (λ got. on_value got (with_entered k v (With p a o ss)) w)) in
    let S : Step → Type 0 = λ z. GoesOn fns frozen r x y budget (λ k w s. after (ask k q w s) (λ got. on_value got (with_entered k u z) w)) in
    let V : Val → Type 0 = λ z. GoesOn fns frozen r x y budget (λ k w s. after (ask k q w s) (λ got. on_value got (with_entered k z (With p a o ss)) w)) in
    subst N (sym e1) (subst B (sym e2) (subst R e4 (subst V e5 (subst S (e3 ∙ e1) h))))

pub with_leaves : (fns : Functions) (frozen : Made) (r : Result Now Halt) (x y : Going) (budget : ℕ) (p : Place) (v : Val) (got : Got) (q : Request) → q ≡ request act.Leave (v ∷ []) [] p → GoesOn fns frozen r x y budget (within (frame.Stmt (stmt.Left got)) (λ k. ask k q)) → GoesOn fns frozen r x y budget (λ k. left_with k v p got)
with_leaves fns frozen r x y budget p v got q e h =
    let R : Request → Type 0 = λ z. GoesOn fns frozen r x y budget (λ k w s. after (ask k z w s) (λ g. on_value g (λ _. came got) w)) in
    subst R e h

pub with_begins : (fns : Functions) (frozen : Made) (r : Result Now Halt) (x y : Going) (budget : ℕ) (p : Place) (a : Tree) (o : Perhaps) (ss : Steps) (t : Step) (node : Stmt) → t ≡ With p a o ss → step_of node ≡ t → GoesOn fns frozen r x y budget (within (frame.Stmt (stmt.With node)) (λ k. value_of k Plain a)) → GoesOn fns frozen r x y budget (λ k. run_after k t)
with_begins fns frozen r x y budget p a o ss t node e1 e2 h =
    step_meant fns frozen r x y budget (λ z k w s. after (value_of k Plain a w s) (λ got. on_value got (with_came k z) w)) (λ z k. run_after k z) (With p a o ss) t (step_of node) e1 e2 refl h

pub ruleset begin_rules = (with_begins, no_memory)

pub ruleset asked_rules = (with_raises, with_enters, no_memory)

pub ruleset left_rules = (with_leaves, no_memory)
