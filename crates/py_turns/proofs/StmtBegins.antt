-- How statements begin: what the tree of a statement is, and what a part that is waited for means, give what it means.
use Rattle.std.proofs.Common.{◌≡◌, ℕ, refl, ◌∙◌, sym, subst, Option, Some, None, option_map, Result}
use Rattle.amh_host.specs.declared.place.Place.{Place}
use Rattle.py_tree.specs.declared.stmt.Stmt.{Stmt}
use Rattle.py_tree.specs.Programs.{step_of}
use Rattle.py_tree.specs.Tree.{Tree, Perhaps, perhaps}
use Rattle.py_tree.specs.Seen.{tree}
use Rattle.py_tree.specs.declared.expr.Expr.{Expr}
use Rattle.py_tree.specs.Steps.{Step, Assert}
use Rattle.py_heap.specs.Heaps.{Made}
use Rattle.py_values.specs.declared.val.Val.TheVariants as val
use Rattle.py_frames.specs.declared.state.Halt.{Halt}
use Rattle.py_frames.specs.declared.state.Got.TheVariants.{Returned}
use Rattle.py_frames.specs.declared.frame.Now.{Now}
use Rattle.py_frames.specs.declared.frame.Purpose.TheVariants.{Plain}
use Rattle.py_frames.specs.declared.frame.StmtFrame.TheVariants as stmt
use Rattle.py_frames.specs.declared.frame.Frame.TheVariants as frame
use Rattle.py_frames.specs.declared.functions.Functions.{Functions}
use Rattle.py_frames.specs.declared.going.Going.{Going}
use Rattle.py_frames.specs.Doing.{Doing, Known, after, on_value, came}
use Rattle.py_frames.specs.Expressions.{value_of}
use Rattle.py_frames.specs.Stmt_begun.{return_value, run_after}
use Rattle.py_frames.specs.Stmt_frames.{asserts}
use Rattle.py_frames.specs.Frames.{GoesOn, within}

-- what two meanings owe is the same where they are one, and their statements are
pub step_meant : (fns : Functions) (frozen : Made) (r : Result Now Halt) (x y : Going) (budget : ℕ) (M N : Step → Known → Doing) (c t tn : Step) → t ≡ c → tn ≡ t → M c ≡ N c → GoesOn fns frozen r x y budget (M tn) → GoesOn fns frozen r x y budget (N t)
step_meant fns frozen r x y budget M N c t tn e1 e2 e3 h =
    let P : Step → Type 0 = λ z. GoesOn fns frozen r x y budget (M z) in
    let Q : Step → Type 0 = λ z. GoesOn fns frozen r x y budget (N z) in
    let R : (Known → Doing) → Type 0 = λ m. GoesOn fns frozen r x y budget m in
    subst Q (sym e1) (subst R e3 (subst P (e2 ∙ e1) h))

pub return_nothing : (fns : Functions) (frozen : Made) (r : Result Now Halt) (x y : Going) (budget : ℕ) (o : Option Expr) → o ≡ None → GoesOn fns frozen r x y budget (λ k. came (Returned val.None)) → GoesOn fns frozen r x y budget (λ k. return_value k (perhaps (option_map tree o)))
return_nothing fns frozen r x y budget o e h =
    let P : Option Expr → Type 0 = λ z. GoesOn fns frozen r x y budget (λ k. return_value k (perhaps (option_map tree z))) in
    subst P (sym e) h

pub return_begins : (fns : Functions) (frozen : Made) (r : Result Now Halt) (x y : Going) (budget : ℕ) (o : Option Expr) (a : Expr) → o ≡ Some a → GoesOn fns frozen r x y budget (within (frame.Stmt stmt.Return) (λ k. value_of k Plain (tree a))) → GoesOn fns frozen r x y budget (λ k. return_value k (perhaps (option_map tree o)))
return_begins fns frozen r x y budget o a e h =
    let P : Option Expr → Type 0 = λ z. GoesOn fns frozen r x y budget (λ k. return_value k (perhaps (option_map tree z))) in
    subst P (sym e) h

pub assert_begins : (fns : Functions) (frozen : Made) (r : Result Now Halt) (x y : Going) (budget : ℕ) (p : Place) (a : Tree) (m : Perhaps) (t : Step) (node : Stmt) → t ≡ Assert p a m → step_of node ≡ t → GoesOn fns frozen r x y budget (within (frame.Stmt (stmt.Asserted node)) (λ k. value_of k Plain a)) → GoesOn fns frozen r x y budget (λ k. run_after k t)
assert_begins fns frozen r x y budget p a m t node e1 e2 h =
    step_meant fns frozen r x y budget (λ z k w s. after (value_of k Plain a w s) (λ got. on_value got (asserts k z) w)) (λ z k. run_after k z) (Assert p a m) t (step_of node) e1 e2 refl h

pub ruleset return_rules = (return_nothing, return_begins)

pub ruleset plain_rules = (assert_begins)
