-- How assertions go on with their test.
use Rattle.std.proofs.Common.{◌≡◌, ℕ, ap, ◌∙◌, sym, subst, Bool, true, false, Option, Some, None, option_map, Result}
use Rattle.amh_host.specs.declared.place.Place.{Place}
use Rattle.py_tree.specs.declared.expr.Expr.{Expr}
use Rattle.py_tree.specs.Seen.{tree}
use Rattle.py_tree.specs.Tree.{Tree, Perhaps, perhaps}
use Rattle.py_tree.specs.Steps.{Step, Assert}
use Rattle.py_heap.specs.Heaps.{Made, seen}
use Rattle.py_operators.specs.Truths.{truth}
use Rattle.py_values.specs.declared.val.Val.{Val}
use Rattle.py_frames.specs.declared.request.Cause.TheVariants as cause
use Rattle.py_frames.specs.declared.state.Halt.{Halt}
use Rattle.py_frames.specs.declared.state.Got.TheVariants.{Next}
use Rattle.py_frames.specs.declared.frame.Now.{Now}
use Rattle.py_frames.specs.declared.frame.Purpose.TheVariants.{Plain}
use Rattle.py_frames.specs.declared.frame.StmtFrame.TheVariants as stmt
use Rattle.py_frames.specs.declared.frame.Frame.TheVariants as frame
use Rattle.py_frames.specs.declared.functions.Functions.{Functions}
use Rattle.py_frames.specs.declared.going.Going.{Going}
use Rattle.py_frames.specs.Doing.{came, stop}
use Rattle.py_frames.specs.Parts.{place_of}
use Rattle.py_frames.specs.Expressions.{value_of}
use Rattle.py_frames.specs.Statements.{asserted}
use Rattle.py_frames.specs.Stmt_frames.{asserts}
use Rattle.py_frames.specs.Frames.{GoesOn, within}
use Rattle.py_turns.proofs.IfLaws.{truth_is, truth_lacks}

at_assert : (fns : Functions) (frozen : Made) (r : Result Now Halt) (x y : Going) (budget : ℕ) (c t : Step) (v : Val) → t ≡ c → GoesOn fns frozen r x y budget (λ k. asserts k c v) → GoesOn fns frozen r x y budget (λ k. asserts k t v)
at_assert fns frozen r x y budget c t v e h =
    let P : Step → Type 0 = λ z. GoesOn fns frozen r x y budget (λ k. asserts k z v) in
    subst P (sym e) h

pub assert_raises : (fns : Functions) (frozen : Made) (r : Result Now Halt) (x y : Going) (budget : ℕ) (p q : Place) (a : Tree) (m : Perhaps) (t : Step) (v : Val) → t ≡ Assert p a m → truth (seen frozen x.state.heap) v ≡ None → q ≡ place_of a → GoesOn fns frozen r x y budget (λ k. stop cause.Raised q) → GoesOn fns frozen r x y budget (λ k. asserts k t v)
assert_raises fns frozen r x y budget p q a m t v e1 e2 e3 h =
    let P : Place → Type 0 = λ z. GoesOn fns frozen r x y budget (λ k. stop cause.Raised z) in
    at_assert fns frozen r x y budget (Assert p a m) t v e1 (truth_lacks fns frozen r x y budget v (place_of a) _ e2 (subst P e3 h))

pub assert_holds : (fns : Functions) (frozen : Made) (r : Result Now Halt) (x y : Going) (budget : ℕ) (p : Place) (a : Tree) (m : Perhaps) (t : Step) (v : Val) (o : Bool) → t ≡ Assert p a m → truth (seen frozen x.state.heap) v ≡ Some o → o ≡ true → GoesOn fns frozen r x y budget (λ k. came Next) → GoesOn fns frozen r x y budget (λ k. asserts k t v)
assert_holds fns frozen r x y budget p a m t v o e1 e2 eo h =
    at_assert fns frozen r x y budget (Assert p a m) t v e1 (truth_is fns frozen r x y budget v (place_of a) true _ (e2 ∙ ap Some eo) h)

pub assert_lacks : (fns : Functions) (frozen : Made) (r : Result Now Halt) (x y : Going) (budget : ℕ) (p : Place) (a : Tree) (m : Perhaps) (t : Step) (v : Val) (o : Bool) → t ≡ Assert p a m → truth (seen frozen x.state.heap) v ≡ Some o → o ≡ false → GoesOn fns frozen r x y budget (λ k. asserted k p m) → GoesOn fns frozen r x y budget (λ k. asserts k t v)
assert_lacks fns frozen r x y budget p a m t v o e1 e2 eo h =
    at_assert fns frozen r x y budget (Assert p a m) t v e1 (truth_is fns frozen r x y budget v (place_of a) false _ (e2 ∙ ap Some eo) h)

pub fails_plainly : (fns : Functions) (frozen : Made) (r : Result Now Halt) (x y : Going) (budget : ℕ) (p : Place) (o : Option Expr) → o ≡ None → GoesOn fns frozen r x y budget (λ k. stop cause.Assert p) → GoesOn fns frozen r x y budget (λ k. asserted k p (perhaps (option_map tree o)))
fails_plainly fns frozen r x y budget p o e h =
    let P : Option Expr → Type 0 = λ z. GoesOn fns frozen r x y budget (λ k. asserted k p (perhaps (option_map tree z))) in
    subst P (sym e) h

pub fails_with : (fns : Functions) (frozen : Made) (r : Result Now Halt) (x y : Going) (budget : ℕ) (p : Place) (o : Option Expr) (a : Expr) → o ≡ Some a → GoesOn fns frozen r x y budget (within (frame.Stmt (stmt.Message p)) (λ k. value_of k Plain (tree a))) → GoesOn fns frozen r x y budget (λ k. asserted k p (perhaps (option_map tree o)))
fails_with fns frozen r x y budget p o a e h =
    let P : Option Expr → Type 0 = λ z. GoesOn fns frozen r x y budget (λ k. asserted k p (perhaps (option_map tree z))) in
    subst P (sym e) h

pub ruleset assert_rules = (assert_raises, assert_holds, assert_lacks)

pub ruleset fails_rules = (fails_plainly, fails_with)
