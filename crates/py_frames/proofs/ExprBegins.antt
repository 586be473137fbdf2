-- How expressions begin: what the tree of a node is, and what a part that is waited for means, give what the node means.
use Rattle.std.proofs.Common.{◌≡◌, ℕ, refl, ◌∙◌, sym, subst, Result}
use Rattle.amh_host.specs.declared.place.Place.{Place}
use Rattle.py_tree.specs.declared.expr.Expr.{Expr}
use Rattle.py_tree.specs.Seen.{tree}
use Rattle.py_tree.specs.Tree.{Tree, Power}
use Rattle.py_heap.specs.Heaps.{Made}
use Rattle.py_frames.specs.declared.state.Halt.{Halt}
use Rattle.py_frames.specs.declared.frame.Now.{Now}
use Rattle.py_frames.specs.declared.frame.Purpose.TheVariants.{Plain}
use Rattle.py_frames.specs.declared.frame.ExprFrame.TheVariants as expr
use Rattle.py_frames.specs.declared.functions.Functions.{Functions}
use Rattle.py_frames.specs.declared.going.Going.{Going}
use Rattle.py_frames.specs.Doing.{Doing, Known, after, on_value}
use Rattle.py_frames.specs.Expressions.{value_of}
use Rattle.py_frames.specs.Begun.{value_after}
use Rattle.py_frames.specs.declared.frame.Frame.TheVariants as frame
use Rattle.py_frames.specs.Frames.{GoesOn, within}
use Rattle.py_frames.specs.Expr_frames.{exponent_of}

-- what two meanings owe is the same where they are one, and their trees are
pub same_meant : (fns : Functions) (frozen : Made) (r : Result Now Halt) (x y : Going) (budget : ℕ) (M N : Tree → Known → Doing) (c t tn : Tree) → t ≡ c → tn ≡ t → M c ≡ N c → GoesOn fns frozen r x y budget (M tn) → GoesOn fns frozen r x y budget (N t)
same_meant fns frozen r x y budget M N c t tn e1 e2 e3 h =
    let P : Tree → Type 0 = λ z. GoesOn fns frozen r x y budget (M z) in
    let Q : Tree → Type 0 = λ z. GoesOn fns frozen r x y budget (N z) in
    let R : (Known → Doing) → Type 0 = λ m. GoesOn fns frozen r x y budget m in
    subst Q (sym e1) (subst R e3 (subst P (e2 ∙ e1) h))

pub power_begins : (fns : Functions) (frozen : Made) (r : Result Now Halt) (x y : Going) (budget : ℕ) (p : Place) (a b t : Tree) (node : Expr) → t ≡ Power p a b → tree node ≡ t → GoesOn fns frozen r x y budget (within (frame.Expr (expr.Base node)) (λ k. value_of k Plain a)) → GoesOn fns frozen r x y budget (λ k. value_after k Plain t)
power_begins fns frozen r x y budget p a b t node e1 e2 h =
    same_meant fns frozen r x y budget (λ z k w s. after (value_of k Plain a w s) (λ got. on_value got (exponent_of k z) w)) (λ z k. value_after k Plain z) (Power p a b) t (tree node) e1 e2 refl h
