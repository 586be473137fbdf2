-- What the frame of a value is, and what it goes on with.
use Rattle.std.proofs.Common.{◌≡◌, ℕ, suc, sym, subst, List, [], ◌∷◌, ◌++◌, Result}
use Rattle.py_tree.specs.declared.expr.Expr.{Expr}
use Rattle.py_tree.specs.Seen.{tree}
use Rattle.py_heap.specs.Heaps.{Made}
use Rattle.py_values.specs.declared.val.Val.{Val}
use Rattle.py_frames.specs.declared.state.Halt.{Halt}
use Rattle.py_frames.specs.declared.frame.Now.{Now}
use Rattle.py_frames.specs.declared.frame.ExprFrame.{ExprFrame}
use Rattle.py_frames.specs.declared.frame.ExprFrame.TheVariants as expr
use Rattle.py_frames.specs.declared.functions.Functions.{Functions}
use Rattle.py_frames.specs.declared.going.Going.{Going}
use Rattle.py_frames.specs.Expressions.{values_then, pairs_then, dict_made}
use Rattle.py_frames.specs.Parts.{place_of, trees_from, pairs_from}
use Rattle.py_frames.specs.Expr_frames.{items_of, items_made, pairs_of, expr_goes}
use Rattle.py_frames.specs.Frames.{GoesOn}

pub frame_as : (fns : Functions) (frozen : Made) (r : Result Now Halt) (x y : Going) (budget : ℕ) (f g : ExprFrame) (v : Val) → f ≡ g → GoesOn fns frozen r x y budget (λ k. expr_goes k g v) → GoesOn fns frozen r x y budget (λ k. expr_goes k f v)
frame_as fns frozen r x y budget f g v e h = let Q : ExprFrame → Type 0 = λ z. GoesOn fns frozen r x y budget (λ k. expr_goes k z v) in subst Q (sym e) h

pub items_came : (fns : Functions) (frozen : Made) (r : Result Now Halt) (x y : Going) (budget : ℕ) (f : ExprFrame) (v : Val) (node : Expr) (n : ℕ) (vals new : List Val) → f ≡ expr.Items node n vals → new ≡ vals ++ v ∷ [] → GoesOn fns frozen r x y budget (λ k. values_then k new (trees_from n (items_of (tree node))) (items_made k (tree node))) → GoesOn fns frozen r x y budget (λ k. expr_goes k f v)
items_came fns frozen r x y budget f v node n vals new e q h =
    let Q : List Val → Type 0 = λ z. GoesOn fns frozen r x y budget (λ k. values_then k z (trees_from n (items_of (tree node))) (items_made k (tree node))) in
    frame_as fns frozen r x y budget f (expr.Items node n vals) v e (subst Q q h)

pub pairs_came : (fns : Functions) (frozen : Made) (r : Result Now Halt) (x y : Going) (budget : ℕ) (f : ExprFrame) (v key : Val) (node : Expr) (n : ℕ) (row new : List Val) → f ≡ expr.PairValue node n row key → new ≡ row ++ key ∷ v ∷ [] → GoesOn fns frozen r x y budget (λ k. pairs_then k new (pairs_from (suc n) (pairs_of (tree node))) (dict_made k (place_of (tree node)))) → GoesOn fns frozen r x y budget (λ k. expr_goes k f v)
pairs_came fns frozen r x y budget f v key node n row new e q h =
    let Q : List Val → Type 0 = λ z. GoesOn fns frozen r x y budget (λ k. pairs_then k z (pairs_from (suc n) (pairs_of (tree node))) (dict_made k (place_of (tree node)))) in
    frame_as fns frozen r x y budget f (expr.PairValue node n row key) v e (subst Q q h)
