-- Laws of augmented assignments along what trails a target.
use Rattle.std.proofs.Common.{◌≡◌, ℕ, suc, ◌+◌, arith, ap, ◌∙◌, sym, List, Some, None, Result}
use Rattle.amh_host.specs.declared.place.Place.{Place}
use Rattle.py_tree.specs.declared.expr.Expr.{Expr}
use Rattle.py_tree.specs.declared.expr.Operator.{Operator}
use Rattle.py_tree.specs.declared.stmt.Stmt.{Stmt}
use Rattle.py_tree.specs.Seen.{tree}
use Rattle.py_tree.specs.Programs.{step_of}
use Rattle.py_tree.specs.Steps.{Augment}
use Rattle.py_tree.specs.Tree.{Tree, no_trailer, trailer, Trailer, Attribute, Index}
use Rattle.py_heap.specs.Heaps.{Made}
use Rattle.py_values.specs.declared.val.Val.{Val}
use Rattle.py_values.specs.declared.op.PyOp.{PyOp}
use Rattle.py_frames.specs.declared.request.Cause.TheVariants.{Raised}
use Rattle.py_frames.specs.declared.state.Halt.{Halt}
use Rattle.py_frames.specs.declared.frame.Now.{Now}
use Rattle.py_frames.specs.declared.frame.Purpose.TheVariants.{Plain}
use Rattle.py_frames.specs.declared.frame.Changed.TheVariants as changed
use Rattle.py_frames.specs.declared.frame.Frame.TheVariants as frame
use Rattle.py_frames.specs.declared.frame.CallFrame.TheVariants as call
use Rattle.py_frames.specs.declared.frame.StmtFrame.TheVariants as stmt
use Rattle.py_frames.specs.declared.frame.Along.TheVariants as along
use Rattle.py_frames.specs.declared.functions.Functions.{Functions}
use Rattle.py_frames.specs.declared.going.Going.{Going}
use Rattle.py_frames.specs.Doing.{after, on_value, stop}
use Rattle.py_frames.specs.Parts.{place_of, trailers_from, operator_of}
use Rattle.py_frames.specs.Values.{attribute}
use Rattle.py_frames.specs.Expressions.{value_of, trailed_one}
use Rattle.py_frames.specs.Statements.{augment_along, augment_last}
use Rattle.py_frames.specs.Stmt_frames.{change_of, with_change, old_came, index_came}
use Rattle.py_frames.specs.Call_frames.{trailers_of, augmented_along}
use Rattle.py_frames.specs.Trailing.{first_trailer}
use Rattle.py_frames.specs.Frames.{GoesOn, within}
use Rattle.py_frames.proofs.CallLaws.{same_goes}
use Rattle.py_frames.proofs.TrailLaws.{trailers-next, trailers-end}

pub attribute_begins : (fns : Functions) (frozen : Made) (r : Result Now Halt) (x y : Going) (budget : ℕ) (s more : Stmt) (p q : Place) (target : Tree) (o : Operator) (t : Tree) (name same : List ℕ) (v : Val) → step_of s ≡ Augment p target o t → step_of more ≡ step_of s → same ≡ name → q ≡ place_of target → GoesOn fns frozen r x y budget (within (frame.Stmt (stmt.AugmentOld more (changed.Attribute v same))) (λ k. attribute k v name q)) → GoesOn fns frozen r x y budget (λ k. augment_last k (place_of target) (Attribute name) v p (operator_of o) t)
attribute_begins fns frozen r x y budget s more p q target o t name same v e1 e2 e3 e4 h =
    same_goes fns frozen r x y budget (λ z k w s. after (attribute k v name z w s) (λ got. on_value got (λ old. old_came k (record { target = target; at = p; sign = operator_of o; right = t }) (changed.Attribute v name) old) w)) q (place_of target) e4
    (same_goes fns frozen r x y budget (λ z k w s. after (attribute k v name q w s) (λ got. on_value got (λ old. old_came k (record { target = target; at = p; sign = operator_of o; right = t }) (changed.Attribute v z) old) w)) same name e3
    (same_goes fns frozen r x y budget (λ z k w s. after (attribute k v name q w s) (λ got. on_value got (λ old. with_change (change_of z) (λ c. old_came k c (changed.Attribute v same) old)) w)) (step_of more) (Augment p target o t) (e2 ∙ e1) h))

pub item_begins : (fns : Functions) (frozen : Made) (r : Result Now Halt) (x y : Going) (budget : ℕ) (s more : Stmt) (p : Place) (target : Tree) (o : Operator) (t i : Tree) (v : Val) → step_of s ≡ Augment p target o t → step_of more ≡ step_of s → GoesOn fns frozen r x y budget (within (frame.Stmt (stmt.AugmentIndex more v)) (λ k. value_of k Plain i)) → GoesOn fns frozen r x y budget (λ k. augment_last k (place_of target) (Index i) v p (operator_of o) t)
item_begins fns frozen r x y budget s more p target o t i v e1 e2 h =
    same_goes fns frozen r x y budget (λ z k w s. after (value_of k Plain i w s) (λ got. on_value got (λ n. with_change (change_of z) (λ c. index_came k c v n)) w)) (step_of more) (Augment p target o t) (e2 ∙ e1) h

pub augment_end : (fns : Functions) (frozen : Made) (r : Result Now Halt) (x y : Going) (budget : ℕ) (n : ℕ) (node : Expr) (v : Val) (p : Place) (o : PyOp) (b : Tree) → None ≡ first_trailer (trailers_from n (trailers_of (tree node))) → GoesOn fns frozen r x y budget (λ k. stop Raised (place_of (tree node))) → GoesOn fns frozen r x y budget (λ k. augment_along k (place_of (tree node)) (trailers_from n (trailers_of (tree node))) v p o b)
augment_end fns frozen r x y budget n node v p o b e1 h = same_goes fns frozen r x y budget (λ z k. augment_along k (place_of (tree node)) z v p o b) no_trailer (trailers_from n (trailers_of (tree node))) (trailers-end (trailers_from n (trailers_of (tree node))) e1) h

pub augment_ends : (fns : Functions) (frozen : Made) (r : Result Now Halt) (x y : Going) (budget : ℕ) (n m : ℕ) (node : Expr) (t : Trailer) (v : Val) (p : Place) (o : PyOp) (b : Tree) → Some t ≡ first_trailer (trailers_from n (trailers_of (tree node))) → m ≡ n + 1 → None ≡ first_trailer (trailers_from m (trailers_of (tree node))) → GoesOn fns frozen r x y budget (λ k. augment_last k (place_of (tree node)) t v p o b) → GoesOn fns frozen r x y budget (λ k. augment_along k (place_of (tree node)) (trailers_from n (trailers_of (tree node))) v p o b)
augment_ends fns frozen r x y budget n m node t v p o b e1 e2 e3 h =
    let q : m ≡ suc n = omega arith in
    same_goes fns frozen r x y budget (λ z k. augment_along k (place_of (tree node)) z v p o b) (trailer t (trailers_from (suc n) (trailers_of (tree node)))) (trailers_from n (trailers_of (tree node))) (trailers-next n (trailers_of (tree node)) t e1)
    (same_goes fns frozen r x y budget (λ z k. augment_along k (place_of (tree node)) (trailer t z) v p o b) no_trailer (trailers_from (suc n) (trailers_of (tree node))) (trailers-end (trailers_from m (trailers_of (tree node))) e3 ∙ ap (λ (z : ℕ). trailers_from z (trailers_of (tree node))) q) h)

pub augment_more : (fns : Functions) (frozen : Made) (r : Result Now Halt) (x y : Going) (budget : ℕ) (n m : ℕ) (node more : Expr) (t u : Trailer) (v : Val) (s same : Stmt) (p : Place) (o : Operator) (b : Tree) → Some t ≡ first_trailer (trailers_from n (trailers_of (tree node))) → m ≡ n + 1 → Some u ≡ first_trailer (trailers_from m (trailers_of (tree node))) → step_of s ≡ Augment p (tree node) o b → step_of same ≡ step_of s → GoesOn fns frozen r x y budget (within (frame.Call (call.Trail more m (along.Augment same))) (λ k. trailed_one k Plain (place_of (tree node)) t v)) → GoesOn fns frozen r x y budget (λ k. augment_along k (place_of (tree node)) (trailers_from n (trailers_of (tree node))) v p (operator_of o) b)
augment_more fns frozen r x y budget n m node more t u v s same p o b e1 e2 e3 e4 e5 h =
    let q : m ≡ suc n = omega arith in
    same_goes fns frozen r x y budget (λ z k. augment_along k (place_of (tree node)) z v p (operator_of o) b) (trailer t (trailers_from (suc n) (trailers_of (tree node)))) (trailers_from n (trailers_of (tree node))) (trailers-next n (trailers_of (tree node)) t e1)
    (same_goes fns frozen r x y budget (λ z k. augment_along k (place_of (tree node)) (trailer t z) v p (operator_of o) b) (trailer u (trailers_from (suc m) (trailers_of (tree node)))) (trailers_from (suc n) (trailers_of (tree node))) (trailers-next m (trailers_of (tree node)) u e3 ∙ ap (λ (z : ℕ). trailers_from z (trailers_of (tree node))) q)
    (same_goes fns frozen r x y budget (λ z k w s. after (trailed_one k Plain (place_of (tree node)) t v w s) (λ got. on_value got (λ y. augment_along k (place_of (tree node)) z y p (operator_of o) b) w)) (trailers_from m (trailers_of (tree node))) (trailer u (trailers_from (suc m) (trailers_of (tree node)))) (sym (trailers-next m (trailers_of (tree node)) u e3))
    (same_goes fns frozen r x y budget (λ z k w s. after (trailed_one k Plain (place_of (tree node)) t v w s) (λ got. on_value got (λ y. augmented_along k m y z (place_of (tree more))) w)) (step_of same) (Augment p (tree node) o b) (e5 ∙ e4) h)))
