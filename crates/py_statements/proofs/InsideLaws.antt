-- The block inside a `with`.
use Rattle.std.proofs.Common.{◌≡◌, ℕ, ap, ◌∙◌, sym, subst, true, false, Option, Some, None, option_map, Result}
use Rattle.amh_host.specs.declared.place.Place.{Place}
use Rattle.py_tree.specs.declared.expr.Expr.{Expr}
use Rattle.py_tree.specs.declared.stmt.Stmt.{Stmt}
use Rattle.py_tree.specs.Seen.{tree}
use Rattle.py_tree.specs.Programs.{step_of}
use Rattle.py_tree.specs.Tree.{Tree, absent, present, perhaps}
use Rattle.py_tree.specs.Steps.{Step, With, Steps}
use Rattle.py_heap.specs.Heaps.{Made}
use Rattle.py_values.specs.declared.val.Val.{Val}
use Rattle.py_frames.specs.declared.state.Halt.{Halt}
use Rattle.py_frames.specs.declared.state.Got.{Got}
use Rattle.py_frames.specs.declared.frame.Now.{Now}
use Rattle.py_frames.specs.declared.frame.StmtFrame.TheVariants as stmt
use Rattle.py_frames.specs.declared.frame.Frame.TheVariants as frame
use Rattle.py_frames.specs.declared.functions.Functions.{Functions}
use Rattle.py_frames.specs.declared.going.Going.{Going}
use Rattle.py_frames.specs.Doing.{after, on_next, came}
use Rattle.py_frames.specs.Expressions.{assign}
use Rattle.py_frames.specs.Statements.{run_all}
use Rattle.py_frames.specs.Stmt_begun.{leaves}
use Rattle.py_frames.specs.Stmt_frames.{with_entered, with_bound}
use Rattle.py_frames.specs.Frames.{GoesOn, within}
use Rattle.py_frames.proofs.BeginLaws.{no_memory}
use Rattle.py_frames.proofs.StmtLaws.{meant_same}
use Rattle.py_frames.proofs.StmtGoes.{next_leaves, next_stays}

pub with_binds : (fns : Functions) (frozen : Made) (r : Result Now Halt) (x y : Going) (budget : ℕ) (p : Place) (a : Tree) (o : Option Expr) (e : Expr) (ss : Steps) (t : Step) (th v : Val) (node : Stmt) → t ≡ With p a (perhaps (option_map tree o)) ss → step_of node ≡ t → o ≡ Some e → GoesOn fns frozen r x y budget (within (frame.Stmt (stmt.WithBound node th)) (λ k. assign k (tree e) v)) → GoesOn fns frozen r x y budget (λ k. with_entered k th t v)
with_binds fns frozen r x y budget p a o e ss t th v node e1 e2 e3 h =
    let q : t ≡ With p a (present (tree e)) ss = e1 ∙ ap (λ z. With p a (perhaps (option_map tree z)) ss) e3 in
    let S : Step → Type 0 = λ z. GoesOn fns frozen r x y budget (λ k w s. after (assign k (tree e) v w s) (λ got. on_next got (with_bound k th z) w)) in
    let N : Step → Type 0 = λ z. GoesOn fns frozen r x y budget (λ k. with_entered k th z v) in
    subst N (sym q) (subst S (e2 ∙ q) h)

pub with_plain : (fns : Functions) (frozen : Made) (r : Result Now Halt) (x y : Going) (budget : ℕ) (p : Place) (a : Tree) (o : Option Expr) (ss : Steps) (t : Step) (th v : Val) → t ≡ With p a (perhaps (option_map tree o)) ss → o ≡ None → GoesOn fns frozen r x y budget (within (frame.Stmt (stmt.WithBody th p)) (λ k. run_all k ss)) → GoesOn fns frozen r x y budget (λ k. with_entered k th t v)
with_plain fns frozen r x y budget p a o ss t th v e1 e3 h =
    let q : t ≡ With p a absent ss = e1 ∙ ap (λ z. With p a (perhaps (option_map tree z)) ss) e3 in
    let N : Step → Type 0 = λ z. GoesOn fns frozen r x y budget (λ k. with_entered k th z v) in
    subst N (sym q) h

pub inside_leaves : (fns : Functions) (frozen : Made) (r : Result Now Halt) (x y : Going) (budget : ℕ) (t : Step) (th : Val) (got : Got) → leaves got ≡ true → GoesOn fns frozen r x y budget (λ k. came got) → GoesOn fns frozen r x y budget (λ k. on_next got (with_bound k th t))
inside_leaves fns frozen r x y budget t th got e h =
    meant_same fns frozen r x y budget (λ k. came got) (λ k. on_next got (with_bound k th t)) (λ k. next_leaves got (with_bound k th t) e) h

pub inside_stays : (fns : Functions) (frozen : Made) (r : Result Now Halt) (x y : Going) (budget : ℕ) (t : Step) (th : Val) (got : Got) → leaves got ≡ false → GoesOn fns frozen r x y budget (λ k. with_bound k th t) → GoesOn fns frozen r x y budget (λ k. on_next got (with_bound k th t))
inside_stays fns frozen r x y budget t th got e h =
    meant_same fns frozen r x y budget (λ k. with_bound k th t) (λ k. on_next got (with_bound k th t)) (λ k. next_stays got (with_bound k th t) e) h

pub ruleset target_rules = (with_binds, with_plain, no_memory)

pub ruleset bound_rules = (inside_leaves, inside_stays)
