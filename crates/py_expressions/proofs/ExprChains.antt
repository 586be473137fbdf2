-- How chains of operators, of comparisons, and of `and` or `or` go on from link to link.
use Rattle.std.proofs.Common.{◌≡◌, ℕ, suc, ◌+◌, refl, sym, subst, List, ◌∷◌, Some, None, Result, Ok, Err, Bool, true, false, arith}
use Rattle.amh_host.specs.declared.place.Place.{Place}
use Rattle.py_tree.specs.declared.expr.Expr.{Expr}
use Rattle.py_tree.specs.declared.expr.Operator.{Operator}
use Rattle.py_tree.specs.Seen.{tree}
use Rattle.py_tree.specs.Programs.{steps_of}
use Rattle.py_tree.specs.Tree.{Tree, Links, link, Pairs}
use Rattle.py_heap.specs.Heaps.{Made, seen}
use Rattle.py_operators.specs.Truths.{truth}
use Rattle.py_values.specs.declared.val.Val.{Val}
use Rattle.py_values.specs.declared.op.PyOp.{PyOp}
use Rattle.py_frames.specs.declared.state.Halt.{Halt}
use Rattle.py_frames.specs.declared.state.Got.TheVariants as got
use Rattle.py_frames.specs.declared.frame.Now.{Now}
use Rattle.py_frames.specs.declared.frame.Now.TheVariants.{Came}
use Rattle.py_frames.specs.declared.frame.Purpose.TheVariants.{Plain}
use Rattle.py_frames.specs.declared.frame.ExprFrame.TheVariants as expr
use Rattle.py_frames.specs.declared.frame.Frame.TheVariants as frame
use Rattle.py_frames.specs.declared.functions.Functions.{Functions}
use Rattle.py_frames.specs.declared.going.Going.{Going}
use Rattle.py_frames.specs.Statements.{known}
use Rattle.py_frames.specs.Doing.{World, Outcome, Done, Halts, Doing, Known, after, on_value, ◌>>=◌, give, choose, spend_each}
use Rattle.py_frames.specs.Expressions.{value_of, pairs_then, linked, compared, joined, goes_on as carries_on, dict_made}
use Rattle.py_frames.specs.Parts.{place_of, operator_of, links_from, pairs_from}
use Rattle.py_frames.specs.Values.{truth_of, operated, related}
use Rattle.py_frames.specs.Told.{TellsTruth}
use Rattle.py_frames.specs.Expr_parts.{link_at}
use Rattle.py_frames.specs.Expr_frames.{links_of, operand_place, first_operand, decided, comparing}
use Rattle.py_frames.specs.Frames.{GoesOn, within}
use Rattle.py_frames.proofs.BeginLaws.{give_goes, pushed}
use Rattle.py_frames.proofs.ExprLaws.{same_total, truth_goes, truth_stops}
use Rattle.py_frames.proofs.ExprParts.{links_from_some, links_from_none, operand_place_behind}

-- ---- one after the other

assoc_by : (o : Outcome) (f g : Val → Doing) (w : World) → after (after o (λ a. on_value a f w)) (λ a. on_value a g w) ≡ after o (λ a. on_value a (λ v. f v >>= g) w)
assoc_by (Halts h s) f g w = refl
assoc_by (Done (got.Value v) s) f g w = refl
assoc_by (Done (got.Bound names) s) f g w = refl
assoc_by (Done (got.Through v) s) f g w = refl
assoc_by (Done got.Next s) f g w = refl
assoc_by (Done got.Broke s) f g w = refl
assoc_by (Done got.Continued s) f g w = refl
assoc_by (Done (got.Returned v) s) f g w = refl

value_goes : (fns : Functions) (frozen : Made) (x : Going) (budget : ℕ) (v : Val) → GoesOn fns frozen (Ok (Came (got.Value v))) x x budget (λ k. give v)
value_goes fns frozen x budget v = give_goes fns frozen x budget v

-- ---- operators

pub link_next : (fns : Functions) (frozen : Made) (r : Result Now Halt) (x y : Going) (budget : ℕ) (n m : ℕ) (v : Val) (p : Place) (node : Expr) (o : Operator) (t : Tree) → m ≡ n + 1 → Some (o, t) ≡ link_at n (links_of (tree node)) → p ≡ place_of (tree node) → GoesOn fns frozen r x y budget (within (frame.Expr (expr.Linked node m)) (within (frame.Expr (expr.Right (operator_of o) v p)) (λ k. value_of k Plain t))) → GoesOn fns frozen r x y budget (λ k. linked k (place_of (tree node)) (links_from n (links_of (tree node))) v)
link_next fns frozen r x y budget n m v p node o t e q ep h =
    let e2 : m ≡ suc n = omega arith in
    let K : Known = known (steps_of fns.program) frozen x.state.here.room in
    let Q : Links → Type 0 = λ z. GoesOn fns frozen r x y budget (λ k. linked k (place_of (tree node)) z v) in
    let R : ℕ → Type 0 = λ z. GoesOn fns frozen r x y budget (within (frame.Expr (expr.Linked node z)) (within (frame.Expr (expr.Right (operator_of o) v p)) (λ k. value_of k Plain t))) in
    let S : Place → Type 0 = λ z. GoesOn fns frozen r x y budget (within (frame.Expr (expr.Linked node (suc n))) (within (frame.Expr (expr.Right (operator_of o) v z)) (λ k. value_of k Plain t))) in
    subst Q (sym (links_from_some n (links_of (tree node)) o t q))
    (same_total fns frozen r x y budget (within (frame.Expr (expr.Linked node (suc n))) (within (frame.Expr (expr.Right (operator_of o) v (place_of (tree node)))) (λ k. value_of k Plain t))) (λ k. linked k (place_of (tree node)) (link o t (links_from (suc n) (links_of (tree node)))) v)
    (λ w. assoc_by (value_of K Plain t w x.state) (λ b. operated K (operator_of o) v b (place_of (tree node))) (λ c. linked K (place_of (tree node)) (links_from (suc n) (links_of (tree node))) c) w)
    (subst S ep (subst R e2 h)))

pub link_none : (fns : Functions) (frozen : Made) (x : Going) (budget n : ℕ) (v : Val) (p : Place) (ls : Links) → None ≡ link_at n ls → GoesOn fns frozen (Ok (Came (got.Value v))) x x budget (λ k. linked k p (links_from n ls) v)
link_none fns frozen x budget n v p ls q =
    let Q : Links → Type 0 = λ z. GoesOn fns frozen (Ok (Came (got.Value v))) x x budget (λ k. linked k p z v) in
    subst Q (sym (links_from_none n ls q)) (value_goes fns frozen x budget v)

-- ---- comparisons

pub compare_next : (fns : Functions) (frozen : Made) (r : Result Now Halt) (x y : Going) (budget : ℕ) (n : ℕ) (v : Val) (node : Expr) (o : Operator) (t : Tree) → Some (o, t) ≡ link_at n (links_of (tree node)) → GoesOn fns frozen r x y budget (within (frame.Expr (expr.Comparing node n v)) (λ k. value_of k Plain t)) → GoesOn fns frozen r x y budget (λ k. compared k (place_of (tree node)) (links_from n (links_of (tree node))) v)
compare_next fns frozen r x y budget n v node o t q h =
    let e : links_from n (links_of (tree node)) ≡ link o t (links_from (suc n) (links_of (tree node))) = links_from_some n (links_of (tree node)) o t q in
    let Q : Links → Type 0 = λ z. GoesOn fns frozen r x y budget (λ k. compared k (place_of (tree node)) z v) in
    let R : Links → Type 0 = λ z. GoesOn fns frozen r x y budget (λ k w s. after (value_of k Plain t w s) (λ g. on_value g (λ b. comparing k (place_of (tree node)) z v b) w)) in
    subst Q (sym e) (subst R e h)

pub compare_none : (fns : Functions) (frozen : Made) (x : Going) (budget n : ℕ) (v : Val) (p : Place) (ls : Links) → None ≡ link_at n ls → GoesOn fns frozen (Ok (Came (got.Value v))) x x budget (λ k. compared k p (links_from n ls) v)
compare_none fns frozen x budget n v p ls q =
    let Q : Links → Type 0 = λ z. GoesOn fns frozen (Ok (Came (got.Value v))) x x budget (λ k. compared k p z v) in
    subst Q (sym (links_from_none n ls q)) (value_goes fns frozen x budget v)

pub comparing_next : (fns : Functions) (frozen : Made) (r : Result Now Halt) (x y : Going) (budget : ℕ) (n : ℕ) (v b : Val) (p : Place) (node : Expr) (o : Operator) (t : Tree) → Some (o, t) ≡ link_at n (links_of (tree node)) → p ≡ place_of (tree node) → GoesOn fns frozen r x y budget (within (frame.Expr (expr.Decided node n b)) (λ k. related k (operator_of o) v b p)) → GoesOn fns frozen r x y budget (λ k. comparing k (place_of (tree node)) (links_from n (links_of (tree node))) v b)
comparing_next fns frozen r x y budget n v b p node o t q ep h =
    let Q : Links → Type 0 = λ z. GoesOn fns frozen r x y budget (λ k. comparing k (place_of (tree node)) z v b) in
    let S : Place → Type 0 = λ z. GoesOn fns frozen r x y budget (within (frame.Expr (expr.Decided node n b)) (λ k. related k (operator_of o) v b z)) in
    subst Q (sym (links_from_some n (links_of (tree node)) o t q)) (subst S ep h)

pub comparing_none : (fns : Functions) (frozen : Made) (x : Going) (budget n : ℕ) (v b : Val) (p : Place) (ls : Links) → None ≡ link_at n ls → GoesOn fns frozen (Ok (Came (got.Value v))) x x budget (λ k. comparing k p (links_from n ls) v b)
comparing_none fns frozen x budget n v b p ls q =
    let Q : Links → Type 0 = λ z. GoesOn fns frozen (Ok (Came (got.Value v))) x x budget (λ k. comparing k p z v b) in
    subst Q (sym (links_from_none n ls q)) (value_goes fns frozen x budget v)

-- what a comparison that is not the last gave decides whether the chain goes on
pub decide_last : (fns : Functions) (frozen : Made) (x : Going) (budget n : ℕ) (b z : Val) (p : Place) (ls : Links) → None ≡ link_at n ls → GoesOn fns frozen (Ok (Came (got.Value z))) x x budget (λ k. decided k p (links_from n ls) b z)
decide_last fns frozen x budget n b z p ls q =
    let Q : Links → Type 0 = λ l. GoesOn fns frozen (Ok (Came (got.Value z))) x x budget (λ k. decided k p l b z) in
    subst Q (sym (links_from_none n ls q)) (value_goes fns frozen x budget z)

pub decide_more : (fns : Functions) (frozen : Made) (r : Result Now Halt) (x y : Going) (budget : ℕ) (n : ℕ) (b z : Val) (p q : Place) (ls : Links) (l : Operator × Tree) → Some l ≡ link_at n ls → q ≡ p → GoesOn fns frozen r x y budget (λ k. truth_of k z q (λ c. choose c (spend_each 1 q (compared k q (links_from n ls) b)) (give z))) → GoesOn fns frozen r x y budget (λ k. decided k p (links_from n ls) b z)
decide_more fns frozen r x y budget n b z p q ls l e ep h =
    let f : links_from n ls ≡ link l.0 l.1 (links_from (suc n) ls) = links_from_some n ls l.0 l.1 e in
    let R : Place → Type 0 = λ a. GoesOn fns frozen r x y budget (λ k. truth_of k z a (λ c. choose c (spend_each 1 a (compared k a (links_from n ls) b)) (give z))) in
    let S : Links → Type 0 = λ a. GoesOn fns frozen r x y budget (λ k. truth_of k z p (λ c. choose c (spend_each 1 p (compared k p a b)) (give z))) in
    let Q : Links → Type 0 = λ a. GoesOn fns frozen r x y budget (λ k. decided k p a b z) in
    subst Q (sym f) (subst S f (subst R ep h))

pub decide_stops : (fns : Functions) (frozen : Made) (h : Halt) (x : Going) (budget n : ℕ) (b z : Val) (p q : Place) (ls : Links) (l : Operator × Tree) → Some l ≡ link_at n ls → q ≡ p → TellsTruth (Err h) (truth (seen frozen x.state.heap) z) q → GoesOn fns frozen (Err h) x x budget (λ k. decided k p (links_from n ls) b z)
decide_stops fns frozen h x budget n b z p q ls l e ep f =
    decide_more fns frozen (Err h) x x budget n b z p q ls l e ep (truth_stops fns frozen h x budget z q (λ k c. choose c (spend_each 1 q (compared k q (links_from n ls) b)) (give z)) f)

pub decide_ends : (fns : Functions) (frozen : Made) (x : Going) (budget n : ℕ) (b z : Val) (p q : Place) (ls : Links) (l : Operator × Tree) → Some l ≡ link_at n ls → q ≡ p → TellsTruth (Ok false) (truth (seen frozen x.state.heap) z) q → GoesOn fns frozen (Ok (Came (got.Value z))) x x budget (λ k. decided k p (links_from n ls) b z)
decide_ends fns frozen x budget n b z p q ls l e ep f =
    decide_more fns frozen (Ok (Came (got.Value z))) x x budget n b z p q ls l e ep (truth_goes fns frozen (Ok (Came (got.Value z))) x x budget false z q (λ k c. choose c (spend_each 1 q (compared k q (links_from n ls) b)) (give z)) f (value_goes fns frozen x budget z))

pub decide_goes : (fns : Functions) (frozen : Made) (r : Result Now Halt) (x y : Going) (budget : ℕ) (n : ℕ) (b z : Val) (p q : Place) (ls : Links) (l : Operator × Tree) → Some l ≡ link_at n ls → q ≡ p → TellsTruth (Ok true) (truth (seen frozen x.state.heap) z) q → GoesOn fns frozen r x y budget (λ k. spend_each 1 q (compared k p (links_from n ls) b)) → GoesOn fns frozen r x y budget (λ k. decided k p (links_from n ls) b z)
decide_goes fns frozen r x y budget n b z p q ls l e ep f h =
    let R : Place → Type 0 = λ a. GoesOn fns frozen r x y budget (λ k. spend_each 1 q (compared k a (links_from n ls) b)) in
    decide_more fns frozen r x y budget n b z p q ls l e ep (truth_goes fns frozen r x y budget true z q (λ k c. choose c (spend_each 1 q (compared k q (links_from n ls) b)) (give z)) f (subst R (sym ep) h))

pub decided_as : (fns : Functions) (frozen : Made) (r : Result Now Halt) (x y : Going) (budget : ℕ) (n m : ℕ) (b z : Val) (p : Place) (ls : Links) → m ≡ n + 1 → GoesOn fns frozen r x y budget (λ k. decided k p (links_from m ls) b z) → GoesOn fns frozen r x y budget (λ k. decided k p (links_from (suc n) ls) b z)
decided_as fns frozen r x y budget n m b z p ls e h =
    let e2 : m ≡ suc n = omega arith in
    let R : ℕ → Type 0 = λ a. GoesOn fns frozen r x y budget (λ k. decided k p (links_from a ls) b z) in
    subst R e2 h

pub pairs_as : (fns : Functions) (frozen : Made) (r : Result Now Halt) (x y : Going) (budget : ℕ) (n m : ℕ) (row : List Val) (p : Place) (ps : Pairs) → m ≡ n + 1 → GoesOn fns frozen r x y budget (λ k. pairs_then k row (pairs_from m ps) (dict_made k p)) → GoesOn fns frozen r x y budget (λ k. pairs_then k row (pairs_from (suc n) ps) (dict_made k p))
pairs_as fns frozen r x y budget n m row p ps e h =
    let e2 : m ≡ suc n = omega arith in
    let R : ℕ → Type 0 = λ a. GoesOn fns frozen r x y budget (λ k. pairs_then k row (pairs_from a ps) (dict_made k p)) in
    subst R e2 h

-- ---- `and` and `or`

pub join_none : (fns : Functions) (frozen : Made) (x : Going) (budget n : ℕ) (v : Val) (p : Place) (ls : Links) → None ≡ link_at n ls → GoesOn fns frozen (Ok (Came (got.Value v))) x x budget (λ k. joined k p (links_from n ls) v)
join_none fns frozen x budget n v p ls q =
    let Q : Links → Type 0 = λ z. GoesOn fns frozen (Ok (Came (got.Value v))) x x budget (λ k. joined k p z v) in
    subst Q (sym (links_from_none n ls q)) (value_goes fns frozen x budget v)

join_more : (fns : Functions) (frozen : Made) (r : Result Now Halt) (x y : Going) (budget : ℕ) (n : ℕ) (v : Val) (p q : Place) (ls : Links) (o : Operator) (t : Tree) → Some (o, t) ≡ link_at n ls → q ≡ p → GoesOn fns frozen r x y budget (λ k. truth_of k v q (λ c. choose (carries_on o c) (value_of k Plain t >>= (λ b. joined k (place_of t) (links_from (suc n) ls) b)) (give v))) → GoesOn fns frozen r x y budget (λ k. joined k p (links_from n ls) v)
join_more fns frozen r x y budget n v p q ls o t e ep h =
    let R : Place → Type 0 = λ a. GoesOn fns frozen r x y budget (λ k. truth_of k v a (λ c. choose (carries_on o c) (value_of k Plain t >>= (λ b. joined k (place_of t) (links_from (suc n) ls) b)) (give v))) in
    let Q : Links → Type 0 = λ z. GoesOn fns frozen r x y budget (λ k. joined k p z v) in
    subst Q (sym (links_from_some n ls o t e)) (subst R ep h)

pub join_stops : (fns : Functions) (frozen : Made) (h : Halt) (x : Going) (budget n : ℕ) (v : Val) (p q : Place) (ls : Links) (o : Operator) (t : Tree) → Some (o, t) ≡ link_at n ls → q ≡ p → TellsTruth (Err h) (truth (seen frozen x.state.heap) v) q → GoesOn fns frozen (Err h) x x budget (λ k. joined k p (links_from n ls) v)
join_stops fns frozen h x budget n v p q ls o t e ep f =
    join_more fns frozen (Err h) x x budget n v p q ls o t e ep (truth_stops fns frozen h x budget v q (λ k c. choose (carries_on o c) (value_of k Plain t >>= (λ b. joined k (place_of t) (links_from (suc n) ls) b)) (give v)) f)

pub join_ends : (fns : Functions) (frozen : Made) (x : Going) (budget n : ℕ) (v : Val) (p q : Place) (ls : Links) (o : Operator) (t : Tree) (c : Bool) → Some (o, t) ≡ link_at n ls → q ≡ p → TellsTruth (Ok c) (truth (seen frozen x.state.heap) v) q → carries_on o c ≡ false → GoesOn fns frozen (Ok (Came (got.Value v))) x x budget (λ k. joined k p (links_from n ls) v)
join_ends fns frozen x budget n v p q ls o t c e ep f g =
    let B : Bool → Type 0 = λ a. GoesOn fns frozen (Ok (Came (got.Value v))) x x budget (λ k. choose a (value_of k Plain t >>= (λ b. joined k (place_of t) (links_from (suc n) ls) b)) (give v)) in
    join_more fns frozen (Ok (Came (got.Value v))) x x budget n v p q ls o t e ep (truth_goes fns frozen (Ok (Came (got.Value v))) x x budget c v q (λ k c. choose (carries_on o c) (value_of k Plain t >>= (λ b. joined k (place_of t) (links_from (suc n) ls) b)) (give v)) f (subst B (sym g) (value_goes fns frozen x budget v)))

pub join_goes : (fns : Functions) (frozen : Made) (r : Result Now Halt) (x y : Going) (budget : ℕ) (n m : ℕ) (v : Val) (q : Place) (node : Expr) (o : Operator) (t : Tree) (c : Bool) → m ≡ n + 1 → Some (o, t) ≡ link_at n (links_of (tree node)) → q ≡ operand_place n (first_operand (tree node)) (links_of (tree node)) → TellsTruth (Ok c) (truth (seen frozen x.state.heap) v) q → carries_on o c ≡ true → GoesOn fns frozen r x y budget (within (frame.Expr (expr.Joined node m)) (λ k. value_of k Plain t)) → GoesOn fns frozen r x y budget (λ k. joined k (operand_place n (first_operand (tree node)) (links_of (tree node))) (links_from n (links_of (tree node))) v)
join_goes fns frozen r x y budget n m v q node o t c e i ep f g h =
    let e2 : m ≡ suc n = omega arith in
    let R : ℕ → Type 0 = λ z. GoesOn fns frozen r x y budget (within (frame.Expr (expr.Joined node z)) (λ k. value_of k Plain t)) in
    let S : Place → Type 0 = λ z. GoesOn fns frozen r x y budget (λ k. value_of k Plain t >>= (λ b. joined k z (links_from (suc n) (links_of (tree node))) b)) in
    let B : Bool → Type 0 = λ a. GoesOn fns frozen r x y budget (λ k. choose a (value_of k Plain t >>= (λ b. joined k (place_of t) (links_from (suc n) (links_of (tree node))) b)) (give v)) in
    join_more fns frozen r x y budget n v (operand_place n (first_operand (tree node)) (links_of (tree node))) q (links_of (tree node)) o t i ep
    (truth_goes fns frozen r x y budget c v q (λ k c. choose (carries_on o c) (value_of k Plain t >>= (λ b. joined k (place_of t) (links_from (suc n) (links_of (tree node))) b)) (give v)) f
    (subst B (sym g) (subst S (operand_place_behind n (first_operand (tree node)) (links_of (tree node)) o t i) (subst R e2 h))))

-- ---- frames that are pushed first

pub comparing_pushed : (fns : Functions) (frozen : Made) (r : Result Now Halt) (x y : Going) (budget : ℕ) (g : Going) (n : ℕ) (v b kept : Val) (p : Place) (node : Expr) (o : Operator) (t : Tree) (sign : PyOp) → Some (o, t) ≡ link_at n (links_of (tree node)) → p ≡ place_of (tree node) → sign ≡ operator_of o → kept ≡ b → g ≡ record x { frames = frame.Expr (expr.Decided node n kept) ∷ x.frames } → GoesOn fns frozen r g y budget (λ k. related k sign v b p) → GoesOn fns frozen r x y budget (λ k. comparing k (place_of (tree node)) (links_from n (links_of (tree node))) v b)
comparing_pushed fns frozen r x y budget g n v b kept p node o t sign q ep es ek eg h =
    let Q : PyOp → Type 0 = λ z. GoesOn fns frozen r (record x { frames = frame.Expr (expr.Decided node n kept) ∷ x.frames }) y budget (λ k. related k z v b p) in
    let R : Going → Type 0 = λ z. GoesOn fns frozen r z y budget (λ k. related k sign v b p) in
    let S : Val → Type 0 = λ z. GoesOn fns frozen r x y budget (within (frame.Expr (expr.Decided node n z)) (λ k. related k (operator_of o) v b p)) in
    comparing_next fns frozen r x y budget n v b p node o t q ep
    (subst S ek (pushed fns frozen r x y budget (frame.Expr (expr.Decided node n kept)) (λ k. related k (operator_of o) v b p) refl (subst Q es (subst R eg h))))

-- the same of the last operator: no frame waits for what it gives

gives_all : (o : Outcome) (w : World) → after o (λ a. on_value a give w) ≡ o
gives_all (Halts h s) w = refl
gives_all (Done (got.Value v) s) w = refl
gives_all (Done (got.Bound names) s) w = refl
gives_all (Done (got.Through v) s) w = refl
gives_all (Done got.Next s) w = refl
gives_all (Done got.Broke s) w = refl
gives_all (Done got.Continued s) w = refl
gives_all (Done (got.Returned v) s) w = refl

abbrev on_right : Place → PyOp → Val → Tree → Known → Doing
on_right p sign v t = within (frame.Expr (expr.Right sign v p)) (λ k. value_of k Plain t)

pub link_last : (fns : Functions) (frozen : Made) (r : Result Now Halt) (x y : Going) (budget : ℕ) (n m : ℕ) (v : Val) (p : Place) (node : Expr) (o : Operator) (t : Tree) (sign : PyOp) → m ≡ n + 1 → Some (o, t) ≡ link_at n (links_of (tree node)) → None ≡ link_at m (links_of (tree node)) → p ≡ place_of (tree node) → sign ≡ operator_of o → GoesOn fns frozen r x y budget (on_right p sign v t) → GoesOn fns frozen r x y budget (λ k. linked k (place_of (tree node)) (links_from n (links_of (tree node))) v)
link_last fns frozen r x y budget n m v p node o t sign e q last ep es h =
    let K : Known = known (steps_of fns.program) frozen x.state.here.room in
    let S : PyOp → Type 0 = λ z. GoesOn fns frozen r x y budget (on_right p z v t) in
    let Q : Links → Type 0 = λ z. GoesOn fns frozen r x y budget (λ k w s. after (on_right p (operator_of o) v t k w s) (λ g. on_value g (λ c. linked k (place_of (tree node)) z c) w)) in
    link_next fns frozen r x y budget n m v p node o t e q ep
    (subst Q (sym (links_from_none m (links_of (tree node)) last))
    (same_total fns frozen r x y budget (on_right p (operator_of o) v t) (λ k w s. after (on_right p (operator_of o) v t k w s) (λ g. on_value g give w))
    (λ w. sym (gives_all (on_right p (operator_of o) v t K w x.state) w)) (subst S es h)))

pub link_before : (fns : Functions) (frozen : Made) (r : Result Now Halt) (x y : Going) (budget : ℕ) (n m : ℕ) (v : Val) (p : Place) (node : Expr) (o : Operator) (t : Tree) (sign : PyOp) → m ≡ n + 1 → Some (o, t) ≡ link_at n (links_of (tree node)) → p ≡ place_of (tree node) → sign ≡ operator_of o → GoesOn fns frozen r x y budget (within (frame.Expr (expr.Linked node m)) (on_right p sign v t)) → GoesOn fns frozen r x y budget (λ k. linked k (place_of (tree node)) (links_from n (links_of (tree node))) v)
link_before fns frozen r x y budget n m v p node o t sign e q ep es h =
    let S : PyOp → Type 0 = λ z. GoesOn fns frozen r x y budget (within (frame.Expr (expr.Linked node m)) (on_right p z v t)) in
    link_next fns frozen r x y budget n m v p node o t e q ep (subst S es h)

-- the same, by a truth that was tested

pub decide_ends_so : (fns : Functions) (frozen : Made) (x : Going) (budget n : ℕ) (b z : Val) (p q : Place) (ls : Links) (l : Operator × Tree) (holds : Bool) → Some l ≡ link_at n ls → q ≡ p → TellsTruth (Ok holds) (truth (seen frozen x.state.heap) z) q → holds ≡ false → GoesOn fns frozen (Ok (Came (got.Value z))) x x budget (λ k. decided k p (links_from n ls) b z)
decide_ends_so fns frozen x budget n b z p q ls l holds e ep f h =
    let T : Bool → Type 0 = λ a. TellsTruth (Ok a) (truth (seen frozen x.state.heap) z) q in
    decide_ends fns frozen x budget n b z p q ls l e ep (subst T h f)

pub decide_goes_so : (fns : Functions) (frozen : Made) (r : Result Now Halt) (x y : Going) (budget : ℕ) (n : ℕ) (b z : Val) (p q : Place) (ls : Links) (l : Operator × Tree) (holds : Bool) → Some l ≡ link_at n ls → q ≡ p → TellsTruth (Ok holds) (truth (seen frozen x.state.heap) z) q → holds ≡ true → GoesOn fns frozen r x y budget (λ k. spend_each 1 q (compared k p (links_from n ls) b)) → GoesOn fns frozen r x y budget (λ k. decided k p (links_from n ls) b z)
decide_goes_so fns frozen r x y budget n b z p q ls l holds e ep f h g =
    let T : Bool → Type 0 = λ a. TellsTruth (Ok a) (truth (seen frozen x.state.heap) z) q in
    decide_goes fns frozen r x y budget n b z p q ls l e ep (subst T h f) g
