-- How the frames of expressions go on: what the code reads of a node, and what a part that is waited for means, give what
-- the frame means.
use Rattle.std.proofs.Common.{◌≡◌, ℕ, suc, ◌+◌, refl, ap, sym, subst, List, Option, Some, None, Result, Ok, Err, Bool, true, false, if◌then◌else◌, arith}
use Rattle.amh_host.specs.declared.place.Place.{Place}
use Rattle.py_tree.specs.declared.expr.Expr.{Expr}
use Rattle.py_tree.specs.Seen.{tree}
use Rattle.py_tree.specs.Programs.{steps_of}
use Rattle.py_tree.specs.Tree.{Tree, Name, Number, Decimal_time, Quotient, Str, Format, Constant_value, Tuple, Display, Dict, ListOf, DictOf, Trailed, Await, Power, Unary, Not, Binary, Compare, Boolean, Choice, Trees, Pairs, pair}
use Rattle.py_heap.specs.Heaps.{Made, seen}
use Rattle.py_operators.specs.Truths.{truth}
use Rattle.py_values.specs.declared.val.Val.{Val}
use Rattle.py_values.specs.declared.op.PyOp.TheVariants as op
use Rattle.py_frames.specs.declared.request.Cause.TheVariants as cause
use Rattle.py_frames.specs.declared.state.Halt.{Halt}
use Rattle.py_frames.specs.declared.frame.Now.{Now}
use Rattle.py_frames.specs.declared.frame.Now.TheVariants.{Begin}
use Rattle.py_frames.specs.declared.frame.Purpose.{Purpose}
use Rattle.py_frames.specs.declared.frame.Purpose.TheVariants.{Plain}
use Rattle.py_frames.specs.declared.frame.ExprFrame.TheVariants as expr
use Rattle.py_frames.specs.declared.frame.Frame.TheVariants as frame
use Rattle.py_frames.specs.declared.functions.Functions.{Functions}
use Rattle.py_frames.specs.declared.going.Going.{Going}
use Rattle.py_frames.specs.Statements.{known}
use Rattle.py_frames.specs.Doing.{Doing, Known, after, on_value, ◌>>=◌, stop, choose}
use Rattle.py_frames.specs.Expressions.{value_of, values_then, pairs_then, list_made, dict_made}
use Rattle.py_frames.specs.Parts.{place_of, trees_from, pairs_from}
use Rattle.py_frames.specs.Values.{operated}
use Rattle.py_frames.specs.Begun.{value_after}
use Rattle.py_frames.specs.Told.{TellsTruth}
use Rattle.py_frames.specs.Expr_parts.{tree_at, pair_at, is_tuple, is_trailed, exponent_in, choice_in, tuple_made, chosen_by}
use Rattle.py_frames.specs.Expr_frames.{items_of, items_made, pairs_of, value_and_pairs, exponent_of, chosen}
use Rattle.py_frames.specs.Frames.{GoesOn, within}
use Rattle.py_frames.proofs.BeginLaws.{expr_goes_on}
use Rattle.py_frames.proofs.ExprLaws.{same_total, truth_goes, truth_stops}
use Rattle.py_frames.proofs.ExprParts.{trees_from_some, trees_from_none, pairs_from_some, pairs_from_none}

-- a node of a known kind
pub seen_as : (fns : Functions) (frozen : Made) (r : Result Now Halt) (x y : Going) (budget : ℕ) (t c : Tree) → t ≡ c → GoesOn fns frozen r x y budget (λ k. value_after k Plain c) → GoesOn fns frozen r x y budget (λ k. value_after k Plain t)
seen_as fns frozen r x y budget t c e h = let Q : Tree → Type 0 = λ z. GoesOn fns frozen r x y budget (λ k. value_after k Plain z) in subst Q (sym e) h

-- what a value is for matters to what trails a primary alone
pub true_not_false : true ≡ false → ⊥
true_not_false e = cc

purpose_free : (k : Known) (u : Purpose) (t : Tree) → is_trailed t ≡ false → value_after k Plain t ≡ value_after k u t
purpose_free k u (Name p n) e = refl
purpose_free k u (Number p n) e = refl
purpose_free k u (Decimal_time p d) e = refl
purpose_free k u (Quotient p n a) e = refl
purpose_free k u (Str p s) e = refl
purpose_free k u (Format p s) e = refl
purpose_free k u (Constant_value p c) e = refl
purpose_free k u (Tuple p ts) e = refl
purpose_free k u (Display p ts) e = refl
purpose_free k u (Dict p ps) e = refl
purpose_free k u (ListOf p a c) e = refl
purpose_free k u (DictOf p a b c) e = refl
purpose_free k u (Trailed p a ts) e = absurd (true_not_false e)
purpose_free k u (Await p a) e = refl
purpose_free k u (Power p a b) e = refl
purpose_free k u (Unary p o a) e = refl
purpose_free k u (Not p a) e = refl
purpose_free k u (Binary p a ls) e = refl
purpose_free k u (Compare p a ls) e = refl
purpose_free k u (Boolean p a ls) e = refl
purpose_free k u (Choice p a b c) e = refl

pub plain_goes : (fns : Functions) (frozen : Made) (r : Result Now Halt) (x y : Going) (budget : ℕ) (u : Purpose) (t : Tree) → is_trailed t ≡ false → GoesOn fns frozen r x y budget (λ k. value_after k Plain t) → GoesOn fns frozen r x y budget (λ k. value_after k u t)
plain_goes fns frozen r x y budget u t e h = same_total fns frozen r x y budget (λ k. value_after k Plain t) (λ k. value_after k u t) (λ w. ap (λ (d : Doing). d w x.state) (purpose_free (known (steps_of fns.program) frozen x.state.here.room) u t e)) h

-- ---- items

items_by : (k : Known) (t : Tree) (vs : List Val) → items_made k t vs ≡ choose (is_tuple t) (tuple_made k (place_of t) vs) (list_made k (place_of t) vs)
items_by k (Name p n) vs = refl
items_by k (Number p n) vs = refl
items_by k (Decimal_time p d) vs = refl
items_by k (Quotient p n a) vs = refl
items_by k (Str p s) vs = refl
items_by k (Format p s) vs = refl
items_by k (Constant_value p c) vs = refl
items_by k (Tuple p ts) vs = refl
items_by k (Display p ts) vs = refl
items_by k (Dict p ps) vs = refl
items_by k (ListOf p a c) vs = refl
items_by k (DictOf p a b c) vs = refl
items_by k (Trailed p a ts) vs = refl
items_by k (Await p a) vs = refl
items_by k (Power p a b) vs = refl
items_by k (Unary p o a) vs = refl
items_by k (Not p a) vs = refl
items_by k (Binary p a ls) vs = refl
items_by k (Compare p a ls) vs = refl
items_by k (Boolean p a ls) vs = refl
items_by k (Choice p a b c) vs = refl

items_chosen : (fns : Functions) (frozen : Made) (r : Result Now Halt) (x y : Going) (budget : ℕ) (t : Tree) (vs : List Val) (b : Bool) → is_tuple t ≡ b → GoesOn fns frozen r x y budget (λ k. choose b (tuple_made k (place_of t) vs) (list_made k (place_of t) vs)) → GoesOn fns frozen r x y budget (λ k. items_made k t vs)
items_chosen fns frozen r x y budget t vs b e h =
    let Q : Bool → Type 0 = λ z. GoesOn fns frozen r x y budget (λ k. choose z (tuple_made k (place_of t) vs) (list_made k (place_of t) vs)) in
    same_total fns frozen r x y budget (λ k. choose (is_tuple t) (tuple_made k (place_of t) vs) (list_made k (place_of t) vs)) (λ k. items_made k t vs) (λ w. ap (λ (d : Doing). d w x.state) (sym (items_by (known (steps_of fns.program) frozen x.state.here.room) t vs))) (subst Q (sym e) h)

pub items_tuple : (fns : Functions) (frozen : Made) (r : Result Now Halt) (x y : Going) (budget : ℕ) (t : Tree) (vs : List Val) (p : Place) → is_tuple t ≡ true → p ≡ place_of t → GoesOn fns frozen r x y budget (λ k. tuple_made k p vs) → GoesOn fns frozen r x y budget (λ k. items_made k t vs)
items_tuple fns frozen r x y budget t vs p e q h = let Q : Place → Type 0 = λ z. GoesOn fns frozen r x y budget (λ k. tuple_made k z vs) in items_chosen fns frozen r x y budget t vs true e (subst Q q h)

pub items_list : (fns : Functions) (frozen : Made) (r : Result Now Halt) (x y : Going) (budget : ℕ) (t : Tree) (vs : List Val) (p : Place) → is_tuple t ≡ false → p ≡ place_of t → GoesOn fns frozen r x y budget (λ k. list_made k p vs) → GoesOn fns frozen r x y budget (λ k. items_made k t vs)
items_list fns frozen r x y budget t vs p e q h = let Q : Place → Type 0 = λ z. GoesOn fns frozen r x y budget (λ k. list_made k z vs) in items_chosen fns frozen r x y budget t vs false e (subst Q q h)

pub item_next : (fns : Functions) (frozen : Made) (r : Result Now Halt) (x y : Going) (budget : ℕ) (n m : ℕ) (vals : List Val) (node : Expr) (a : Tree) → m ≡ n + 1 → Some a ≡ tree_at n (items_of (tree node)) → GoesOn fns frozen r x y budget (within (frame.Expr (expr.Items node m vals)) (λ k. value_of k Plain a)) → GoesOn fns frozen r x y budget (λ k. values_then k vals (trees_from n (items_of (tree node))) (items_made k (tree node)))
item_next fns frozen r x y budget n m vals node a e q h =
    let e2 : m ≡ suc n = omega arith in
    let Q : Trees → Type 0 = λ z. GoesOn fns frozen r x y budget (λ k. values_then k vals z (items_made k (tree node))) in
    let R : ℕ → Type 0 = λ z. GoesOn fns frozen r x y budget (within (frame.Expr (expr.Items node z vals)) (λ k. value_of k Plain a)) in
    subst Q (sym (trees_from_some n (items_of (tree node)) a q)) (subst R e2 h)

pub item_none : (fns : Functions) (frozen : Made) (r : Result Now Halt) (x y : Going) (budget : ℕ) (n : ℕ) (vals : List Val) (t : Tree) → None ≡ tree_at n (items_of t) → GoesOn fns frozen r x y budget (λ k. items_made k t vals) → GoesOn fns frozen r x y budget (λ k. values_then k vals (trees_from n (items_of t)) (items_made k t))
item_none fns frozen r x y budget n vals t q h =
    let Q : Trees → Type 0 = λ z. GoesOn fns frozen r x y budget (λ k. values_then k vals z (items_made k t)) in
    subst Q (sym (trees_from_none n (items_of t) q)) h

-- ---- pairs

pub pair_next : (fns : Functions) (frozen : Made) (r : Result Now Halt) (x y : Going) (budget : ℕ) (n : ℕ) (row : List Val) (node : Expr) (a b : Tree) (p : Place) → Some (a, b) ≡ pair_at n (pairs_of (tree node)) → GoesOn fns frozen r x y budget (within (frame.Expr (expr.Key node n row)) (λ k. value_of k Plain a)) → GoesOn fns frozen r x y budget (λ k. pairs_then k row (pairs_from n (pairs_of (tree node))) (dict_made k (place_of (tree node))))
pair_next fns frozen r x y budget n row node a b p q h =
    let Q : Pairs → Type 0 = λ z. GoesOn fns frozen r x y budget (λ k. pairs_then k row z (dict_made k (place_of (tree node)))) in
    let e : pairs_from n (pairs_of (tree node)) ≡ pair a b (pairs_from (suc n) (pairs_of (tree node))) = pairs_from_some n (pairs_of (tree node)) a b q in
    let R : Pairs → Type 0 = λ z. GoesOn fns frozen r x y budget (λ k w s. after (value_of k Plain a w s) (λ g. on_value g (λ v. value_and_pairs k row z v (dict_made k (place_of (tree node)))) w)) in
    subst Q (sym e) (subst R e h)

pub pair_none : (fns : Functions) (frozen : Made) (r : Result Now Halt) (x y : Going) (budget : ℕ) (n : ℕ) (row : List Val) (t : Tree) (p : Place) → None ≡ pair_at n (pairs_of t) → p ≡ place_of t → GoesOn fns frozen r x y budget (λ k. dict_made k p row) → GoesOn fns frozen r x y budget (λ k. pairs_then k row (pairs_from n (pairs_of t)) (dict_made k (place_of t)))
pair_none fns frozen r x y budget n row t p q e h =
    let Q : Pairs → Type 0 = λ z. GoesOn fns frozen r x y budget (λ k. pairs_then k row z (dict_made k (place_of t))) in
    let R : Place → Type 0 = λ z. GoesOn fns frozen r x y budget (λ k. dict_made k z row) in
    subst Q (sym (pairs_from_none n (pairs_of t) q)) (subst R e h)

pub pair_value : (fns : Functions) (frozen : Made) (r : Result Now Halt) (x y : Going) (budget : ℕ) (n : ℕ) (row : List Val) (node : Expr) (v : Val) (a b : Tree) → Some (a, b) ≡ pair_at n (pairs_of (tree node)) → GoesOn fns frozen r x y budget (within (frame.Expr (expr.PairValue node n row v)) (λ k. value_of k Plain b)) → GoesOn fns frozen r x y budget (λ k. value_and_pairs k row (pairs_from n (pairs_of (tree node))) v (dict_made k (place_of (tree node))))
pair_value fns frozen r x y budget n row node v a b q h =
    let Q : Pairs → Type 0 = λ z. GoesOn fns frozen r x y budget (λ k. value_and_pairs k row z v (dict_made k (place_of (tree node)))) in
    subst Q (sym (pairs_from_some n (pairs_of (tree node)) a b q)) h

pub pair_missing : (fns : Functions) (frozen : Made) (r : Result Now Halt) (x y : Going) (budget : ℕ) (n : ℕ) (row : List Val) (v : Val) (t : Tree) (p : Place) → None ≡ pair_at n (pairs_of t) → p ≡ place_of t → GoesOn fns frozen r x y budget (λ k. dict_made k p row) → GoesOn fns frozen r x y budget (λ k. value_and_pairs k row (pairs_from n (pairs_of t)) v (dict_made k (place_of t)))
pair_missing fns frozen r x y budget n row v t p q e h =
    let Q : Pairs → Type 0 = λ z. GoesOn fns frozen r x y budget (λ k. value_and_pairs k row z v (dict_made k (place_of t))) in
    let R : Place → Type 0 = λ z. GoesOn fns frozen r x y budget (λ k. dict_made k z row) in
    subst Q (sym (pairs_from_none n (pairs_of t) q)) (subst R e h)

-- ---- powers

abbrev exponent_or : Known → Option Tree → Place → Val → Doing
exponent_or k None p x = stop cause.Raised p
exponent_or k (Some b) p x = value_of k Plain b >>= (λ y. operated k op.Pow x y p)

exponent_by : (k : Known) (t : Tree) (x : Val) → exponent_of k t x ≡ exponent_or k (exponent_in t) (place_of t) x
exponent_by k (Name p n) x = refl
exponent_by k (Number p n) x = refl
exponent_by k (Decimal_time p d) x = refl
exponent_by k (Quotient p n a) x = refl
exponent_by k (Str p s) x = refl
exponent_by k (Format p s) x = refl
exponent_by k (Constant_value p c) x = refl
exponent_by k (Tuple p ts) x = refl
exponent_by k (Display p ts) x = refl
exponent_by k (Dict p ps) x = refl
exponent_by k (ListOf p a c) x = refl
exponent_by k (DictOf p a b c) x = refl
exponent_by k (Trailed p a ts) x = refl
exponent_by k (Await p a) x = refl
exponent_by k (Power p a b) x = refl
exponent_by k (Unary p o a) x = refl
exponent_by k (Not p a) x = refl
exponent_by k (Binary p a ls) x = refl
exponent_by k (Compare p a ls) x = refl
exponent_by k (Boolean p a ls) x = refl
exponent_by k (Choice p a b c) x = refl

exponent_chosen : (fns : Functions) (frozen : Made) (r : Result Now Halt) (x y : Going) (budget : ℕ) (t : Tree) (v : Val) (o : Option Tree) → o ≡ exponent_in t → GoesOn fns frozen r x y budget (λ k. exponent_or k o (place_of t) v) → GoesOn fns frozen r x y budget (λ k. exponent_of k t v)
exponent_chosen fns frozen r x y budget t v o e h =
    let Q : Option Tree → Type 0 = λ z. GoesOn fns frozen r x y budget (λ k. exponent_or k z (place_of t) v) in
    same_total fns frozen r x y budget (λ k. exponent_or k (exponent_in t) (place_of t) v) (λ k. exponent_of k t v) (λ w. ap (λ (d : Doing). d w x.state) (sym (exponent_by (known (steps_of fns.program) frozen x.state.here.room) t v))) (subst Q e h)

pub exponent_next : (fns : Functions) (frozen : Made) (r : Result Now Halt) (x y : Going) (budget : ℕ) (t : Tree) (v : Val) (p : Place) (b : Tree) → Some b ≡ exponent_in t → p ≡ place_of t → GoesOn fns frozen r x y budget (within (frame.Expr (expr.Right op.Pow v p)) (λ k. value_of k Plain b)) → GoesOn fns frozen r x y budget (λ k. exponent_of k t v)
exponent_next fns frozen r x y budget t v p b e q h =
    let Q : Place → Type 0 = λ z. GoesOn fns frozen r x y budget (within (frame.Expr (expr.Right op.Pow v z)) (λ k. value_of k Plain b)) in
    exponent_chosen fns frozen r x y budget t v (Some b) e (subst Q q h)

pub exponent_none : (fns : Functions) (frozen : Made) (r : Result Now Halt) (x y : Going) (budget : ℕ) (t : Tree) (v : Val) (p : Place) → None ≡ exponent_in t → p ≡ place_of t → GoesOn fns frozen r x y budget (λ k. stop cause.Raised p) → GoesOn fns frozen r x y budget (λ k. exponent_of k t v)
exponent_none fns frozen r x y budget t v p e q h =
    let Q : Place → Type 0 = λ z. GoesOn fns frozen r x y budget (λ k. stop cause.Raised z) in
    exponent_chosen fns frozen r x y budget t v None e (subst Q q h)

-- ---- choices

chosen_as : (k : Known) (t : Tree) (x : Val) → chosen k t x ≡ chosen_by k (choice_in t) (place_of t) x
chosen_as k (Name p n) x = refl
chosen_as k (Number p n) x = refl
chosen_as k (Decimal_time p d) x = refl
chosen_as k (Quotient p n a) x = refl
chosen_as k (Str p s) x = refl
chosen_as k (Format p s) x = refl
chosen_as k (Constant_value p c) x = refl
chosen_as k (Tuple p ts) x = refl
chosen_as k (Display p ts) x = refl
chosen_as k (Dict p ps) x = refl
chosen_as k (ListOf p a c) x = refl
chosen_as k (DictOf p a b c) x = refl
chosen_as k (Trailed p a ts) x = refl
chosen_as k (Await p a) x = refl
chosen_as k (Power p a b) x = refl
chosen_as k (Unary p o a) x = refl
chosen_as k (Not p a) x = refl
chosen_as k (Binary p a ls) x = refl
chosen_as k (Compare p a ls) x = refl
chosen_as k (Boolean p a ls) x = refl
chosen_as k (Choice p a b c) x = refl

choice_chosen : (fns : Functions) (frozen : Made) (r : Result Now Halt) (x y : Going) (budget : ℕ) (t : Tree) (v : Val) (o : Option (Tree × Place × Tree)) → o ≡ choice_in t → GoesOn fns frozen r x y budget (λ k. chosen_by k o (place_of t) v) → GoesOn fns frozen r x y budget (λ k. chosen k t v)
choice_chosen fns frozen r x y budget t v o e h =
    let Q : Option (Tree × Place × Tree) → Type 0 = λ z. GoesOn fns frozen r x y budget (λ k. chosen_by k z (place_of t) v) in
    same_total fns frozen r x y budget (λ k. chosen_by k (choice_in t) (place_of t) v) (λ k. chosen k t v) (λ w. ap (λ (d : Doing). d w x.state) (sym (chosen_as (known (steps_of fns.program) frozen x.state.here.room) t v))) (subst Q e h)

pub choice_none : (fns : Functions) (frozen : Made) (r : Result Now Halt) (x y : Going) (budget : ℕ) (t : Tree) (v : Val) (p : Place) → None ≡ choice_in t → p ≡ place_of t → GoesOn fns frozen r x y budget (λ k. stop cause.Raised p) → GoesOn fns frozen r x y budget (λ k. chosen k t v)
choice_none fns frozen r x y budget t v p e q h =
    let Q : Place → Type 0 = λ z. GoesOn fns frozen r x y budget (λ k. stop cause.Raised z) in
    choice_chosen fns frozen r x y budget t v None e (subst Q q h)

pub choice_stops : (fns : Functions) (frozen : Made) (h : Halt) (x : Going) (budget : ℕ) (t : Tree) (v : Val) (a b : Tree) (q : Place) → Some (a, q, b) ≡ choice_in t → TellsTruth (Err h) (truth (seen frozen x.state.heap) v) q → GoesOn fns frozen (Err h) x x budget (λ k. chosen k t v)
choice_stops fns frozen h x budget t v a b q e f =
    choice_chosen fns frozen (Err h) x x budget t v (Some (a, q, b)) e (truth_stops fns frozen h x budget v q (λ k c. choose c (value_of k Plain a) (value_of k Plain b)) f)

pub choice_taken : (fns : Functions) (frozen : Made) (x : Going) (budget : ℕ) (t : Tree) (v : Val) (a b : Tree) (q : Place) (c : Bool) (e : Expr) → Some (a, q, b) ≡ choice_in t → TellsTruth (Ok c) (truth (seen frozen x.state.heap) v) q → tree e ≡ (if c then a else b) → GoesOn fns frozen (Ok (Begin e Plain)) x x budget (λ k. chosen k t v)
choice_taken fns frozen x budget t v a b q true e i f g =
    let Q : Tree → Type 0 = λ z. GoesOn fns frozen (Ok (Begin e Plain)) x x budget (λ k. value_of k Plain z) in
    choice_chosen fns frozen (Ok (Begin e Plain)) x x budget t v (Some (a, q, b)) i (truth_goes fns frozen (Ok (Begin e Plain)) x x budget true v q (λ k c. choose c (value_of k Plain a) (value_of k Plain b)) f (subst Q g (expr_goes_on fns frozen x budget e)))
choice_taken fns frozen x budget t v a b q false e i f g =
    let Q : Tree → Type 0 = λ z. GoesOn fns frozen (Ok (Begin e Plain)) x x budget (λ k. value_of k Plain z) in
    choice_chosen fns frozen (Ok (Begin e Plain)) x x budget t v (Some (a, q, b)) i (truth_goes fns frozen (Ok (Begin e Plain)) x x budget false v q (λ k c. choose c (value_of k Plain a) (value_of k Plain b)) f (subst Q g (expr_goes_on fns frozen x budget e)))
