-- How nodes of each kind begin.
use Rattle.std.specs.Prelude.{pos}
use Rattle.std.proofs.Common.{◌≡◌, ℕ, refl, ap, ◌∙◌, sym, subst, List, [], Option, Some, None, option_map, Result, Ok, Err}
use Rattle.amh_host.specs.declared.place.Place.{Place}
use Rattle.py_tree.specs.declared.expr.Expr.{Expr}
use Rattle.py_tree.specs.declared.expr.Constant.{Constant}
use Rattle.py_tree.specs.declared.expr.Sign.{Sign}
use Rattle.py_tree.specs.declared.name.Piece.{Piece}
use Rattle.py_tree.specs.declared.number.Amount.{Amount}
use Rattle.py_tree.specs.declared.number.Decimal.{Decimal}
use Rattle.py_tree.specs.Seen.{tree}
use Rattle.py_tree.specs.Tree.{Tree, Name, Number, Decimal_time, Quotient, Str, Format, Constant_value, Tuple, Display, Dict, ListOf, DictOf, Unary, Not, Binary, Compare, Boolean, Choice, Trees, Links, Pairs, Each, each}
use Rattle.py_heap.specs.Heaps.{Made, seen}
use Rattle.py_values.specs.declared.val.Val.{Val}
use Rattle.py_values.specs.declared.val.Val.TheVariants as val
use Rattle.py_heap.specs.declared.scopes.LookUp.{LookUp}
use Rattle.py_heap.specs.declared.scopes.LookUp.TheVariants as lookup
use Rattle.py_heap.specs.Names.{look_up}
use Rattle.py_values.specs.declared.op.PyOp.{PyOp}
use Rattle.py_values.specs.declared.op.PyOp.TheVariants as op
use Rattle.py_frames.specs.declared.request.Cause.TheVariants as cause
use Rattle.py_frames.specs.declared.state.Halt.{Halt}
use Rattle.py_frames.specs.declared.state.Halt.TheVariants.{Stopped}
use Rattle.py_frames.specs.declared.state.Got.TheVariants as got
use Rattle.py_frames.specs.declared.frame.Now.{Now}
use Rattle.py_frames.specs.declared.frame.Now.TheVariants.{Came}
use Rattle.py_frames.specs.declared.frame.Purpose.TheVariants.{Plain}
use Rattle.py_frames.specs.declared.frame.ExprFrame.TheVariants as expr
use Rattle.py_frames.specs.declared.frame.Frame.TheVariants as frame
use Rattle.py_frames.specs.declared.functions.Functions.{Functions}
use Rattle.py_frames.specs.declared.going.Going.{Going}
use Rattle.py_frames.specs.Times.{decimal_time, divided_time}
use Rattle.py_frames.specs.Doing.{with_value, Doing, Known, after, on_value, ◌>>=◌, give}
use Rattle.py_frames.specs.Expressions.{constant_val, text_literal, pieces_shown, value_of, values_then, pairs_then, linked, compared, joined, dict_made}
use Rattle.py_frames.specs.Parts.{prefix_of, place_of, trees_from, links_from, pairs_from}
use Rattle.py_frames.specs.Values.{as_row, read, read_as}
use Rattle.py_frames.specs.Begun.{value_after}
use Rattle.py_frames.specs.Expr_parts.{comp_begun, name_value}
use Rattle.py_frames.specs.Expr_frames.{items_of, items_made, pairs_of, links_of, operand_place, first_operand, chosen}
use Rattle.py_frames.specs.Walk_frames.{comp_in, with_comp, source_of, comp_over}
use Rattle.py_frames.specs.Frames.{GoesOn, within}
use Rattle.py_frames.proofs.BeginLaws.{stop_goes, give_goes}
use Rattle.py_frames.proofs.ExprLaws.{same_total}
use Rattle.py_frames.proofs.ExprGoes.{seen_as}
use Rattle.py_frames.proofs.ExprBegins.{same_meant}

-- ---- values

pub number_begins : (fns : Functions) (frozen : Made) (x : Going) (budget : ℕ) (p : Place) (n : ℕ) (t : Tree) (v : Val) → t ≡ Number p n → v ≡ val.Int (pos n) → GoesOn fns frozen (Ok (Came (got.Value v))) x x budget (λ k. value_after k Plain t)
number_begins fns frozen x budget p n t v e f = seen_as fns frozen (Ok (Came (got.Value v))) x x budget t (Number p n) e
    (let Q : Val → Type 0 = λ z. GoesOn fns frozen (Ok (Came (got.Value v))) x x budget (λ k. give z) in subst Q f (give_goes fns frozen x budget v))

pub constant_begins : (fns : Functions) (frozen : Made) (x : Going) (budget : ℕ) (p : Place) (c : Constant) (t : Tree) (v : Val) → t ≡ Constant_value p c → v ≡ constant_val c → GoesOn fns frozen (Ok (Came (got.Value v))) x x budget (λ k. value_after k Plain t)
constant_begins fns frozen x budget p c t v e f = seen_as fns frozen (Ok (Came (got.Value v))) x x budget t (Constant_value p c) e
    (let Q : Val → Type 0 = λ z. GoesOn fns frozen (Ok (Came (got.Value v))) x x budget (λ k. give z) in subst Q f (give_goes fns frozen x budget v))

pub decimal_some : (fns : Functions) (frozen : Made) (x : Going) (budget : ℕ) (p : Place) (d : Decimal) (t : Tree) (m : ℕ) → t ≡ Decimal_time p d → Some m ≡ decimal_time d → GoesOn fns frozen (Ok (Came (got.Value (val.Time m)))) x x budget (λ k. value_after k Plain t)
decimal_some fns frozen x budget p d t m e f = seen_as fns frozen (Ok (Came (got.Value (val.Time m)))) x x budget t (Decimal_time p d) e
    (let Q : Option ℕ → Type 0 = λ z. GoesOn fns frozen (Ok (Came (got.Value (val.Time m)))) x x budget (λ k. with_value (option_map val.Time z) p give) in subst Q f (give_goes fns frozen x budget (val.Time m)))

pub decimal_none : (fns : Functions) (frozen : Made) (x : Going) (budget : ℕ) (p : Place) (d : Decimal) (t : Tree) → t ≡ Decimal_time p d → None ≡ decimal_time d → GoesOn fns frozen (Err (Stopped (record { cause = cause.Raised; place = p }))) x x budget (λ k. value_after k Plain t)
decimal_none fns frozen x budget p d t e f = seen_as fns frozen (Err (Stopped (record { cause = cause.Raised; place = p }))) x x budget t (Decimal_time p d) e
    (let Q : Option ℕ → Type 0 = λ z. GoesOn fns frozen (Err (Stopped (record { cause = cause.Raised; place = p }))) x x budget (λ k. with_value (option_map val.Time z) p give) in subst Q f (stop_goes fns frozen x budget cause.Raised p))

pub quotient_some : (fns : Functions) (frozen : Made) (x : Going) (budget : ℕ) (p : Place) (n : ℕ) (a : Amount) (t : Tree) (m : ℕ) → t ≡ Quotient p n a → Some m ≡ divided_time n a → GoesOn fns frozen (Ok (Came (got.Value (val.Time m)))) x x budget (λ k. value_after k Plain t)
quotient_some fns frozen x budget p n a t m e f = seen_as fns frozen (Ok (Came (got.Value (val.Time m)))) x x budget t (Quotient p n a) e
    (let Q : Option ℕ → Type 0 = λ z. GoesOn fns frozen (Ok (Came (got.Value (val.Time m)))) x x budget (λ k. with_value (option_map val.Time z) p give) in subst Q f (give_goes fns frozen x budget (val.Time m)))

pub quotient_none : (fns : Functions) (frozen : Made) (x : Going) (budget : ℕ) (p : Place) (n : ℕ) (a : Amount) (t : Tree) → t ≡ Quotient p n a → None ≡ divided_time n a → GoesOn fns frozen (Err (Stopped (record { cause = cause.Raised; place = p }))) x x budget (λ k. value_after k Plain t)
quotient_none fns frozen x budget p n a t e f = seen_as fns frozen (Err (Stopped (record { cause = cause.Raised; place = p }))) x x budget t (Quotient p n a) e
    (let Q : Option ℕ → Type 0 = λ z. GoesOn fns frozen (Err (Stopped (record { cause = cause.Raised; place = p }))) x x budget (λ k. with_value (option_map val.Time z) p give) in subst Q f (stop_goes fns frozen x budget cause.Raised p))

pub name_begins : (fns : Functions) (frozen : Made) (r : Result Now Halt) (x y : Going) (budget : ℕ) (p : Place) (n : List ℕ) (t : Tree) → t ≡ Name p n → GoesOn fns frozen r x y budget (λ k. read k n p) → GoesOn fns frozen r x y budget (λ k. value_after k Plain t)
name_begins fns frozen r x y budget p n t e h = seen_as fns frozen r x y budget t (Name p n) e h

pub text_begins : (fns : Functions) (frozen : Made) (r : Result Now Halt) (x y : Going) (budget : ℕ) (p : Place) (n : List ℕ) (t : Tree) → t ≡ Str p n → GoesOn fns frozen r x y budget (λ k. text_literal k n p) → GoesOn fns frozen r x y budget (λ k. value_after k Plain t)
text_begins fns frozen r x y budget p n t e h = seen_as fns frozen r x y budget t (Str p n) e h

pub format_begins : (fns : Functions) (frozen : Made) (r : Result Now Halt) (x y : Going) (budget : ℕ) (p : Place) (ps : List Piece) (t : Tree) → t ≡ Format p ps → GoesOn fns frozen r x y budget (λ k. pieces_shown k [] ps p) → GoesOn fns frozen r x y budget (λ k. value_after k Plain t)
format_begins fns frozen r x y budget p ps t e h = seen_as fns frozen r x y budget t (Format p ps) e h

-- ---- displays

pub tuple_begins : (fns : Functions) (frozen : Made) (r : Result Now Halt) (x y : Going) (budget : ℕ) (p : Place) (ts : Trees) (t : Tree) (node : Expr) (vals : List Val) → t ≡ Tuple p ts → tree node ≡ t → vals ≡ [] → GoesOn fns frozen r x y budget (λ k. values_then k vals (trees_from 0 (items_of (tree node))) (items_made k (tree node))) → GoesOn fns frozen r x y budget (λ k. value_after k Plain t)
tuple_begins fns frozen r x y budget p ts t node vals e1 e2 e3 h =
    let Q : List Val → Type 0 = λ z. GoesOn fns frozen r x y budget (λ k. values_then k z (trees_from 0 (items_of (tree node))) (items_made k (tree node))) in
    same_meant fns frozen r x y budget (λ z k. values_then k [] (trees_from 0 (items_of z)) (items_made k z)) (λ z k. value_after k Plain z) (Tuple p ts) t (tree node) e1 e2 refl (subst Q e3 h)

pub display_begins : (fns : Functions) (frozen : Made) (r : Result Now Halt) (x y : Going) (budget : ℕ) (p : Place) (ts : Trees) (t : Tree) (node : Expr) (vals : List Val) → t ≡ Display p ts → tree node ≡ t → vals ≡ [] → GoesOn fns frozen r x y budget (λ k. values_then k vals (trees_from 0 (items_of (tree node))) (items_made k (tree node))) → GoesOn fns frozen r x y budget (λ k. value_after k Plain t)
display_begins fns frozen r x y budget p ts t node vals e1 e2 e3 h =
    let Q : List Val → Type 0 = λ z. GoesOn fns frozen r x y budget (λ k. values_then k z (trees_from 0 (items_of (tree node))) (items_made k (tree node))) in
    same_meant fns frozen r x y budget (λ z k. values_then k [] (trees_from 0 (items_of z)) (items_made k z)) (λ z k. value_after k Plain z) (Display p ts) t (tree node) e1 e2 refl (subst Q e3 h)

pub dict_begins : (fns : Functions) (frozen : Made) (r : Result Now Halt) (x y : Going) (budget : ℕ) (p : Place) (ps : Pairs) (t : Tree) (node : Expr) (row : List Val) → t ≡ Dict p ps → tree node ≡ t → row ≡ [] → GoesOn fns frozen r x y budget (λ k. pairs_then k row (pairs_from 0 (pairs_of (tree node))) (dict_made k (place_of (tree node)))) → GoesOn fns frozen r x y budget (λ k. value_after k Plain t)
dict_begins fns frozen r x y budget p ps t node row e1 e2 e3 h =
    let Q : List Val → Type 0 = λ z. GoesOn fns frozen r x y budget (λ k. pairs_then k z (pairs_from 0 (pairs_of (tree node))) (dict_made k (place_of (tree node)))) in
    same_meant fns frozen r x y budget (λ z k. pairs_then k [] (pairs_from 0 (pairs_of z)) (dict_made k (place_of z))) (λ z k. value_after k Plain z) (Dict p ps) t (tree node) e1 e2 refl (subst Q e3 h)

abbrev comp_meant : Known → Tree → Doing
comp_meant k t = with_comp (comp_in t None) (λ c. value_of k Plain (source_of c.source) >>= (λ v. as_row k v c.place >>= (λ row. comp_over k c row)))

pub list_of_begins : (fns : Functions) (frozen : Made) (r : Result Now Halt) (x y : Going) (budget : ℕ) (p : Place) (a : Tree) (c : Each) (t : Tree) (node : Expr) → t ≡ ListOf p a c → tree node ≡ t → GoesOn fns frozen r x y budget (λ k. comp_begun k (record { node = node; trailer = None })) → GoesOn fns frozen r x y budget (λ k. value_after k Plain t)
list_of_begins fns frozen r x y budget p a (each targets source condition) t node e1 e2 h =
    let Q : Tree → Type 0 = λ z. GoesOn fns frozen r x y budget (λ k. comp_meant k z) in
    seen_as fns frozen r x y budget t (ListOf p a (each targets source condition)) e1 (subst Q (e2 ∙ e1) h)

pub dict_of_begins : (fns : Functions) (frozen : Made) (r : Result Now Halt) (x y : Going) (budget : ℕ) (p : Place) (a b : Tree) (c : Each) (t : Tree) (node : Expr) → t ≡ DictOf p a b c → tree node ≡ t → GoesOn fns frozen r x y budget (λ k. comp_begun k (record { node = node; trailer = None })) → GoesOn fns frozen r x y budget (λ k. value_after k Plain t)
dict_of_begins fns frozen r x y budget p a b (each targets source condition) t node e1 e2 h =
    let Q : Tree → Type 0 = λ z. GoesOn fns frozen r x y budget (λ k. comp_meant k z) in
    seen_as fns frozen r x y budget t (DictOf p a b (each targets source condition)) e1 (subst Q (e2 ∙ e1) h)

-- ---- operators

pub unary_begins : (fns : Functions) (frozen : Made) (r : Result Now Halt) (x y : Going) (budget : ℕ) (p : Place) (s : Sign) (a t : Tree) (o : PyOp) → t ≡ Unary p s a → o ≡ prefix_of s → GoesOn fns frozen r x y budget (within (frame.Expr (expr.Single o p)) (λ k. value_of k Plain a)) → GoesOn fns frozen r x y budget (λ k. value_after k Plain t)
unary_begins fns frozen r x y budget p s a t o e f h =
    let Q : PyOp → Type 0 = λ z. GoesOn fns frozen r x y budget (within (frame.Expr (expr.Single z p)) (λ k. value_of k Plain a)) in
    seen_as fns frozen r x y budget t (Unary p s a) e (subst Q f h)

pub not_begins : (fns : Functions) (frozen : Made) (r : Result Now Halt) (x y : Going) (budget : ℕ) (p : Place) (a t : Tree) → t ≡ Not p a → GoesOn fns frozen r x y budget (within (frame.Expr (expr.Single op.Not p)) (λ k. value_of k Plain a)) → GoesOn fns frozen r x y budget (λ k. value_after k Plain t)
not_begins fns frozen r x y budget p a t e h = seen_as fns frozen r x y budget t (Not p a) e h

pub binary_begins : (fns : Functions) (frozen : Made) (r : Result Now Halt) (x y : Going) (budget : ℕ) (p : Place) (a : Tree) (ls : Links) (t : Tree) (node : Expr) → t ≡ Binary p a ls → tree node ≡ t → GoesOn fns frozen r x y budget (within (frame.Expr (expr.Linked node 0)) (λ k. value_of k Plain a)) → GoesOn fns frozen r x y budget (λ k. value_after k Plain t)
binary_begins fns frozen r x y budget p a ls t node e1 e2 h =
    same_meant fns frozen r x y budget (λ z k w s. after (value_of k Plain a w s) (λ g. on_value g (λ v. linked k (place_of z) (links_from 0 (links_of z)) v) w)) (λ z k. value_after k Plain z) (Binary p a ls) t (tree node) e1 e2 refl h

pub compare_begins : (fns : Functions) (frozen : Made) (r : Result Now Halt) (x y : Going) (budget : ℕ) (p : Place) (a : Tree) (ls : Links) (t : Tree) (node : Expr) → t ≡ Compare p a ls → tree node ≡ t → GoesOn fns frozen r x y budget (within (frame.Expr (expr.Compared node 0)) (λ k. value_of k Plain a)) → GoesOn fns frozen r x y budget (λ k. value_after k Plain t)
compare_begins fns frozen r x y budget p a ls t node e1 e2 h =
    same_meant fns frozen r x y budget (λ z k w s. after (value_of k Plain a w s) (λ g. on_value g (λ v. compared k (place_of z) (links_from 0 (links_of z)) v) w)) (λ z k. value_after k Plain z) (Compare p a ls) t (tree node) e1 e2 refl h

pub boolean_begins : (fns : Functions) (frozen : Made) (r : Result Now Halt) (x y : Going) (budget : ℕ) (p : Place) (a : Tree) (ls : Links) (t : Tree) (node : Expr) → t ≡ Boolean p a ls → tree node ≡ t → GoesOn fns frozen r x y budget (within (frame.Expr (expr.Joined node 0)) (λ k. value_of k Plain a)) → GoesOn fns frozen r x y budget (λ k. value_after k Plain t)
boolean_begins fns frozen r x y budget p a ls t node e1 e2 h =
    same_meant fns frozen r x y budget (λ z k w s. after (value_of k Plain a w s) (λ g. on_value g (λ v. joined k (operand_place 0 (first_operand z) (links_of z)) (links_from 0 (links_of z)) v) w)) (λ z k. value_after k Plain z) (Boolean p a ls) t (tree node) e1 e2 refl h

pub choice_begins : (fns : Functions) (frozen : Made) (r : Result Now Halt) (x y : Going) (budget : ℕ) (p : Place) (b a c : Tree) (t : Tree) (node : Expr) → t ≡ Choice p b a c → tree node ≡ t → GoesOn fns frozen r x y budget (within (frame.Expr (expr.Chosen node)) (λ k. value_of k Plain a)) → GoesOn fns frozen r x y budget (λ k. value_after k Plain t)
choice_begins fns frozen r x y budget p b a c t node e1 e2 h =
    same_meant fns frozen r x y budget (λ z k w s. after (value_of k Plain a w s) (λ g. on_value g (λ v. chosen k z v) w)) (λ z k. value_after k Plain z) (Choice p b a c) t (tree node) e1 e2 refl h

-- ---- names

pub read_by : (l : LookUp) (n : List ℕ) (p : Place) → read_as l n p ≡ with_value (name_value l n) p give
read_by (lookup.Found v) n p = refl
read_by lookup.Unbound n p = refl
read_by lookup.Nowhere n p = refl

read_value : (fns : Functions) (frozen : Made) (r : Result Now Halt) (x y : Going) (budget : ℕ) (n : List ℕ) (p : Place) (o : Option Val) → o ≡ name_value (look_up (seen frozen x.state.heap) x.state.here.scope.0 n) n → GoesOn fns frozen r x y budget (λ k. with_value o p give) → GoesOn fns frozen r x y budget (λ k. read k n p)
read_value fns frozen r x y budget n p o e h =
    let l : LookUp = look_up (seen frozen x.state.heap) x.state.here.scope.0 n in
    same_total fns frozen r x y budget (λ k. with_value o p give) (λ k. read k n p)
    (λ w. ap (λ (z : Option Val). with_value z p give w x.state) e ∙ ap (λ (d : Doing). d w x.state) (sym (read_by l n p))) h

pub read_found : (fns : Functions) (frozen : Made) (x : Going) (budget : ℕ) (n : List ℕ) (p : Place) (v : Val) → Some v ≡ name_value (look_up (seen frozen x.state.heap) x.state.here.scope.0 n) n → GoesOn fns frozen (Ok (Came (got.Value v))) x x budget (λ k. read k n p)
read_found fns frozen x budget n p v e = read_value fns frozen (Ok (Came (got.Value v))) x x budget n p (Some v) e (give_goes fns frozen x budget v)

pub read_none : (fns : Functions) (frozen : Made) (x : Going) (budget : ℕ) (n : List ℕ) (p : Place) → None ≡ name_value (look_up (seen frozen x.state.heap) x.state.here.scope.0 n) n → GoesOn fns frozen (Err (Stopped (record { cause = cause.Raised; place = p }))) x x budget (λ k. read k n p)
read_none fns frozen x budget n p e = read_value fns frozen (Err (Stopped (record { cause = cause.Raised; place = p }))) x x budget n p None e (stop_goes fns frozen x budget cause.Raised p)
