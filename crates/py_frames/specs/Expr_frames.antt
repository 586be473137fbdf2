-- How the frames of expressions go on, in the words of the meaning of expressions.
-- Internal: no rule of the language.
use Rattle.std.specs.Prelude.{ℕ, zero, suc, List, [], ◌∷◌, ◌++◌, drop}
use Rattle.amh_host.specs.declared.place.Place.{Place}
use Rattle.py_tree.specs.Seen.{tree}
use Rattle.py_tree.specs.Tree.{Tree, Tuple, Display, Dict, Power, Binary, Compare, Boolean, Choice, Trees, none, Links, no_link, link, Pairs, no_pair, pair}
use Rattle.py_values.specs.declared.val.Val.{Val}
use Rattle.py_values.specs.declared.val.Val.TheVariants as val
use Rattle.py_values.specs.declared.op.PyOp.TheVariants as op
use Rattle.py_heap.specs.Places.{new_tuple}
use Rattle.py_frames.specs.declared.request.Cause.TheVariants.{Raised}
use Rattle.py_frames.specs.declared.frame.Purpose.TheVariants.{Plain}
use Rattle.py_frames.specs.declared.frame.ExprFrame.{ExprFrame}
use Rattle.py_frames.specs.declared.frame.ExprFrame.TheVariants as expr
use Rattle.py_frames.specs.Doing.{Doing, Known, heap_seen, ◌>>=◌, give, stop, choose, making, spend}
use Rattle.py_frames.specs.Parts.{operator_of, place_of, trees_from, links_from, pairs_from}
use Rattle.py_frames.specs.Values.{truth_of, operated, related, sought, turned}
use Rattle.py_frames.specs.Expressions.{value_of, values_then, pairs_then, linked, compared, joined, where_more, list_made, dict_made}

-- ---- items of displays

abbrev pub items_of : Tree → Trees
items_of (Tuple p ts) = ts
items_of (Display p ts) = ts
items_of t = none

-- what a tuple or a display makes of its items
abbrev pub items_made : Known → Tree → List Val → Doing
items_made k (Tuple p ts) vs = making (λ s. new_tuple (heap_seen k s) vs) p give
items_made k t vs = list_made k (place_of t) vs

abbrev pub pairs_of : Tree → Pairs
pairs_of (Dict p ps) = ps
pairs_of t = no_pair

-- behind a key: its value, and then the other pairs
abbrev pub value_and_pairs : Known → List Val → Pairs → Val → (List Val → Doing) → Doing
value_and_pairs k row no_pair x f = f row
value_and_pairs k row (pair a b ps) x f = do
  y ← value_of k Plain b
  pairs_then k (row ++ x ∷ y ∷ []) ps f

-- ---- operands of chains

abbrev pub links_of : Tree → Links
links_of (Binary p t ls) = ls
links_of (Compare p t ls) = ls
links_of (Boolean p t ls) = ls
links_of t = no_link

-- the place of the operand before the link of this number
abbrev pub operand_place : ℕ → Place → Links → Place
operand_place zero p ls = p
operand_place (suc n) p no_link = p
operand_place (suc n) p (link o t ls) = operand_place n (place_of t) ls

abbrev pub first_operand : Tree → Place
first_operand (Boolean p t ls) = place_of t
first_operand t = place_of t

abbrev pub exponent_of : Known → Tree → Val → Doing
exponent_of k (Power p a b) x = do
  y ← value_of k Plain b
  operated k op.Pow x y p
exponent_of k t x = stop Raised (place_of t)

abbrev pub chosen : Known → Tree → Val → Doing
chosen k (Choice p a t b) x = truth_of k x (place_of t) (λ c. choose c (value_of k Plain a) (value_of k Plain b))
chosen k t x = stop Raised (place_of t)

-- what a comparison gave, before the links behind it
abbrev pub decided : Known → Place → Links → Val → Val → Doing
decided k p ls y z = where_more ls (give z) (truth_of k z p (λ b. choose b (spend p (compared k p ls y)) (give z)))

-- the comparison of a link, whose left operand is known and whose right operand has come
abbrev pub comparing : Known → Place → Links → Val → Val → Doing
comparing k p no_link x y = give x
comparing k p (link o t ls) x y = do
  z ← related k (operator_of o) x y p
  decided k p ls y z

-- how a frame goes on with the value that it waits for
abbrev pub expr_goes : Known → ExprFrame → Val → Doing
expr_goes k (expr.Items node n vals) v = values_then k (vals ++ v ∷ []) (trees_from n (items_of (tree node))) (items_made k (tree node))
expr_goes k (expr.Key node n row) v = value_and_pairs k row (pairs_from n (pairs_of (tree node))) v (dict_made k (place_of (tree node)))
expr_goes k (expr.PairValue node n row x) v = pairs_then k (row ++ x ∷ v ∷ []) (pairs_from (suc n) (pairs_of (tree node))) (dict_made k (place_of (tree node)))
expr_goes k (expr.Base node) v = exponent_of k (tree node) v
expr_goes k (expr.Right o x p) v = operated k o x v p
expr_goes k (expr.Single o p) v = turned k o v p
expr_goes k (expr.Linked node n) v = linked k (place_of (tree node)) (links_from n (links_of (tree node))) v
expr_goes k (expr.Compared node n) v = compared k (place_of (tree node)) (links_from n (links_of (tree node))) v
expr_goes k (expr.Comparing node n x) v = comparing k (place_of (tree node)) (links_from n (links_of (tree node))) x v
expr_goes k (expr.Decided node n y) v = decided k (place_of (tree node)) (links_from (suc n) (links_of (tree node))) y v
expr_goes k (expr.Seeking sign a row n p) v = truth_of k v p (λ found. choose found (give (val.Bool sign)) (sought k sign a (drop n row) p))
expr_goes k (expr.Joined node n) v = joined k (operand_place n (first_operand (tree node)) (links_of (tree node))) (links_from n (links_of (tree node))) v
expr_goes k (expr.Chosen node) v = chosen k (tree node) v
