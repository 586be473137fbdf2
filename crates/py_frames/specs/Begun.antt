-- A node's units, and what it means once they are spent.
-- Internal: no rule of the language.
use Rattle.std.specs.Prelude.{◌≡◌, ℕ, ◌+◌, ◌<◌, ◌≤◌, [], pos, option_map, Result, Ok, Err}
use Rattle.amh_host.specs.declared.place.Place.{Place}
use Rattle.py_tree.specs.Tree.{Tree, Name, Number, Decimal_time, Quotient, Str, Format, Constant_value, Tuple, Display, Dict, ListOf, DictOf, Trailed, Await, Power, Unary, Not, Binary, Compare, Boolean, Choice}
use Rattle.py_values.specs.declared.val.Val.TheVariants as val
use Rattle.py_values.specs.declared.op.PyOp.TheVariants as op
use Rattle.py_heap.specs.Places.{new_tuple}
use Rattle.py_frames.specs.declared.request.Cause.TheVariants.{Spent}
use Rattle.py_frames.specs.declared.state.Halt.{Halt}
use Rattle.py_frames.specs.declared.state.Halt.TheVariants.{Asks, Stopped, NoMemory}
use Rattle.py_frames.specs.declared.going.Going.{Going}
use Rattle.py_frames.specs.declared.frame.Purpose.{Purpose}
use Rattle.py_frames.specs.declared.frame.Purpose.TheVariants.{Plain, Awaited}
use Rattle.py_frames.specs.Doing.{Doing, Known, heap_seen, ◌>>=◌, give, choose, with_value, making}
use Rattle.py_frames.specs.Times.{decimal_time, divided_time}
use Rattle.py_frames.specs.Parts.{prefix_of, place_of, link_count, trailer_count}
use Rattle.py_frames.specs.Values.{read, truth_of, operated, turned}
use Rattle.py_frames.specs.Expressions.{constant_val, text_literal, pieces_shown, value_of, values_then, pairs_then, linked, compared, joined, trailed, made_of, one_more, two_more, list_made, dict_made, is_a_call, awaited}

-- how many units a node spends where it begins
abbrev pub cost_of : Tree → ℕ
cost_of (Trailed p t ts) = trailer_count ts
cost_of (Binary p t ls) = link_count ls
cost_of (Boolean p t ls) = link_count ls
cost_of t = 1

-- what a node means, its units spent
abbrev pub value_after : Known → Purpose → Tree → Doing
value_after k u (Name p n) = read k n p
value_after k u (Number p n) = give (val.Int (pos n))
value_after k u (Decimal_time p d) = with_value (option_map val.Time (decimal_time d)) p give
value_after k u (Quotient p n a) = with_value (option_map val.Time (divided_time n a)) p give
value_after k u (Str p text) = text_literal k text p
value_after k u (Format p ps) = pieces_shown k [] ps p
value_after k u (Constant_value p c) = give (constant_val c)
value_after k u (Tuple p ts) = values_then k [] ts (λ vs. making (λ s. new_tuple (heap_seen k s) vs) p give)
value_after k u (Display p ts) = values_then k [] ts (list_made k p)
value_after k u (Dict p ps) = pairs_then k [] ps (dict_made k p)
value_after k u (ListOf p t c) = made_of k p c (one_more (value_of k Plain t)) (list_made k p)
value_after k u (DictOf p a b c) = made_of k p c (two_more p (value_of k Plain a) (value_of k Plain b)) (dict_made k p)
value_after k u (Trailed p t ts) = do
  x ← value_of k Plain t
  trailed k u p ts x
value_after k u (Await p t) = choose (is_a_call t)
    (value_of k (Awaited p) t)
    (do
      x ← value_of k Plain t
      awaited k x p)
value_after k u (Power p a b) = do
  x ← value_of k Plain a
  y ← value_of k Plain b
  operated k op.Pow x y p
value_after k u (Unary p o t) = do
  x ← value_of k Plain t
  turned k (prefix_of o) x p
value_after k u (Not p t) = do
  x ← value_of k Plain t
  turned k op.Not x p
value_after k u (Binary p t ls) = do
  x ← value_of k Plain t
  linked k p ls x
value_after k u (Compare p t ls) = do
  x ← value_of k Plain t
  compared k p ls x
value_after k u (Boolean p t ls) = do
  x ← value_of k Plain t
  joined k (place_of t) ls x
value_after k u (Choice p a t b) = do
  x ← value_of k Plain t
  truth_of k x (place_of t) (λ c. choose c (value_of k Plain a) (value_of k Plain b))

-- what a call that spends units does: it changes the count of units alone
abbrev pub Spends : Result (Unit {0}) Halt → ℕ → Place → Going → Going → ℕ → Type 0
Spends (Ok x) n place before behind budget = (behind ≡ record before { state = record before.state { used = before.state.used + n } }) × (before.state.used + n < budget)
Spends (Err (Stopped stop)) n place before behind budget =
    (stop ≡ record { cause = Spent; place = place }) × (behind ≡ record before { state = record before.state { used = budget } }) × (budget ≤ before.state.used + n)
Spends (Err (Asks r)) n place before behind budget = ⊥
Spends (Err NoMemory) n place before behind budget = ⊥
