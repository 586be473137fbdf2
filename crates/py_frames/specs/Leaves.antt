-- Parts that are there at once: no frame waits for them, and nothing is made in the heap. A number, a constant, and a name
-- that has a value; an operator between two such parts that are integers, an attribute that such an object has itself, and
-- the item of such a list or tuple.
-- Internal: no rule of the language.
use Rattle.std.specs.Prelude.{◌≡◌, ℕ, ◌+◌, ◌<◌, pos, List, Option, Some, None}
use Rattle.py_tree.specs.declared.expr.Operator.{Operator}
use Rattle.py_tree.specs.Tree.{Tree, Name, Number, Constant_value, Trailed, Binary, Compare, Links, no_link, link, Trailers, no_trailer, trailer, Trailer, Attribute, Index}
use Rattle.py_heap.specs.Heaps.{Seen, row_at}
use Rattle.py_heap.specs.Names.{look_up}
use Rattle.py_heap.specs.Objects.{attributes, attribute_in}
use Rattle.py_builtins.specs.At_once.{integers_operated, item_at}
use Rattle.py_values.specs.declared.val.Val.{Val}
use Rattle.py_values.specs.declared.val.Val.TheVariants as val
use Rattle.py_frames.specs.declared.leaf.Priced.{Priced}
use Rattle.py_frames.specs.Parts.{operator_of}
use Rattle.py_frames.specs.Expressions.{constant_val}
use Rattle.py_frames.specs.Expr_parts.{name_value}

-- the value of a number, a constant or a name, in a heap and a scope of it
abbrev pub leaf_value : Seen → ℕ → Tree → Option Val
leaf_value heap scope (Number p n) = Some (val.Int (pos n))
leaf_value heap scope (Constant_value p c) = Some (constant_val c)
leaf_value heap scope (Name p n) = name_value (look_up heap scope n) n
leaf_value heap scope t = None

-- a value, where there is one, and so many units
abbrev pub at_cost : ℕ → Option Val → Option Priced
at_cost n None = None
at_cost n (Some v) = Some (record { val = v; cost = n })

-- what is made of one part that is there, or of two
abbrev pub of_one : (Priced → Option Priced) → Option Priced → Option Priced
of_one f None = None
of_one f (Some a) = f a

abbrev pub of_both : (Priced → Priced → Option Priced) → Option Priced → Option Priced → Option Priced
of_both f None b = None
of_both f (Some a) None = None
of_both f (Some a) (Some b) = f a b

-- each costs a unit besides its parts
abbrev pub joined : Operator → Priced → Priced → Option Priced
joined o a b = at_cost (1 + a.cost + b.cost) (integers_operated (operator_of o) a.val b.val)

abbrev pub item_of : Seen → Priced → Priced → Option Priced
item_of heap a i = at_cost (1 + a.cost + i.cost) (item_at heap a.val i.val)

abbrev pub own_attribute : Seen → List ℕ → Val → Option Val
own_attribute heap name (val.Object o) = attribute_in heap name (attributes (row_at heap o.0))
own_attribute heap name _ = None

abbrev pub attribute_of : Seen → List ℕ → Priced → Option Priced
attribute_of heap name a = at_cost (1 + a.cost) (own_attribute heap name a.val)

abbrev pub if_last_link : Links → Option Priced → Option Priced
if_last_link no_link x = x
if_last_link (link o t ls) x = None

abbrev pub if_last_trailer : Trailers → Option Priced → Option Priced
if_last_trailer no_trailer x = x
if_last_trailer (trailer g ts) x = None

abbrev mutual
  -- the value of a part that is there at once, and what it costs
  pub at_once : Seen → ℕ → Tree → Option Priced
  at_once heap scope (Binary p t ls) = link_at_once heap scope ls (at_once heap scope t)
  at_once heap scope (Compare p t ls) = link_at_once heap scope ls (at_once heap scope t)
  at_once heap scope (Trailed p t ts) = trailers_at_once heap scope ts (at_once heap scope t)
  at_once heap scope t = at_cost 1 (leaf_value heap scope t)

  pub link_at_once : Seen → ℕ → Links → Option Priced → Option Priced
  link_at_once heap scope no_link a = None
  link_at_once heap scope (link o t ls) a = if_last_link ls (of_both (joined o) a (at_once heap scope t))

  pub trailers_at_once : Seen → ℕ → Trailers → Option Priced → Option Priced
  trailers_at_once heap scope no_trailer a = None
  trailers_at_once heap scope (trailer g ts) a = if_last_trailer ts (trailer_at_once heap scope g a)

  pub trailer_at_once : Seen → ℕ → Trailer → Option Priced → Option Priced
  trailer_at_once heap scope (Attribute n) a = of_one (attribute_of heap n) a
  trailer_at_once heap scope (Index t) a = of_both (item_of heap) a (at_once heap scope t)
  trailer_at_once heap scope g a = None
