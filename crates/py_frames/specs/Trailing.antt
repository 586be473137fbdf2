-- Words for the steps along what trails a primary.
-- Internal: no rule of the language.
use Rattle.std.specs.Prelude.{Bool, Option, Some, None}
use Rattle.amh_host.specs.declared.place.Place.{Place}
use Rattle.py_tree.specs.Tree.{Tree, Trailers, no_trailer, trailer, Trailer, Arguments, no_argument, argument, Argument, Positional, Starred, Keyword}
use Rattle.py_values.specs.declared.val.Val.{Val}
use Rattle.py_frames.specs.declared.frame.Purpose.TheVariants.{Plain}
use Rattle.py_frames.specs.Doing.{Doing, Known, ◌>>=◌}
use Rattle.py_frames.specs.Values.{indexed, store_index}
use Rattle.py_frames.specs.Expressions.{value_of, is_call}

abbrev pub first_trailer : Trailers → Option Trailer
first_trailer no_trailer = None
first_trailer (trailer t ts) = Some t

abbrev pub first_argument : Arguments → Option Argument
first_argument no_argument = None
first_argument (argument g gs) = Some g

abbrev pub argument_tree : Argument → Tree
argument_tree (Positional t) = t
argument_tree (Starred t) = t
argument_tree (Keyword n t) = t

-- whether the last of them is a call, where the one before them is or is not
abbrev pub ended : Bool → Trailers → Bool
ended b no_trailer = b
ended b (trailer t ts) = ended (is_call t) ts

-- the index of a value
abbrev pub index_given : Known → Tree → Val → Place → Doing
index_given k t x p = do
  i ← value_of k Plain t
  indexed k x i p

-- a value is stored under an index
abbrev pub item_stored : Known → Tree → Val → Val → Place → Doing
item_stored k t x v p = do
  i ← value_of k Plain t
  store_index k x i v p
