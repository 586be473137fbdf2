-- Private names in expressions.
-- Source: Python reference 6.2.1, Identifiers (Names), "Private name mangling".
use Rattle.std.specs.Prelude.{ℕ, List, map}
use Rattle.py_tree.specs.declared.name.Piece.{Piece}
use Rattle.py_tree.specs.declared.name.Piece.TheVariants as piece
use Rattle.py_tree.specs.Tree.{Tree, Name, Number, Decimal_time, Quotient, Str, Format, Constant_value, Tuple, Display, Dict, ListOf, DictOf, Trailed, Await, Power, Unary, Not, Binary, Compare, Boolean, Choice, Each, each, Trailer, Attribute, Call, CallOf, Index, Slice, Argument, Positional, Starred, Keyword, Trees, none, some, Links, no_link, link, Pairs, no_pair, pair, Perhaps, absent, present, Trailers, no_trailer, trailer, Arguments, no_argument, argument}
use Rattle.private_names.specs.Names.{mangled_name}

-- the names that a format string shows are names as others
abbrev pub mangled_piece : List ℕ → Piece → Piece
mangled_piece class (piece.Text text) = piece.Text text
mangled_piece class (piece.Hole name) = piece.Hole (mangled_name class name)

-- an expression within a class: names that are read or bound and attributes, but neither strings nor the keywords of
-- arguments
abbrev mutual
  pub mangled_tree : List ℕ → Tree → Tree
  mangled_tree class (Name p name) = Name p (mangled_name class name)
  mangled_tree class (Number p n) = Number p n
  mangled_tree class (Decimal_time p d) = Decimal_time p d
  mangled_tree class (Quotient p n d) = Quotient p n d
  mangled_tree class (Str p text) = Str p text
  mangled_tree class (Format p pieces) = Format p (map (mangled_piece class) pieces)
  mangled_tree class (Constant_value p c) = Constant_value p c
  mangled_tree class (Tuple p es) = Tuple p (mangled_trees class es)
  mangled_tree class (Display p es) = Display p (mangled_trees class es)
  mangled_tree class (Dict p ps) = Dict p (mangled_pairs class ps)
  mangled_tree class (ListOf p e c) = ListOf p (mangled_tree class e) (mangled_each class c)
  mangled_tree class (DictOf p key value c) = DictOf p (mangled_tree class key) (mangled_tree class value) (mangled_each class c)
  mangled_tree class (Trailed p e ts) = Trailed p (mangled_tree class e) (mangled_trailers class ts)
  mangled_tree class (Await p e) = Await p (mangled_tree class e)
  mangled_tree class (Power p a b) = Power p (mangled_tree class a) (mangled_tree class b)
  mangled_tree class (Unary p sign e) = Unary p sign (mangled_tree class e)
  mangled_tree class (Not p e) = Not p (mangled_tree class e)
  mangled_tree class (Binary p e ls) = Binary p (mangled_tree class e) (mangled_links class ls)
  mangled_tree class (Compare p e ls) = Compare p (mangled_tree class e) (mangled_links class ls)
  mangled_tree class (Boolean p e ls) = Boolean p (mangled_tree class e) (mangled_links class ls)
  mangled_tree class (Choice p chosen test other) = Choice p (mangled_tree class chosen) (mangled_tree class test) (mangled_tree class other)

  pub mangled_trees : List ℕ → Trees → Trees
  mangled_trees class none = none
  mangled_trees class (some e es) = some (mangled_tree class e) (mangled_trees class es)

  pub mangled_links : List ℕ → Links → Links
  mangled_links class no_link = no_link
  mangled_links class (link o e ls) = link o (mangled_tree class e) (mangled_links class ls)

  pub mangled_pairs : List ℕ → Pairs → Pairs
  mangled_pairs class no_pair = no_pair
  mangled_pairs class (pair key value ps) = pair (mangled_tree class key) (mangled_tree class value) (mangled_pairs class ps)

  pub mangled_perhaps : List ℕ → Perhaps → Perhaps
  mangled_perhaps class absent = absent
  mangled_perhaps class (present e) = present (mangled_tree class e)

  pub mangled_each : List ℕ → Each → Each
  mangled_each class (each targets source condition) = each (mangled_tree class targets) (mangled_tree class source) (mangled_perhaps class condition)

  pub mangled_trailers : List ℕ → Trailers → Trailers
  mangled_trailers class no_trailer = no_trailer
  mangled_trailers class (trailer t ts) = trailer (mangled_trailer class t) (mangled_trailers class ts)

  pub mangled_trailer : List ℕ → Trailer → Trailer
  mangled_trailer class (Attribute name) = Attribute (mangled_name class name)
  mangled_trailer class (Call as_given) = Call (mangled_arguments class as_given)
  mangled_trailer class (CallOf e c) = CallOf (mangled_tree class e) (mangled_each class c)
  mangled_trailer class (Index e) = Index (mangled_tree class e)
  mangled_trailer class (Slice start stop step) = Slice (mangled_perhaps class start) (mangled_perhaps class stop) (mangled_perhaps class step)

  pub mangled_arguments : List ℕ → Arguments → Arguments
  mangled_arguments class no_argument = no_argument
  mangled_arguments class (argument a as_more) = argument (mangled_argument class a) (mangled_arguments class as_more)

  pub mangled_argument : List ℕ → Argument → Argument
  mangled_argument class (Positional e) = Positional (mangled_tree class e)
  mangled_argument class (Starred e) = Starred (mangled_tree class e)
  mangled_argument class (Keyword name e) = Keyword name (mangled_tree class e)
