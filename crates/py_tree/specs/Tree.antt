-- The tree of an expression, without where it lies in memory.
-- Source: Python reference 6, Expressions; times and chains as one node: own rule (docs/RULES.md).
use Rattle.std.specs.Prelude.{ℕ, List, [], ◌∷◌, Option, Some, None}
use Rattle.amh_host.specs.declared.place.Place.{Place}
use Rattle.py_tree.specs.declared.name.Piece.{Piece}
use Rattle.py_tree.specs.declared.number.Amount.{Amount}
use Rattle.py_tree.specs.declared.number.Decimal.{Decimal}
use Rattle.py_tree.specs.declared.expr.Constant.{Constant}
use Rattle.py_tree.specs.declared.expr.Operator.{Operator}
use Rattle.py_tree.specs.declared.expr.Sign.{Sign}

mutual
  -- an expression, with the place of its first token
  pub data Tree : Type 0 where
    Name : Place → List ℕ → Tree
    Number : Place → ℕ → Tree
    Decimal_time : Place → Decimal → Tree
    Quotient : Place → ℕ → Amount → Tree
    Str : Place → List ℕ → Tree
    Format : Place → List Piece → Tree
    Constant_value : Place → Constant → Tree
    Tuple : Place → Trees → Tree
    Display : Place → Trees → Tree
    Dict : Place → Pairs → Tree
    ListOf : Place → Tree → Each → Tree
    DictOf : Place → Tree → Tree → Each → Tree
    Trailed : Place → Tree → Trailers → Tree
    Await : Place → Tree → Tree
    Power : Place → Tree → Tree → Tree
    Unary : Place → Sign → Tree → Tree
    Not : Place → Tree → Tree
    Binary : Place → Tree → Links → Tree
    Compare : Place → Tree → Links → Tree
    Boolean : Place → Tree → Links → Tree
    Choice : Place → (chosen test other : Tree) → Tree

  -- expressions one after another
  pub data Trees : Type 0 where
    none : Trees
    some : Tree → Trees → Trees

  -- operators with the operand behind each
  pub data Links : Type 0 where
    no_link : Links
    link : Operator → Tree → Links → Links

  -- keys with the value of each
  pub data Pairs : Type 0 where
    no_pair : Pairs
    pair : (key value : Tree) → Pairs → Pairs

  -- an expression or none
  pub data Perhaps : Type 0 where
    absent : Perhaps
    present : Tree → Perhaps

  -- `for targets in source if condition`
  pub data Each : Type 0 where
    each : (targets source : Tree) → (condition : Perhaps) → Each

  -- what trails a primary
  pub data Trailers : Type 0 where
    no_trailer : Trailers
    trailer : Trailer → Trailers → Trailers

  -- one of them
  pub data Trailer : Type 0 where
    Attribute : List ℕ → Trailer
    Call : Arguments → Trailer
    CallOf : Tree → Each → Trailer
    Index : Tree → Trailer
    Slice : (start stop step : Perhaps) → Trailer

  -- the arguments of a call
  pub data Arguments : Type 0 where
    no_argument : Arguments
    argument : Argument → Arguments → Arguments

  -- one of them
  pub data Argument : Type 0 where
    Positional : Tree → Argument
    Starred : Tree → Argument
    Keyword : List ℕ → Tree → Argument

abbrev pub trees : List Tree → Trees
trees [] = none
trees (t ∷ ts) = some t (trees ts)

abbrev pub links : List (Operator × Tree) → Links
links [] = no_link
links (l ∷ ls) = link l.0 l.1 (links ls)

abbrev pub pairs : List (Tree × Tree) → Pairs
pairs [] = no_pair
pairs (p ∷ ps) = pair p.0 p.1 (pairs ps)

abbrev pub perhaps : Option Tree → Perhaps
perhaps None = absent
perhaps (Some t) = present t

abbrev pub trailers : List Trailer → Trailers
trailers [] = no_trailer
trailers (t ∷ ts) = trailer t (trailers ts)

abbrev pub arguments : List Argument → Arguments
arguments [] = no_argument
arguments (a ∷ as_more) = argument a (arguments as_more)
