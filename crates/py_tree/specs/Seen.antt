-- What the contracts see of an expression in memory: its tree.
-- Internal: no rule of the language.
use Rattle.std.specs.Prelude.{ℕ, List, [], ◌∷◌, Option, Some, None, map}
use Rattle.amh_host.specs.declared.place.Place.{Place}
use Rattle.py_tree.specs.declared.expr.Operator.{Operator}
use Rattle.py_tree.specs.declared.expr.Expr.{Expr, Expr-F, fold-Expr}
use Rattle.py_tree.specs.declared.expr.ExprKind.{ExprKind, ExprKind-F, fold-ExprKind}
use Rattle.py_tree.specs.declared.expr.Link.{Link, Link-F, fold-Link}
use Rattle.py_tree.specs.declared.expr.Pair.{Pair, Pair-F, fold-Pair}
use Rattle.py_tree.specs.declared.expr.Comprehension.{Comprehension, Comprehension-F, fold-Comprehension}
use Rattle.py_tree.specs.declared.expr.Trailer.{Trailer as Trailing, Trailer-F, fold-Trailer}
use Rattle.py_tree.specs.declared.expr.Argument.{Argument as Given, Argument-F, fold-Argument}
use Rattle.py_tree.specs.declared.expr.Argument.TheOpen as layer
use Rattle.py_tree.specs.Tree.{Tree, Name, Number, Decimal_time, Quotient, Str, Format, Constant_value, Tuple, Display, Dict, ListOf, DictOf, Trailed, Await, Power, Unary, Not, Binary, Compare, Boolean, Choice, Each, each, Trailer, Attribute, Call, CallOf, Index, Slice, Argument, Positional, Starred, Keyword, trees, links, pairs, perhaps, trailers, arguments}

-- one layer of each type, its parts already seen
abbrev pub argument_seen : Argument-F Argument (Place → Tree) Trailer Each Tree (Operator × Tree) (Tree × Tree) → Argument
argument_seen (layer.Positional e) = Positional e
argument_seen (layer.Starred e) = Starred e
argument_seen (layer.Keyword n e) = Keyword n e

abbrev pub kind_seen : ExprKind-F Argument (Place → Tree) Trailer Each Tree (Operator × Tree) (Tree × Tree) → Place → Tree
kind_seen (layer.Name n) p = Name p n
kind_seen (layer.Number n) p = Number p n
kind_seen (layer.Decimal d) p = Decimal_time p d
kind_seen (layer.Quotient n d) p = Quotient p n d
kind_seen (layer.Str s) p = Str p s
kind_seen (layer.Format s) p = Format p s
kind_seen (layer.Constant c) p = Constant_value p c
kind_seen (layer.Tuple es) p = Tuple p (trees es.items)
kind_seen (layer.List es) p = Display p (trees es.items)
kind_seen (layer.Dict ps) p = Dict p (pairs ps.items)
kind_seen (layer.ListOf e c) p = ListOf p e c
kind_seen (layer.DictOf e c) p = DictOf p e.0 e.1 c
kind_seen (layer.Trailed e ts) p = Trailed p e (trailers ts.items)
kind_seen (layer.Await e) p = Await p e
kind_seen (layer.Power a b) p = Power p a b
kind_seen (layer.Unary s e) p = Unary p s e
kind_seen (layer.Not e) p = Not p e
kind_seen (layer.Binary e ls) p = Binary p e (links ls.items)
kind_seen (layer.Compare e ls) p = Compare p e (links ls.items)
kind_seen (layer.Boolean e ls) p = Boolean p e (links ls.items)
kind_seen (layer.Choice a test b) p = Choice p a test b

abbrev pub trailer_seen : Trailer-F Argument (Place → Tree) Trailer Each Tree (Operator × Tree) (Tree × Tree) → Trailer
trailer_seen (layer.Attribute n) = Attribute n
trailer_seen (layer.Call as_given) = Call (arguments as_given.items)
trailer_seen (layer.CallOf e c) = CallOf e c
trailer_seen (layer.Index e) = Index e
trailer_seen (layer.Slice a b c) = Slice (perhaps a) (perhaps b) (perhaps c)

abbrev pub comprehension_seen : Comprehension-F Argument (Place → Tree) Trailer Each Tree (Operator × Tree) (Tree × Tree) → Each
comprehension_seen c = each c.targets c.source (perhaps c.condition)

abbrev pub expr_seen : Expr-F Argument (Place → Tree) Trailer Each Tree (Operator × Tree) (Tree × Tree) → Tree
expr_seen e = e.kind.value e.place

abbrev pub link_seen : Link-F Argument (Place → Tree) Trailer Each Tree (Operator × Tree) (Tree × Tree) → Operator × Tree
link_seen l = (l.operator, l.operand)

abbrev pub pair_seen : Pair-F Argument (Place → Tree) Trailer Each Tree (Operator × Tree) (Tree × Tree) → Tree × Tree
pair_seen p = (p.key, p.value)

-- the tree of an expression
abbrev pub tree : Expr → Tree
tree = fold-Expr Argument (Place → Tree) Trailer Each Tree (Operator × Tree) (Tree × Tree) argument_seen kind_seen trailer_seen comprehension_seen expr_seen link_seen pair_seen

-- what the parts of a tree stand for
abbrev pub kind_tree : ExprKind → Place → Tree
kind_tree = fold-ExprKind Argument (Place → Tree) Trailer Each Tree (Operator × Tree) (Tree × Tree) argument_seen kind_seen trailer_seen comprehension_seen expr_seen link_seen pair_seen

abbrev pub link_tree : Link → Operator × Tree
link_tree = fold-Link Argument (Place → Tree) Trailer Each Tree (Operator × Tree) (Tree × Tree) argument_seen kind_seen trailer_seen comprehension_seen expr_seen link_seen pair_seen

abbrev pub pair_tree : Pair → Tree × Tree
pair_tree = fold-Pair Argument (Place → Tree) Trailer Each Tree (Operator × Tree) (Tree × Tree) argument_seen kind_seen trailer_seen comprehension_seen expr_seen link_seen pair_seen

abbrev pub each_of : Comprehension → Each
each_of = fold-Comprehension Argument (Place → Tree) Trailer Each Tree (Operator × Tree) (Tree × Tree) argument_seen kind_seen trailer_seen comprehension_seen expr_seen link_seen pair_seen

abbrev pub trailer_of : Trailing → Trailer
trailer_of = fold-Trailer Argument (Place → Tree) Trailer Each Tree (Operator × Tree) (Tree × Tree) argument_seen kind_seen trailer_seen comprehension_seen expr_seen link_seen pair_seen

abbrev pub argument_of : Given → Argument
argument_of = fold-Argument Argument (Place → Tree) Trailer Each Tree (Operator × Tree) (Tree × Tree) argument_seen kind_seen trailer_seen comprehension_seen expr_seen link_seen pair_seen
