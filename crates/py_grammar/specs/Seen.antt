-- What an expression's words stand for: its tree, the place where its text begins, and how deep its brackets nest.
-- The text of an expression in brackets begins at the bracket, and its tree at its own first token.
-- Source: Python reference 6.2, 6.3.4, 6.15 and 7.2 (targets); places, times and the depth of brackets: own rules (docs/RULES.md).
use Rattle.std.specs.Prelude.{ℕ, suc, max, Bool, true, nat_lt, List, [], ◌∷◌, ◌++◌, Option, Some, None, fold, is_some, ◌||◌, ◌&&◌, not, false, if◌then◌else◌}
use Rattle.amh_host.specs.declared.place.Place.{Place}
use Rattle.py_tree.specs.declared.name.Piece.{Piece}
use Rattle.py_tree.specs.declared.number.Decimal.{Decimal}
use Rattle.py_tree.specs.declared.number.Amount.{Amount}
use Rattle.py_tree.specs.declared.number.Amount.TheVariants as amount
use Rattle.py_tree.specs.declared.expr.Constant.{Constant}
use Rattle.py_tree.specs.declared.expr.Operator.{Operator}
use Rattle.py_tree.specs.declared.expr.Sign.{Sign}
use Rattle.py_tree.specs.Tree.{Tree, Name, Number, Decimal_time, Quotient, Str, Format, Constant_value, Tuple, Display, Dict, ListOf, DictOf, Trailed, Await, Power, Unary, Not, Binary, Compare, Boolean, Choice, Trees, none, some, Perhaps, absent, present, Links, Each, each, Trailers, no_trailer, trailer, Trailer, Attribute, Call, CallOf, Index, Slice, Argument, Positional, Starred, Keyword, trees, links, pairs, perhaps, trailers, arguments, no_argument}

pub record Seen : Type 0 where
  pub place : Place
  pub tree : Tree
  pub depth : ℕ

abbrev pub seen : Place → Tree → ℕ → Seen
seen p t d = record { place = p; tree = t; depth = d }

-- a thing with a depth of brackets
abbrev pub Deep : Type 0 → Type 0
Deep A = A × ℕ

-- one more of a list, and the deeper depth of both
abbrev pub and_one : {A : Type 0} → Deep (List A) → Deep A → Deep (List A)
and_one xs x = (xs.0 ++ x.0 ∷ [], max xs.1 x.1)

-- all of them, and the deepest depth
abbrev pub all_of : {A : Type 0} → List (Deep A) → Deep (List A)
all_of xs = fold and_one ([], 0) xs

-- ---- atoms

abbrev pub name_seen : Place × List ℕ → Seen
name_seen x = seen x.0 (Name x.0 x.1) 0

abbrev pub constant_seen : Place × Constant → Seen
constant_seen x = seen x.0 (Constant_value x.0 x.1) 0

abbrev pub decimal_seen : Place × Decimal → Seen
decimal_seen x = seen x.0 (Decimal_time x.0 x.1) 0

abbrev pub string_seen : Place × List ℕ → Seen
string_seen x = seen x.0 (Str x.0 x.1) 0

abbrev pub format_seen : Place × List Piece → Seen
format_seen x = seen x.0 (Format x.0 x.1) 0

abbrev pub whole_amount : Place × ℕ → Amount
whole_amount x = amount.Number x.1

abbrev pub decimal_amount : Place × Decimal → Amount
decimal_amount x = amount.Decimal x.1

-- a number, or the quotient of it by what stands behind `/`
abbrev pub number_tree : Place → ℕ → Option (Place × Amount) → Tree
number_tree p n None = Number p n
number_tree p n (Some d) = Quotient p n d.1

abbrev pub number_seen : (Place × ℕ) × Option (Place × Amount) → Seen
number_seen x = seen x.0.0 (number_tree x.0.0 x.0.1 x.1) 0

-- ---- lists with commas

-- things with a comma between each two, and perhaps a comma at the end: the first, the others and that comma
abbrev pub Listed : Type 0 → Type 0
Listed A = Deep (List A) × Option Place

abbrev pub plain : Place × Seen → Deep Tree
plain x = (x.1.tree, x.1.depth)

abbrev pub is_empty : {A : Type 0} → List A → Bool
is_empty [] = true
is_empty (x ∷ xs) = false

-- whether nothing follows the first
abbrev pub is_lone : {A : Type 0} → Listed A → Bool
is_lone l = is_empty l.0.0 && not (is_some l.1)

-- one expression with no comma is that expression, and else a tuple that begins at p
abbrev pub tuple_tree : Place → Tree → Listed Tree → Tree
tuple_tree p e l = if is_lone l then e else Tuple p (trees (e ∷ l.0.0))

abbrev pub tuple_seen : Seen × Listed Tree → Seen
tuple_seen x = seen x.0.place (tuple_tree x.0.place x.0.tree x.1) (max x.0.depth x.1.0.1)

-- ---- brackets

abbrev pub round_seen : Place → Option (Seen × Listed Tree) → Seen
round_seen p None = seen p (Tuple p none) 0
round_seen p (Some x) = seen p (tuple_tree p x.0.tree x.1) (suc (max x.0.depth x.1.0.1))

-- what may follow the first part in square or curly brackets
pub data Rest (A : Type 0) : Type 0 where
  over : Deep Each → Rest A
  more : Listed A → Rest A

abbrev pub display_tree : Place → Tree → Rest Tree → Tree
display_tree p e (over c) = ListOf p e c.0
display_tree p e (more l) = Display p (trees (e ∷ l.0.0))

abbrev pub rest_depth : {A : Type 0} → Rest A → ℕ
rest_depth (over c) = c.1
rest_depth (more l) = l.0.1

abbrev pub display_seen : Place → Option (Seen × Rest Tree) → Seen
display_seen p None = seen p (Display p none) 0
display_seen p (Some x) = seen p (display_tree p x.0.tree x.1) (suc (max x.0.depth (rest_depth x.1)))

abbrev pub pair_seen : Seen × (Place × Seen) → Deep (Tree × Tree)
pair_seen x = ((x.0.tree, x.1.1.tree), max x.0.depth x.1.1.depth)

abbrev pub after_comma : {A : Type 0} → Place × Deep A → Deep A
after_comma x = x.1

abbrev pub dict_tree : Place → Tree × Tree → Rest (Tree × Tree) → Tree
dict_tree p e (over c) = DictOf p e.0 e.1 c.0
dict_tree p e (more l) = Dict p (pairs (e ∷ l.0.0))

abbrev pub dict_seen : Place → Option (Deep (Tree × Tree) × Rest (Tree × Tree)) → Seen
dict_seen p None = seen p (Dict p (pairs [])) 0
dict_seen p (Some x) = seen p (dict_tree p x.0.0 x.1) (suc (max x.0.1 (rest_depth x.1)))

-- `for targets in source if condition`
abbrev pub condition_tree : Option (Place × Seen) → Option Tree
condition_tree None = None
condition_tree (Some x) = Some x.1.tree

abbrev pub condition_depth : Option (Place × Seen) → ℕ
condition_depth None = 0
condition_depth (Some x) = x.1.depth

abbrev pub each_seen : Seen → Seen → Option (Place × Seen) → Deep Each
each_seen t s c = (each t.tree s.tree (perhaps (condition_tree c)), max (max t.depth s.depth) (condition_depth c))

-- ---- trailers

abbrev pub attribute_seen : Place × (Place × List ℕ) → Deep Trailer
attribute_seen x = (Attribute x.1.1, 0)

abbrev pub starred_seen : Place × Seen → Deep Argument
starred_seen x = (Starred x.1.tree, x.1.depth)

abbrev pub keyword_seen : (Place × List ℕ) × (Place × Seen) → Deep Argument
keyword_seen x = (Keyword x.0.1 x.1.1.tree, x.1.1.depth)

abbrev pub positional_seen : Seen → Deep Argument
positional_seen x = (Positional x.tree, x.depth)

abbrev pub is_positional : Argument → Bool
is_positional (Positional e) = true
is_positional (Starred e) = false
is_positional (Keyword n e) = false

abbrev pub is_over : {A : Type 0} → Rest A → Bool
is_over (over c) = true
is_over (more l) = false

-- a comprehension without brackets of its own stands behind a positional argument only
abbrev pub over_fits : Deep Argument × Rest Argument → Bool
over_fits x = is_positional x.0.0 || not (is_over x.1)

abbrev pub is_keyword : Argument → Bool
is_keyword (Positional e) = false
is_keyword (Starred e) = false
is_keyword (Keyword n e) = true

-- behind an argument by keyword stand such arguments alone
abbrev pub keywords_last : Bool → List Argument → Bool
keywords_last seen [] = true
keywords_last seen (a ∷ more_args) = (is_keyword a || not seen) && keywords_last (is_keyword a) more_args

abbrev pub further_args : Rest Argument → List Argument
further_args (over c) = []
further_args (more l) = l.0.0

abbrev pub args_fit : Deep Argument × Rest Argument → Bool
args_fit x = over_fits x && keywords_last (is_keyword x.0.0) (further_args x.1)

abbrev pub call_tree : Argument → Rest Argument → Trailer
call_tree a (more l) = Call (arguments (a ∷ l.0.0))
call_tree (Positional e) (over c) = CallOf e c.0
call_tree (Starred e) (over c) = CallOf e c.0
call_tree (Keyword n e) (over c) = CallOf e c.0

abbrev pub call_seen : Option (Deep Argument × Rest Argument) → Deep Trailer
call_seen None = (Call no_argument, 0)
call_seen (Some x) = (call_tree x.0.0 x.1, suc (max x.0.1 (rest_depth x.1)))

-- a part of an index that may be left out
abbrev pub part_tree : Option Seen → Perhaps
part_tree None = absent
part_tree (Some e) = present e.tree

abbrev pub part_depth : Option Seen → ℕ
part_depth None = 0
part_depth (Some e) = suc e.depth

-- what stands between square brackets: perhaps an expression, and perhaps a colon and more
abbrev pub IndexParts : Type 0
IndexParts = Option Seen × Option (Place × (Option Seen × Option (Place × Option Seen)))

abbrev pub index_fits : IndexParts → Bool
index_fits x = is_some x.0 || is_some x.1

abbrev pub step_part : Option (Place × Option Seen) → Option Seen
step_part None = None
step_part (Some x) = x.1

abbrev pub slice_of : Option Seen → Option Seen → Option Seen → Deep Trailer
slice_of a b c = (Slice (part_tree a) (part_tree b) (part_tree c), max (max (part_depth a) (part_depth b)) (part_depth c))

abbrev pub index_seen : IndexParts → Deep Trailer
index_seen (None, None) = slice_of None None None
index_seen (Some e, None) = (Index e.tree, suc e.depth)
index_seen (a, Some x) = slice_of a x.1.0 (step_part x.1.1)

abbrev pub bracketed_index : Place × (Deep Trailer × Place) → Deep Trailer
bracketed_index x = x.1.0

-- a first part, and what trails it
abbrev pub primary_seen : Seen × Deep (List Trailer) → Seen
primary_seen x = if is_empty x.1.0 then x.0 else seen x.0.place (Trailed x.0.place x.0.tree (trailers x.1.0)) (max x.0.depth x.1.1)

-- ---- operators

abbrev pub await_seen : Place × Seen → Seen
await_seen x = seen x.0 (Await x.0 x.1.tree) x.1.depth

-- `**` counts as a bracket round both operands
abbrev pub power_fits : ℕ → Seen × Option (Place × Seen) → Bool
power_fits room (e, None) = true
power_fits room (e, Some x) = nat_lt e.depth room

abbrev pub power_seen : Seen × Option (Place × Seen) → Seen
power_seen (e, None) = e
power_seen (e, Some x) = seen e.place (Power e.place e.tree x.1.tree) (suc (max e.depth x.1.depth))

abbrev pub unary_seen : (Place × Sign) × Seen → Seen
unary_seen x = seen x.0.0 (Unary x.0.0 x.0.1 x.1.tree) (suc x.1.depth)

abbrev pub not_seen : Place × Seen → Seen
not_seen x = seen x.0 (Not x.0 x.1.tree) (suc x.1.depth)

abbrev pub link_seen : Operator × Seen → Deep (Operator × Tree)
link_seen x = ((x.0, x.1.tree), x.1.depth)

-- the levels below 6 are arithmetic, that of 6 compares, and those above are `and` and `or`
abbrev pub chain_tree : ℕ → Place → Tree → Links → Tree
chain_tree k p e ls = if nat_lt k 6 then Binary p e ls else if nat_lt 6 k then Boolean p e ls else Compare p e ls

abbrev pub chain_seen : ℕ → Seen × Deep (List (Operator × Tree)) → Seen
chain_seen k x = if is_empty x.1.0 then x.0 else seen x.0.place (chain_tree k x.0.place x.0.tree (links x.1.0)) (max x.0.depth x.1.1)

-- `if else` counts as a bracket round its three operands
abbrev pub ChoiceParts : Type 0
ChoiceParts = Seen × Option (Place × (Seen × (Place × Seen)))

abbrev pub choice_fits : ℕ → ChoiceParts → Bool
choice_fits room (e, None) = true
choice_fits room (e, Some x) = nat_lt e.depth room

abbrev pub choice_seen : ChoiceParts → Seen
choice_seen (e, None) = e
choice_seen (e, Some (p, (t, (q, o)))) = seen e.place (Choice e.place e.tree t.tree o.tree) (suc (max (max e.depth t.depth) o.depth))

-- ---- targets: a name, an attribute, an index, or targets with a comma between each two, in brackets or not

abbrev pub is_place : Trailer → Bool
is_place (Attribute n) = true
is_place (Call l) = false
is_place (CallOf e c) = false
is_place (Index e) = true
is_place (Slice a b c) = true

-- whether the last of them is one, or b where there is none
abbrev pub ends_in_place : Bool → Trailers → Bool
ends_in_place b no_trailer = b
ends_in_place b (trailer t ts) = ends_in_place (is_place t) ts

abbrev pub some_there : Trees → Bool
some_there none = false
some_there (some t ts) = true

abbrev mutual
  pub is_target : Tree → Bool
  is_target (Name p n) = true
  is_target (Trailed p e ts) = ends_in_place false ts
  is_target (Tuple p ts) = some_there ts && are_targets ts
  is_target _ = false

  pub are_targets : Trees → Bool
  are_targets none = true
  are_targets (some t ts) = is_target t && are_targets ts

abbrev pub seen_is_target : Seen → Bool
seen_is_target e = is_target e.tree
