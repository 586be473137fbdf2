-- The parts of expressions that their frames come to: by number, and of the kinds of node that have them.
-- Internal: no rule of the language.
use Rattle.std.specs.Prelude.{ℕ, zero, suc, Bool, true, false, List, drop, Option, Some, None}
use Rattle.amh_host.specs.declared.place.Place.{Place}
use Rattle.py_tree.specs.declared.expr.Operator.{Operator}
use Rattle.py_tree.specs.Tree.{Tree, Tuple, Trailed, Power, Choice, Trees, none, some, Links, no_link, link, Pairs, no_pair, pair}
use Rattle.py_values.specs.declared.val.Val.{Val}
use Rattle.py_values.specs.declared.val.Val.TheVariants as val
use Rattle.py_values.specs.declared.op.Builtin.{Builtin}
use Rattle.py_heap.specs.declared.scopes.LookUp.{LookUp}
use Rattle.py_heap.specs.declared.scopes.LookUp.TheVariants as lookup
use Rattle.py_frames.specs.declared.request.Cause.TheVariants.{Raised}
use Rattle.py_frames.specs.declared.frame.Purpose.TheVariants.{Plain}
use Rattle.py_frames.specs.declared.frame.Comprehended.{Comprehended}
use Rattle.py_frames.specs.Doing.{Doing, Known, heap_seen, ◌>>=◌, give, stop, choose, making}
use Rattle.py_frames.specs.Parts.{place_of}
use Rattle.py_frames.specs.Values.{truth_of, as_row, builtin_value, builtin_names}
use Rattle.py_frames.specs.Expressions.{value_of}
use Rattle.py_frames.specs.Walk_frames.{comp_of, with_comp, source_of, comp_over}
use Rattle.py_heap.specs.Places.{new_tuple}

-- ---- by number

abbrev pub tree_at : ℕ → Trees → Option Tree
tree_at n none = None
tree_at zero (some t ts) = Some t
tree_at (suc n) (some t ts) = tree_at n ts

abbrev pub link_at : ℕ → Links → Option (Operator × Tree)
link_at n no_link = None
link_at zero (link o t ls) = Some (o, t)
link_at (suc n) (link o t ls) = link_at n ls

abbrev pub pair_at : ℕ → Pairs → Option (Tree × Tree)
pair_at n no_pair = None
pair_at zero (pair a b ps) = Some (a, b)
pair_at (suc n) (pair a b ps) = pair_at n ps

-- ---- by kind

abbrev pub is_tuple : Tree → Bool
is_tuple (Tuple p ts) = true
is_tuple t = false

abbrev pub is_trailed : Tree → Bool
is_trailed (Trailed p t ts) = true
is_trailed t = false

-- the right operand of a power
abbrev pub exponent_in : Tree → Option Tree
exponent_in (Power p a b) = Some b
exponent_in t = None

-- the two parts of a choice, and the place of its test between them
abbrev pub choice_in : Tree → Option (Tree × Place × Tree)
choice_in (Choice p a t b) = Some (a, place_of t, b)
choice_in t = None

abbrev pub tuple_made : Known → Place → List Val → Doing
tuple_made k p vs = making (λ s. new_tuple (heap_seen k s) vs) p give

abbrev pub chosen_by : Known → Option (Tree × Place × Tree) → Place → Val → Doing
chosen_by k None p x = stop Raised p
chosen_by k (Some c) p x = truth_of k x c.1 (λ b. choose b (value_of k Plain c.0) (value_of k Plain c.2))

-- a comprehension begins with its source, which stands outside its scope
abbrev pub comp_begun : Known → Comprehended → Doing
comp_begun k c = with_comp (comp_of c) (λ x. do
  v ← value_of k Plain (source_of x.source)
  row ← as_row k v x.place
  comp_over k x row)

-- what a name stands for, by what the scopes say of it
abbrev pub name_value : LookUp → List ℕ → Option Val
name_value (lookup.Found v) name = Some v
name_value lookup.Unbound name = None
name_value lookup.Nowhere name = builtin_value name

abbrev pub func_val : ℕ → Val
func_val n = val.Func (record { 0 = n })

-- the builtins from `enumerate` on
abbrev pub later_names : List (List ℕ × Builtin)
later_names = drop 8 builtin_names
