-- How the frames of comprehensions and of targets go on.
-- Internal: no rule of the language.
use Rattle.std.specs.Prelude.{ℕ, List, [], ◌∷◌, ◌++◌, Option, Some, None}
use Rattle.amh_host.specs.declared.place.Place.{Place}
use Rattle.py_tree.specs.Seen.{tree}
use Rattle.py_tree.specs.Tree.{Tree, Tuple, ListOf, DictOf, Trailed, Trees, none, Perhaps, absent, present, Each, each, Trailers, trailer, CallOf}
use Rattle.py_values.specs.declared.val.Val.{Val}
use Rattle.py_values.specs.declared.val.ScopeId.{ScopeId}
use Rattle.py_frames.specs.declared.state.Got.{Got}
use Rattle.py_frames.specs.declared.state.Got.TheVariants.{Next}
use Rattle.py_frames.specs.declared.frame.Purpose.TheVariants.{Plain}
use Rattle.py_frames.specs.declared.frame.Walk.{Walk}
use Rattle.py_frames.specs.declared.frame.Comprehended.{Comprehended}
use Rattle.py_frames.specs.declared.frame.WalkFrame.{WalkFrame}
use Rattle.py_frames.specs.declared.frame.WalkFrame.TheVariants as walk
use Rattle.py_frames.specs.Doing.{Doing, Known, ◌>>=◌, on_value, on_next, and_then, came, choose, spend_each}
use Rattle.py_frames.specs.Own.{target_names}
use Rattle.py_frames.specs.Parts.{place_of, trees_from, trailers_from, tree_count}
use Rattle.py_frames.specs.Values.{truth_of, store_index, as_row}
use Rattle.py_frames.specs.Expressions.{value_of, Making, Element as More, one_more, two_more, pair_more, list_made, dict_made, elements_made, made_over, where_holds, back_in, assign, assign_each, with_elements, as_many}

-- ---- what a comprehension makes

-- an element, or a key with its value
pub data Element : Type 0 where
  one : Tree → Element
  two : Tree → Tree → Element

pub record Comp : Type 0 where
  pub place : Place
  pub element : Element
  pub source : Each

abbrev pub comp_at : Trailers → Option Comp
comp_at (trailer (CallOf t c) ts) = Some (record { place = place_of t; element = one t; source = c })
comp_at ts = None

-- the comprehension of a node, or of the call at a trailer
abbrev pub comp_in : Tree → Option ℕ → Option Comp
comp_in (ListOf p t c) at_trailer = Some (record { place = p; element = one t; source = c })
comp_in (DictOf p a b c) at_trailer = Some (record { place = p; element = two a b; source = c })
comp_in (Trailed p t ts) (Some n) = comp_at (trailers_from n ts)
comp_in t at_trailer = None

abbrev pub comp_of : Comprehended → Option Comp
comp_of c = comp_in (tree c.node) c.trailer

-- a turn makes an element behind those that are there
abbrev pub element_made : Known → Place → Element → More
element_made k p (one t) = one_more (value_of k Plain t)
element_made k p (two a b) = two_more p (value_of k Plain a) (value_of k Plain b)

-- what the elements become
abbrev pub all_made : Known → Element → Place → List Val → Doing
all_made k (one t) p = list_made k p
all_made k (two a b) p = dict_made k p

abbrev pub targets_of : Each → Tree
targets_of (each targets source condition) = targets

abbrev pub source_of : Each → Tree
source_of (each targets source condition) = source

abbrev pub condition_of : Each → Perhaps
condition_of (each targets source condition) = condition

abbrev pub comp_turn : Known → Comp → Making
comp_turn k c v done more = and_then (assign k (targets_of c.source) v) (where_holds k (condition_of c.source) (element_made k c.place c.element done more) (more done))

-- the elements behind those of a walk
abbrev pub walks_on : Known → Comp → Walk → ScopeId → List Val → Doing
walks_on k c w outer done = elements_made w.turns k w.over w.next w.size c.place (comp_turn k c) done (λ vs. back_in outer (all_made k c.element c.place vs))

abbrev pub with_comp : Option Comp → (Comp → Doing) → Doing
with_comp None f = came Next
with_comp (Some c) f = f c

abbrev pub comp_over : Known → Comp → Val → Doing
comp_over k c row = made_over k (target_names (targets_of c.source)) row c.place (comp_turn k c) (all_made k c.element c.place)

-- what has come is true: the element, and else on with the walk
abbrev pub tested : Known → Comp → Walk → ScopeId → List Val → Tree → Val → Doing
tested k c w outer done t x = truth_of k x (place_of t) (λ b. choose b (element_made k c.place c.element done (walks_on k c w outer)) (walks_on k c w outer done))

abbrev pub tested_by : Known → Comp → Walk → ScopeId → List Val → Perhaps → Val → Doing
tested_by k c w outer done absent x = walks_on k c w outer done
tested_by k c w outer done (present t) x = tested k c w outer done t x

-- a key and its value have come
abbrev pub pair_came : Known → Comp → Walk → ScopeId → List Val → Val → Val → Doing
pair_came k c w outer done x y = pair_more c.place done x y (walks_on k c w outer)

-- the key has come, or the element
abbrev pub made_came : Known → Comp → Element → Walk → ScopeId → List Val → Val → Doing
made_came k c (one t) w outer done x = walks_on k c w outer (done ++ x ∷ [])
made_came k c (two a b) w outer done x = do
  y ← value_of k Plain b
  pair_came k c w outer done x y

-- ---- targets

abbrev pub targets_in : Tree → Trees
targets_in (Tuple p ts) = ts
targets_in t = none

-- a value is unpacked, once its elements are there
abbrev pub unpacked : Known → Tree → Val → Doing
unpacked k t row = as_many k (tree_count (targets_in t)) row (place_of t)
    (with_elements k row (place_of t) (λ vs. spend_each (tree_count (targets_in t)) (place_of t) (assign_each k (targets_in t) vs)))

-- ---- what a frame does

abbrev pub walk_value_goes : Known → WalkFrame → Val → Doing
walk_value_goes k (walk.Source c) v = with_comp (comp_of c) (λ x. do
  row ← as_row k v x.place
  comp_over k x row)
walk_value_goes k (walk.SourceRow c) v = with_comp (comp_of c) (λ x. comp_over k x v)
walk_value_goes k (walk.Tested c w done outer) v = with_comp (comp_of c) (λ x. tested_by k x w outer done (condition_of x.source) v)
walk_value_goes k (walk.Made c w done outer) v = with_comp (comp_of c) (λ x. made_came k x x.element w outer done v)
walk_value_goes k (walk.PairMade c w done outer key) v = with_comp (comp_of c) (λ x. pair_came k x w outer done key v)
walk_value_goes k (walk.Unpacked node) v = unpacked k (tree node) v
walk_value_goes k (walk.StoredAt x v p) i = store_index k x i v p
walk_value_goes k (walk.Bound c w done outer) v = came Next
walk_value_goes k (walk.Unpacking node n vs) v = came Next

-- an element went to its targets, or a value to its target: on where nothing else came
abbrev pub walk_goes : Known → WalkFrame → Got → Doing
walk_goes k (walk.Bound c w done outer) got = on_next got (with_comp (comp_of c) (λ x. where_holds k (condition_of x.source) (element_made k x.place x.element done (walks_on k x w outer)) (walks_on k x w outer done)))
walk_goes k (walk.Unpacking node n vs) got = on_next got (assign_each k (trees_from n (targets_in (tree node))) vs)
walk_goes k f got = on_value got (walk_value_goes k f)
