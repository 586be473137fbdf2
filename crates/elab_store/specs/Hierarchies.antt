-- What was added to modules as their submodules, and the tree of modules and memories that is elaborated of it. (Amaranth language guide 0.5, "Submodules". The
-- names of additions without one, and that the tree is walked from the top, each module before those below it, is this project's own
-- rule.)
use Rattle.std.specs.Prelude.{ℕ, suc, ◌==◌, ◌&&◌, Bool, false, if◌then◌else◌, List, [], ◌∷◌, ◌++◌, map, length, slice_get, Option, Some, None, is_some, option_map, option_and_then, codes}
use Rattle.std.specs.List.{find, list_any}
use Rattle.std.specs.Fmt.{decimal}
use Rattle.lists.specs.Texts.{text_eq}
use Rattle.py_values.specs.declared.val.Val.{Val}
use Rattle.elab_store.specs.declared.hierarchy.Addition.{Addition}
use Rattle.elab_store.specs.declared.hierarchy.Node.{Node}
use Rattle.elab_store.specs.declared.hierarchy.NodeOf.{NodeOf}
use Rattle.elab_store.specs.declared.hierarchy.NodeOf.TheVariants.{Module, Memory, Wrapper}
use Rattle.elab_store.specs.declared.hierarchy.Waiting.{Waiting}

pub record Hierarchy : Type 0 where
  -- all additions, in order
  pub additions : List Addition
  -- the modules and memories below the top that were elaborated, each before those below it
  pub nodes : List Node
  -- the additions that are still to be elaborated, the next one first
  pub waiting : List Waiting
  -- how many of the nodes are modules and memories
  pub taken : ℕ
  -- the wrappings of the top, the outermost first
  pub root_wraps : List ℕ

-- before the body of a program
abbrev pub no_hierarchy : Hierarchy
no_hierarchy = record { additions = []; nodes = []; waiting = []; taken = 0; root_wraps = [] }

-- ---- additions

-- the numbers of those to module m, where the first of these has number k
abbrev pub numbers_of : ℕ → ℕ → List Addition → List ℕ
numbers_of m k [] = []
numbers_of m k (a ∷ more) = if a.of == m then k ∷ numbers_of m (suc k) more else numbers_of m (suc k) more

abbrev pub children_of : ℕ → Hierarchy → List ℕ
children_of m t = numbers_of m 0 t.additions

abbrev pub is_added_as : ℕ → List ℕ → Addition → Bool
is_added_as m name a = (a.of == m) && (a.is_named && text_eq a.name name)

-- what was added to module m under a name
abbrev pub added_as : ℕ → List ℕ → Hierarchy → Option Val
added_as m name t = option_map (λ (a : Addition). a.thing) (find (is_added_as m name) t.additions)

-- an addition without a name has `u` and its number among those of the module
abbrev pub addition_name : ℕ → Option (List ℕ) → Hierarchy → List ℕ
addition_name m (Some name) t = name
addition_name m None t = codes "u" ++ decimal (length (children_of m t))

abbrev pub with_addition : ℕ → Option (List ℕ) → Val → Hierarchy → Hierarchy
with_addition m name v t = record t { additions = t.additions ++ record { of = m; name = addition_name m name t; is_named = is_some name; thing = v } ∷ [] }

-- ---- the walk

abbrev pub waiting_for : ℕ → List ℕ → List Waiting
waiting_for depth numbers = map (λ n. record { addition = n; depth = depth }) numbers

-- the top is module m: its additions wait
abbrev pub top_entered : ℕ → Hierarchy → Hierarchy
top_entered m t = record t { waiting = waiting_for 1 (children_of m t) ++ t.waiting }

-- a memory has nothing below it
abbrev pub numbers_below : NodeOf → List Addition → List ℕ
numbers_below (Module m) additions = numbers_of m 0 additions
numbers_below (Memory k) additions = []
numbers_below (Wrapper k) additions = []

abbrev pub node_of : NodeOf → Waiting → Hierarchy → Node
node_of o w t = record { addition = w.addition; of = o; below = length (numbers_below o t.additions) }

abbrev pub taken_by : NodeOf → List Waiting → Hierarchy → Hierarchy
taken_by o [] t = t
taken_by o (w ∷ ws) t = record t { nodes = t.nodes ++ node_of o w t ∷ []; taken = suc t.taken; waiting = waiting_for (suc w.depth) (numbers_below o t.additions) ++ ws }

-- what waits first is this module or memory: its own additions wait before all others
abbrev pub node_taken : NodeOf → Hierarchy → Hierarchy
node_taken o t = taken_by o t.waiting t

-- wrappers stand before what they wrap, each with the tree behind it alone below it
abbrev pub wrapper_nodes : List ℕ → Waiting → List Node
wrapper_nodes bys w = map (λ k. record { addition = w.addition; of = Wrapper k; below = 1 }) bys

abbrev pub wraps_before : List ℕ → List Waiting → Hierarchy → Hierarchy
wraps_before bys [] t = t
wraps_before bys (w ∷ ws) t = record t { nodes = t.nodes ++ wrapper_nodes bys w }

-- what waits first is wrapped by these, the outermost first
abbrev pub wraps_taken : List ℕ → Hierarchy → Hierarchy
wraps_taken bys t = wraps_before bys t.waiting t

-- the top is wrapped by these, within those before
abbrev pub root_wrapped : List ℕ → Hierarchy → Hierarchy
root_wrapped bys t = record t { root_wraps = t.root_wraps ++ bys }

abbrev pub first_of : {A : Type 0} → List A → Option A
first_of [] = None
first_of (x ∷ xs) = Some x

abbrev pub first_waiting : Hierarchy → Option Waiting
first_waiting t = first_of t.waiting

-- the value that was added there
abbrev pub thing_waiting : Hierarchy → Option Val
thing_waiting t = option_map (λ (a : Addition). a.thing) (option_and_then (λ (w : Waiting). slice_get t.additions w.addition) (first_waiting t))

abbrev pub is_of_module : ℕ → NodeOf → Bool
is_of_module m (Module n) = n == m
is_of_module m (Memory k) = false
is_of_module m (Wrapper k) = false

-- module m stands in the tree below the top
abbrev pub is_node : ℕ → Hierarchy → Bool
is_node m t = list_any (λ (x : Node). is_of_module m x.of) t.nodes
