-- The parts of comprehensions and of targets, as the code reads them.
-- Internal: no rule of the language.
use Rattle.std.specs.Prelude.{◌≡◌, ℕ, ◌+◌, ◌-◌, Bool, true, false, List, [], ◌∷◌, Option, Some, None, option_map, Result, Ok, Err, ⊤}
use Rattle.amh_host.specs.declared.place.Place.{Place}
use Rattle.py_tree.specs.Seen.{tree}
use Rattle.py_tree.specs.Tree.{Tree, Name, Tuple, Trailed, each, perhaps, Trailer, CallOf, Trailers}
use Rattle.py_tree.specs.Steps.{Step, For}
use Rattle.py_values.specs.declared.val.Val.{Val}
use Rattle.py_values.specs.declared.val.ScopeId.{ScopeId}
use Rattle.py_values.specs.declared.val.ValueStop.{ValueStop}
use Rattle.py_heap.specs.Heaps.{Made, seen}
use Rattle.py_heap.specs.Names.{new_scope}
use Rattle.py_frames.specs.declared.state.Halt.{Halt}
use Rattle.py_frames.specs.declared.state.Halt.TheVariants as halt
use Rattle.py_frames.specs.declared.going.Going.{Going}
use Rattle.py_frames.specs.declared.frame.Walk.{Walk}
use Rattle.py_frames.specs.declared.frame.WalkFrame.{WalkFrame}
use Rattle.py_frames.specs.declared.frame.WalkFrame.TheVariants as walk
use Rattle.py_frames.specs.declared.leaf.PartAt.{PartAt}
use Rattle.py_frames.specs.declared.leaf.PartAt.TheVariants as part
use Rattle.py_walks.specs.declared.walk_parts.CompItem.{CompItem}
use Rattle.py_walks.specs.declared.walk_parts.CompItem.TheVariants.{One, Two}
use Rattle.py_walks.specs.declared.walk_parts.CompParts.{CompParts}
use Rattle.py_walks.specs.declared.walk_parts.Parted.{Parted}
use Rattle.py_walks.specs.declared.walk_parts.Parted.TheVariants as parted
use Rattle.py_frames.specs.Doing.{Known, Doing, ◌>>=◌, and_then, then_do, cause_of, spend}
use Rattle.py_frames.specs.Parts.{place_of, trailers_from}
use Rattle.py_frames.specs.Values.{as_row}
use Rattle.py_frames.specs.Expressions.{assign, seen_from, where_holds}
use Rattle.py_frames.specs.Statements.{turn_on, for_turns}
use Rattle.py_frames.specs.Walk_frames.{Element, one, two, Comp, comp_at, comp_over, comp_turn, element_made, walks_on, condition_of}

-- ---- comprehensions

-- what a comprehension makes, as its trees
abbrev pub item_seen : CompItem → Element
item_seen (One e) = one (tree e)
item_seen (Two a b) = two (tree a) (tree b)

-- the parts of a comprehension, as their trees
abbrev pub comp_seen : CompParts → Comp
comp_seen c = record { place = c.place; element = item_seen c.item; source = each (tree c.targets) (tree c.source) (perhaps (option_map tree c.condition)) }

-- a comprehension, where there is one
abbrev pub FoundComp : PartAt CompParts → Option Comp → Type 0
FoundComp (part.Part c) owed = owed ≡ Some (comp_seen c)
FoundComp part.Past owed = owed ≡ None
FoundComp part.NoMemory owed = ⊤

-- the comprehension of what trails
abbrev pub comp_here : Trailer → Option Comp
comp_here (CallOf t c) = Some (record { place = place_of t; element = one t; source = c })
comp_here t = None

-- the comprehension of a call by the number of what trails, where one is given
abbrev pub comp_trailing : Option ℕ → Trailers → Option Comp
comp_trailing None ts = None
comp_trailing (Some n) ts = comp_at (trailers_from n ts)

-- what is evaluated first of an element: it, or the key
abbrev pub first_of : Element → Tree
first_of (one t) = t
first_of (two a b) = a

-- the source of a comprehension has come: what it goes over, and then its elements
abbrev pub row_over : Known → Val → Comp → Doing
row_over k v c = do
  row ← as_row k v c.place
  comp_over k c row

-- the walk behind its next element
abbrev pub behind_walk : Walk → Walk
behind_walk w = record w { next = w.next + 1; turns = w.turns - 1 }

-- a turn with an element
abbrev pub element_turn : Known → Comp → Walk → ScopeId → List Val → Val → Doing
element_turn k c w outer done v = spend c.place (comp_turn k c v done (walks_on k c (behind_walk w) outer))

-- an element's targets have it: it is made, where the condition holds
abbrev pub where_made : Known → Comp → Walk → ScopeId → List Val → Doing
where_made k c w outer done = where_holds k (condition_of c.source) (element_made k c.place c.element done (walks_on k c w outer)) (walks_on k c w outer done)

-- a scope of its own in which a comprehension stands: it is owed with these names, and the evaluation stands there
abbrev pub Entered : Result ScopeId Halt → Made → List (List ℕ) → Going → Going → Type 0
Entered (Ok scope) frozen own before behind =
    (new_scope (seen frozen before.state.heap) (seen_from (seen frozen before.state.heap) before.state.here.scope) false own ≡ Ok (scope, behind.state.heap))
    × (behind ≡ record before { state = record before.state { heap = behind.state.heap; here = record before.state.here { scope = scope } } })
Entered (Err (halt.Stopped stop)) frozen own before behind = ⊥
Entered (Err (halt.Asks r)) frozen own before behind = ⊥
Entered (Err halt.NoMemory) frozen own before behind = ⊤

-- ---- loops

-- a turn of a `for` with an element
abbrev pub for_turn : Known → Walk → Tree → Doing → Place → Val → Doing
for_turn k w targets body p v = spend p (and_then (assign k targets v) (then_do body (λ got. turn_on got (for_turns (w.turns - 1) k w.over (w.next + 1) w.size targets body p))))

-- whether a statement is a `for`
abbrev pub is_for : Step → Bool
is_for (For p ts a ss) = true
is_for t = false

-- ---- targets

-- whether a value may go to a target of this kind
abbrev pub is_target : Tree → Bool
is_target (Name p n) = true
is_target (Tuple p ts) = true
is_target (Trailed p t ts) = true
is_target t = false

-- the first of values, and those behind it
abbrev pub IsParted : Parted → List Val → Type 0
IsParted parted.Empty vs = vs ≡ []
IsParted (parted.First v rest) vs = vs ≡ v ∷ rest
IsParted parted.NoMemory vs = ⊤

-- the elements of a value, or a stop where it has none
abbrev pub TellsElements : Result (List Val) Halt → Result (List Val) ValueStop → Place → Type 0
TellsElements (Ok vs) owed place = owed ≡ Ok vs
TellsElements (Err (halt.Stopped stop)) owed place = (e : ValueStop) × (owed ≡ Err e) × (stop ≡ record { cause = cause_of e; place = place })
TellsElements (Err (halt.Asks r)) owed place = ⊥
TellsElements (Err halt.NoMemory) owed place = ⊤

-- ---- frames

-- whether a frame waits for more than a value
abbrev pub takes_any : WalkFrame → Bool
takes_any (walk.Bound c w done outer) = true
takes_any (walk.Unpacking node n vs) = true
takes_any f = false
