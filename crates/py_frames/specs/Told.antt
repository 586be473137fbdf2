-- What calls tell that are a part of a turn: a truth, and a name that is bound.
-- Internal: no rule of the language.
use Rattle.std.specs.Prelude.{◌≡◌, ◌+◌, Bool, Option, Some, None, Result, Ok, Err, ⊤}
use Rattle.amh_host.specs.declared.place.Place.{Place}
use Rattle.py_tree.specs.declared.expr.Expr.{Expr}
use Rattle.py_tree.specs.declared.expr.Link.{Link}
use Rattle.py_tree.specs.declared.expr.Pair.{Pair}
use Rattle.py_tree.specs.declared.expr.Operator.{Operator}
use Rattle.py_tree.specs.Seen.{tree}
use Rattle.py_tree.specs.Tree.{Tree}
use Rattle.py_values.specs.declared.val.ValueStop.{ValueStop}
use Rattle.py_heap.specs.Heaps.{Made}
use Rattle.py_frames.specs.declared.request.Cause.TheVariants.{Raised}
use Rattle.py_frames.specs.declared.state.Halt.{Halt}
use Rattle.py_frames.specs.declared.state.Halt.TheVariants.{Asks, Stopped, NoMemory}
use Rattle.py_frames.specs.declared.going.Going.{Going}
use Rattle.py_frames.specs.declared.leaf.Choosing.{Choosing}
use Rattle.py_frames.specs.declared.leaf.PartAt.{PartAt}
use Rattle.py_frames.specs.declared.leaf.PartAt.TheVariants.{Part, Past}
use Rattle.py_frames.specs.declared.leaf.PartAt.TheVariants as no
use Rattle.py_frames.specs.declared.request.NamedVal.{NamedVal}
use Rattle.py_frames.specs.Doing.{cause_of}
use Rattle.py_frames.specs.Values.{with_binding}

-- a part of a node, where it has so many
abbrev pub FoundTree : PartAt Expr → Option Tree → Type 0
FoundTree (Part e) owed = Some (tree e) ≡ owed
FoundTree Past owed = None ≡ owed
FoundTree no.NoMemory owed = ⊤

abbrev pub FoundLink : PartAt Link → Option (Operator × Tree) → Type 0
FoundLink (Part l) owed = Some (l.operator, tree l.operand) ≡ owed
FoundLink Past owed = None ≡ owed
FoundLink no.NoMemory owed = ⊤

abbrev pub FoundPair : PartAt Pair → Option (Tree × Tree) → Type 0
FoundPair (Part p) owed = Some (tree p.key, tree p.value) ≡ owed
FoundPair Past owed = None ≡ owed
FoundPair no.NoMemory owed = ⊤

abbrev pub FoundChoice : PartAt Choosing → Option (Tree × Place × Tree) → Type 0
FoundChoice (Part c) owed = Some (tree c.chosen, c.test, tree c.other) ≡ owed
FoundChoice Past owed = None ≡ owed
FoundChoice no.NoMemory owed = ⊤

-- a truth, or a stop where there is none
abbrev pub TellsTruth : Result Bool Halt → Option Bool → Place → Type 0
TellsTruth (Ok b) owed place = owed ≡ Some b
TellsTruth (Err h) owed place = (owed ≡ None) × (h ≡ Stopped (record { cause = Raised; place = place }))

-- A name that is bound: the heap is what it is owed to be, the count is one more, and a class body keeps it. A stop changes nothing that is
-- told of.
abbrev pub Binds : Result (Unit {0}) Halt → Result (Unit {0} × Made) ValueStop → NamedVal → Place → Going → Going → Type 0
Binds (Ok u) owed x place before behind =
    (owed ≡ Ok (tt, behind.state.heap))
    × (behind ≡ record before { state = record before.state { heap = behind.state.heap; bound = before.state.bound + 1; here = with_binding x before.state.here } })
Binds (Err (Stopped stop)) owed x place before behind =
    (e : ValueStop) × (owed ≡ Err e) × (stop ≡ record { cause = cause_of e; place = place }) × (behind.state.used ≡ before.state.used)
Binds (Err (Asks r)) owed x place before behind = ⊥
Binds (Err NoMemory) owed x place before behind = ⊤
