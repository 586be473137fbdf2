-- Augmented assignments: their parts in memory, and what the last of what trails a target is changed by.
-- Internal: no rule of the language.
use Rattle.std.specs.Prelude.{◌≡◌, Bool, true, false, [], ◌∷◌, Option, Some, None, Result, Ok, Err, ⊤}
use Rattle.amh_host.specs.declared.place.Place.{Place}
use Rattle.py_tree.specs.Seen.{tree}
use Rattle.py_tree.specs.Tree.{Tree, Name, Trailed, Trailers, Trailer, Attribute, Index}
use Rattle.py_tree.specs.Steps.{Step, Augment}
use Rattle.py_values.specs.declared.val.Val.{Val}
use Rattle.py_values.specs.declared.val.ValueStop.{ValueStop}
use Rattle.py_frames.specs.declared.request.Cause.TheVariants.{Raised}
use Rattle.py_frames.specs.declared.leaf.PartAt.{PartAt}
use Rattle.py_frames.specs.declared.leaf.PartAt.TheVariants.{Part, Past}
use Rattle.py_frames.specs.declared.leaf.PartAt.TheVariants as no
use Rattle.py_statements.specs.declared.augment.Changing.{Changing}
use Rattle.py_values.specs.declared.op.PyOp.{PyOp}
use Rattle.py_frames.specs.declared.frame.Purpose.TheVariants.{Plain}
use Rattle.py_frames.specs.Doing.{Doing, Known, ◌>>=◌, give, stop}
use Rattle.py_frames.specs.Parts.{operator_of, place_of}
use Rattle.py_frames.specs.Expressions.{value_of}
use Rattle.py_frames.specs.Statements.{augment_name, augment_along, augment_last}
use Rattle.py_frames.specs.Stmt_frames.{Change}

-- the parts of a statement, as what it changes
abbrev pub change_seen : Changing → Change
change_seen c = record { target = tree c.target; at = c.at; sign = c.sign; right = tree c.right }

-- what a statement changes, where it is an augmented assignment
abbrev pub FoundChange : PartAt Changing → Option Change → Type 0
FoundChange (Part c) owed = Some (change_seen c) ≡ owed
FoundChange Past owed = None ≡ owed
FoundChange no.NoMemory owed = ⊤

-- what may be changed: a name, or the last of what trails a primary
abbrev pub can_change : Tree → Bool
can_change (Name p n) = true
can_change (Trailed p t ts) = true
can_change t = false

-- a target that is a name alone
abbrev pub is_a_name : Tree → Bool
is_a_name (Name p n) = true
is_a_name t = false

-- this value in place of the one that came, or the refusal that came
abbrev pub instead : Val → Result Val ValueStop → Result Val ValueStop
instead x (Ok v) = Ok x
instead x (Err e) = Err e

-- what trails last is changed by a statement
abbrev pub augmented_last : Known → Place → Trailer → Val → Step → Doing
augmented_last k q u x (Augment p target o t) = augment_last k q u x p (operator_of o) t
augmented_last k q u x step = stop Raised q

-- along what trails a primary, from its value on
abbrev pub walked : Known → Place → Tree → Trailers → Place → PyOp → Tree → Doing
walked k q e us p o t = do
  x ← value_of k Plain e
  augment_along k q us x p o t

-- what an augmented assignment means, the units of its target spent
abbrev pub augment_after : Known → Tree → Place → PyOp → Tree → Doing
augment_after k (Name q n) p o t = augment_name k q n p o t
augment_after k (Trailed q e us) p o t = walked k q e us p o t
augment_after k target p o t = stop Raised (place_of target)

-- whether what trails last may be changed
abbrev pub can_change_last : Trailer → Bool
can_change_last (Attribute n) = true
can_change_last (Index t) = true
can_change_last u = false
