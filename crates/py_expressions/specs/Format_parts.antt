-- What a call leaves of a meaning, where it carries out the first part of it.
-- Internal: no rule of the language.
use Rattle.std.specs.Prelude.{◌≡◌, ℕ, ◌≤◌, List, ◌++◌, Option, Some, None, Result, Ok, Err, ⊤}
use Rattle.amh_host.specs.declared.place.Place.{Place}
use Rattle.py_tree.specs.declared.name.Piece.{Piece}
use Rattle.py_heap.specs.Heaps.{Made}
use Rattle.py_builtins.specs.Scalars.{shown_text}
use Rattle.py_frames.specs.declared.state.Halt.{Halt}
use Rattle.py_frames.specs.declared.frame.Now.{Now}
use Rattle.py_frames.specs.declared.leaf.PartAt.{PartAt}
use Rattle.py_frames.specs.declared.leaf.PartAt.TheVariants.{Part, Past}
use Rattle.py_frames.specs.declared.leaf.PartAt.TheVariants as no
use Rattle.py_frames.specs.declared.functions.Functions.{Functions}
use Rattle.py_frames.specs.declared.going.Going.{Going}
use Rattle.py_frames.specs.Doing.{Doing, Known, heap_seen, ◌>>=◌}
use Rattle.py_frames.specs.Values.{read}
use Rattle.py_frames.specs.Expressions.{pieces_shown, shown_hole}
use Rattle.py_frames.specs.Frames.{GoesOn}

-- the text that a hole shows, where there is one
abbrev pub FoundText : PartAt (List ℕ) → Option (List ℕ) → Type 0
FoundText (Part t) owed = owed ≡ Some t
FoundText Past owed = owed ≡ None
FoundText no.NoMemory owed = ⊤

-- whatever is owed of what is left is owed of the whole; and a halt is what comes out
abbrev pub Carries : Functions → Made → Result (Unit {0}) Halt → Going → Going → ℕ → (whole rest : Known → Doing) → Type 0
Carries functions frozen (Ok u) before behind budget whole rest =
    (r : Result Now Halt) (y : Going) → behind.state.used ≤ y.state.used → GoesOn functions frozen r behind y budget rest → GoesOn functions frozen r before y budget whole
Carries functions frozen (Err h) before behind budget whole rest = GoesOn functions frozen (Err h) before behind budget whole

-- a hole whose unit is spent, and the pieces behind it
abbrev pub hole_then : Known → List ℕ → List ℕ → List Piece → Place → Doing
hole_then k done name pieces place = do
  v ← read k name place
  λ w s. shown_hole (shown_text (heap_seen k s) v) place (λ t. pieces_shown k (done ++ t) pieces place) w s
