-- Words for the arguments of a call.
-- Internal: no rule of the language.
use Rattle.std.specs.Prelude.{List, ◌++◌}
use Rattle.amh_host.specs.declared.place.Place.{Place}
use Rattle.py_tree.specs.Tree.{Trailer, Call, Arguments, no_argument}
use Rattle.py_values.specs.declared.val.Val.{Val}
use Rattle.py_frames.specs.declared.request.NamedVal.{NamedVal}
use Rattle.py_frames.specs.Doing.{Doing, Known}
use Rattle.py_frames.specs.Expressions.{arguments_then, with_elements}

-- the arguments of a call that trails
abbrev pub arguments_in : Trailer → Arguments
arguments_in (Call gs) = gs
arguments_in t = no_argument

-- the elements of a `*` argument, and then the arguments behind it
abbrev pub elements_then : Known → Place → List Val → List NamedVal → Arguments → Val → (List Val → List NamedVal → Doing) → Doing
elements_then k p vs keywords gs row f = with_elements k row p (λ us. arguments_then k p (vs ++ us) keywords gs f)
