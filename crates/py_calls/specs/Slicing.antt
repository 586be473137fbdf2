-- Words for the parts of a slice.
-- Internal: no rule of the language.
use Rattle.std.specs.Prelude.{List, [], ◌∷◌, Option, Some, None}
use Rattle.amh_host.specs.declared.place.Place.{Place}
use Rattle.py_tree.specs.Tree.{Perhaps, Trailer, Slice}
use Rattle.py_values.specs.declared.val.Val.{Val}
use Rattle.py_frames.specs.declared.request.Cause.TheVariants.{Raised}
use Rattle.py_frames.specs.Doing.{Doing, Known, stop}
use Rattle.py_frames.specs.Values.{sliced}
use Rattle.py_frames.specs.Call_frames.{perhaps_from, parts_then}

abbrev pub first_part : List Perhaps → Option Perhaps
first_part [] = None
first_part (x ∷ xs) = Some x

-- the parts of a slice that trails
abbrev pub slice_in : Trailer → List Perhaps
slice_in (Slice a b c) = a ∷ b ∷ c ∷ []
slice_in t = []

-- a part has come, behind those before it
abbrev pub slice_done : Known → Val → List Val → Val → List Perhaps → Place → Doing
slice_done k x [] v ps p = parts_then k x (v ∷ []) (perhaps_from 1 ps) p
slice_done k x (i ∷ []) v ps p = parts_then k x (i ∷ v ∷ []) (perhaps_from 2 ps) p
slice_done k x (i ∷ j ∷ []) v ps p = sliced k x i j v p
slice_done k x vs v ps p = stop Raised p
