-- The words for why a program stops: they are printed, and read in answers that refuse. And how a place is printed.
-- Internal: no rule of the language.
use Rattle.std.specs.Prelude.{ℕ, List, ◌++◌, codes}
use Rattle.std.specs.Fmt.{decimal}
use Rattle.amh_host.specs.declared.place.Place.{Place}
use Rattle.py_frames.specs.declared.request.Cause.{Cause}
use Rattle.py_frames.specs.declared.request.Cause.TheVariants.{Raised, Width, Limit, Assert, Spent}

abbrev pub word_of : Cause → List ℕ
word_of Raised = codes "raised"
word_of Width = codes "width"
word_of Limit = codes "limit"
word_of Assert = codes "assert"
word_of Spent = codes "spent"

abbrev pub place_said : Place → List ℕ
place_said place = decimal place.line ++ (codes ":" ++ decimal place.col)
