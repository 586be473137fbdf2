-- What cutting a text gives, beside what the definitions say.
-- Internal: no rule of the language.
use Rattle.std.specs.Prelude.{◌≡◌, List, Result, Ok, Err}
use Rattle.amh_host.specs.declared.place.Place.{Place}
use Rattle.py_lexer.specs.declared.line.Line.{Line}
use Rattle.py_lexer.specs.declared.line.LexStop.{LexStop}
use Rattle.py_lexer.specs.declared.line.LexStop.TheVariants.{Subset, NoMemory}

-- a fault is at the place that the definition says; want of memory may come at any point
abbrev pub Tells : {A : Type 0} → LexStop → Result A Place → Type 0
Tells (Subset place) told = told ≡ Err place
Tells NoMemory told = Unit {0}

-- the lines, or the first fault, are those of the definition
abbrev pub Cuts : Result (List Line) LexStop → Result (List Line) Place → Type 0
Cuts (Ok lines) told = told ≡ Ok lines
Cuts (Err stop) told = Tells stop told
