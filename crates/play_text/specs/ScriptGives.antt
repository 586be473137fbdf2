-- What reading a script gives, beside what the definition says.
-- Internal: no rule of the language.
use Rattle.std.specs.Prelude.{◌≡◌, ℕ, List, Option, Result, Ok, Err, IfSome, MatchOption}
use Rattle.amh_host.specs.Seen.{Files}
use Rattle.design_ir.specs.declared.event.Event.{Event}
use Rattle.play_text.specs.declared.board.Board.{Board}
use Rattle.play_text.specs.Script.{script_events}
use Rattle.play_text.specs.declared.script.ScriptStop.{ScriptStop}
use Rattle.play_text.specs.declared.script.ScriptStop.TheVariants.{Line, NoMemory}

-- events and a bad line are those of the definition; want of memory may come at any point
abbrev pub ScriptGives : Result (List Event) ScriptStop → Result (List Event) ℕ → Type 0
ScriptGives (Ok es) told = told ≡ Ok es
ScriptGives (Err (Line n)) told = told ≡ Err n
ScriptGives (Err NoMemory) told = Unit {0}

-- the bytes say what the script says: they are all of it, or a front that passes the most bytes
abbrev pub SaysAs : List ℕ → List ℕ → Type 0
SaysAs file bytes = (b : Board) → script_events b file ≡ script_events b bytes

abbrev pub ReadsScript : Option Files → List ℕ → List ℕ → Type 0
ReadsScript told name bytes = IfSome told (λ files. MatchOption (files name) ⊥ (λ file. SaysAs file bytes))
