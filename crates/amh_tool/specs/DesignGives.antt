-- What reading a design file gives, beside what the definition says.
-- Internal: no rule of the language.
use Rattle.std.specs.Prelude.{◌⊎◌, ℕ, List, Result, Ok, Err}
use Rattle.amh_host.specs.declared.place.Place.{Place}
use Rattle.py_lexer.specs.declared.line.Line.{Line}
use Rattle.py_tree.specs.Steps.{Steps}
use Rattle.py_tree.specs.Programs.{program_of}
use Rattle.design_ir.specs.Circuits.{Circuit}
use Rattle.elab_eval.specs.declared.refusal.ElabStop.{ElabStop}
use Rattle.elab_eval.specs.declared.refusal.ElabStop.TheVariants as elab
use Rattle.amh_tool.specs.declared.refusal.DesignStop.{DesignStop}
use Rattle.amh_tool.specs.declared.refusal.DesignStop.TheVariants.{Refused, Spent, NoMemory}
use Rattle.amh_tool.specs.Plan.{Plan}
use Rattle.amh_tool.specs.Designs.{Given, Designed, refusal, gives, refuses, spends, IsDesigned, IsCut, IsElaborated, IsUnparsed, ComesTo, IsRanked}
use Rattle.amh_tool.specs.declared.design_text.Ranked.{Ranked}
use Rattle.amh_tool.specs.declared.design_text.Rest.{Rest}

-- a design with its program and what is left
abbrev pub given_of : Circuit → Rest → Given
given_of c r = record { program = program_of r.program; found = record { circuit = c; store = r.store; frozen = r.frozen }; left = r.left.left }

abbrev pub given_seen : Ranked → Given
given_seen r = given_of r.design r.rest

-- a design, a refusal or a spent budget is what is found; want of memory may come at any point
abbrev pub Found : (Designed → Type 0) → Result Ranked DesignStop → Type 0
Found P (Ok r) = P (gives (given_seen r))
Found P (Err (Refused why)) = P (refuses why)
Found P (Err (Spent place)) = P (spends place)
Found P (Err NoMemory) = Unit {0}

abbrev pub DesignGives : Plan → List ℕ → Result Ranked DesignStop → Type 0
DesignGives p bytes given = Found (IsDesigned p bytes) given

abbrev pub CutGives : Plan → List ℕ → Result (List Line) Place → Result Ranked DesignStop → Type 0
CutGives p text cut given = Found (IsCut p text cut) given

abbrev pub LinesGive : Plan → List ℕ → List Line → Result Ranked DesignStop → Type 0
LinesGive p text lines given = Found (λ found. IsElaborated p text lines found ⊎ IsUnparsed text lines found) given

abbrev pub ProgramGives : Plan → Steps → Result Ranked DesignStop → Type 0
ProgramGives p body given = Found (ComesTo p body) given

abbrev pub RankGives : Given → Result Ranked DesignStop → Type 0
RankGives g given = Found (IsRanked g) given

-- what elaboration was stopped by, as this crate says it
abbrev pub stop_seen : ElabStop → DesignStop
stop_seen (elab.Refused kind place) = Refused (refusal kind place)
stop_seen (elab.Spent place) = Spent place
stop_seen elab.NoMemory = NoMemory
