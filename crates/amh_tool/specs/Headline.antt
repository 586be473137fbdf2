-- What is proved of the whole program.
-- Source: this project's own promise (README.md, What is claimed).
use Rattle.std.specs.Prelude.{◌≡◌, ◌≢◌, ◌⊎◌, ℕ, List, ◌++◌, Option, Some, MatchOption, ℤ}
use Rattle.std.specs.Option.{option_map}
use Rattle.amh_host.specs.Seen.{Files, Seen, file_of}
use Rattle.amh_host.specs.Causes.{Stood}
use Rattle.design_ir.specs.Circuits.{Circuit}
use Rattle.rtlil_text.specs.Reads.{Reads}
use Rattle.rtlil_text.specs.declared.module.RtlModule.{RtlModule}
use Rattle.netlist_laws.specs.Corresponds.{Corresponds}
use Rattle.netlist_laws.specs.Histories.{SameHistory, IsHistory}
use Rattle.play_text.specs.Boards.{board_of}
use Rattle.play_text.specs.Trace.{Row, End, trace_text, events_in}
use Rattle.amh_tool.specs.Plan.{plan_of}
use Rattle.amh_tool.specs.Outcome.{Outcome, Rejects, Accepts, Verdict, Rejected, Takes, IsOutcome, status_of, said_of, warned_of, names}
use Rattle.amh_tool.specs.declared.running.Status.{Status}
use Rattle.amh_tool.specs.declared.running.Status.TheVariants.{NoMemory}

-- ---- what an accepted design is owed

-- the text, read back by its grammar, is a module with the design's columns and its history
pub record StandsFor (text : List ℕ) (c : Circuit) : Type 0 where
  pub netlist : RtlModule
  pub reads : Reads text netlist
  pub corresponds : Corresponds c netlist
  pub same_history : SameHistory c netlist

-- the text is the trace of the design's history over the rows' events
pub record IsTrace (text : List ℕ) (c : Circuit) (rows : List Row) (end : End) : Type 0 where
  pub envs : List (List ℤ)
  pub is_history : IsHistory c (events_in rows) envs
  pub is_text : text ≡ trace_text (board_of c) rows envs end

abbrev pub HoldsRtlil : Seen → List ℕ → Circuit → Type 0
HoldsRtlil s name c = (text : List ℕ) × (file_of s name ≡ Some (Some text)) × StandsFor text c

abbrev pub HoldsTrace : Seen → List ℕ → Circuit → List Row → End → Type 0
HoldsTrace s name c rows end = (text : List ℕ) × (file_of s name ≡ Some (Some text)) × IsTrace text c rows end

-- ---- accepted or not

-- what holds where the outcome is accepted
abbrev pub IfAccepted : Outcome → (Circuit → List Row → End → Type 0) → Type 0
IfAccepted (Rejects r) P = Unit {0}
IfAccepted (Accepts c rows end) P = P c rows end

-- a design is accepted before anything is written, whatever its run then comes to
abbrev pub IsAccepted : Verdict → Type 0
IsAccepted (Rejected r) = ⊥
IsAccepted (Takes g task) = Unit {0}

-- ---- the answer and the texts

abbrev pub grown : List ℕ → Option (List ℕ) → Option (List ℕ)
grown text o = option_map (λ old. old ++ text) o

-- the answer is the outcome's, and so are the texts said and warned
pub record Tells (words : List (List ℕ)) (o : Outcome) (answer : Status) (old new : Seen) : Type 0 where
  pub status : status_of o ≡ Some answer
  pub said : new.said ≡ grown (said_of o) old.said
  pub warned : new.warned ≡ grown (warned_of (names words) o) old.warned

-- no fault, and memory was found
pub record IsPlain (status : Status) (before now : ℕ) : Type 0 where
  pub stood : Stood before now
  pub memory : status ≢ NoMemory

-- the words name it as one of the two files that are written
abbrev pub IsWritten : List (List ℕ) → List ℕ → Type 0
IsWritten words name = MatchOption (plan_of words) ⊥ (λ p. (name ≡ p.il) ⊎ (name ≡ p.trace))

-- ---- the outcome

-- words and files have one outcome
abbrev pub OneOutcome : Type 0
OneOutcome = (words : List (List ℕ)) (files : Files) (a b : Outcome) → IsOutcome words files a → IsOutcome words files b → a ≡ b

-- the words and the files have an outcome, and no other
pub record HasOutcome (words : List (List ℕ)) (files : Files) : Type 0 where
  pub found : Outcome
  pub is_outcome : IsOutcome words files found
  pub only : (o : Outcome) → IsOutcome words files o → o ≡ found
