-- What a run promises.
use Rattle.std.specs.Prelude.{◌≡◌, ◌<◌, ℕ, List, Some}
use Rattle.amh_host.specs.Seen.{Files, Seen, file_of}
use Rattle.amh_host.specs.Causes.{Rose}
use Rattle.amh_tool.specs.Plan.{plan_of}
use Rattle.amh_tool.specs.Outcome.{Outcome, Verdict, IsOutcome, IsVerdict, names}
use Rattle.amh_tool.specs.Headline.{HasOutcome, Tells, IsPlain, IfAccepted, IsAccepted, HoldsRtlil, HoldsTrace, IsWritten}
use Rattle.amh_tool.specs.Work.{Fails, FaultsAfter}
use Rattle.amh_tool.specs.declared.running.Status.{Status}
use Rattle.amh_tool.specs.declared.running.Status.TheVariants.{Fault, NoMemory}

-- it holds where the host told these files, no fault came, and memory was found
abbrev pub Plainly : Status → Seen → ℕ → ℕ → (Files → Type 0) → Type 0
Plainly answer old before now P = (files : Files) → old.files ≡ Some files → IsPlain answer before now → P files

-- it holds of every outcome of the words and the files
abbrev pub OfOutcome : List (List ℕ) → Files → (Outcome → Type 0) → Type 0
OfOutcome words files P = (o : Outcome) → IsOutcome words files o → P o

-- it holds of every verdict of the words and the files
abbrev pub OfVerdict : List (List ℕ) → Files → (Verdict → Type 0) → Type 0
OfVerdict words files P = (v : Verdict) → IsVerdict words files v → P v

-- of the answer to these words, of what the host told before and tells now, and of its count of faults before and now
pub record Promises (words : List (List ℕ)) (answer : Status) (old new : Seen) (before now : ℕ) : Type 0 where
  -- the words and the files have one outcome
  pub has : Plainly answer old before now (HasOutcome words)
  -- the answer and the texts are that outcome's
  pub texts : Plainly answer old before now (λ files. OfOutcome words files (λ o. Tells words o answer old new))
  -- where it is accepted, the text of RTLIL, read back by its grammar and evaluated by its cells, has the history of the source
  pub rtlil : Plainly answer old before now (λ files. OfOutcome words files (λ o. IfAccepted o (λ c rows end. HoldsRtlil new (names words).il c)))
  -- and the trace is the text of that history over the rows' events
  pub trace : Plainly answer old before now (λ files. OfOutcome words files (λ o. IfAccepted o (λ c rows end. HoldsTrace new (names words).trace c rows end)))
  -- where no design is accepted, each file is as before, whatever the answer
  pub untouched : (files : Files) → old.files ≡ Some files → OfVerdict words files (λ v. IsAccepted v → ⊥) → new.files ≡ old.files
  -- no other file changes
  pub others : (name : List ℕ) → (IsWritten words name → ⊥) → file_of new name ≡ file_of old name
  -- after a fault or want of memory a part of what is asked was carried out, and after a fault a part of its text
  pub part : answer ≡ Fault → FaultsAfter (plan_of words) old new
  pub memory : answer ≡ NoMemory → Fails (plan_of words) old new
  -- a fault has its cause, and a cause is answered, by a fault alone
  pub fault : answer ≡ Fault → Rose before now
  pub told : before < now → answer ≡ Fault
