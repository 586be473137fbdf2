-- How an elaboration stands between two answers: side by side, what the machine stands for and which answers are reached.
use Rattle.std.specs.Prelude.{◌≡◌, ℕ, ◌+◌, ◌<◌, ◌^◌, ⊤, List, [], ◌∷◌, ◌++◌, length, Option, None, Result, Ok, Err}
use Rattle.py_tree.specs.Steps.{Steps}
use Rattle.py_heap.specs.Heaps.{nothing}
use Rattle.py_frames.specs.declared.request.Answer.{Answer}
use Rattle.py_frames.specs.declared.state.Got.{Got}
use Rattle.py_frames.specs.Doing.{Done}
use Rattle.py_frames.specs.Whole.{ask_program}
use Rattle.py_machine.specs.declared.machine.Machine.{Machine}
use Rattle.py_machine.specs.Lives.{Stands, again}
use Rattle.elab_eval.specs.declared.refusal.ElabStop.{ElabStop}
use Rattle.elab_eval.specs.declared.refusal.ElabStop.TheVariants as stop
use Rattle.elab_eval.specs.declared.running.Step.{Step}
use Rattle.elab_eval.specs.declared.running.Step.TheVariants.{Next, Ended}
use Rattle.elab_store.specs.Stores.{Held}
use Rattle.elab_store.specs.Sound.{IsSound}
use Rattle.elab_eval.specs.Reaches.{Reaches, world}
use Rattle.elab_eval.specs.Elaborates.{Comes}

-- this answer comes next: with those before it, for which the machine stands, it is reached, and this is then held
pub record IsRunning (program : Steps) (top : Option (List ℕ)) (budget : ℕ) (m : Machine) (h : Held) (a : Answer) (left : ℕ) : Type 0 where
  pub given : List Answer
  pub stands : Stands program nothing given m
  pub waits : again m.stage ≡ None
  pub taken : m.going.state.taken ≡ length given
  pub reached : Reaches program top budget (given ++ a ∷ []) h
  pub sound : IsSound h
  pub below : m.going.state.used < budget
  pub units : m.going.state.used + left ≡ budget

-- the program ended behind answers that are reached, and what it used is below the budget
pub record HasEnded (program : Steps) (top : Option (List ℕ)) (budget : ℕ) (m : Machine) (h : Held) (left : ℕ) : Type 0 where
  pub given : List Answer
  pub reached : Reaches program top budget given h
  pub got : Got
  pub ends : ask_program program (world budget given) ≡ Done got m.going.state
  pub sound : IsSound h
  pub below : m.going.state.used < budget
  pub units : m.going.state.used + left ≡ budget

-- what one answer brings
abbrev pub Steps_to : Steps → Option (List ℕ) → ℕ → Result Step ElabStop → Machine → Machine → Held → ℕ → Type 0
Steps_to program top budget (Ok (Next a)) before m h left =
    IsRunning program top budget m h a left × (m.going.state.taken ≡ before.going.state.taken + 1) × (m.going.state.taken < 2 ^ 64)
Steps_to program top budget (Ok Ended) before m h left = HasEnded program top budget m h left
Steps_to program top budget (Err (stop.Refused k p)) before m h left = Comes program top budget left (Err (stop.Refused k p))
Steps_to program top budget (Err (stop.Spent p)) before m h left = Comes program top budget left (Err (stop.Spent p))
Steps_to program top budget (Err stop.NoMemory) before m h left = ⊤

-- what all answers bring
abbrev pub Runs_to : Steps → Option (List ℕ) → ℕ → Result (Unit {0}) ElabStop → Machine → Held → ℕ → Type 0
Runs_to program top budget (Ok x) m h left = HasEnded program top budget m h left
Runs_to program top budget (Err (stop.Refused k p)) m h left = Comes program top budget left (Err (stop.Refused k p))
Runs_to program top budget (Err (stop.Spent p)) m h left = Comes program top budget left (Err (stop.Spent p))
Runs_to program top budget (Err stop.NoMemory) m h left = ⊤
