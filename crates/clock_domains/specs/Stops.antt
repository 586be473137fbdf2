-- The first statement of a tree that is refused, by its target and its place.
use Rattle.std.specs.Prelude.{◌≡◌, ℕ, suc, Bool, if◌then◌else◌, List, [], ◌∷◌, Option, Some, None}
use Rattle.amh_host.specs.declared.place.Place.{Place}
use Rattle.design_ir.specs.Trees.{Statement, assign, choose, Choices, none, arm, Block, done, next}
use Rattle.design_ir.specs.declared.process.Process.{Process}
use Rattle.fragment_walks.specs.Marks.{is_marked}
use Rattle.clock_domains.specs.declared.stop.ResolveStop.{ResolveStop}
use Rattle.clock_domains.specs.declared.stop.ResolveStop.TheVariants.{DomainClash, NoReset, TwoDrivers, DrivenInput, Limit, NoMemory}
use Rattle.clock_domains.specs.Resolved.{first_of}

abbrev mutual
  pub statement_stop : (ℕ → Place → Option ResolveStop) → Statement → Option ResolveStop
  statement_stop stop (assign t v p) = stop t.0 p
  statement_stop stop (choose arms) = choices_stop stop arms

  pub choices_stop : (ℕ → Place → Option ResolveStop) → Choices → Option ResolveStop
  choices_stop stop none = None
  choices_stop stop (arm c body others) = first_of (block_stop stop body) (choices_stop stop others)

  pub block_stop : (ℕ → Place → Option ResolveStop) → Block → Option ResolveStop
  block_stop stop done = None
  block_stop stop (next s rest) = first_of (statement_stop stop s) (block_stop stop rest)

-- of processes in order, each by its number
abbrev pub processes_stop : (ℕ → ℕ → Place → Option ResolveStop) → ℕ → List Process → Option ResolveStop
processes_stop stop n [] = None
processes_stop stop n (p ∷ ps) = first_of (block_stop (stop n) p.body) (processes_stop stop (suc n) ps)

-- by marks of the targets that stand for inputs, and of those that stand for what is driven already
abbrev pub target_stop : (on_inputs taken : List Bool) → ℕ → Place → Option ResolveStop
target_stop on_inputs taken target place = if is_marked on_inputs target then Some (DrivenInput place) else (if is_marked taken target then Some (TwoDrivers place) else None)

-- ---- refusals

-- a refusal is the one that is owed; want of memory may come at any time
abbrev pub IsOwed : Option ResolveStop → ResolveStop → Type 0
IsOwed owed NoMemory = Unit {0}
IsOwed owed (DomainClash p) = owed ≡ Some (DomainClash p)
IsOwed owed (NoReset p) = owed ≡ Some (NoReset p)
IsOwed owed (TwoDrivers p) = owed ≡ Some (TwoDrivers p)
IsOwed owed (DrivenInput p) = owed ≡ Some (DrivenInput p)
IsOwed owed (Limit p) = owed ≡ Some (Limit p)
