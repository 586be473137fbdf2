-- What the tree of modules is made of, piece by piece.
use Rattle.std.specs.Prelude.{◌≡◌, ⊤, ℕ, Bool, true, false, if◌then◌else◌, List, Option, Some, None, Result, Ok, Err}
use Rattle.amh_host.specs.declared.place.Kind.TheVariants.{Raised, Limit}
use Rattle.design_ir.specs.declared.domain.DomainDef.{DomainDef}
use Rattle.design_ir.specs.declared.memory.Memory.{Memory}
use Rattle.design_ir.specs.declared.process.Process.{Process}
use Rattle.design_ir.specs.declared.fragment.Fragment.{Fragment}
use Rattle.design_ir.specs.Forests.{Forest}
use Rattle.module_dsl.specs.Builders.{Built, fragment_of}
use Rattle.domain_transforms.specs.declared.stop.ControlStop.{ControlStop}
use Rattle.domain_transforms.specs.declared.stop.ControlStop.TheVariants as control
use Rattle.clock_domains.specs.Resolved.{file_start}
use Rattle.elab_store.specs.Stores.{Stored}
use Rattle.elab_eval.specs.declared.refusal.ElabStop.{ElabStop}
use Rattle.elab_eval.specs.declared.refusal.ElabStop.TheVariants.{Refused, Spent, NoMemory}
use Rattle.design_ir.specs.Pools.{Pooled}
use Rattle.elab_eval.specs.Elaborates.{is_open, is_any_open, tree_of}

-- a module that is done with: none where a block is open
abbrev pub finished : Built → Option Fragment
finished b = if is_open b then None else Some (fragment_of b)

-- none is done with
abbrev pub is_missing : Option (Option Fragment) → Bool
is_missing None = true
is_missing (Some None) = true
is_missing (Some (Some f)) = false

-- domains, processes and memories under a name, with fragments below them
abbrev pub fragment_with : List ℕ → List DomainDef → List Process → List Memory → Forest → Fragment
fragment_with name ds ps ms below = record { name = name; is_part = false; domains = ds; processes = ps; memories = ms; submodules = below }

-- what a refusal of a wrapper is told as
abbrev pub wrapper_stop : ControlStop → ElabStop
wrapper_stop control.Limit = Refused Limit file_start
wrapper_stop control.NoMemory = NoMemory

-- the top, with all that stands below it, and the pool behind its wrappers
abbrev pub tree_found : Stored → Option Built → Pooled → Result (Fragment × Pooled) ElabStop
tree_found s None q = Err (Refused Raised file_start)
tree_found s (Some b) q = if is_any_open s b then Err (Refused Raised file_start) else tree_of s b q

-- what is answered, with the pool behind it, is what is owed; want of memory may come at any time
abbrev pub IsGot : {A : Type 0} → Result A ElabStop → Pooled → Result (A × Pooled) ElabStop → Type 0
IsGot (Ok x) q owed = owed ≡ Ok (x, q)
IsGot (Err (Refused k p)) q owed = owed ≡ Err (Refused k p)
IsGot (Err (Spent p)) q owed = owed ≡ Err (Spent p)
IsGot (Err NoMemory) q owed = ⊤
