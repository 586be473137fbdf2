-- The signals that a state gives, marked one after another.
use Rattle.std.specs.Prelude.{ℕ, ◌==◌, Bool, true, ◌&&◌, List, [], ◌∷◌, slice_set, is_some}
use Rattle.std.specs.List.{list_any}
use Rattle.design_ir.specs.declared.memory.MemRead.{MemRead}
use Rattle.design_ir.specs.declared.memory.Memory.{Memory}
use Rattle.design_ir.specs.declared.process.DesignProcess.{DesignProcess}
use Rattle.design_ir.specs.Circuits.{is_among}
use Rattle.design_ir.specs.Guards.{driven}
use Rattle.design_ir.specs.Pools.{Pooled}

-- these places marked
abbrev pub marked : List ℕ → List Bool → List Bool
marked [] marks = marks
marked (s ∷ ss) marks = marked ss (slice_set marks s true)

-- the data of a clocked read port of the memory
abbrev pub gives : Memory → ℕ → Bool
gives m s = list_any (λ (r : MemRead). is_some r.domain && (r.word.0 == s)) m.reads

-- a clocked process drives the signal
abbrev pub drives : Pooled → ℕ → DesignProcess → Bool
drives pool s p = is_some p.domain && is_among (driven pool p.body) s
