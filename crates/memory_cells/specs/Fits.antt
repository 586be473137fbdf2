-- The cells of a memory keep the rules of RTLIL text.
-- Internal: no rule of the language.
use Rattle.std.specs.Prelude.{◌≡◌, ◌≤◌, ℕ, ◌==◌, true, List, length, MatchOption, slice_get, ℤ, Contains}
use Rattle.std.specs.List.{list_any}
use Rattle.rtlil_text.specs.declared.sig.SigPart.{SigPart}
use Rattle.rtlil_text.specs.declared.module.RtlModule.{RtlModule}
use Rattle.rtlil_text.specs.Ids.{IsPublicId}
use Rattle.rtlil_text.specs.Sources.{spec_bits}
use Rattle.rtlil_text.specs.Memories.{writes_of, inits_of}
use Rattle.rtlil_text.specs.MemoryRules.{HaveOneClock, MemoryFits}
use Rattle.rtlil_text.specs.Rules.{SpecFits, CellFits}
use Rattle.memory_cells.specs.declared.clock.Clock.{Clock}
use Rattle.memory_cells.specs.declared.plan.Plan.{Plan}
use Rattle.memory_cells.specs.Plans.{planned}
use Rattle.memory_cells.specs.Cells.{init_cell, write_cell, comb_read, clocked_read, WritePort, write_cells}

-- the memory is one of the module, under a public id, and has as many write cells as the plan says
pub record HasPlan (m : RtlModule) (p : Plan) : Type 0 where
  pub among : Contains m.memories (planned p)
  pub named : IsPublicId p.id
  pub address : 1 ≤ p.address
  pub writes : length (writes_of m p.id) ≡ p.writes

-- so many bits that the module has
pub record IsSpecOf (m : RtlModule) (width : ℕ) (spec : List SigPart) : Type 0 where
  pub fits : SpecFits m.wires spec
  pub wide : length (spec_bits spec) ≡ width

abbrev pub InitsFit : Type 0
InitsFit = (m : RtlModule) (p : Plan) (id : List ℕ) (rows : List ℤ) → HasPlan m p → length rows ≡ p.depth → CellFits m (init_cell p id rows)

abbrev pub WritesFit : Type 0
WritesFit = (m : RtlModule) (p : Plan) (id : List ℕ) (k : ℕ) (clock : Clock) (enable address word : List SigPart) → HasPlan m p
    → IsSpecOf m 1 clock.bit → IsSpecOf m p.width enable → IsSpecOf m p.address address → IsSpecOf m p.width word → CellFits m (write_cell p id k clock enable address word)

abbrev pub CombReadsFit : Type 0
CombReadsFit = (m : RtlModule) (p : Plan) (id : List ℕ) (address word : List SigPart) → HasPlan m p → IsSpecOf m p.address address → IsSpecOf m p.width word → CellFits m (comb_read p id address word)

-- a read is transparent for write cells of its own clock alone
abbrev pub ClockedReadsFit : Type 0
ClockedReadsFit = (m : RtlModule) (p : Plan) (id : List ℕ) (through : List ℕ) (clock : Clock) (enable address word : List SigPart) → HasPlan m p
    → IsSpecOf m 1 clock.bit → IsSpecOf m 1 enable → IsSpecOf m p.address address → IsSpecOf m p.width word
    → ((k : ℕ) → list_any (λ i. i == k) through ≡ true → MatchOption (slice_get (writes_of m p.id) k) ⊥ (HaveOneClock (clocked_read p id through clock enable address word)))
    → CellFits m (clocked_read p id through clock enable address word)

-- with one cell of first rows, and the write cells of these ports in order
abbrev pub MemoriesFit : Type 0
MemoriesFit = (m : RtlModule) (p : Plan) (ports : List WritePort) → 1 ≤ p.width → 1 ≤ p.depth → length ports ≡ p.writes → length (inits_of m p.id) ≡ 1 → writes_of m p.id ≡ write_cells p 0 ports → MemoryFits m (planned p)
