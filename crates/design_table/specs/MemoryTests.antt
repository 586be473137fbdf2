-- What is tested of memories.
use Rattle.std.specs.Prelude.{◌≡◌, ℕ, ◌==◌, ◌&&◌, Bool, true, not, List, [], ◌∷◌, map}
use Rattle.std.specs.List.{AllByRecursion, flat_map, list_all}
use Rattle.design_ir.specs.declared.port.Port.{Port}
use Rattle.design_ir.specs.declared.domain.Domain.{Domain}
use Rattle.design_ir.specs.declared.memory.MemRead.{MemRead}
use Rattle.design_ir.specs.declared.memory.Memory.{Memory}
use Rattle.design_ir.specs.declared.process.DesignProcess.{DesignProcess}
use Rattle.design_ir.specs.Pools.{Pooled}
use Rattle.design_ir.specs.Circuits.{Circuit}
use Rattle.design_ir.specs.Designs.{IsMemory}
use Rattle.design_table.specs.Tests.{AreSides, circuit_of, is_input_of}

-- nothing but a pool and domains, which are all that a memory keeps to
abbrev pub bare : Pooled → List Domain → Circuit
bare pool domains = circuit_of pool [] domains [] []

-- what a read port gives, as an input
abbrev pub given_port : MemRead → Port
given_port r = record { name = []; sig = r.word; is_input = true }

abbrev pub given_ports : List Memory → List Port
given_ports ms = flat_map (λ (m : Memory). map given_port m.reads) ms

-- no two ports have a signal in common
abbrev pub are_distinct : List Port → Bool
are_distinct [] = true
are_distinct (p ∷ ps) = list_all (λ (q : Port). not (p.sig.0 == q.sig.0)) ps && are_distinct ps

-- signals that are given once each, and are no inputs, and no statement drives them
pub record AreGiven (pool : Pooled) (ports : List Port) (sides : List ℕ) (processes : List DesignProcess) (given : List Port) : Type 0 where
  pub distinct : are_distinct given ≡ true
  pub no_inputs : list_all (λ (q : Port). not (is_input_of ports q.sig.0)) given ≡ true
  pub undriven : AreSides pool given sides 0 processes

-- memories whose read ports alone give their signals
pub record AreMemories (pool : Pooled) (ports : List Port) (sides : List ℕ) (domains : List Domain) (processes : List DesignProcess) (ms : List Memory) : Type 0 where
  pub rules : AllByRecursion (IsMemory (bare pool domains)) ms
  pub given : AreGiven pool ports sides processes (given_ports ms)
