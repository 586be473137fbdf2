-- Who gives a signal of a fragment its number.
use Rattle.std.specs.Prelude.{ℕ, suc, ◌==◌, List, [], ◌∷◌, ◌++◌, map, Option, Some, None}
use Rattle.std.specs.List.{find}
use Rattle.design_ir.specs.declared.memory.MemRead.{MemRead}
use Rattle.design_ir.specs.declared.memory.Memory.{Memory}
use Rattle.design_ir.specs.declared.process.Process.{Process}
use Rattle.design_ir.specs.declared.fragment.Fragment.{Fragment}
use Rattle.design_ir.specs.Pools.{Pooled}
use Rattle.design_ir.specs.Guards.{driven}
use Rattle.design_ir.specs.Circuits.{is_among}
use Rattle.fragment_walks.specs.Walks.{all_processes}
use Rattle.fragment_laws.specs.Parts.{all_memories}

-- a read port, with its memory and the memory's number
pub record ReadPort : Type 0 where
  pub number : ℕ
  pub memory : Memory
  pub port : MemRead

abbrev pub port_of : ℕ → Memory → MemRead → ReadPort
port_of k m r = record { number = k; memory = m; port = r }

-- the read ports of memories, which are numbered from k on
abbrev pub ports_from : ℕ → List Memory → List ReadPort
ports_from k [] = []
ports_from k (m ∷ ms) = map (port_of k m) m.reads ++ ports_from (suc k) ms

pub data Giver : Type 0 where
  -- the statements of a process drive it
  statements : Process → Giver
  -- it is the data of a read port
  port : ReadPort → Giver
  -- it comes from outside, or nothing gives it a number
  nobody : Giver

abbrev pub giver_among : Option Process → Option ReadPort → Giver
giver_among (Some p) r = statements p
giver_among None (Some x) = port x
giver_among None None = nobody

abbrev pub giver : Pooled → Fragment → ℕ → Giver
giver q f s =
    giver_among (find (λ (p : Process). is_among (driven q p.body) s) (all_processes f)) (find (λ (x : ReadPort). x.port.word.0 == s) (ports_from 0 (all_memories f)))
