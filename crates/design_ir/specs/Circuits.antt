-- A design as its meaning sees it, and what it holds between events.
use Rattle.std.specs.Prelude.{ℕ, ◌<◌, ◌==◌, ◌&&◌, ◌||◌, Bool, List, length, slice_index_or, position, ℤ, pos, Option, Some, None, is_some, false}
use Rattle.std.specs.List.{list_any}
use Rattle.lists.specs.Texts.{text_eq}
use Rattle.amh_bits.specs.Patterns.{IsOf}
use Rattle.design_ir.specs.declared.domain.Domain.{Domain}
use Rattle.design_ir.specs.declared.memory.MemRead.{MemRead}
use Rattle.design_ir.specs.declared.memory.Memory.{Memory}
use Rattle.design_ir.specs.declared.port.Port.{Port}
use Rattle.design_ir.specs.declared.port.Column.{Column}
use Rattle.design_ir.specs.declared.process.DesignProcess.{DesignProcess}
use Rattle.design_ir.specs.Pools.{Pooled}
use Rattle.design_ir.specs.Values.{signal_form}
use Rattle.design_ir.specs.Guards.{driven}

pub record Circuit : Type 0 where
  pub pool : Pooled
  pub processes : List DesignProcess
  pub memories : List Memory
  pub domains : List Domain
  pub ports : List Port
  pub columns : List Column

-- the numbers of inputs and registers, by signal, and the rows of each memory
pub record State : Type 0 where
  pub held : List ℤ
  pub rows : List (List ℤ)

-- the test of what is there, false where nothing is
abbrev pub option_test : {A : Type 0} → (A → Bool) → Option A → Bool
option_test p None = false
option_test p (Some x) = p x

-- the number of a signal in an environment, which is the list of all signals' numbers
abbrev pub at : List ℤ → ℕ → ℤ
at env s = slice_index_or env s (pos 0)

-- the numbers of the signals are of their shapes
abbrev pub FitsSignals : Pooled → List ℤ → Type 0
FitsSignals p env = (s : ℕ) → s < length p.signals → IsOf (signal_form p.signals s).signed (signal_form p.signals s).width (at env s)

-- a signal is among these
abbrev pub is_among : List ℕ → ℕ → Bool
is_among ss s = list_any (λ x. x == s) ss

abbrev pub is_input : Circuit → ℕ → Bool
is_input c s = list_any (λ (p : Port). p.is_input && (p.sig.0 == s)) c.ports

abbrev pub is_clock : Circuit → ℕ → Bool
is_clock c s = list_any (λ (d : Domain). d.clk.0 == s) c.domains

-- driven from a clocked domain, or the data of a clocked read port
abbrev pub is_register : Circuit → ℕ → Bool
is_register c s =
    list_any (λ (p : DesignProcess). is_some p.domain && is_among (driven c.pool p.body) s) c.processes
    || list_any (λ (m : Memory). list_any (λ (r : MemRead). is_some r.domain && (r.word.0 == s)) m.reads) c.memories

-- what a state gives
abbrev pub is_held : Circuit → ℕ → Bool
is_held c s = is_input c s || is_register c s

-- the number of the domain with a name, where one has it
abbrev pub domain_named : Circuit → List ℕ → Option ℕ
domain_named c name = position (λ (d : Domain). text_eq d.name name) c.domains
