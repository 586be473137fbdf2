-- Bits of combinational signals in an order in which each stands behind those that it needs.
use Rattle.std.specs.Prelude.{◌≡◌, ℕ, ◌<◌, ◌≤◌, ◌==◌, ◌&&◌, ◌||◌, Bool, IsTrue, is_none, List, [], ◌∷◌, ◌++◌, length, Contains, ⊤}
use Rattle.std.specs.List.{list_any, AllByRecursion, IsDistinct}
use Rattle.design_ir.specs.declared.memory.MemRead.{MemRead}
use Rattle.design_ir.specs.declared.memory.Memory.{Memory}
use Rattle.design_ir.specs.declared.process.DesignProcess.{DesignProcess}
use Rattle.design_ir.specs.Values.{signal_form}
use Rattle.design_ir.specs.Targets.{Bit}
use Rattle.design_ir.specs.Guards.{driven}
use Rattle.design_ir.specs.Circuits.{Circuit, is_among}
use Rattle.design_ir.specs.Loops.{Needs}

-- driven from a combinational process, or the data of a combinational read port
abbrev pub is_comb : Circuit → ℕ → Bool
is_comb c s =
    list_any (λ (p : DesignProcess). is_none p.domain && is_among (driven c.pool p.body) s) c.processes
    || list_any (λ (m : Memory). list_any (λ (r : MemRead). is_none r.domain && (r.word.0 == s)) m.reads) c.memories

-- a bit of such a signal
pub record IsCombBit (c : Circuit) (b : Bit) : Type 0 where
  pub comb : IsTrue (is_comb c b.sig)
  pub inside : b.index < (signal_form c.pool.signals b.sig).width

abbrev pub same_bit : Bit → Bit → Bool
same_bit a b = (a.sig == b.sig) && (a.index == b.index)

-- each of those bits once, behind those of them that it needs
pub record IsOrder (c : Circuit) (order : List Bit) : Type 0 where
  pub all : (b : Bit) → IsCombBit c b → Contains order b
  pub only : AllByRecursion (IsCombBit c) order
  pub once : IsDistinct same_bit order
  pub behind : (before after : List Bit) (b x : Bit) → order ≡ before ++ b ∷ after → IsCombBit c x → Needs c b x → Contains before x

-- of these bits each needs the next
abbrev pub NeedsNext : Circuit → List Bit → Type 0
NeedsNext c [] = ⊤
NeedsNext c (b ∷ []) = ⊤
NeedsNext c (b ∷ x ∷ xs) = Needs c b x × NeedsNext c (x ∷ xs)

pub record IsCombChain (c : Circuit) (chain : List Bit) : Type 0 where
  pub bits : AllByRecursion (IsCombBit c) chain
  pub needs : NeedsNext c chain

-- so many bits stand on the longest chain of needs
pub record IsLongest (c : Circuit) (n : ℕ) : Type 0 where
  pub chain : List Bit
  pub is_chain : IsCombChain c chain
  pub long : length chain ≡ n
  pub most : (other : List Bit) → IsCombChain c other → length other ≤ n
