-- A design with statements that choose nothing, beside the design whose meaning it has.
use Rattle.std.specs.Prelude.{◌≡◌, ℕ, Bool, true, false, List, [], ◌∷◌, length, ℤ, is_some, All, Contains}
use Rattle.design_ir.specs.declared.process.DesignProcess.{DesignProcess}
use Rattle.design_ir.specs.Pools.{Pooled}
use Rattle.design_ir.specs.Targets.{Bit}
use Rattle.design_ir.specs.Trees.{Block}
use Rattle.design_ir.specs.Fixed.{is_plain}
use Rattle.design_ir.specs.Guards.{Guarded, guarded, driven, block_exprs}
use Rattle.design_ir.specs.Put.{put}
use Rattle.design_ir.specs.Loops.{AssignmentNeeds}
use Rattle.design_ir.specs.Circuits.{Circuit, is_among, FitsSignals}
use Rattle.flat_design.specs.Growing.{IsMore, IsReadable}
use Rattle.flat_design.specs.Shown.{Starts, SomeNeeds}

-- statements without choices and with fixed targets that drive the same signals, leave the same numbers in them, and
-- make no bit of a combinational signal need more
pub record IsFlatBody (p q : Pooled) (clocked : Bool) (old new : Block) : Type 0 where
  pub plain : is_plain q new ≡ true
  pub readable : All (IsReadable q) (block_exprs new)
  pub drives : (s : ℕ) → is_among (driven q new) s ≡ is_among (driven p old) s
  pub puts : (env cur : List ℤ) → FitsSignals p env → FitsSignals p cur → length cur ≡ length p.signals → Starts p clocked (driven p old) env cur → put q env new cur ≡ put p env old cur
  pub needs : clocked ≡ false → (g : Guarded) (b c : Bit) → Contains (guarded [] new) g → AssignmentNeeds q g b c → SomeNeeds p (guarded [] old) b c

-- the process of the same domain
pub record IsFlatProcess (p q : Pooled) (old new : DesignProcess) : Type 0 where
  pub domain : new.domain ≡ old.domain
  pub body : IsFlatBody p q (is_some old.domain) old.body new.body

abbrev pub AreFlatProcesses : Pooled → Pooled → List DesignProcess → List DesignProcess → Type 0
AreFlatProcesses p q [] [] = Unit {0}
AreFlatProcesses p q (old ∷ olds) (new ∷ news) = IsFlatProcess p q old new × AreFlatProcesses p q olds news
AreFlatProcesses p q olds news = ⊥

-- the same design, but for a pool that has grown and processes that are flat
pub record IsFlat (c d : Circuit) : Type 0 where
  pub more : IsMore c.pool d.pool
  pub rest : d ≡ record c { pool = d.pool; processes = d.processes }
  pub processes : AreFlatProcesses c.pool d.pool c.processes d.processes
