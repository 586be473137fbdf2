-- Wires that are no ports, with bits and first values as wide as they are.
use Rattle.std.specs.Prelude.{◌≡◌, Bool, List, length, IfSome, Option}
use Rattle.std.proofs.Common.{sym, subst}
use Rattle.rtlil_text.specs.declared.module.RtlWire.{RtlWire}
use Rattle.rtlil_text.specs.declared.module.WirePort.TheVariants.{Inner}
use Rattle.rtlil_text.specs.Rules.{WireFits}
use Rattle.netlist_laws.proofs.Drives.{IsBare}

-- a wire as it may stand, and no port
pub record IsHidden (w : RtlWire) : Type 0 where
  pub fits : WireFits w
  pub inner : w.port ≡ Inner

pub hidden_bare : (w : RtlWire) → IsBare w → IsHidden w
hidden_bare w b = record { fits = record { wide = b.some; init = subst (λ (o : Option (List Bool)). IfSome o (λ (bits : List Bool). length bits ≡ w.width)) (sym b.init) tt }; inner = b.inner }
