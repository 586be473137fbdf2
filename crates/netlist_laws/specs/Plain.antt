-- Designs in a form that is drawn as it stands: no choices, and fixed targets alone.
use Rattle.std.specs.Prelude.{◌≡◌, true}
use Rattle.std.specs.List.{AllByRecursion}
use Rattle.design_ir.specs.declared.process.DesignProcess.{DesignProcess}
use Rattle.design_ir.specs.Circuits.{Circuit}
use Rattle.netlist_laws.specs.Latest.{is_plain}

-- no process has a choice, or a target that is not fixed
abbrev pub ArePlain : Circuit → Type 0
ArePlain c = AllByRecursion (λ (p : DesignProcess). is_plain c.pool p.body ≡ true) c.processes

pub record IsPlain (c : Circuit) : Type 0 where
  pub plain : ArePlain c
