-- A module that is one of a flat design is one of the design.
use Rattle.std.specs.Prelude.{◌≡◌, ◌↔◌, List, ℤ}
use Rattle.std.proofs.Common.{subst}
use Rattle.design_ir.specs.declared.event.Event.{Event}
use Rattle.design_ir.specs.declared.expr.Expr.{Expr}
use Rattle.design_ir.specs.declared.process.DesignProcess.{DesignProcess}
use Rattle.design_ir.specs.Circuits.{Circuit}
use Rattle.design_ir.specs.Histories.{History}
use Rattle.design_ir.specs.Legal.{AllLegal}
use Rattle.rtlil_text.specs.declared.module.RtlModule.{RtlModule}
use Rattle.flat_design.specs.Flat.{IsFlat}
use Rattle.flat_design.proofs.FlatPairs.{with_parts, design_is}
use Rattle.netlist_laws.specs.Corresponds.{Corresponds}
use Rattle.netlist_laws.specs.Histories.{HasHistory, SameHistory}

module _ (c : Circuit) (es : List Expr) (ps : List DesignProcess) (m : RtlModule) where
  corresponds : Corresponds (with_parts c es ps) m → Corresponds c m
  corresponds h = record { firsts = h.firsts; others = h.others; wires = h.wires; columns = h.columns; inner = h.inner }

  history : (events : List Event) → ((envs : List (List ℤ)) → History (with_parts c es ps) events envs ↔ History c events envs) → HasHistory (with_parts c es ps) m events → HasHistory c m events
  history events same h = record {
    envs = h.envs;
    is_history = record { settles = (same h.envs).0 h.is_history.settles; only = λ others other. h.is_history.only others ((same others).1 other) };
    columns = h.columns;
    defined = h.defined;
  }

pub Corresponds-flat : (c d : Circuit) (m : RtlModule) → IsFlat c d → Corresponds d m → Corresponds c m
Corresponds-flat c d m flat h = corresponds c d.pool.exprs d.processes m (subst (λ x. Corresponds x m) (design_is c d flat) h)

pub SameHistory-flat : (c d : Circuit) (m : RtlModule) → IsFlat c d → ((events : List Event) (envs : List (List ℤ)) → AllLegal c events → History d events envs ↔ History c events envs) → SameHistory d m → SameHistory c m
SameHistory-flat c d m flat same h events legal =
    let is : d ≡ with_parts c d.pool.exprs d.processes = design_is c d flat in
    history c d.pool.exprs d.processes m events (λ envs. subst (λ x. History x events envs ↔ History c events envs) is (same events envs legal)) ((subst (λ x. SameHistory x m) is h) events legal)
