-- What a run needs of what a program was elaborated to. (Internal: no rule of the language.)
use Rattle.std.specs.Prelude.{◌≡◌, ◌≤◌, length, None}
use Rattle.design_ir.specs.Circuits.{Circuit}
use Rattle.elab_store.specs.Stores.{Stored}
use Rattle.elab_store.specs.Sound.{IsSound}
use Rattle.elab_eval.specs.declared.running.Elaborated.{Elaborated}
use Rattle.elab_eval.specs.Clocks.{clock_refused}

-- what is held is sound over the pool of the design, which has no more expressions than it may, and no clock is refused
pub record FitsDesign (d : Circuit) (s : Stored) : Type 0 where
  pub few : length d.pool.exprs ≤ 262144
  pub sound : IsSound (record { pool = d.pool; store = s })
  pub clocks : clock_refused d s.simulation.clocks ≡ None

abbrev pub IsFit : Elaborated → Type 0
IsFit e = FitsDesign e.design e.store
