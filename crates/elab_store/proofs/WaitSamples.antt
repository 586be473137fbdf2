-- Waits, worked out, under a pool of two expressions: ticks that sample the second of them and a number until the first is not 0, and ticks that
-- sample what would be a third.
use Rattle.std.specs.Prelude.{◌≡◌, refl, ℕ, ◌<◌, ⊤, pos, [], ◌∷◌, length}
use Rattle.shape_rules.specs.Forms.{unsigned}
use Rattle.design_ir.specs.declared.expr.Expr.TheVariants as expr
use Rattle.design_ir.specs.Pools.{Pooled}
use Rattle.amh_things.specs.declared.thing.Reading.TheVariants as reading
use Rattle.elab_store.specs.declared.simulation.Sample.{Sample}
use Rattle.elab_store.specs.declared.simulation.Sample.TheVariants as sample
use Rattle.elab_store.specs.declared.simulation.TickEnd.TheVariants as end
use Rattle.elab_store.specs.declared.simulation.Wait.{Wait}
use Rattle.elab_store.specs.declared.simulation.Wait.TheVariants as wait
use Rattle.elab_store.specs.Simulations.{no_simulation, with_wait}
use Rattle.elab_store.specs.Sound.{IsWait}

pool : Pooled
pool = record { signals = []; exprs = expr.Sig (record { 0 = 0 }) ∷ expr.Sig (record { 0 = 1 }) ∷ [] }

value : ℕ → Sample
value n = sample.Value (record { 0 = n }) reading.Plain

ticks : Wait
ticks = wait.Tick (record { domain = record { 0 = 3 }; samples = value 1 ∷ sample.Number (pos 5) ∷ []; end = end.Until (value 0) })

past : Wait
past = wait.Tick (record { domain = record { 0 = 3 }; samples = value 1 ∷ value 2 ∷ []; end = end.Once })

until_past : Wait
until_past = wait.Tick (record { domain = record { 0 = 3 }; samples = []; end = end.Until (value 2) })

-- each expression is asked for, and nothing else
waits_there : (IsWait pool ticks ≡ (((1 < 2) × (⊤ × ⊤)) × (0 < 2))) × (IsWait pool past ≡ (((1 < 2) × ((2 < 2) × ⊤)) × ⊤)) × (IsWait pool until_past ≡ (⊤ × (2 < 2))) × (IsWait pool (wait.Delay 1000) ≡ ⊤)
unfolding pool value ticks past until_past
waits_there = (refl, refl, refl, refl)

-- a wait gets the number of those before it
waits_counted : (length no_simulation.waits ≡ 0) × ((with_wait past (with_wait ticks no_simulation)).waits ≡ ticks ∷ past ∷ [])
waits_counted = (refl, refl)
