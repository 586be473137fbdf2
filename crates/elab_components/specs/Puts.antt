-- A signal that is put into the pool, for the code.
use Rattle.std.specs.Prelude.{◌≡◌, true, false, length, Option, Some, None}
use Rattle.design_ir.specs.declared.signal.Sig.{Sig}
use Rattle.amh_things.specs.declared.thing.Reading.{Reading}
use Rattle.amh_things.specs.Things.{read_as}
use Rattle.elab_components.specs.declared.interfaces.NewSignal.{NewSignal}
use Rattle.elab_components.specs.Signals.{signal_passes, with_signal}
use Rattle.elab_store.specs.Stores.{Held, next_thing, with_thing}

-- nothing where a count would be passed, and else the signal, the expression that it is and the thing that stands for it by this reading
abbrev pub IsPut : Option NewSignal → Reading → Sig → Held → Held → Type 0
IsPut None r x h g = (signal_passes h x.shape.width ≡ true) × (g ≡ h)
IsPut (Some made) r x h g =
    (signal_passes h x.shape.width ≡ false)
    × (made ≡ record { sig = record { 0 = length h.pool.signals }; val = next_thing h })
    × (g ≡ with_thing (read_as r (record { 0 = length h.pool.exprs })) (with_signal x h))
