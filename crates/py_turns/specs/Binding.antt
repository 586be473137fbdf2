-- What the heap refuses where a name is bound.
-- Internal: no rule of the language.
use Rattle.amh_host.specs.declared.place.Place.{Place}
use Rattle.py_values.specs.declared.val.ValueStop.{ValueStop}
use Rattle.py_values.specs.declared.val.ValueStop.TheVariants as refusal
use Rattle.py_frames.specs.declared.request.Cause.TheVariants as cause
use Rattle.py_frames.specs.declared.state.Halt.{Halt}
use Rattle.py_frames.specs.declared.state.Halt.TheVariants.{Stopped, NoMemory}

-- what the heap refused, as the machine tells it
abbrev pub refused : ValueStop → Place → Halt
refused refusal.Raised place = Stopped (record { cause = cause.Raised; place = place })
refused refusal.Width place = Stopped (record { cause = cause.Width; place = place })
refused refusal.Limit place = Stopped (record { cause = cause.Limit; place = place })
refused refusal.Spent place = Stopped (record { cause = cause.Spent; place = place })
refused refusal.NoMemory place = NoMemory
