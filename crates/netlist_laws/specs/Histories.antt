-- A design and a module that have one history.
use Rattle.std.specs.Prelude.{◌≡◌, ℕ, ◌<◌, Bool, if◌then◌else◌, List, [], ◌∷◌, fold, slice_get, slice_set, Option, Some, None, ℤ, All}
use Rattle.std.specs.List.{filter_map}
use Rattle.amh_bits.specs.Patterns.{pattern}
use Rattle.design_ir.specs.declared.port.Column.{Column}
use Rattle.design_ir.specs.declared.port.Port.{Port}
use Rattle.design_ir.specs.declared.event.Event.{Event}
use Rattle.design_ir.specs.declared.event.Event.TheVariants.{Set, Edge}
use Rattle.design_ir.specs.Values.{signal_form}
use Rattle.design_ir.specs.Circuits.{Circuit, at}
use Rattle.design_ir.specs.Steps.{first_state, toggle}
use Rattle.design_ir.specs.Histories.{History}
use Rattle.design_ir.specs.Legal.{AllLegal}
use Rattle.rtlil_text.specs.declared.module.RtlWire.{RtlWire}
use Rattle.rtlil_text.specs.declared.module.RtlModule.{RtlModule}
use Rattle.rtlil_text.specs.Cells.{number_bits}
use Rattle.rtlil_text.specs.Meaning.{Inputs}
use Rattle.rtlil_text.specs.History.{Wires, rtl_history}
use Rattle.netlist_laws.specs.Module.{public_id, wire_id}

abbrev pub width_of : Circuit → ℕ → ℕ
width_of c s = (signal_form c.pool.signals s).width

-- ---- events on the module

-- the bits of a signal's number, the lowest first
abbrev pub signal_bits : Circuit → List ℤ → ℕ → List Bool
signal_bits c env s = number_bits (width_of c s) (pattern (width_of c s) (at env s))

-- the wire of an input is that of the column that shows its signal
abbrev pub input_bits : Circuit → List ℤ → Port → Option (List ℕ × List Bool)
input_bits c env p = if p.is_input then Some (wire_id c p.sig.0, signal_bits c env p.sig.0) else None

-- the bits of the input wires where the inputs have these numbers
abbrev pub inputs_at : Circuit → List ℤ → Inputs
inputs_at c env = filter_map (input_bits c env) c.ports

-- the inits of the inputs, with clocks at 0
abbrev pub first_inputs : Circuit → List ℤ
first_inputs c = (first_state c).held

-- an input takes a number, or the clocks of the listed domains toggle
abbrev pub inputs_after : Circuit → List ℤ → Event → List ℤ
inputs_after c inputs (Set s n) = slice_set inputs s.0 n
inputs_after c inputs (Edge ds) = fold (toggle c.domains) inputs ds

-- the bits of the input wires after each event
abbrev pub inputs_over : Circuit → List ℤ → List Event → List Inputs
inputs_over c inputs [] = []
inputs_over c inputs (e ∷ es) = inputs_at c (inputs_after c inputs e) ∷ inputs_over c (inputs_after c inputs e) es

-- ---- equal histories

-- the history of a design over these events: it has one, and no other
pub record IsHistory (c : Circuit) (events : List Event) (envs : List (List ℤ)) : Type 0 where
  pub settles : History c events envs
  pub only : (others : List (List ℤ)) → History c events others → others ≡ envs

-- the column's wire has the bits of the column's number
abbrev pub SameColumn : Circuit → List ℤ → Wires → Column → Type 0
SameColumn c env bit x = (i : ℕ) → i < width_of c x.sig.0 → bit (public_id x.name) i ≡ slice_get (signal_bits c env x.sig.0) i

abbrev pub SameColumns : Circuit → List (List ℤ) → List Wires → Type 0
SameColumns c [] [] = Unit {0}
SameColumns c (env ∷ envs) (bit ∷ bits) = All (SameColumn c env bit) c.columns × SameColumns c envs bits
SameColumns c [] (bit ∷ bits) = ⊥
SameColumns c (env ∷ envs) [] = ⊥

-- each bit of each wire has a value
abbrev pub AllDefined : RtlModule → Wires → Type 0
AllDefined m bit = All (λ (w : RtlWire). (i : ℕ) → i < w.width → (b : Bool) × (bit w.id i ≡ Some b)) m.wires

-- the module over the events of the design
abbrev pub history_of : Circuit → RtlModule → List Event → List Wires
history_of c m events = rtl_history m (inputs_at c (first_inputs c)) (inputs_over c (first_inputs c) events)

-- whatever legal events come, the module has the design's history on every column, and every bit has a value
pub record HasHistory (c : Circuit) (m : RtlModule) (events : List Event) : Type 0 where
  pub envs : List (List ℤ)
  pub is_history : IsHistory c events envs
  pub columns : SameColumns c envs (history_of c m events)
  pub defined : All (AllDefined m) (history_of c m events)

abbrev pub SameHistory : Circuit → RtlModule → Type 0
SameHistory c m = (events : List Event) → AllLegal c events → HasHistory c m events
