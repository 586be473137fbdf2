-- The ports of the top in the samples of acts: of the gate with ports a, b and y, and of an object with a view over a signal.
use Rattle.std.specs.Prelude.{◌≡◌, refl, ℕ, Bool, true, false, List, [], ◌∷◌, Some, None, codes}
use Rattle.identifiers.proofs.Computing.{identifiers}
use Rattle.design_ir.specs.declared.port.Port.{Port}
use Rattle.clock_domains.specs.declared.top.TopPorts.TheVariants.{Members}
use Rattle.elab_store.specs.Components.{members_in}
use Rattle.elab_store.specs.Leaves.{leaves_in}
use Rattle.elab_acts.proofs.ComponentSamples.{thing, class, object, with_wiring, with_in, with_out, with_component, bit, with_a, with_b, with_y, gate_names, gate_vals, with_gate, rows, with_top}
use Rattle.elab_acts.proofs.ShapeSamples.{hw, heap, op, sub, cmd, held, call, with_c, with_s}
use Rattle.elab_eval.specs.ComponentTops.{component_ports}
use Rattle.elab_eval.specs.ObjectTops.{held_signal}

-- ---- a component

port : List ℕ → ℕ → Bool → Port
port n s is_input = record { name = n; sig = record { 0 = s }; is_input = is_input }

gate_ports : List Port
gate_ports = port (codes "a") 0 true ∷ port (codes "b") 1 true ∷ port (codes "y") 2 false ∷ []

gate_given : component_ports with_top.held.store (record { 0 = 1 }) ≡ Some (Members gate_ports)
unfolding identifiers thing class object bit with_wiring with_in with_out with_component with_a with_b with_y gate_names gate_vals with_gate rows with_top port gate_ports members_in leaves_in
gate_given = refl

-- before its `__init__` a component has none, and is no top
no_ports : component_ports with_gate.held.store (record { 0 = 1 }) ≡ None
unfolding thing class object bit with_wiring with_in with_out with_component with_a with_b with_y gate_names gate_vals with_gate rows
no_ports = refl

-- ---- an object

-- of an object's attributes a view over a signal is the signal
view_is_signal : (held_signal with_s.held (hw 3) ≡ Some (record { 0 = 0 })) × (held_signal with_s.held (hw 4) ≡ Some (record { 0 = 1 })) × (held_signal with_s.held (hw 2) ≡ None)
unfolding identifiers hw heap op sub cmd held call with_c with_s
view_is_signal = (refl, refl, refl)
