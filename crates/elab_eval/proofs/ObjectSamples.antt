-- The ports of a small object, worked out: a class of which nothing is known, and an object with seven attributes.
--     self.y = Signal(name="y")     signal 1
--     self.a = Signal(name="a")     signal 0
--     self._b = Signal(name="b")    signal 2, private
--     self.again = self.y
--     self.low = ~self.a            a value, and no signal
--     self.width = 4
--     self.other = Signal(name="a") signal 3
use Rattle.std.specs.Prelude.{◌≡◌, refl, ℕ, true, false, List, [], ◌∷◌, pos, Some, None, codes}
use Rattle.shape_rules.specs.Forms.{unsigned}
use Rattle.shape_rules.specs.declared.op.Op.TheVariants as op
use Rattle.py_values.specs.declared.val.Val.{Val}
use Rattle.py_values.specs.declared.val.Val.TheVariants as val
use Rattle.py_heap.specs.Heaps.{Seen, nothing, seen}
use Rattle.design_ir.specs.declared.expr.Expr.TheVariants as expr
use Rattle.design_ir.specs.declared.ids.SigId.{SigId}
use Rattle.design_ir.specs.declared.port.Port.{Port}
use Rattle.design_ir.specs.declared.signal.Sig.{Sig}
use Rattle.clock_domains.specs.declared.top.TopPorts.TheVariants as ports
use Rattle.amh_things.specs.declared.thing.Thing.TheVariants as thing
use Rattle.elab_store.specs.Components.{no_components, with_class}
use Rattle.elab_store.specs.ClockDomains.{no_clock_domains}
use Rattle.elab_store.specs.Hierarchies.{no_hierarchy}
use Rattle.elab_store.specs.Simulations.{no_simulation}
use Rattle.elab_eval.specs.ObjectTops.{each_once, held_signal, object_ports}
use Rattle.elab_store.specs.Stores.{Held, no_top}

-- ---- each once

signal : ℕ → SigId
signal n = record { 0 = n }

once : each_once (signal 4 ∷ signal 7 ∷ signal 4 ∷ signal 9 ∷ signal 7 ∷ []) ≡ signal 4 ∷ signal 7 ∷ signal 9 ∷ []
unfolding signal
once = refl

-- ---- what is held: things 0 to 3 are the signals, and thing 4 is `~self.a`

named : List ℕ → Sig
named name = record { name = name; shape = unsigned 1; init = pos 0; reset_less = false }

held : Held
unfolding named
held = record {
  pool = record {
    signals = named (codes "a") ∷ named (codes "y") ∷ named (codes "b") ∷ named (codes "a") ∷ [];
    exprs = expr.Sig (record { 0 = 0 }) ∷ expr.Sig (record { 0 = 1 }) ∷ expr.Sig (record { 0 = 2 }) ∷ expr.Unary op.Not (record { 0 = 0 }) ∷ expr.Sig (record { 0 = 3 }) ∷ [];
  };
  store = record {
    things = thing.Value (record { 0 = 0 }) ∷ thing.Value (record { 0 = 1 }) ∷ thing.Value (record { 0 = 2 }) ∷ thing.Value (record { 0 = 4 }) ∷ thing.Value (record { 0 = 3 }) ∷ [];
    kept = [];
    modules = [];
    patterns = [];
    top = no_top;
    components = no_components;
    hierarchy = no_hierarchy;
    clock_domains = no_clock_domains;
    machines = [];
    memories = [];
    wrappings = [];
    wrapped = [];
    domains = [];
    told = None;
    simulation = no_simulation;
  };
}

value : ℕ → Val
value n = val.Hw (record { 0 = n })

no_signals : (held_signal held (value 4) ≡ None) × (held_signal held (val.Int (pos 4)) ≡ None) × (held_signal held (value 9) ≡ None)
unfolding held named value
no_signals = (refl, refl, refl)

-- ---- the object: row 1, of the class at row 0

text : ℕ → Val
text n = val.Str (record { 0 = n })

made : Seen
unfolding value text
made = seen nothing (record nothing {
  texts = codes "y" ∷ codes "a" ∷ codes "_b" ∷ codes "again" ∷ codes "low" ∷ codes "width" ∷ codes "other" ∷ [];
  rows = (val.None ∷ [])
      ∷ (val.Class (record { 0 = 0 }) ∷ text 0 ∷ value 1 ∷ text 1 ∷ value 0 ∷ text 2 ∷ value 2 ∷ text 3 ∷ value 1 ∷ text 4 ∷ value 4 ∷ text 5 ∷ val.Int (pos 4) ∷ text 6 ∷ value 3 ∷ [])
      ∷ (val.Class (record { 0 = 0 }) ∷ [])
      ∷ [];
})

port : List ℕ → ℕ → Port
port name n = record { name = name; sig = record { 0 = n }; is_input = true }

-- two ports of one name are told apart where the design gets its columns
top_ports : object_ports made held (record { 0 = 1 }) ≡ Some (ports.Held (port (codes "y") 1 ∷ port (codes "a") 0 ∷ port (codes "a") 3 ∷ []))
unfolding made held named value text port
top_ports = refl

-- an object without attributes is a top without ports
nothing_held : object_ports made held (record { 0 = 2 }) ≡ Some (ports.Held [])
unfolding made held named value text
nothing_held = refl

-- of a component what it holds does not count
component : Held
unfolding held named
component = record held { store = record held.store { components = with_class 0 (record { base = None; members = [] }) no_components } }

no_ports : object_ports made component (record { 0 = 1 }) ≡ None
unfolding made component held named value text
no_ports = refl
