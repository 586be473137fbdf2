-- `connect(m, a, b)`. (Amaranth standard library reference 0.5, "Interfaces and connections", "Making connections": each input that meets an output is
-- assigned from it in the combinational domain of the module. That two interfaces are connected at a time, given by their places, and that an
-- interface in which two ports have one path, as `a__b` and the `b` of `a`, is not connected, is this project's own rule.)
use Rattle.std.specs.Prelude.{ℕ, ◌&&◌, if◌then◌else◌, List, [], ◌∷◌, map, drop, Option, Some, None, option_map}
use Rattle.amh_host.specs.declared.place.Place.{Place}
use Rattle.py_values.specs.declared.val.Val.{Val}
use Rattle.py_values.specs.declared.val.Val.TheVariants as val
use Rattle.py_frames.specs.declared.request.Cause.TheVariants.{Raised}
use Rattle.design_ir.specs.declared.process.Side.TheVariants.{Comb}
use Rattle.design_ir.specs.Pools.{Pooled}
use Rattle.lib_wiring.specs.declared.leaf.Link.{Link}
use Rattle.lib_wiring.specs.declared.leaf.Leaf as wired
use Rattle.lib_wiring.specs.Wiring.{are_apart, connected}
use Rattle.elab_store.specs.declared.faces.End.{End}
use Rattle.elab_store.specs.declared.faces.Face.{Face}
use Rattle.elab_store.specs.declared.kept.Equation.{Equation}
use Rattle.elab_store.specs.declared.leaves.Leaf.{Leaf}
use Rattle.elab_store.specs.Calls.{Called}
use Rattle.elab_store.specs.Components.{Components}
use Rattle.elab_store.specs.Leaves.{leaves}
use Rattle.elab_store.specs.Stores.{Held, Answered, refused, kept_of, module_of, face_of}
use Rattle.elab_acts.specs.Sides.{statements_added}

-- ---- what meets

-- each leaf with its signal
abbrev pub over : List Leaf → List End → List wired.Leaf
over [] es = []
over (l ∷ ls) [] = []
over (l ∷ ls) (e ∷ es) = record { path = l.path; sig = e.sig; expr = e.expr; is_out = l.is_out } ∷ over ls es

-- the leaves of an interface with the signals that were made for them
abbrev pub wires : Components → Face → List wired.Leaf
wires cs f = over (leaves cs.signatures f.turned [] f.signature) (drop f.first cs.ends)

-- ---- statements

abbrev pub linked : Place → Link → Equation
linked p k = record { target = k.target; value = k.source; place = p }

-- what connects two interfaces in each of which no path stands twice
abbrev pub connected_wires : Pooled → List wired.Leaf → List wired.Leaf → Option (List Link)
connected_wires q first second = if are_apart first && are_apart second then connected q.signals first second else None

-- what connects two interfaces, where they fit together
abbrev pub equations_of : Place → Held → Option Face → Option Face → Option (List Equation)
equations_of p h None g = None
equations_of p h (Some f) None = None
equations_of p h (Some f) (Some g) = option_map (map (linked p)) (connected_wires h.pool (wires h.store.components f) (wires h.store.components g))

-- the statements of a module, which stand where it is connected
abbrev pub connected_in : Option ℕ → Option (List Equation) → Held → Answered
connected_in None qs h = refused Raised h
connected_in (Some m) qs h = statements_added val.None m (Some Comb) qs h

-- a module and two interfaces, by their places
abbrev pub connect_of : List Val → List (List ℕ) → Place → Held → Answered
connect_of (m ∷ a ∷ b ∷ []) [] p h = connected_in (module_of (kept_of h.store m)) (equations_of p h (face_of h.store a) (face_of h.store b)) h
connect_of vs ns p h = refused Raised h

abbrev pub connect_called : Called → Place → Held → Answered
connect_called c p h = connect_of c.placed c.keywords p h
