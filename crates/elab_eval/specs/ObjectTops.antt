-- The ports of an object that is the top: of a component its members, and of another object the signals that it holds. (This project's own rule:
-- docs/RULES.md, "Elaboration".)
use Rattle.std.specs.Prelude.{ℕ, nat_eq, ◌==◌, not, if◌then◌else◌, Bool, true, false, List, [], ◌∷◌, map, slice_get, Option, Some, None, option_and_then}
use Rattle.std.specs.List.{filter}
use Rattle.py_values.specs.declared.val.Val.{Val}
use Rattle.py_values.specs.declared.val.Val.TheVariants as val
use Rattle.py_values.specs.declared.val.ObjId.{ObjId}
use Rattle.py_heap.specs.Heaps.{Seen, text_at, row_at}
use Rattle.py_heap.specs.Objects.{attributes, first_in}
use Rattle.design_ir.specs.declared.ids.ExprId.{ExprId}
use Rattle.design_ir.specs.declared.ids.SigId.{SigId}
use Rattle.design_ir.specs.declared.expr.Expr.{Expr}
use Rattle.design_ir.specs.declared.expr.Expr.TheVariants as expr
use Rattle.design_ir.specs.declared.port.Port.{Port}
use Rattle.clock_domains.specs.declared.top.TopPorts.{TopPorts}
use Rattle.clock_domains.specs.declared.top.TopPorts.TheVariants as ports
use Rattle.clock_domains.specs.Resolved.{port_of}
use Rattle.amh_things.specs.Things.{thing_of, held_expr}
use Rattle.elab_store.specs.Stores.{Held}
use Rattle.elab_components.specs.Interfaces.{component_class}
use Rattle.elab_eval.specs.ComponentTops.{component_ports}

-- ---- signals among attributes

abbrev pub signal_in : Option Expr → Option SigId
signal_in (Some (expr.Sig s)) = Some s
signal_in e = None

-- the signal that a value is, or that a view stands over; what is computed from one, as a slice of it, is none
abbrev pub held_signal : Held → Val → Option SigId
held_signal h v = signal_in (option_and_then (λ (e : ExprId). slice_get h.pool.exprs e.0) (held_expr (thing_of h.store.things v)))

-- a name that begins with `_`
abbrev pub is_private : List ℕ → Bool
is_private [] = false
is_private (b ∷ bs) = b == 95

abbrev pub has_public_name : Seen → Val → Bool
has_public_name s (val.Str x) = not (is_private (text_at s x.0))
has_public_name s name = false

abbrev pub attribute_signal : Seen → Held → Val → Val → Option SigId
attribute_signal s h name v = if has_public_name s name then held_signal h v else None

abbrev pub before_others : Option SigId → List SigId → List SigId
before_others None others = others
before_others (Some s) others = s ∷ others

-- those of names and their values in a row, in order
abbrev pub attribute_signals : Seen → Held → List Val → List SigId
attribute_signals s h [] = []
attribute_signals s h (name ∷ []) = []
attribute_signals s h (name ∷ v ∷ row) = before_others (attribute_signal s h name v) (attribute_signals s h row)

-- each where it comes first
abbrev pub each_once : List SigId → List SigId
each_once [] = []
each_once (s ∷ more) = s ∷ filter (λ (x : SigId). not (nat_eq x.0 s.0)) (each_once more)

-- ---- ports

-- whether a signal is an input or an output is not said here: that is told by what drives it
abbrev pub signal_ports : Held → List SigId → List Port
signal_ports h signals = map (λ (s : SigId). port_of h.pool [] true s.0) (each_once signals)

-- an object has its attributes in order of first binding
abbrev pub held_ports : Seen → Held → ObjId → List Port
held_ports s h o = signal_ports h (attribute_signals s h (attributes (row_at s o.0)))

abbrev pub ports_as : Option ℕ → Option TopPorts → List Port → Option TopPorts
ports_as (Some class) members held = members
ports_as None members held = Some (ports.Held held)

abbrev pub object_ports : Seen → Held → ObjId → Option TopPorts
object_ports s h o = ports_as (component_class h.store (first_in (row_at s o.0))) (component_ports h.store o) (held_ports s h o)
