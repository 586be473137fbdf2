-- The requests of a gate with ports a, b and y, worked out:
--     from amaranth.lib import wiring
--     from amaranth.lib.wiring import In, Out
--     class Gate(wiring.Component):
--         a: In(1)
--         b: In(1)
--         y: Out(1)
--     top = Gate()
use Rattle.std.specs.Prelude.{◌≡◌, refl, ℕ, Bool, true, false, List, [], ◌∷◌, map, pos, Some, option_map, codes}
use Rattle.shape_rules.specs.Forms.{unsigned}
use Rattle.identifiers.proofs.Computing.{identifiers}
use Rattle.py_values.specs.declared.val.Val.{Val}
use Rattle.py_values.specs.declared.val.Val.TheVariants as val
use Rattle.py_heap.specs.Heaps.{Seen, nothing, seen}
use Rattle.py_frames.specs.declared.request.Answer.TheVariants as answer
use Rattle.py_frames.specs.declared.request.Cause.TheVariants.{Raised, Width}
use Rattle.py_frames.specs.declared.request.NamedVal.{NamedVal}
use Rattle.design_ir.specs.declared.signal.Sig.{Sig}
use Rattle.elab_store.specs.declared.members.NamedMember.{NamedMember}
use Rattle.elab_store.specs.Calls.{Called, called}
use Rattle.elab_store.specs.Stores.{Answered, nothing_held}
use Rattle.elab_components.specs.Imports.{imported}
use Rattle.elab_components.specs.Libraries.{library_given, wiring_named}
use Rattle.elab_components.specs.Members.{member_called}
use Rattle.design_ir.specs.declared.port.Port.{Port}
use Rattle.elab_store.specs.Components.{members_in, class_members, ports_at}
use Rattle.elab_store.specs.Leaves.{leaves_in}
use Rattle.elab_components.specs.ComponentClasses.{class_answered}
use Rattle.elab_components.specs.Interfaces.{init_answered}

unfoldable pub thing : ℕ → Val
thing n = val.Hw (record { 0 = n })

-- nothing is made in the heap
unfoldable pub none_seen : Seen
none_seen = seen nothing nothing

unfoldable pub class : ℕ → Val
class n = val.Class (record { 0 = n })

unfoldable pub object : ℕ → Val
object n = val.Object (record { 0 = n })

-- ---- the names: things 0 to 3

unfoldable pub with_wiring : Answered
with_wiring = imported (codes "amaranth.lib") (codes "wiring") nothing_held

unfoldable pub with_in : Answered
with_in = imported (codes "amaranth.lib.wiring") (codes "In") with_wiring.held

unfoldable pub with_out : Answered
with_out = imported (codes "amaranth.lib.wiring") (codes "Out") with_in.held

unfoldable pub with_component : Answered
with_component = library_given (wiring_named (codes "Component")) with_out.held

names_given : (with_wiring.answer ≡ answer.Give (thing 0)) × (with_in.answer ≡ answer.Give (thing 1)) × (with_out.answer ≡ answer.Give (thing 2)) × (with_component.answer ≡ answer.Give (thing 3))
unfolding thing with_wiring with_in with_out with_component
names_given = (refl, refl, refl, refl)

-- there are no others yet
other_names : ((imported (codes "amaranth.lib.wiring") (codes "Interface") nothing_held).answer ≡ answer.Refuse Raised) × ((imported (codes "amaranth.lib.wiring") (codes "*") nothing_held).answer ≡ answer.Refuse Raised)
    × ((imported (codes "amaranth.lib") (codes "fifo") nothing_held).answer ≡ answer.Refuse Raised)
other_names = (refl, refl, refl)

-- ---- the members: things 4 to 6

unfoldable pub bit : Val → Called
bit name = called (name ∷ val.Int (pos 1) ∷ []) ([] ∷ [])

unfoldable pub with_a : Answered
with_a = member_called none_seen false (bit (thing 1)) with_component.held

unfoldable pub with_b : Answered
with_b = member_called none_seen false (bit (thing 1)) with_a.held

unfoldable pub with_y : Answered
with_y = member_called none_seen true (bit (thing 2)) with_b.held

y_given : with_y.answer ≡ answer.Give (thing 6)
unfolding thing bit with_wiring with_in with_out with_component with_a with_b with_y
y_given = refl

-- an init is a number or None; what raises comes before a width
bad_members : ((member_called none_seen true (called (thing 2 ∷ val.Int (pos 1) ∷ val.Int (pos 3) ∷ []) ([] ∷ codes "init" ∷ [])) nothing_held).answer ≡ answer.Give (thing 0))
    × ((member_called none_seen true (called (thing 2 ∷ val.Int (pos 129) ∷ val.Str (record { 0 = 0 }) ∷ []) ([] ∷ codes "init" ∷ [])) nothing_held).answer ≡ answer.Refuse Raised)
    × ((member_called none_seen true (called (thing 2 ∷ val.Int (pos 129) ∷ []) ([] ∷ [])) nothing_held).answer ≡ answer.Refuse Width)
    × ((member_called none_seen true (called (thing 2 ∷ []) ([] ∷ [])) nothing_held).answer ≡ answer.Refuse Raised)
unfolding thing
bad_members = (refl, refl, refl, refl)

-- ---- the class: row 0, over thing 3

unfoldable pub gate_names : List (List ℕ)
gate_names = codes "Gate" ∷ codes ":a" ∷ codes ":b" ∷ codes ":y" ∷ codes ".elaborate" ∷ []

unfoldable pub gate_vals : List Val
gate_vals = class 0 ∷ thing 3 ∷ thing 4 ∷ thing 5 ∷ thing 6 ∷ val.Func (record { 0 = 0 }) ∷ []

unfoldable pub with_gate : Answered
with_gate = class_answered gate_vals gate_names with_y.held

named : NamedMember → List ℕ
named m = m.name

member_names : List NamedMember → List (List ℕ)
member_names [] = []
member_names (m ∷ ms) = named m ∷ member_names ms

gate_made : (with_gate.answer ≡ answer.Give (class 0)) × (member_names (class_members with_gate.held.store.components.classes 0) ≡ codes "a" ∷ codes "b" ∷ codes "y" ∷ [])
unfolding thing class bit with_wiring with_in with_out with_component with_a with_b with_y gate_names gate_vals with_gate named member_names members_in
gate_made = (refl, refl)

-- an annotation that is no member, or a keyword, raises
bad_gate : ((class_answered (class 0 ∷ thing 3 ∷ val.Int (pos 1) ∷ []) (codes "Gate" ∷ codes ":a" ∷ []) with_y.held).answer ≡ answer.Refuse Raised)
    × ((class_answered (class 0 ∷ thing 3 ∷ val.Int (pos 1) ∷ []) (codes "Gate" ∷ codes "=a" ∷ []) with_y.held).answer ≡ answer.Refuse Raised)
unfolding thing class bit with_wiring with_in with_out with_component with_a with_b with_y
bad_gate = (refl, refl)

-- a class over it has its members first
over_gate : Answered
over_gate = class_answered (class 1 ∷ class 0 ∷ thing 4 ∷ []) (codes "More" ∷ codes ":c" ∷ []) with_gate.held

more_members : member_names (class_members over_gate.held.store.components.classes 1) ≡ codes "a" ∷ codes "b" ∷ codes "y" ∷ codes "c" ∷ []
unfolding thing class bit with_wiring with_in with_out with_component with_a with_b with_y gate_names gate_vals with_gate over_gate named member_names members_in
more_members = refl

-- ---- the object: row 1, of class 0

unfoldable pub rows : Seen
rows = seen nothing (record nothing { rows = (thing 3 ∷ []) ∷ (class 0 ∷ []) ∷ [] })

unfoldable pub with_top : Answered
with_top = init_answered rows (object 1 ∷ []) [] with_gate.held

bound : List ℕ → Val → NamedVal
bound n v = record { name = n; val = v }

bit_signal : List ℕ → Sig
bit_signal n = record { name = n; shape = unsigned 1; init = pos 0; reset_less = false }

top_bound : (with_top.answer ≡ answer.Bind (bound (codes "a") (thing 7) ∷ bound (codes "b") (thing 8) ∷ bound (codes "y") (thing 9) ∷ bound (codes "signature") (thing 10) ∷ []))
    × (with_top.held.pool.signals ≡ bit_signal (codes "a") ∷ bit_signal (codes "b") ∷ bit_signal (codes "y") ∷ [])
unfolding identifiers thing class object bit with_wiring with_in with_out with_component with_a with_b with_y gate_names gate_vals with_gate rows with_top bound bit_signal members_in leaves_in
top_bound = (refl, refl)

-- a name twice raises, and so does `signature`
twice : ((init_answered rows (object 1 ∷ []) [] (class_answered (class 0 ∷ thing 3 ∷ thing 4 ∷ thing 5 ∷ []) (codes "Gate" ∷ codes ":a" ∷ codes ":a" ∷ []) with_y.held).held).answer ≡ answer.Refuse Raised)
    × ((init_answered rows (object 1 ∷ []) [] (class_answered (class 0 ∷ thing 3 ∷ thing 4 ∷ []) (codes "Gate" ∷ codes ":signature" ∷ []) with_y.held).held).answer ≡ answer.Refuse Raised)
unfolding identifiers thing class object bit with_wiring with_in with_out with_component with_a with_b with_y rows members_in leaves_in
twice = (refl, refl)

-- ---- members by a dict, row 2: {"x": thing 4}

dict_rows : Seen
dict_rows = seen nothing (record nothing { texts = codes "x" ∷ []; rows = (thing 3 ∷ []) ∷ (class 0 ∷ []) ∷ (val.Str (record { 0 = 0 }) ∷ thing 4 ∷ []) ∷ [] })

by_dict : (init_answered dict_rows (object 1 ∷ val.Dict (record { 0 = 2 }) ∷ []) [] with_gate.held).answer ≡ answer.Bind (bound (codes "x") (thing 7) ∷ bound (codes "signature") (thing 8) ∷ [])
unfolding identifiers thing class object bit with_wiring with_in with_out with_component with_a with_b with_y gate_names gate_vals with_gate dict_rows bound leaves_in
by_dict = refl

-- and by the signature of another component, which stands at thing 10
by_signature : (init_answered rows (object 1 ∷ thing 10 ∷ []) [] with_top.held).answer
    ≡ answer.Bind (bound (codes "a") (thing 11) ∷ bound (codes "b") (thing 12) ∷ bound (codes "y") (thing 13) ∷ bound (codes "signature") (thing 14) ∷ [])
unfolding identifiers thing class object bit with_wiring with_in with_out with_component with_a with_b with_y gate_names gate_vals with_gate rows with_top bound members_in leaves_in
by_signature = refl

-- a signature that stands in a component: `In(sig)`, where `sig` is the signature of the gate, at thing 10, has its ports turned
over_signature : Answered
over_signature = member_called none_seen false (called (thing 1 ∷ thing 10 ∷ []) (codes "" ∷ [])) with_top.held

nest_class : Answered
nest_class = class_answered (class 2 ∷ thing 3 ∷ thing 11 ∷ thing 4 ∷ []) (codes "Nest" ∷ codes ":g" ∷ codes ":e" ∷ []) over_signature.held

nest_rows : Seen
nest_rows = seen nothing (record nothing { rows = (thing 3 ∷ []) ∷ (class 2 ∷ []) ∷ [] })

nest : Answered
nest = init_answered nest_rows (object 1 ∷ []) [] nest_class.held

shown : Port → List ℕ × Bool
shown p = (p.name, p.is_input)

-- its attribute is an interface, and its ports have the names on the way to them
nested : (nest.answer ≡ answer.Bind (bound (codes "g") (thing 16) ∷ bound (codes "e") (thing 15) ∷ bound (codes "signature") (thing 17) ∷ []))
    × (option_map (map shown) (ports_at nest.held.store.components.objects 1) ≡ Some ((codes "g__a", false) ∷ (codes "g__b", false) ∷ (codes "g__y", true) ∷ (codes "e", true) ∷ []))
unfolding identifiers thing class object bit none_seen with_wiring with_in with_out with_component with_a with_b with_y gate_names gate_vals with_gate rows with_top bound members_in over_signature nest_class nest_rows nest shown leaves_in
nested = (refl, refl)
