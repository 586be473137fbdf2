-- Interfaces that are made: a signal for each leaf of a signature. (Amaranth standard library reference 0.5, "Interfaces and connections",
-- "Signatures". That the signals of leaves are made depth first, in order of members, is this project's own rule.)
use Rattle.std.specs.Prelude.{◌≡◌, ℕ, suc, nat_le, not, Bool, true, false, if◌then◌else◌, List, [], ◌∷◌, length, slice_get, Option, Some, None, option_map}
use Rattle.py_values.specs.declared.val.Val.{Val}
use Rattle.design_ir.specs.declared.ids.SigId.{SigId}
use Rattle.design_ir.specs.declared.signal.Sig.{Sig}
use Rattle.design_ir.specs.declared.port.Port.{Port}
use Rattle.amh_things.specs.Things.{read_as}
use Rattle.elab_store.specs.declared.faces.Face.{Face}
use Rattle.elab_store.specs.declared.faces.End.{End}
use Rattle.elab_store.specs.declared.faces.FaceMember.{FaceMember}
use Rattle.elab_store.specs.declared.faces.FaceMember.TheVariants as face
use Rattle.elab_store.specs.declared.kept.Kept.TheVariants as kept
use Rattle.elab_store.specs.declared.leaves.Leaf.{Leaf}
use Rattle.elab_store.specs.declared.members.NamedMember.{NamedMember}
use Rattle.elab_store.specs.Components.{with_signature, ending}
use Rattle.elab_store.specs.Leaves.{leaves, leaf_count}
use Rattle.elab_store.specs.Stores.{Stored, Held, next_thing, with_thing, kept_given}
use Rattle.elab_components.specs.Signals.{signal_of, signal_passes, with_signal}

-- ---- leaves

abbrev pub leaf_signal : Leaf → Sig
leaf_signal l = signal_of l.path l.shape.form l.init false

abbrev pub next_end : Held → End
next_end h = record { val = next_thing h; sig = record { 0 = length h.pool.signals }; expr = record { 0 = length h.pool.exprs } }

abbrev pub with_end : End → Held → Held
with_end e h = record h { store = record h.store { components = ending e h.store.components } }

-- its signal, and the value of it by what its bits are read as
abbrev pub with_leaf : Leaf → Held → Held
with_leaf l h = with_end (next_end h) (with_thing (read_as l.shape.reading (record { 0 = length h.pool.exprs })) (with_signal (leaf_signal l) h))

-- and whether no count is passed
abbrev pub leaf_made : Leaf → Held → Bool × Held
leaf_made l h = if signal_passes h l.shape.form.width then (false, h) else (true, with_leaf l h)

abbrev pub and_made : (Held → Bool × Held) → Bool × Held → Bool × Held
and_made rest (true, h) = rest h
and_made rest (false, h) = (false, h)

-- for the code: none where a count would be passed, and else the signal
abbrev pub IsLeafMade : Option SigId → Leaf → Held → Held → Type 0
IsLeafMade None l h g = (false, g) ≡ leaf_made l h
IsLeafMade (Some s) l h g = ((true, g) ≡ leaf_made l h) × (s ≡ record { 0 = length h.pool.signals })

-- what was made before a count is passed stays
abbrev pub leaves_made : List Leaf → Held → Bool × Held
leaves_made [] h = (true, h)
leaves_made (l ∷ ls) h = and_made (leaves_made ls) (leaf_made l h)

abbrev pub port_of : SigId → Leaf → Port
port_of s l = record { name = l.path; sig = s; is_input = not l.is_out }

-- the ports that leaves are whose signals have the numbers from k on
abbrev pub leaf_ports : ℕ → List Leaf → List Port
leaf_ports k [] = []
leaf_ports k (l ∷ ls) = port_of (record { 0 = k }) l ∷ leaf_ports (suc k) ls

-- ---- an interface

abbrev pub signing : List NamedMember → Held → Held
signing ms h = record h { store = record h.store { components = with_signature ms h.store.components } }

abbrev pub face_behind : ℕ → Held → Bool × Held → Option Face × Held
face_behind n h (true, g) = (Some (record { signature = n; turned = false; first = length h.store.components.ends }), g)
face_behind n h (false, g) = (None, g)

-- the interface of a signature, its signals named behind a prefix; none where a count would be passed
abbrev pub face_made : ℕ → List ℕ → Held → Option Face × Held
face_made n prefix h =
    if nat_le (leaf_count h.store.components.signatures n) 16384 then face_behind n h (leaves_made (leaves h.store.components.signatures false prefix n) h) else (None, h)

-- the value of a member: that of its end, or an interface
abbrev pub part_val : Option FaceMember → Held → Option Val × Held
part_val None h = (None, h)
part_val (Some (face.Port k)) h = (option_map (λ (e : End). e.val) (slice_get h.store.components.ends k), h)
part_val (Some (face.Nested f)) h = (Some (next_thing h), (kept_given (kept.Interface f) h).held)
