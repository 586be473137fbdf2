-- Interfaces, worked out: their attributes, what connects them, and what classes stand over.
use Rattle.std.specs.Prelude.{◌≡◌, refl, ℕ, Bool, true, false, List, [], ◌∷◌, pos, Some, None, codes}
use Rattle.shape_rules.specs.Forms.{unsigned}
use Rattle.amh_host.specs.declared.place.Place.{Place}
use Rattle.amh_things.specs.declared.thing.Reading.TheVariants as reading
use Rattle.py_values.specs.declared.val.Val.TheVariants as val
use Rattle.py_heap.specs.Heaps.{Seen, seen, nothing}
use Rattle.py_frames.specs.declared.request.Answer.TheVariants as answer
use Rattle.py_frames.specs.declared.request.Cause.TheVariants.{Raised}
use Rattle.design_ir.specs.declared.signal.Sig.{Sig}
use Rattle.elab_store.specs.declared.faces.End.{End}
use Rattle.elab_store.specs.declared.faces.Face.{Face}
use Rattle.elab_store.specs.declared.kept.Equation.{Equation}
use Rattle.elab_store.specs.declared.kept.Kept.TheVariants as kept
use Rattle.elab_store.specs.declared.members.MemberForm.TheVariants as form
use Rattle.elab_store.specs.declared.members.NamedMember.{NamedMember}
use Rattle.elab_store.specs.Components.{no_components}
use Rattle.elab_store.specs.Leaves.{leaves_in}
use Rattle.elab_store.specs.Stores.{Held, nothing_held, refused, kept_given}
use Rattle.elab_wiring.specs.Interfaces.{interface_attribute}
use Rattle.elab_wiring.specs.Connections.{equations_of}
use Rattle.elab_wiring.specs.SignatureClasses.{root_in, root_of}

-- ---- two interfaces of `Signature({"d": Out(4), "v": In(1)})`, the second of which is turned

abbrev member : List ℕ → Bool → ℕ → NamedMember
member name is_out width = record { name = name; member = record { is_out = is_out; form = form.Port (record { form = unsigned width; reading = reading.Plain }) (pos 0) } }

abbrev signal : ℕ → Sig
signal width = record { name = []; shape = unsigned width; init = pos 0; reset_less = false }

-- signal n is expression n, and thing n stands for it
abbrev end : ℕ → End
end n = record { val = val.Hw (record { 0 = n }); sig = record { 0 = n }; expr = record { 0 = n } }

abbrev made : Held
made = record nothing_held {
  pool = record { signals = signal 4 ∷ signal 1 ∷ signal 4 ∷ signal 1 ∷ signal 5 ∷ signal 1 ∷ []; exprs = [] };
  store = record nothing_held.store { components = record no_components { signatures = (member (codes "d") true 4 ∷ member (codes "v") false 1 ∷ []) ∷ []; ends = end 0 ∷ end 1 ∷ end 2 ∷ end 3 ∷ end 4 ∷ end 5 ∷ [] } };
}

abbrev straight : ℕ → Face
straight n = record { signature = 0; turned = false; first = n }

abbrev turned : ℕ → Face
turned n = record { signature = 0; turned = true; first = n }

attributes : (interface_attribute (straight 2) (codes "v") made ≡ record { answer = answer.Give (val.Hw (record { 0 = 3 })); held = made }) × (interface_attribute (straight 2) (codes "x") made ≡ refused Raised made)
unfolding leaves_in
attributes = (refl, refl)

-- `i.signature` is the interface's own where it is not turned
own_signature : interface_attribute (straight 2) (codes "signature") made ≡ kept_given (kept.Signature 0) made
own_signature = refl

at_line : Place
at_line = record { line = 7; col = 1 }

abbrev given_by : ℕ → ℕ → Equation
given_by target value = record { target = record { 0 = target }; value = record { 0 = value }; place = at_line }

-- `d` is driven by the first, `v` by the second; two that lead out both, and one of another width, are not connected
connected : (equations_of at_line made (Some (straight 0)) (Some (turned 2)) ≡ Some (given_by 2 0 ∷ given_by 1 3 ∷ [])) × (equations_of at_line made (Some (straight 0)) (Some (straight 2)) ≡ None) × (equations_of at_line made (Some (straight 0)) (Some (turned 4)) ≡ None)
unfolding leaves_in
connected = (refl, refl, refl)

-- two ports of one path, as of `Signature({"a__b": Out(1), "a": Out(Signature({"b": Out(1)}))})`
doubled : Held
doubled = record made { store = record made.store { components = record made.store.components { signatures = (member (codes "a__b") true 1 ∷ member (codes "a__b") true 1 ∷ []) ∷ [] } } }

twice : equations_of at_line doubled (Some (straight 0)) (Some (turned 2)) ≡ None
unfolding leaves_in doubled
twice = refl

-- what is no interface
no_interface : equations_of at_line made (Some (straight 0)) None ≡ None
no_interface = refl

-- ---- classes: A over thing 9, B over A, C over nothing

classes : Seen
classes = seen nothing (record nothing { rows = (val.Hw (record { 0 = 9 }) ∷ []) ∷ (val.Class (record { 0 = 0 }) ∷ []) ∷ (val.None ∷ []) ∷ [] })

roots : (root_of classes (record { 0 = 0 }) ≡ Some (record { 0 = 9 })) × (root_of classes (record { 0 = 1 }) ≡ Some (record { 0 = 9 })) × (root_of classes (record { 0 = 2 }) ≡ None)
unfolding root_in classes
roots = (refl, refl, refl)
