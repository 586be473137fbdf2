-- What is held stays sound by `connect`.
use Rattle.std.proofs.Common.{◌≡◌, ℕ, subst, List, [], ◌∷◌, Option, Some, None}
use Rattle.amh_host.specs.declared.place.Place.{Place}
use Rattle.py_values.specs.declared.val.Val.{Val}
use Rattle.py_values.specs.declared.val.Val.TheVariants as val
use Rattle.design_ir.specs.declared.process.Side.TheVariants.{Comb}
use Rattle.clock_domains.specs.Resolvable.{IsNamedSide}
use Rattle.elab_store.specs.declared.faces.Face.{Face}
use Rattle.elab_store.specs.Calls.{Called}
use Rattle.elab_store.specs.Sound.{IsSound}
use Rattle.elab_store.specs.Stores.{Held, kept_of, module_of, face_of}
use Rattle.elab_acts.proofs.SoundLaws.{statements_sound}
use Rattle.elab_wiring.specs.Connections.{equations_of, connected_in, connect_of, connect_called}
use Rattle.elab_wiring.proofs.ConnectLaws.{equations_stand}

connected_sound : (o : Option ℕ) (p : Place) (f g : Option Face) (h : Held) → IsSound h → IsSound (connected_in o (equations_of p h f g) h).held
connected_sound None p f g h s = s
connected_sound (Some m) p f g h s =
    statements_sound val.None m (Some Comb) (equations_of p h f g) h s (λ d e. let same : Comb ≡ d = cc in subst IsNamedSide same tt) (λ qs e. equations_stand p h f g qs s.components.ends e)

connect_of_sound : (vs : List Val) (ns : List (List ℕ)) (p : Place) (h : Held) → IsSound h → IsSound (connect_of vs ns p h).held
connect_of_sound (m ∷ a ∷ b ∷ []) [] p h s = connected_sound (module_of (kept_of h.store m)) p (face_of h.store a) (face_of h.store b) h s
connect_of_sound [] ns p h s = s
connect_of_sound (m ∷ []) ns p h s = s
connect_of_sound (m ∷ a ∷ []) ns p h s = s
connect_of_sound (m ∷ a ∷ b ∷ []) (n ∷ ns) p h s = s
connect_of_sound (m ∷ a ∷ b ∷ c ∷ vs) ns p h s = s

pub connect_sound : (c : Called) (p : Place) (h : Held) → IsSound h → IsSound (connect_called c p h).held
connect_sound c p h s = connect_of_sound c.placed c.keywords p h s
