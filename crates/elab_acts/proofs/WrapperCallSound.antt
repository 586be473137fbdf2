-- What is held stays sound by the calls that say what wrappers do.
use Rattle.std.proofs.Common.{◌≡◌, ℕ, ap, sym, ◌∙◌, List, [], ◌∷◌, length, Option, Some, None, Result, Ok, Err, append-nil}
use Rattle.std.specs.Prelude.{IfSome, IfOk}
use Rattle.py_values.specs.declared.val.Val.{Val}
use Rattle.py_heap.specs.Heaps.{Seen}
use Rattle.py_frames.specs.declared.request.Cause.{Cause}
use Rattle.py_frames.specs.declared.request.NamedVal.{NamedVal}
use Rattle.design_ir.specs.Pools.{Pooled}
use Rattle.domain_transforms.specs.declared.controls.Control.{Control}
use Rattle.domain_transforms.specs.declared.controls.NamePair.{NamePair}
use Rattle.domain_transforms.specs.Placed.{AreControls}
use Rattle.elab_store.specs.declared.kept.Kept.TheVariants as kept_as
use Rattle.elab_store.specs.declared.wrappings.Wrapping.{Wrapping}
use Rattle.elab_store.specs.declared.wrappings.Wrapping.TheVariants as wrapping
use Rattle.elab_store.specs.Calls.{Called}
use Rattle.elab_store.specs.Stores.{Held}
use Rattle.elab_store.specs.Sound.{IsWrapping, IsSound}
use Rattle.elab_wrappers.specs.declared.wrappers.Inserter.{Inserter}
use Rattle.elab_wrappers.specs.Wrappers.{Controlled, controls_from, pairs_given, controls_given, with_wrapping, wrapping_given, renamed, renamer_of, renamer_called, inserting, inserter_made, inserter_from, inserter_of, inserter_called}
use Rattle.elab_wrappers.proofs.NameLaws.{AreNamed, pairs_named}
use Rattle.elab_wrappers.proofs.ControlLaws.{AreMade, controls_made, inserting_sound}
use Rattle.elab_acts.proofs.GrownLaws.{pool_grown, keeping_sound}
use Rattle.elab_acts.proofs.WrapperSound.{with_wrapping_sound}

-- a wrapping that keeps to the pool
wrapping_sound : (w : Wrapping) (h : Held) → IsSound h → IsWrapping h.pool w → IsSound (wrapping_given w h).held
wrapping_sound w h s own = keeping_sound (with_wrapping w h) (kept_as.Wrapping (length h.store.wrappings)) (with_wrapping_sound w h s own) tt

-- ---- `DomainRenamer`

renamed_sound : (o : Option (List NamePair)) (h : Held) → IsSound h → IfSome o AreNamed → IsSound (renamed o h).held
renamed_sound (Some ps) h s are = wrapping_sound (wrapping.Rename ps) h s are
renamed_sound None h s are = s

renamer_placed : (s : Seen) (vs : List Val) (ns : List (List ℕ)) (h : Held) → IsSound h → IsSound (renamer_of s vs ns h).held
renamer_placed s [] ns h t = t
renamer_placed s (v ∷ []) [] h t = renamed_sound (pairs_given s v) h t (pairs_named s v)
renamer_placed s (v ∷ []) (n ∷ ns) h t = t
renamer_placed s (v ∷ w ∷ vs) ns h t = t

pub renamer_sound : (s : Seen) (c : Called) (h : Held) → IsSound h → IsSound (renamer_called s c h).held
renamer_sound s c h t = renamer_placed s c.placed c.keywords h t

-- ---- `ResetInserter` and `EnableInserter`

made_sound : (i : Inserter) (r : Result (List Control) Cause) (g : Held) → IsSound g → IfOk r (AreControls (length g.pool.exprs)) → IsSound (inserter_made i r g).held
made_sound i (Ok cs) g s there = wrapping_sound (inserting i cs) g s (inserting_sound g.pool i cs there)
made_sound i (Err why) g s there = s

from_sound : (i : Inserter) (o : Option (List NamedVal)) (h : Held) → IsSound h → IsSound (inserter_from i o h).held
from_sound i (Some xs) h s =
    let c : Controlled = controls_from h.store.things h.pool xs in
    let are : AreMade h.pool c = controls_made h.store.things h.pool xs s.things in
    made_sound i c.made (record { pool = c.pool; store = h.store })
    (pool_grown h c.pool [] are.more s (ap (λ (q : Pooled). q.signals) are.pool ∙ sym (append-nil h.pool.signals)) (ap (λ (q : Pooled). q.exprs) are.pool) tt)
    are.controls
from_sound i None h s = s

inserter_placed : (s : Seen) (i : Inserter) (vs : List Val) (ns : List (List ℕ)) (h : Held) → IsSound h → IsSound (inserter_of s i vs ns h).held
inserter_placed s i [] ns h t = t
inserter_placed s i (v ∷ []) [] h t = from_sound i (controls_given s h v) h t
inserter_placed s i (v ∷ []) (n ∷ ns) h t = t
inserter_placed s i (v ∷ w ∷ vs) ns h t = t

pub inserter_sound : (s : Seen) (i : Inserter) (c : Called) (h : Held) → IsSound h → IsSound (inserter_called s i c h).held
inserter_sound s i c h t = inserter_placed s i c.placed c.keywords h t
