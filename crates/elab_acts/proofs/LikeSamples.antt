-- Samples of `Signal.like`, worked out: beside the signal a, of 3 bits with a sign, which begins at 2 and is not reset.
use Rattle.std.specs.Prelude.{◌≡◌, refl, ℕ, true, false, List, [], ◌∷◌, pos, negsuc, codes}
use Rattle.shape_rules.specs.Forms.{unsigned, signed_form}
use Rattle.design_ir.specs.declared.signal.Sig.{Sig}
use Rattle.design_ir.specs.declared.expr.Expr.TheVariants as expr
use Rattle.design_ir.specs.Values.{form}
use Rattle.identifiers.proofs.Computing.{identifiers}
use Rattle.py_values.specs.declared.val.Val.{Val}
use Rattle.py_values.specs.declared.val.Val.TheVariants as val
use Rattle.py_heap.specs.Heaps.{Seen, seen, nothing}
use Rattle.py_builtins.specs.Scalars.{first_from}
use Rattle.py_frames.specs.declared.request.Answer.TheVariants as answer
use Rattle.py_frames.specs.declared.request.Cause.TheVariants.{Raised}
use Rattle.amh_things.specs.declared.thing.Thing.TheVariants as thing
use Rattle.elab_store.specs.Calls.{called}
use Rattle.elab_components.specs.Likes.{like_called}
use Rattle.elab_store.specs.Stores.{Held, Answered, nothing_held}

hw : ℕ → Val
hw n = val.Hw (record { 0 = n })

heap : Seen
heap = seen nothing nothing

a : Sig
a = record { name = codes "a"; shape = signed_form 3; init = pos 2; reset_less = true }

-- thing 0 is a, and thing 1 its lowest bit
held : Held
held = record nothing_held {
  pool = record { signals = a ∷ []; exprs = expr.Sig (record { 0 = 0 }) ∷ expr.Slice (record { 0 = 0 }) 0 1 ∷ [] };
  store = record nothing_held.store { things = thing.Value (record { 0 = 0 }) ∷ thing.Value (record { 0 = 1 }) ∷ [] };
}

-- a call that is assigned to b: the callee is thing 9
made : List Val → List (List ℕ) → Answered
made vals keywords = like_called heap (called (hw 9 ∷ vals) (codes "b" ∷ keywords)) held

-- of a signal its shape, its init and whether it is reset
of_signal : (made (hw 0 ∷ []) []).held.pool.signals ≡ a ∷ record { name = codes "b"; shape = signed_form 3; init = pos 2; reset_less = true } ∷ []
unfolding identifiers hw heap a held made form
of_signal = refl

-- an init is wrapped to the shape: 7 is -1
with_init : (made (hw 0 ∷ val.Int (pos 7) ∷ []) (codes "init" ∷ [])).held.pool.signals ≡ a ∷ record { name = codes "b"; shape = signed_form 3; init = negsuc 0; reset_less = true } ∷ []
unfolding identifiers hw heap a held made form
with_init = refl

-- of another value, and of a number, the shape alone
of_bit : (made (hw 1 ∷ []) []).held.pool.signals ≡ a ∷ record { name = codes "b"; shape = unsigned 1; init = pos 0; reset_less = false } ∷ []
unfolding identifiers hw heap a held made form
of_bit = refl

of_number : (made (val.Int (pos 5) ∷ []) []).held.pool.signals ≡ a ∷ record { name = codes "b"; shape = unsigned 3; init = pos 0; reset_less = false } ∷ []
unfolding identifiers hw heap a held made first_from
of_number = refl

-- no value, None, and a keyword of `Signal` alone
refused_calls : ((made [] []).answer ≡ answer.Refuse Raised) × ((made (val.None ∷ []) []).answer ≡ answer.Refuse Raised)
    × ((made (hw 0 ∷ val.Int (pos 1) ∷ []) (codes "shape" ∷ [])).answer ≡ answer.Refuse Raised)
unfolding identifiers hw heap a held made form
refused_calls = (refl, refl, refl)
