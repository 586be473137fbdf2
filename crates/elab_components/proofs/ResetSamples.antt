-- Resets, worked out: what `ResetSignal(..)` is answered, and that a statement may drive what it gives.
use Rattle.std.specs.Prelude.{◌≡◌, refl, ℕ, List, [], ◌∷◌, true, Some, None, pos, codes}
use Rattle.identifiers.proofs.Computing.{identifiers}
use Rattle.py_values.specs.declared.val.Val.{Val}
use Rattle.py_values.specs.declared.val.Val.TheVariants as val
use Rattle.py_heap.specs.Heaps.{Seen, seen, nothing}
use Rattle.py_frames.specs.declared.request.Answer.TheVariants as answer
use Rattle.py_frames.specs.declared.request.Cause.TheVariants.{Raised}
use Rattle.amh_host.specs.declared.place.Place.{Place}
use Rattle.shape_rules.specs.Forms.{unsigned}
use Rattle.design_ir.specs.declared.expr.Expr.TheVariants as expr
use Rattle.design_ir.specs.Values.{form}
use Rattle.design_ir.specs.Targets.{is_open_target}
use Rattle.amh_things.specs.declared.thing.Thing.TheVariants as thing
use Rattle.elab_store.specs.declared.kept.HdlName.TheVariants as hdl
use Rattle.elab_store.specs.declared.kept.Kept.TheVariants as kept
use Rattle.elab_store.specs.Calls.{Called}
use Rattle.elab_store.specs.Stores.{Answered, nothing_held}
use Rattle.elab_components.specs.Equations.{equated}
use Rattle.elab_components.specs.Imports.{imported}
use Rattle.elab_components.specs.Resets.{domain_argument, reset_domain, reset_said, reset_called}
use Rattle.elab_components.specs.Signals.{domain_formed}

thing_at : ℕ → Val
thing_at n = val.Hw (record { 0 = n })

heap : Seen
heap = seen nothing nothing

here : Place
here = record { line = 7; col = 20 }

-- the name stands in both modules
imports_are : ((imported (codes "amaranth.hdl") (codes "ResetSignal") nothing_held).held.store.kept ≡ kept.Name hdl.ResetSignal ∷ [])
    × ((imported (codes "amaranth.lib") (codes "ResetSignal") nothing_held).answer ≡ answer.Refuse Raised)
imports_are = (refl, refl)

-- `ResetSignal()` where nothing was made before: thing 0 stands for expression 0, the reset of `sync` with the place of the call, of one bit
call : Called
call = record { callee = val.None; placed = []; keywords = []; keyword_vals = []; name = [] }

made : Answered
made = reset_called heap call here nothing_held

made_is : (made.answer ≡ answer.Give (thing_at 0))
    × (made.held.store.things ≡ thing.Value (record { 0 = 0 }) ∷ [])
    × (made.held.pool.exprs ≡ expr.Reset (codes "sync") here ∷ [])
    × (made.held.pool.signals ≡ [])
    × (form made.held.pool 0 ≡ unsigned 1)
unfolding thing_at heap here call made form
made_is = (refl, refl, refl, refl, refl)

-- `ResetSignal().eq(1)`
driven : (equated (record { 0 = 0 }) (val.Int (pos 1) ∷ []) [] here made.held).answer ≡ answer.Give (thing_at 1)
unfolding thing_at heap here call made is_open_target
driven = refl

-- one argument by its place or by `domain`; no second one, and no other keyword
arguments_are : (domain_argument (thing_at 3 ∷ []) [] [] ≡ Some (Some (thing_at 3)))
    × (domain_argument [] (codes "domain" ∷ []) (thing_at 3 ∷ []) ≡ Some (Some (thing_at 3)))
    × (domain_argument (thing_at 3 ∷ thing_at 4 ∷ []) [] [] ≡ None)
    × (domain_argument (thing_at 3 ∷ []) (codes "domain" ∷ []) (thing_at 4 ∷ []) ≡ None)
    × (domain_argument [] (codes "allow_reset_less" ∷ []) (thing_at 3 ∷ []) ≡ None)
unfolding thing_at
arguments_are = (refl, refl, refl, refl, refl)

-- an identifier other than `comb`, as a string
names_are : (domain_formed (codes "pix") ≡ Some (codes "pix")) × (domain_formed (codes "comb") ≡ None) × (domain_formed (codes "2x") ≡ None) × (reset_domain heap (Some val.None) ≡ None) × (reset_domain heap (Some (val.Bool true)) ≡ None)
unfolding identifiers heap
names_are = (refl, refl, refl, refl, refl)
