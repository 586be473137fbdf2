-- Imports of `amaranth`, worked out where nothing was imported before.
use Rattle.std.specs.Prelude.{◌≡◌, refl, ℕ, List, [], ◌∷◌, map, codes}
use Rattle.py_values.specs.declared.val.Val.TheVariants as val
use Rattle.py_frames.specs.declared.request.Answer.{Answer}
use Rattle.py_frames.specs.declared.request.Answer.TheVariants as answer
use Rattle.py_frames.specs.declared.request.Cause.TheVariants.{Raised}
use Rattle.py_frames.specs.declared.request.NamedVal.{NamedVal}
use Rattle.elab_store.specs.declared.kept.HdlName.TheVariants as hdl
use Rattle.elab_store.specs.declared.kept.Kept.TheVariants as kept
use Rattle.elab_store.specs.Stores.{Answered, nothing_held}
use Rattle.elab_components.specs.Imports.{star_names, imported}

-- `from amaranth.hdl import ResetInserter`
one_given : ((imported (codes "amaranth.hdl") (codes "ResetInserter") nothing_held).answer ≡ answer.Give (val.Hw (record { 0 = 0 })))
    × ((imported (codes "amaranth.hdl") (codes "ResetInserter") nothing_held).held.store.kept ≡ kept.Name hdl.ResetInserter ∷ [])
    × ((imported (codes "amaranth") (codes "ControlInserter") nothing_held).answer ≡ answer.Refuse Raised)
one_given = (refl, refl, refl)

-- `from amaranth import *`
all_given : Answered
all_given = imported (codes "amaranth") (codes "*") nothing_held

names_in : Answer → List (List ℕ)
names_in (answer.Bind xs) = map (λ (x : NamedVal). x.name) xs
names_in a = []

all_are : (names_in all_given.answer ≡ star_names)
    × (all_given.held.store.kept ≡ kept.Name hdl.Module ∷ kept.Name hdl.Signal ∷ kept.Name hdl.Shape ∷ kept.Name hdl.Value ∷ kept.Name hdl.Elaboratable ∷ kept.Name hdl.ClockDomain
    ∷ kept.Name hdl.ResetSignal ∷ kept.Name hdl.DomainRenamer ∷ kept.Name hdl.ResetInserter ∷ kept.Name hdl.EnableInserter ∷ [])
unfolding all_given names_in
all_are = (refl, refl)
