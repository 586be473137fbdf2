-- Samples of names below a module of the library, worked out.
use Rattle.std.specs.Prelude.{◌≡◌, refl, ℕ, [], ◌∷◌, codes}
use Rattle.py_values.specs.declared.val.Val.{Val}
use Rattle.py_values.specs.declared.val.Val.TheVariants as val
use Rattle.py_frames.specs.declared.request.Answer.TheVariants as answer
use Rattle.py_frames.specs.declared.request.Cause.TheVariants.{Raised}
use Rattle.amh_things.specs.declared.thing.Thing.TheVariants as thing
use Rattle.amh_things.specs.declared.thing.ThingName.TheVariants as name
use Rattle.elab_store.specs.declared.kept.HdlName.TheVariants as hdl
use Rattle.elab_store.specs.declared.kept.Kept.TheVariants as kept
use Rattle.elab_store.specs.Stores.{Answered, nothing_held}
use Rattle.elab_components.specs.Imports.{imported}
use Rattle.elab_eval.specs.Table.{name_attribute}

hw : ℕ → Val
hw n = val.Hw (record { 0 = n })

-- ---- names: `from amaranth.lib import data`, `data.Struct` and `from amaranth.lib.data import Struct`

with_data : Answered
with_data = imported (codes "amaranth.lib") (codes "data") nothing_held

names_given : (with_data.held.store.kept ≡ kept.Name hdl.Data ∷ [])
    × ((name_attribute hdl.Data (codes "Struct") with_data.held).answer ≡ answer.Give (hw 1))
    × ((imported (codes "amaranth.lib.data") (codes "Struct") nothing_held).held.store.things ≡ thing.Name name.Struct ∷ [])
    × ((imported (codes "amaranth.lib.data") (codes "ArrayLayout") nothing_held).held.store.things ≡ thing.Name name.ArrayLayout ∷ [])
unfolding hw with_data
names_given = (refl, refl, refl, refl)

-- there is no star, and there are no others
other_names : ((imported (codes "amaranth.lib.data") (codes "*") nothing_held).answer ≡ answer.Refuse Raised)
    × ((imported (codes "amaranth.lib.data") (codes "View") nothing_held).answer ≡ answer.Refuse Raised)
    × ((name_attribute hdl.Data (codes "Enum") nothing_held).answer ≡ answer.Refuse Raised)
other_names = (refl, refl, refl)
