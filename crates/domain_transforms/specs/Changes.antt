-- What each wrapper makes of a fragment alone, and what its look-ups have to be. (Internal: no rule of the language.)
use Rattle.std.specs.Prelude.{ℕ, List, length, slice_index_or}
use Rattle.design_ir.specs.declared.ids.ExprId.{ExprId}
use Rattle.design_ir.specs.Forests.{Leaf}
use Rattle.design_ir.specs.Pools.{Pooled}
use Rattle.domain_transforms.specs.declared.fragments.Change.{Change}
use Rattle.domain_transforms.specs.declared.fragments.Change.TheVariants.{Enable, Reset, Rename}
use Rattle.domain_transforms.specs.Enabling.{enabled_leaf}
use Rattle.domain_transforms.specs.Resetting.{reset_leaf}
use Rattle.domain_transforms.specs.Renamed.{renamed_leaf}
use Rattle.domain_transforms.specs.Placed.{AreControls, ArePlaces}

-- what a table has for an expression
abbrev pub id_of : List ExprId → ExprId → ExprId
id_of ids e = slice_index_or ids e.0 e

abbrev pub leaf_change : Change → Pooled → Leaf → Leaf × Pooled
leaf_change (Enable controls) q l = enabled_leaf controls q l
leaf_change (Reset controls places) q l = reset_leaf controls q l
leaf_change (Rename names ids) q l = (renamed_leaf names (id_of ids.items) l, q)

abbrev pub IsReady : Change → Pooled → Type 0
IsReady (Enable controls) q = AreControls (length q.exprs) controls
IsReady (Reset controls places) q = ArePlaces q.exprs places.items
IsReady (Rename names ids) q = Unit {0}

-- the expressions of the fragment have to be below this number
abbrev pub bound : Change → Pooled → ℕ
bound (Enable controls) q = length q.exprs
bound (Reset controls places) q = length q.exprs
bound (Rename names ids) q = length ids.items
