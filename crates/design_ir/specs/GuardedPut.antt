-- What an assignment of a flat list leaves, where its guards hold.
use Rattle.std.specs.Prelude.{Bool, if◌then◌else◌, not, List, ℤ}
use Rattle.std.specs.List.{list_all}
use Rattle.shape_rules.specs.Operators.{is_zero}
use Rattle.design_ir.specs.Pools.{Pooled}
use Rattle.design_ir.specs.Values.{num}
use Rattle.design_ir.specs.Targets.{target_bits}
use Rattle.design_ir.specs.Put.{put_number}
use Rattle.design_ir.specs.Guards.{Guard, Guarded}

abbrev pub holds : Pooled → List ℤ → Guard → Bool
holds pool env g = if g.taken then not (is_zero (num pool env g.condition.0)) else is_zero (num pool env g.condition.0)

abbrev pub put_guarded : Pooled → List ℤ → List ℤ → Guarded → List ℤ
put_guarded pool env cur g = if list_all (holds pool env) g.guards then put_number pool (target_bits pool env g.target.0) (num pool env g.value.0) cur else cur
