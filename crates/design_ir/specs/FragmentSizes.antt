-- No fragment below is larger than the forest that holds it.
use Rattle.std.specs.Prelude.{◌≤◌, List, [], ◌∷◌}
use Rattle.std.proofs.Common.{arith}
use denote.Param.Weighed.{most}
use Rattle.design_ir.specs.Forests.{forest_size}
use Rattle.design_ir.specs.Fragments.{forest_of}
use Rattle.design_ir.specs.declared.fragment.Fragment.{Fragment}
use Rattle.design_ir.specs.declared.fragment.Fragments.TheDeep.{deep-Fragment}

pub forest_falls : (fs : List Fragment) → most deep-Fragment fs ≤ forest_size (forest_of fs)
forest_falls [] = omega arith
forest_falls (f ∷ fs) = omega (arith, forest_falls fs)
