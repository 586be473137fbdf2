-- What the fragments of the code are as forests.
use Rattle.std.specs.Prelude.{List, [], ◌∷◌}
use Rattle.design_ir.specs.Forests.{Forest, bare, grown, Leaf}
use Rattle.design_ir.specs.declared.fragment.Fragment.{Fragment}

abbrev pub leaf_of : Fragment → Leaf
leaf_of f = record { name = f.name; is_part = f.is_part; domains = f.domains; processes = f.processes; memories = f.memories }

abbrev pub forest_of : List Fragment → Forest
forest_of [] = bare
forest_of (f ∷ fs) = grown (leaf_of f) f.submodules (forest_of fs)
