use Rattle.std.proofs.Common.{arith, ap}
use Rattle.design_ir.specs.Forests.{forest_len}
use Rattle.design_ir.proofs.Lists.{forest_len_is, tree_at}
use Rattle.design_ir.proofs.fragment.Fragments.get.Goals as goal

pub index-requires : goal.index-requires
index-requires c = omega (arith, forest_len_is c.self.inside.items.items, ap forest_len c.self.view_is, c.requires)

pub returns : goal.returns
returns c = rw (← c.self.view_is) (tree_at c.self.inside.items.items c.args.i _ (omega (arith, forest_len_is c.self.inside.items.items, ap forest_len c.self.view_is, c.requires)) c.index.ensures)
