use Rattle.std.proofs.Common.{arith, ap}
use Rattle.design_ir.specs.Trees.{choices_len}
use Rattle.design_ir.proofs.Lists.{choices_len_is, arm_at}
use Rattle.design_ir.proofs.stmt.Arms.get.Goals as goal

pub index-requires : goal.index-requires
index-requires c = omega (arith, choices_len_is c.self.inside.items.items, ap choices_len c.self.view_is, c.requires)

pub returns : goal.returns
returns c = rw (← c.self.view_is) (arm_at c.self.inside.items.items c.args.i _ (omega (arith, choices_len_is c.self.inside.items.items, ap choices_len c.self.view_is, c.requires)) c.index.ensures)
