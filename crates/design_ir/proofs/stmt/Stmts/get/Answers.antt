use Rattle.std.proofs.Common.{arith, ap}
use Rattle.design_ir.specs.Trees.{block_len}
use Rattle.design_ir.proofs.Lists.{block_len_is, statement_at}
use Rattle.design_ir.proofs.stmt.Stmts.get.Goals as goal

pub index-requires : goal.index-requires
index-requires c = omega (arith, block_len_is c.self.inside.items.items, ap block_len c.self.view_is, c.requires)

pub returns : goal.returns
returns c = rw (← c.self.view_is) (statement_at c.self.inside.items.items c.args.i _ (omega (arith, block_len_is c.self.inside.items.items, ap block_len c.self.view_is, c.requires)) c.index.ensures)
