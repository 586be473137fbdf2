use Rattle.design_ir.specs.Statements.{statement_of, block_of, choices_of}
use Rattle.design_ir.specs.Trees.{block_size, choices_size, statement_size}
use Rattle.design_table.proofs.blocks.+fits.Given as goal

abbrev pub decreases-block_fits : goal.decreases-block_fits
decreases-block_fits l = block_size (block_of l.body.now)

abbrev pub decreases-statement_fits : goal.decreases-statement_fits
decreases-statement_fits l = statement_size (statement_of l.s.now)

abbrev pub decreases-choices_fit : goal.decreases-choices_fit
decreases-choices_fit l = choices_size (choices_of l.arms.now)
