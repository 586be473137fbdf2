use Rattle.std.proofs.Common.{◌≡◌, take}
use Rattle.design_ir.specs.Statements.{statement_of, block_of, choices_of}
use Rattle.design_ir.specs.Trees.{block_size, choices_size, statement_size}
use Rattle.domain_transforms.specs.Changes.{id_of}
use Rattle.domain_transforms.specs.Renamed.{block_append, renamed_block, renamed_choices}
use Rattle.domain_transforms.proofs.renaming.+renaming.Given as goal

abbrev pub decreases-renamed_arms : goal.decreases-renamed_arms
decreases-renamed_arms l = choices_size l.arms.now

abbrev pub decreases-add_renamed : goal.decreases-add_renamed
decreases-add_renamed l = block_size l.body.now

abbrev pub decreases-renamed_statement : goal.decreases-renamed_statement
decreases-renamed_statement l = statement_size (statement_of l.statement.now)

abbrev pub invariant-renamed_arms-loop-arm : goal.invariant-renamed_arms-loop-arm
invariant-renamed_arms-loop-arm l = l.all ≡ renamed_choices (id_of l.ids) (choices_of (take l.arm-index l.arm-items))

abbrev pub invariant-add_renamed-loop-statement : goal.invariant-add_renamed-loop-statement
invariant-add_renamed-loop-statement l = l.into ≡ block_append l.fn.into (renamed_block (id_of l.ids) (block_of (take l.statement-index l.statement-items)))
