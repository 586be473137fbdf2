use Rattle.elab_store.specs.Held.{held_of}
use Rattle.elab_acts.proofs.EnterLaws.{enterable}
use Rattle.elab_acts.proofs.blocks.enter_block.Goals as goal

pub enter_at-requires : goal.enter_at-requires
enter_at-requires c = enterable (held_of c.args.elaboration.now) c.in-Some-Block.of c.in_ok-block-in-Some-Block.block c.requires c.in_ok-block-in-Some-Block.ensures.masked
