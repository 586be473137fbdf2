use Rattle.amh_things.proofs.Constants.{constant_fits}
use Rattle.amh_things.proofs.operand.number_operand.Goals as goal

pub returns-clause-sound : goal.returns-clause-sound
returns-clause-sound c = constant_fits c.args.value c.note_kept.ensures
