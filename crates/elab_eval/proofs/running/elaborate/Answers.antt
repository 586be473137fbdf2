use Rattle.std.proofs.Common.{subst}
use Rattle.std.specs.Option.{option_copied}
use Rattle.py_tree.specs.Programs.{program_of}
use Rattle.elab_store.specs.Stores.{Held}
use Rattle.elab_eval.specs.Elaborates.{IsFound, design_of}
use Rattle.elab_store.specs.Held.{held_of}
use Rattle.elab_eval.proofs.RunLaws.{begun, elaborated, units_left}
use Rattle.elab_eval.proofs.running.elaborate.Goals as goal

pub run-requires-clause-running : goal.run-requires-clause-running
run-requires-clause-running g c = begun (program_of c.args.program.now) (option_copied c.args.top) c.args.left.now.left c.in-Ok.machine (held_of c.new-held.result) c.in-Ok.ensures.stands c.in-Ok.ensures.before c.in-Ok.ensures.unused c.new-held.ensures c.requires

pub returns-in-Ok-run-clause-comes : goal.returns-in-Ok-run-clause-comes
returns-in-Ok-run-clause-comes g c =
    elaborated (program_of c.args.program.now) (option_copied c.args.top) c.args.left.now.left c.run.new.left.left c.run.new.machine (held_of c.run.new.elaboration) c.finish.result c.in-Ok-run.ensures.comes
    (subst (λ (h : Held). IsFound c.finish.result (design_of h c.run.new.machine.going.state.heap)) c.leave_simulation.ensures.held c.finish.ensures.found)

pub returns-in-Ok-run-clause-units : goal.returns-in-Ok-run-clause-units
returns-in-Ok-run-clause-units g c = units_left (program_of c.args.program.now) (option_copied c.args.top) c.args.left.now.left c.run.new.left.left c.run.new.machine (held_of c.run.new.elaboration) c.finish.result c.in-Ok-run.ensures.comes
