use Rattle.py_tree.specs.Programs.{program_of}
use Rattle.elab_eval.specs.Elaborates.{found_of}
use Rattle.amh_tool.specs.Views.{plan_seen}
use Rattle.amh_tool.proofs.DesignLaws.{ProgramGives-design, ProgramGives-stop}
use Rattle.amh_tool.proofs.design_text.read_program.Goals as goal

pub returns-in-Ok-clause-given : goal.returns-in-Ok-clause-given
returns-in-Ok-clause-given g c = ProgramGives-design (plan_seen c.args.plan.now) (program_of c.args.program) _ (found_of c.in-Ok.elaborated) c.rank_design.result c.in-Ok.ensures.comes c.rank_design.ensures.given

pub returns-in-Err-clause-given : goal.returns-in-Err-clause-given
returns-in-Err-clause-given g c = rw c.design_stop.ensures (ProgramGives-stop (plan_seen c.args.plan.now) (program_of c.args.program) _ c.in-Err.stop c.in-Err.ensures.comes)
