use Rattle.amh_tool.specs.Views.{plan_seen}
use Rattle.amh_tool.proofs.DesignLaws.{CutGives-lines}
use Rattle.amh_tool.proofs.design_text.read_text.Goals as goal

pub returns-in-Ok-clause-given : goal.returns-in-Ok-clause-given
returns-in-Ok-clause-given g c = CutGives-lines (plan_seen c.args.plan.now) c.args.text.now _ c.in-Ok.lines c.read_lines.result c.in-Ok.ensures.cut c.read_lines.ensures.given
