use Rattle.std.proofs.Common.{subst, List, ℕ}
use Rattle.std.specs.Str.{chars}
use Rattle.py_lexer.specs.Lines.{logical_lines}
use Rattle.amh_tool.specs.DesignGives.{CutGives}
use Rattle.amh_tool.specs.Views.{plan_seen}
use Rattle.amh_tool.proofs.DesignLaws.{DesignGives-text, IsDesigned-bytes}
use Rattle.amh_tool.proofs.design_text.read_design.Goals as goal

pub returns-in-Ok-clause-given : goal.returns-in-Ok-clause-given
returns-in-Ok-clause-given g c =
    let said = subst (λ (text : List ℕ). CutGives (plan_seen c.args.plan.now) text (logical_lines (chars text)) c.read_text.result) c.in-Ok.ensures.cases.0 c.read_text.ensures.given in
    DesignGives-text (plan_seen c.args.plan.now) c.args.bytes.now c.read_text.result c.requires.few c.in-Ok.ensures.cases.1 said

pub returns-in-Err-clause-given : goal.returns-in-Err-clause-given
returns-in-Err-clause-given g c = rw (c.bad_bytes.ensures, c.valid_up_to.ensures) (IsDesigned-bytes (plan_seen c.args.plan.now) c.args.bytes.now _ c.requires.few c.in-Err.ensures.cases.1)
