use Rattle.std.proofs.Common.{subst}
use Rattle.std.specs.Prelude.{Err}
use Rattle.py_tree.specs.Programs.{program_of}
use Rattle.py_parser.specs.Parsing.{IsParsed, IsRefusedAt}
use Rattle.py_parser.specs.declared.parsing.ParseStop.{ParseStop}
use Rattle.amh_tool.specs.Views.{plan_seen}
use Rattle.amh_tool.proofs.DesignLaws.{LinesGive-program, LinesGive-unparsed}
use Rattle.amh_tool.proofs.design_text.read_lines.Goals as goal

pub returns-in-Ok-clause-given : goal.returns-in-Ok-clause-given
returns-in-Ok-clause-given g c =
    LinesGive-program (plan_seen c.args.plan.now) c.args.text.now c.args.lines.now (program_of c.in-Ok.program) c.read_parsed.result c.in-Ok.ensures c.read_parsed.ensures.given

pub returns-in-Err-Subset-clause-given : goal.returns-in-Err-Subset-clause-given
returns-in-Err-Subset-clause-given g c =
    let text = c.args.text.now in
    let lines = c.args.lines.now in
    let parsed : IsParsed text lines (Err c.in-Err-Subset.field-0) = c.in-Err-Subset.ensures in
    let refused : IsRefusedAt text lines c.in-Err-Subset.place = subst (λ (stop : ParseStop). IsParsed text lines (Err stop)) c.in-Err-Subset.field-0-is parsed in
    rw (c.refused.ensures, c.in-Err-Subset.field-0-is) (LinesGive-unparsed (plan_seen c.args.plan.now) text lines c.in-Err-Subset.place refused)
