-- What the program's values stand for.
-- Internal: no rule of the language.
use Rattle.std.specs.Option.{option_copied}
use Rattle.amh_tool.specs.Plan.{Plan}
use Rattle.amh_tool.specs.declared.plan.Plan.{Plan as CodePlan}

abbrev pub plan_seen : CodePlan → Plan
plan_seen p = record {
  design = p.design.now;
  il = p.il.now;
  trace = p.trace.now;
  script = option_copied p.script;
  top = option_copied p.top;
  budget = p.budget;
}
