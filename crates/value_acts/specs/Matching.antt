-- `v.matches(*patterns)`: 1 where one of the patterns matches the bits of the value, and 0 where there are none. Amaranth language guide
-- 0.5, "Operators", match operator.
use Rattle.std.specs.Prelude.{if◌then◌else◌, List, [], map, Option, Some, None, Result, Ok, Err}
use Rattle.shape_rules.specs.Forms.{Form}
use Rattle.design_ir.specs.declared.ids.ExprId.{ExprId}
use Rattle.design_ir.specs.declared.expr.Expr.TheVariants.{Matches}
use Rattle.design_ir.specs.declared.expr.Pattern.{Pattern}
use Rattle.py_heap.specs.Heaps.{Seen}
use Rattle.py_frames.specs.declared.request.Cause.{Cause}
use Rattle.py_frames.specs.declared.request.Cause.TheVariants.{Raised}
use Rattle.amh_things.specs.declared.thing.Thing.{Thing}
use Rattle.amh_things.specs.Members.{plain}
use Rattle.amh_things.specs.Ends.{Ends}
use Rattle.amh_things.specs.declared.plan.Plan.{Plan}
use Rattle.amh_things.specs.Plans.{value_made}
use Rattle.amh_things.specs.Arguments.{Arguments, is_some_key}
use Rattle.amh_things.specs.Patterns.{patterns_meant}

-- what is no pattern raises
abbrev pub matched : Ends → ExprId → Option (List Pattern) → Result Plan Cause
matched ends e None = Err Raised
matched ends e (Some ps) = Ok (value_made ends [] (Matches e ps))

-- it takes no keyword; a member is the pattern of its number
abbrev pub matches_called : Seen → Ends → List Thing → ExprId → Form → Arguments → Result Plan Cause
matches_called s ends things e f a = if is_some_key a.keys then Err Raised else matched ends e (patterns_meant s f (map (plain things) a.positional))
