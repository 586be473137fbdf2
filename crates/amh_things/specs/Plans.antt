-- What an act makes and answers, before anything is done: a plan, or why it is refused.
use Rattle.std.specs.Prelude.{◌≡◌, ℕ, ◌+◌, nat_lt, Bool, if◌then◌else◌, List, [], ◌∷◌, ◌++◌, length, ℤ, Option, Some, None, Result, Ok, Err, ⊤}
use Rattle.amh_bits.specs.Patterns.{IsOf}
use Rattle.shape_rules.specs.Forms.{Form, IsForm, unsigned}
use Rattle.design_ir.specs.declared.ids.ExprId.{ExprId}
use Rattle.design_ir.specs.declared.expr.Expr.{Expr}
use Rattle.design_ir.specs.declared.expr.Expr.TheVariants.{Const}
use Rattle.design_ir.specs.Pools.{Pooled, answers}
use Rattle.design_ir.specs.PoolRules.{AreExprs}
use Rattle.design_ir.specs.Values.{form_step}
use Rattle.py_values.specs.declared.val.Hw.{Hw}
use Rattle.py_values.specs.declared.val.Val.{Val}
use Rattle.py_values.specs.declared.val.Val.TheVariants as val
use Rattle.py_frames.specs.declared.request.Answer.TheVariants as answer
use Rattle.py_frames.specs.declared.request.Cause.{Cause}
use Rattle.py_frames.specs.declared.request.Cause.TheVariants.{Raised, Width, Limit}
use Rattle.amh_things.specs.declared.thing.Thing.{Thing}
use Rattle.amh_things.specs.declared.thing.Thing.TheVariants as thing
use Rattle.amh_things.specs.declared.thing.Reading.{Reading}
use Rattle.amh_things.specs.Things.{read_as}
use Rattle.amh_things.specs.Ends.{Ends}
use Rattle.amh_things.specs.Held.{AreHeld}
use Rattle.amh_things.specs.declared.plan.Plan.{Plan}
use Rattle.amh_things.specs.declared.plan.PlanStop.{PlanStop}
use Rattle.amh_things.specs.declared.plan.PlanStop.TheVariants as stop

-- how many expressions and things there are: the numbers of the next ones
abbrev pub ends_of : Pooled → List Thing → Ends
ends_of p things = record { exprs = length p.exprs; things = length things }

-- ---- plans

-- the value of an expression, of the shape of an enumeration where one is given
abbrev pub valued : Option Hw → ExprId → Thing
valued (Some h) e = thing.Numbered h e
valued None e = thing.Value e

abbrev pub valued_made : Ends → Option Hw → List Expr → Expr → Plan
valued_made ends of before e = record {
  exprs = before ++ e ∷ [];
  things = valued of (record { 0 = ends.exprs + length before }) ∷ [];
  answer = answer.Give (val.Hw (record { 0 = ends.things }));
}

-- a value by what it is read as, over these expressions, which come before it
abbrev pub read_made : Ends → Reading → List Expr → Expr → Plan
read_made ends r before e = record {
  exprs = before ++ e ∷ [];
  things = read_as r (record { 0 = ends.exprs + length before }) ∷ [];
  answer = answer.Give (val.Hw (record { 0 = ends.things }));
}

-- a value over these expressions, which come before it
abbrev pub value_made : Ends → List Expr → Expr → Plan
value_made ends before e = record {
  exprs = before ++ e ∷ [];
  things = thing.Value (record { 0 = ends.exprs + length before }) ∷ [];
  answer = answer.Give (val.Hw (record { 0 = ends.things }));
}

-- a thing that is no value
abbrev pub thing_made : Ends → Thing → Plan
thing_made ends t = record { exprs = []; things = t ∷ []; answer = answer.Give (val.Hw (record { 0 = ends.things })) }

-- a value of the program that is there
abbrev pub value_given : Val → Plan
value_given v = record { exprs = []; things = []; answer = answer.Give v }

-- ---- refusals: what raises comes first, then a width, and last of all a count

-- why an expression is refused whose operand may be bad and whose shape and work shape have this width at most
abbrev pub refusal_of : Bool → ℕ → Option Cause
refusal_of bad width = if bad then Some Raised else (if nat_lt 128 width then Some Width else None)

abbrev pub unless : Option Cause → Plan → Result Plan Cause
unless None plan = Ok plan
unless (Some why) plan = Err why

-- the pool has at most 262,144 expressions
abbrev pub passes : ℕ → Plan → Bool
passes count plan = nat_lt 262144 (count + length plan.exprs)

abbrev pub limited : ℕ → Result Plan Cause → Result Plan Cause
limited count (Ok plan) = if passes count plan then Err Limit else Ok plan
limited count (Err why) = Err why

-- what comes out is the plan that is owed, or why there is none; want of memory may come at any time
abbrev pub IsPlanned : Result Plan PlanStop → Result Plan Cause → Type 0
IsPlanned (Ok plan) owed = owed ≡ Ok plan
IsPlanned (Err (stop.Refused why)) owed = owed ≡ Err why
IsPlanned (Err stop.NoMemory) owed = ⊤

-- ---- what a pool takes

-- the shapes of all expressions of a pool
abbrev pub forms : Pooled → List Form
forms p = answers (unsigned 0) (form_step p.signals) [] p.exprs

-- expressions that a pool takes one after the other
abbrev pub AreDrafted : Pooled → List Expr → Type 0
AreDrafted p es = AreExprs p.signals (forms p) es

-- a pool with these expressions behind its own
abbrev pub grown_by : Pooled → List Expr → Pooled
grown_by p es = record p { exprs = p.exprs ++ es }

-- a plan for a pool: the pool takes its expressions, and its things stand for expressions that are then there
pub record IsDrafted (p : Pooled) (plan : Plan) : Type 0 where
  pub exprs : AreDrafted p plan.exprs
  pub things : AreHeld (length p.exprs + length plan.exprs) plan.things

-- a plan for the value of one constant, which is a number of its shape
pub record MakesConstant (ends : Ends) (plan : Plan) : Type 0 where
  pub value : ℤ
  pub shape : Form
  pub formed : IsForm shape.width shape.signed
  pub fits : IsOf shape.signed shape.width value
  pub numbering : Option Hw
  pub is : plan ≡ valued_made ends numbering [] (Const value shape)

-- a plan for things alone, which stand for no expressions
pub record MakesThings (plan : Plan) : Type 0 where
  pub exprs : plan.exprs ≡ []
  pub things : (n : ℕ) → AreHeld n plan.things
