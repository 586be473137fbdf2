-- `x.eq(v)`. (Amaranth language guide 0.5, "Assigning to signals", which says too what may stand on the left.)
use Rattle.std.specs.Prelude.{ℕ, if◌then◌else◌, List, [], ◌∷◌, Result, Ok, Err}
use Rattle.amh_host.specs.declared.place.Place.{Place}
use Rattle.py_values.specs.declared.val.Val.{Val}
use Rattle.py_frames.specs.declared.request.Cause.{Cause}
use Rattle.py_frames.specs.declared.request.Cause.TheVariants.{Raised}
use Rattle.design_ir.specs.declared.ids.ExprId.{ExprId}
use Rattle.design_ir.specs.declared.expr.Expr.{Expr}
use Rattle.design_ir.specs.Targets.{is_open_target}
use Rattle.amh_things.specs.Meant.{expr_meant}
use Rattle.amh_things.specs.Plans.{grown_by}
use Rattle.elab_store.specs.declared.kept.Kept.TheVariants as kept
use Rattle.elab_store.specs.Stores.{Held, Answered, refused, kept_given}

-- with the constant that the value is, where it is a number
abbrev pub equation_given : ExprId → Place → Held → Result (ExprId × List Expr) Cause → Answered
equation_given target place h (Ok x) =
    kept_given (kept.Statement (record { target = target; value = x.0; place = place })) (record h { pool = grown_by h.pool x.1 })
equation_given target place h (Err why) = refused why h

-- What is no target is told where it is equated, as Amaranth tells it. A count is told last.
abbrev pub equation_made : ExprId → Val → Place → Held → Answered
equation_made target v place h =
    if is_open_target h.pool target.0 then equation_given target place h (expr_meant h.pool h.store.things v) else refused Raised h

-- one value, and no keyword
abbrev pub equated : ExprId → List Val → List (List ℕ) → Place → Held → Answered
equated target (v ∷ []) [] place h = equation_made target v place h
equated target vs ns place h = refused Raised h
