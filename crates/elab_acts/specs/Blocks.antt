-- The blocks of a module: `m.If(c)`, `m.Elif(c)`, `m.Else()`, `m.Switch(v)`, `m.Case(p1, p2)` and `m.Default()`, which `with`
-- enters and leaves. (Amaranth language guide 0.5, "Control blocks".)
use Rattle.std.specs.Prelude.{ℕ, if◌then◌else◌, List, [], ◌∷◌, ◌++◌, length, map, slice_get, slice_set, Option, Some, None, option_map, Result, Ok, Err, codes}
use Rattle.lists.specs.Texts.{text_eq}
use Rattle.py_values.specs.declared.val.Val.{Val}
use Rattle.py_values.specs.declared.val.Val.TheVariants as val
use Rattle.py_heap.specs.Heaps.{Seen}
use Rattle.py_frames.specs.declared.request.Cause.{Cause}
use Rattle.py_frames.specs.declared.request.Cause.TheVariants.{Raised, Limit}
use Rattle.design_ir.specs.declared.ids.ExprId.{ExprId}
use Rattle.design_ir.specs.declared.expr.Expr.{Expr}
use Rattle.design_ir.specs.declared.expr.Pattern.{Pattern}
use Rattle.design_ir.specs.Values.{form}
use Rattle.module_dsl.specs.declared.refusal.BuildStop.{BuildStop}
use Rattle.module_dsl.specs.declared.refusal.BuildStop.TheVariants as stop
use Rattle.module_dsl.specs.declared.step.Block.{Block}
use Rattle.module_dsl.specs.declared.step.Block.TheVariants as dsl
use Rattle.module_dsl.specs.Blocks.{in_switch}
use Rattle.module_dsl.specs.Builders.{Built, built_blocks, subject_of, condition_made, enter_refusal, and_entered, pool_with, leave_refusal, and_left}
use Rattle.amh_things.specs.Meant.{expr_meant}
use Rattle.amh_things.specs.Members.{plain}
use Rattle.amh_things.specs.Patterns.{patterns_meant}
use Rattle.amh_things.specs.Plans.{grown_by}
use Rattle.elab_store.specs.declared.kept.BlockName.{BlockName}
use Rattle.elab_store.specs.declared.kept.BlockName.TheVariants as named
use Rattle.elab_store.specs.declared.kept.Begin.{Begin}
use Rattle.elab_store.specs.declared.kept.Begin.TheVariants as begin
use Rattle.elab_store.specs.declared.kept.Kept.{Kept}
use Rattle.elab_store.specs.declared.kept.Kept.TheVariants as kept
use Rattle.elab_store.specs.Calls.{Called}
use Rattle.elab_store.specs.OpenMachines.{in_machine}
use Rattle.elab_store.specs.Stores.{Stored, Held, Answered, refused, given, kept_given}

-- ---- names

abbrev pub block_named : List ℕ → Option BlockName
block_named n =
    if text_eq n (codes "If") then Some named.If
    else (if text_eq n (codes "Elif") then Some named.Elif
    else (if text_eq n (codes "Else") then Some named.Else
    else (if text_eq n (codes "Switch") then Some named.Switch
    else (if text_eq n (codes "Case") then Some named.Case else (if text_eq n (codes "Default") then Some named.Default else None)))))

-- `m.If`
abbrev pub block_name_given : ℕ → Option BlockName → Held → Answered
block_name_given m (Some n) h = kept_given (kept.BlockName m n) h
block_name_given m None h = refused Raised h

-- ---- calls: nothing is entered yet

-- how a block begins that has a condition, or a subject
abbrev pub begin_with : BlockName → ExprId → Begin
begin_with named.If e = begin.If e
begin_with named.Elif e = begin.Elif e
begin_with named.Else e = begin.Switch e
begin_with named.Switch e = begin.Switch e
begin_with named.Case e = begin.Switch e
begin_with named.Default e = begin.Switch e

-- with the constant that the condition is, where it is a number
abbrev pub condition_given : ℕ → BlockName → Held → Result (ExprId × List Expr) Cause → Answered
condition_given m n h (Ok x) = kept_given (kept.Block m (begin_with n x.0)) (record h { pool = grown_by h.pool x.1 })
condition_given m n h (Err why) = refused why h

-- one value, and no keyword
abbrev pub condition_called : ℕ → BlockName → List Val → List (List ℕ) → Held → Answered
condition_called m n (v ∷ []) [] h = condition_given m n h (expr_meant h.pool h.store.things v)
condition_called m n vs ns h = refused Raised h

-- nothing
abbrev pub plain_called : ℕ → Begin → List Val → List (List ℕ) → Held → Answered
plain_called m b [] [] h = kept_given (kept.Block m b) h
plain_called m b vs ns h = refused Raised h

abbrev pub store_with_patterns : List Pattern → Stored → Stored
store_with_patterns ps s = record s { patterns = s.patterns ++ ps ∷ [] }

abbrev pub with_patterns : List Pattern → Held → Held
with_patterns ps h = record h { store = store_with_patterns ps h.store }

abbrev pub case_given : ℕ → Option (List Pattern) → Held → Answered
case_given m (Some ps) h = kept_given (kept.Block m (begin.Case (length h.store.patterns))) (with_patterns ps h)
case_given m None h = refused Raised h

-- the subject of the `Switch` that is the innermost block of a module
abbrev pub switched : Option Built → Option ExprId
switched None = None
switched (Some b) = if in_switch (built_blocks b).around then Some (subject_of (built_blocks b).around) else None

-- a member is the pattern of its number
abbrev pub case_patterns : Seen → Held → ExprId → List Val → Option (List Pattern)
case_patterns s h subject vs = patterns_meant s (form h.pool subject.0) (map (plain h.store.things) vs)

-- that in which a case of the module would stand directly; the choice of an `FSM` is none
abbrev pub case_subject : ℕ → Stored → Option ExprId
case_subject m s = if in_machine m s.machines then None else switched (slice_get s.modules m)

-- The patterns are for the subject of the `Switch` in which the call stands directly. Where it stands in none, entering is refused.
abbrev pub case_in : Seen → ℕ → List Val → Option ExprId → Held → Answered
case_in s m vs None h = kept_given (kept.Block m begin.Misplaced) h
case_in s m vs (Some subject) h = case_given m (case_patterns s h subject vs) h

-- patterns, and no keyword
abbrev pub case_called : Seen → ℕ → List Val → List (List ℕ) → Held → Answered
case_called s m vs [] h = case_in s m vs (case_subject m h.store) h
case_called s m vs (n ∷ ns) h = refused Raised h

abbrev pub block_called : Seen → ℕ → BlockName → Called → Held → Answered
block_called s m named.If c h = condition_called m named.If c.placed c.keywords h
block_called s m named.Elif c h = condition_called m named.Elif c.placed c.keywords h
block_called s m named.Else c h = plain_called m begin.Else c.placed c.keywords h
block_called s m named.Switch c h = condition_called m named.Switch c.placed c.keywords h
block_called s m named.Case c h = case_called s m c.placed c.keywords h
block_called s m named.Default c h = plain_called m begin.Default c.placed c.keywords h

-- ---- entering

abbrev pub block_of : List (List Pattern) → Begin → Option Block
block_of ps (begin.If e) = Some (dsl.If e)
block_of ps (begin.Elif e) = Some (dsl.Elif e)
block_of ps begin.Else = Some dsl.Else
block_of ps (begin.Switch e) = Some (dsl.Switch e)
block_of ps (begin.Case n) = option_map (λ p. dsl.Case p) (slice_get ps n)
block_of ps begin.Default = Some dsl.Default
block_of ps begin.Misplaced = None

-- what a refusal of a builder is told as: order raises
abbrev pub stop_cause : BuildStop → Cause
stop_cause stop.Order = Raised
stop_cause stop.NotTarget = Raised
stop_cause stop.Limit = Limit
stop_cause stop.NoMemory = Limit

abbrev pub store_told : ℕ → Built → Stored → Stored
store_told m b s = record s { modules = slice_set s.modules m b }

abbrev pub with_entered : ℕ → Built → Block → Held → Held
with_entered m b x h = record { pool = pool_with h.pool (condition_made (built_blocks b) x); store = store_told m (and_entered h.pool b x) h.store }

-- what is held behind it, and why it is refused, where it is
abbrev pub entering_by : Option BuildStop → ℕ → Built → Block → Held → Held × Option Cause
entering_by (Some why) m b x h = (h, Some (stop_cause why))
entering_by None m b x h = (with_entered m b x h, None)

abbrev pub entering : ℕ → Option Built → Block → Held → Held × Option Cause
entering m None x h = (h, Some Raised)
entering m (Some b) x h = entering_by (enter_refusal h.pool b x) m b x h

-- nothing is bound by `as`
abbrev pub passed : Held × Option Cause → Answered
passed (h, None) = given val.None h
passed (h, Some why) = refused why h

abbrev pub entered_at : ℕ → Option Built → Option Block → Held → Answered
entered_at m b None h = refused Raised h
entered_at m b (Some x) h = passed (entering m b x h)

-- directly in an `FSM` stand states alone
abbrev pub block_begun : ℕ → Begin → Held → Answered
block_begun m b h =
    if in_machine m h.store.machines then refused Raised h else entered_at m (slice_get h.store.modules m) (block_of h.store.patterns b) h

-- a block that was called; anything else raises
abbrev pub block_entered : Option Kept → Held → Answered
block_entered (Some (kept.Block m b)) h = block_begun m b h
block_entered k h = refused Raised h

-- ---- leaving

abbrev pub leaving_by : Option BuildStop → ℕ → Built → Stored → Stored × Option Cause
leaving_by (Some why) m b s = (s, Some (stop_cause why))
leaving_by None m b s = (store_told m (and_left b) s, None)

abbrev pub leaving : ℕ → Option Built → Stored → Stored × Option Cause
leaving m None s = (s, Some Raised)
leaving m (Some b) s = leaving_by (leave_refusal b) m b s

abbrev pub left_at : ℕ → Held → Stored × Option Cause → Answered
left_at m h (s, why) = passed (record h { store = s }, why)

abbrev pub block_left : Option Kept → Held → Answered
block_left (Some (kept.Block m b)) h = left_at m h (leaving m (slice_get h.store.modules m) h.store)
block_left k h = refused Raised h
