-- What a builder is told, what it refuses, and the fragment that it makes. (Amaranth guide, Modules: `m.d.comb += ..` and
-- `m.d.sync += ..` put statements under a domain of the module, in order.)
use Rattle.std.specs.Prelude.{◌≡◌, ℕ, nat_le, nat_lt, Bool, true, false, not, ⊤, if◌then◌else◌, List, [], ◌∷◌, ◌++◌, length, Option, Some, None, pos, ◌⊎◌}
use Rattle.shape_rules.specs.Forms.{unsigned}
use Rattle.design_ir.specs.declared.ids.ExprId.{ExprId}
use Rattle.design_ir.specs.declared.expr.Expr.{Expr}
use Rattle.design_ir.specs.declared.expr.Expr.TheVariants.{Const, Matches}
use Rattle.design_ir.specs.declared.process.Side.{Side}
use Rattle.design_ir.specs.declared.fragment.Fragment.{Fragment}
use Rattle.design_ir.specs.Forests.{bare}
use Rattle.design_ir.specs.Pools.{Pooled}
use Rattle.design_ir.specs.PoolRules.{expr_added, IsAskable}
use Rattle.design_ir.specs.Targets.{is_open_target}
use Rattle.amh_host.specs.declared.place.Place.{Place}
use Rattle.module_dsl.specs.declared.refusal.BuildStop.{BuildStop}
use Rattle.module_dsl.specs.declared.refusal.BuildStop.TheVariants.{Order, NotTarget, Limit, NoMemory}
use Rattle.module_dsl.specs.declared.step.Step.{Step}
use Rattle.module_dsl.specs.declared.step.Step.TheVariants.{Assign, Enter, Leave}
use Rattle.module_dsl.specs.declared.step.Opening.{Opening}
use Rattle.module_dsl.specs.declared.step.Opening.TheVariants as opening
use Rattle.module_dsl.specs.declared.step.OpenBlock.{OpenBlock}
use Rattle.module_dsl.specs.declared.step.OpenBlock.TheVariants as inside
use Rattle.module_dsl.specs.declared.step.Block.TheVariants as block
use Rattle.module_dsl.specs.declared.step.Block.{Block}
use Rattle.module_dsl.specs.Blocks.{Open, Blocks, blocks_of, entries_of, in_switch, is_outermost, may_begin}
use Rattle.module_dsl.specs.Sided.{processes_of, statement_count}

-- a module's name, and all that it was told, in order
pub record Built : Type 0 where
  pub name : List ℕ
  pub steps : List Step

-- the blocks of a builder
abbrev pub built_blocks : Built → Blocks
built_blocks b = blocks_of b.steps

abbrev pub and_step : Built → Step → Built
and_step b x = record b { steps = b.steps ++ x ∷ [] }

-- ---- refusals

-- a refusal is the one that is owed; want of memory may come at any time
abbrev pub IsOwed : Option BuildStop → BuildStop → Type 0
IsOwed owed Order = owed ≡ Some Order
IsOwed owed NotTarget = owed ≡ Some NotTarget
IsOwed owed Limit = owed ≡ Some Limit
IsOwed owed NoMemory = ⊤

abbrev pub order_where : Bool → Option BuildStop → Option BuildStop
order_where wrong others = if wrong then Some Order else others

-- how many statements a module has
abbrev pub built_count : Built → ℕ
built_count b = statement_count (entries_of (built_blocks b))

abbrev pub and_given : Built → Side → ExprId → ExprId → Place → Built
and_given b side target value place = and_step b (Assign side target value place)

-- Directly in a `Switch` no statement stands; then comes something else than a target, which may stand for resets, then one statement too many.
abbrev pub assign_refusal : Pooled → Built → Side → ExprId → ExprId → Place → Option BuildStop
assign_refusal q b side target value place =
    order_where (in_switch (built_blocks b).around)
    (if is_open_target q target.0 then (if nat_lt 65536 (built_count (and_given b side target value place)) then Some Limit else None) else Some NotTarget)

-- ---- entering a block

-- 1, the condition of an `Else` and of a `Default`
abbrev pub always : Expr
always = Const (pos 1) (unsigned 1)

abbrev pub subject_in : OpenBlock → ExprId
subject_in (inside.Branch c) = record { 0 = 0 }
subject_in (inside.Last c) = record { 0 = 0 }
subject_in (inside.Switch v) = v
subject_in (inside.Case v c) = record { 0 = 0 }

-- the subject of the `Switch` that is innermost
abbrev pub subject_of : List Open → ExprId
subject_of [] = record { 0 = 0 }
subject_of (o ∷ around) = subject_in o.block

abbrev pub case_subject_in : OpenBlock → Option ExprId
case_subject_in (inside.Branch c) = None
case_subject_in (inside.Last c) = None
case_subject_in (inside.Switch v) = None
case_subject_in (inside.Case v c) = Some v

-- the subject of the `Switch` of which a case is innermost
abbrev pub case_subject_of : List Open → Option ExprId
case_subject_of [] = None
case_subject_of (o ∷ around) = case_subject_in o.block

-- the expression that a block makes, where it makes one
abbrev pub condition_under : ExprId → Block → Option Expr
condition_under subject (block.If c) = None
condition_under subject (block.Elif c) = None
condition_under subject block.Else = Some always
condition_under subject (block.Switch v) = None
condition_under subject (block.Case patterns) = Some (Matches subject patterns)
condition_under subject block.Default = Some always

abbrev pub condition_made : Blocks → Block → Option Expr
condition_made b x = condition_under (subject_of b.around) x

-- the begin of a block, where the expression that is made for it has this number
abbrev pub opening_of : ℕ → Block → Opening
opening_of made (block.If c) = opening.If c
opening_of made (block.Elif c) = opening.Elif c
opening_of made block.Else = opening.Else (record { 0 = made })
opening_of made (block.Switch v) = opening.Switch v
opening_of made (block.Case patterns) = opening.Case (record { 0 = made })
opening_of made block.Default = opening.Case (record { 0 = made })

-- a pool with an expression more, where there is one
abbrev pub pool_with : Pooled → Option Expr → Pooled
pool_with q None = q
pool_with q (Some e) = expr_added q e

-- an expression more would be too many
abbrev pub room_refusal : Pooled → Option Expr → Option BuildStop
room_refusal q None = None
room_refusal q (Some e) = if nat_le 262144 (length q.exprs) then Some Limit else None

abbrev pub enter_refusal : Pooled → Built → Block → Option BuildStop
enter_refusal q b x = order_where (not (may_begin (opening_of (length q.exprs) x) (built_blocks b))) (room_refusal q (condition_made (built_blocks b) x))

abbrev pub and_entered : Pooled → Built → Block → Built
and_entered q b x = and_step b (Enter (opening_of (length q.exprs) x))

-- what a pool may be asked for, where it is asked
abbrev pub IsMakeable : Pooled → Option Expr → Type 0
IsMakeable q None = ⊤
IsMakeable q (Some e) = IsAskable q e

-- what is asked of a block: patterns that the pool may match with the subject
abbrev pub IsEnterable : Pooled → Built → Block → Type 0
IsEnterable q b (block.If c) = ⊤
IsEnterable q b (block.Elif c) = ⊤
IsEnterable q b block.Else = ⊤
IsEnterable q b (block.Switch v) = ⊤
IsEnterable q b (block.Case patterns) = in_switch (built_blocks b).around ≡ true → IsAskable q (Matches (subject_of (built_blocks b).around) patterns)
IsEnterable q b block.Default = ⊤

-- after a refusal all is as it was, but that want of memory may leave the pool with the expression
abbrev pub IsLeftAs : Pooled → Pooled → Option Expr → BuildStop → Type 0
IsLeftAs q q' made Order = q' ≡ q
IsLeftAs q q' made NotTarget = q' ≡ q
IsLeftAs q q' made Limit = q' ≡ q
IsLeftAs q q' made NoMemory = (q' ≡ q) ⊎ (q' ≡ pool_with q made)

-- ---- leaving a block

abbrev pub leave_refusal : Built → Option BuildStop
leave_refusal b = order_where (is_outermost (built_blocks b).around) None

abbrev pub and_left : Built → Built
and_left b = and_step b Leave

-- ---- the fragment

abbrev pub finish_refusal : Built → Option BuildStop
finish_refusal b = order_where (not (is_outermost (built_blocks b).around)) None

-- no part, and nothing in it but its processes
unfoldable pub fragment_of : Built → Fragment
fragment_of b =
    record { name = b.name; is_part = false; domains = []; processes = processes_of (entries_of (built_blocks b)); memories = []; submodules = bare }
