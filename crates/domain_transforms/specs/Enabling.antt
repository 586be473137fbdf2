-- What an `EnableInserter` makes of a fragment, and of the pool. (Amaranth guide: Control flow modifiers; which expressions it
-- makes, and in which order, is this project's own rule: for each memory port that it gates a 0 of the enable's shape and then
-- a `Mux`.)
use Rattle.std.specs.Prelude.{suc, List, map, length, pos, Option, Some, None, option_and_then}
use Rattle.design_ir.specs.declared.ids.ExprId.{ExprId}
use Rattle.design_ir.specs.declared.expr.Expr.TheVariants.{Const, Mux}
use Rattle.design_ir.specs.declared.memory.MemWrite.{MemWrite}
use Rattle.design_ir.specs.declared.memory.MemRead.{MemRead}
use Rattle.design_ir.specs.declared.memory.Memory.{Memory}
use Rattle.design_ir.specs.declared.process.Side.{Side}
use Rattle.design_ir.specs.declared.process.Side.TheVariants.{Comb, Clocked}
use Rattle.design_ir.specs.declared.process.Process.{Process}
use Rattle.design_ir.specs.declared.fragment.Fragment.{Fragment}
use Rattle.design_ir.specs.Forests.{Leaf}
use Rattle.design_ir.specs.Trees.{choose, none, arm, Block, done, next}
use Rattle.design_ir.specs.Pools.{Pooled}
use Rattle.design_ir.specs.PoolRules.{expr_added}
use Rattle.design_ir.specs.Values.{form}
use Rattle.domain_transforms.specs.declared.controls.Control.{Control}
use Rattle.domain_transforms.specs.Controlled.{control_of}
use Rattle.domain_transforms.specs.Making.{each_in, fragment_in}

-- ---- processes: statements of a controlled domain are carried out where its control is not 0

-- the control of a side's domain
abbrev pub side_control : List Control → Side → Option ExprId
side_control controls Comb = None
side_control controls (Clocked name) = control_of controls name

abbrev pub under : Option ExprId → Block → Block
under None body = body
under (Some c) body = next (choose (arm c body none)) done

abbrev pub enabled_process : List Control → Process → Process
enabled_process controls p = record p { body = under (side_control controls p.side) p.body }

-- ---- memory ports: an enable is 0 where the control is 0

abbrev pub zero_of : Pooled → ExprId → Pooled
zero_of q e = expr_added q (Const (pos 0) (form q e.0))

-- the enable where the control is not 0, else 0
abbrev pub gated : Pooled → ExprId → ExprId → ExprId × Pooled
gated q c e = (record { 0 = suc (length q.exprs) }, expr_added (zero_of q e) (Mux c e (record { 0 = length q.exprs })))

abbrev pub gated_by : Option ExprId → Pooled → ExprId → ExprId × Pooled
gated_by None q e = (e, q)
gated_by (Some c) q e = gated q c e

abbrev pub gated_option : Option ExprId → Pooled → Option ExprId → Option ExprId × Pooled
gated_option c q None = (None, q)
gated_option c q (Some e) = let g = gated_by c q e in (Some g.0, g.1)

abbrev pub enabled_write : List Control → Pooled → MemWrite → MemWrite × Pooled
enabled_write controls q w = let g = gated_by (control_of controls w.domain) q w.enable in (record w { enable = g.0 }, g.1)

abbrev pub enabled_read : List Control → Pooled → MemRead → MemRead × Pooled
enabled_read controls q r = let g = gated_option (option_and_then (control_of controls) r.domain) q r.enable in (record r { enable = g.0 }, g.1)

-- the write ports of a memory before its read ports
abbrev pub enabled_memory : List Control → Pooled → Memory → Memory × Pooled
enabled_memory controls q m =
    let ws = each_in (enabled_write controls) q m.writes in
    let rs = each_in (enabled_read controls) ws.1 m.reads in
    (record m { writes = ws.0; reads = rs.0 }, rs.1)

-- ---- fragments

abbrev pub enabled_leaf : List Control → Pooled → Leaf → Leaf × Pooled
enabled_leaf controls q l =
    let ms = each_in (enabled_memory controls) q l.memories in
    (record l { processes = map (enabled_process controls) l.processes; memories = ms.0 }, ms.1)

-- the fragment with all below it, and the pool
abbrev pub enabled : List Control → Pooled → Fragment → Fragment × Pooled
enabled controls q f = fragment_in (enabled_leaf controls) q f
