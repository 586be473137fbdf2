-- What a `ResetInserter` makes of a fragment, and of the pool. (Amaranth guide: Control flow modifiers; which expressions it
-- makes, and in which order, is this project's own rule: one constant for each register that it resets, by process and in each
-- in order of making of the signals.)
use Rattle.std.specs.Prelude.{ℕ, suc, if◌then◌else◌, List, [], ◌∷◌, length, slice_get, Option, Some, None}
use Rattle.std.specs.List.{filter_map, range_with_len}
use Rattle.amh_host.specs.declared.place.Place.{Place}
use Rattle.design_ir.specs.declared.ids.ExprId.{ExprId}
use Rattle.design_ir.specs.declared.signal.Sig.{Sig}
use Rattle.design_ir.specs.declared.expr.Expr.{Expr}
use Rattle.design_ir.specs.declared.expr.Expr.TheVariants.{Const}
use Rattle.design_ir.specs.declared.process.Process.{Process}
use Rattle.design_ir.specs.declared.fragment.Fragment.{Fragment}
use Rattle.design_ir.specs.Forests.{Leaf}
use Rattle.design_ir.specs.Trees.{Statement, assign, choose, none, arm, Block, done, next, block_and}
use Rattle.design_ir.specs.Pools.{Pooled}
use Rattle.design_ir.specs.PoolRules.{expr_added}
use Rattle.design_ir.specs.Settling.{is_signal}
use Rattle.design_ir.specs.Guards.{driven}
use Rattle.design_ir.specs.Circuits.{is_among}
use Rattle.domain_transforms.specs.declared.controls.Control.{Control}
use Rattle.domain_transforms.specs.declared.resetting.Register.{Register}
use Rattle.domain_transforms.specs.Making.{each_in, fragment_in}
use Rattle.domain_transforms.specs.Enabling.{side_control}

-- ---- what a process resets

-- the first expression that is a signal, of those from number k on
abbrev pub place_from : ℕ → ℕ → List Expr → Option ExprId
place_from s k [] = None
place_from s k (e ∷ es) = if is_signal s e then Some (record { 0 = k }) else place_from s (suc k) es

abbrev pub register_of : Option ExprId → Option Sig → Option Register
register_of (Some target) (Some x) = if x.reset_less then None else Some (record { target = target; init = x.init; shape = x.shape })
register_of (Some target) None = None
register_of None x = None

-- the signal with the first expression that is it, where it is driven and not reset-less
abbrev pub reset_register : Pooled → Block → ℕ → Option Register
reset_register q body s = if is_among (driven q body) s then register_of (place_from s 0 q.exprs) (slice_get q.signals s) else None

-- in order of making
unfoldable pub reset_registers : Pooled → Block → List Register
reset_registers q body = filter_map (reset_register q body) (range_with_len 0 (length q.signals))

-- ---- how: behind the statements each takes its init where the control is not 0

abbrev pub file_start : Place
file_start = record { line = 1; col = 1 }

abbrev pub init_statement : Pooled → Register → Statement × Pooled
init_statement q r = (assign r.target (record { 0 = length q.exprs }) file_start, expr_added q (Const r.init r.shape))

abbrev pub block_in_order : List Statement → Block
block_in_order [] = done
block_in_order (s ∷ ss) = next s (block_in_order ss)

abbrev pub init_block : List Statement × Pooled → Block × Pooled
init_block made = (block_in_order made.0, made.1)

abbrev pub reset_process_by : Option ExprId → Pooled → Process → Process × Pooled
reset_process_by None q p = (p, q)
reset_process_by (Some c) q p =
    let inits = init_block (each_in init_statement q (reset_registers q p.body)) in
    (record p { body = block_and p.body (choose (arm c inits.0 none)) }, inits.1)

abbrev pub reset_process : List Control → Pooled → Process → Process × Pooled
reset_process controls q p = reset_process_by (side_control controls p.side) q p

-- ---- fragments

abbrev pub reset_leaf : List Control → Pooled → Leaf → Leaf × Pooled
reset_leaf controls q l = let ps = each_in (reset_process controls) q l.processes in (record l { processes = ps.0 }, ps.1)

-- the fragment with all below it, and the pool
abbrev pub reset_inserted : List Control → Pooled → Fragment → Fragment × Pooled
reset_inserted controls q f = fragment_in (reset_leaf controls) q f
