-- What `ctx.set` takes: an input that is no clock, or bits of one. (Amaranth user guide 0.5, "Simulator", testbenches. That nothing else may be
-- set is this project's own rule.)
use Rattle.std.specs.Prelude.{ℕ, suc, zero, ◌+◌, ◌==◌, not, ◌||◌, Bool, if◌then◌else◌, List, slice_get, Option, Some, None}
use Rattle.design_ir.specs.declared.ids.ExprId.{ExprId}
use Rattle.design_ir.specs.declared.ids.SigId.{SigId}
use Rattle.design_ir.specs.declared.expr.Expr.{Expr}
use Rattle.design_ir.specs.declared.expr.Expr.TheVariants as expr
use Rattle.design_ir.specs.Circuits.{Circuit, is_input, is_clock}
use Rattle.design_ir.specs.Values.{form, signal_form}
use Rattle.bench_acts.specs.declared.targets.InputBits.{InputBits}

-- bits of a signal that is an input, no clock and not without bits
abbrev pub input_of : Circuit → SigId → (low width : ℕ) → Option InputBits
input_of c s low width =
    if not (is_input c s.0) || (is_clock c s.0 || ((signal_form c.pool.signals s.0).width == 0)) then None
    else Some (record { sig = s; low = low; width = width })

-- those of an expression: it is such a signal, a slice of such bits, or these as another number; slices and casts stand over earlier
-- expressions, so as many steps as there are expressions are enough
abbrev pub bits_within : Circuit → ℕ → Option Expr → (low width : ℕ) → Option InputBits
bits_within c zero e low width = None
bits_within c (suc n) (Some (expr.Sig s)) low width = input_of c s low width
bits_within c (suc n) (Some (expr.Slice a from w)) low width = bits_within c n (slice_get c.pool.exprs a.0) (low + from) width
bits_within c (suc n) (Some (expr.Cast a signed)) low width = bits_within c n (slice_get c.pool.exprs a.0) low width
bits_within c (suc n) e low width = None

abbrev pub input_bits : Circuit → ExprId → Option InputBits
input_bits c e = bits_within c (suc e.0) (slice_get c.pool.exprs e.0) 0 (form c.pool e.0).width
