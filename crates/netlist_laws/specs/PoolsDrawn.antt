-- The wires of all expressions of a pool.
use Rattle.std.specs.Prelude.{◌≡◌, ◌<◌, ℕ, List, length, slice_get, Some, ℤ}
use Rattle.design_ir.specs.declared.expr.Expr.{Expr}
use Rattle.design_ir.specs.declared.ids.ExprId.{ExprId}
use Rattle.design_ir.specs.Pools.{Pooled}
use Rattle.design_ir.specs.Values.{form, num, signal_form}
use Rattle.design_ir.specs.Needed.{needed}
use Rattle.rtlil_text.specs.History.{Wires}
use Rattle.netlist_laws.specs.Operators.{Value}
use Rattle.netlist_laws.specs.Carried.{Obeys}
use Rattle.netlist_laws.specs.Expressions.{drawn}
use Rattle.netlist_laws.specs.Made.{Known, Follows, HasByteStride}

-- the wires of signals, and of expressions, under these ids
abbrev pub signal_wire : Pooled → (ℕ → List ℕ) → ℕ → Value
signal_wire p ids s = record { id = ids s; form = signal_form p.signals s }

abbrev pub expr_wire : Pooled → (ℕ → List ℕ) → ℕ → Value
expr_wire p ids k = record { id = ids k; form = form p k }

-- each expression is drawn, its parts from a number on
abbrev pub IsDrawn : Wires → Pooled → (signals values : ℕ → List ℕ) → (parts : ℕ → ℕ) → Type 0
IsDrawn wires p signals values parts =
    (k : ℕ) (e : Expr) → slice_get p.exprs k ≡ Some e → HasByteStride e × Obeys wires (drawn (signal_wire p signals) (expr_wire p values) (parts k) (expr_wire p values k) e)

-- what is known of a pool where the signals have these numbers
abbrev pub known_of : Pooled → List ℤ → (signals values : ℕ → List ℕ) → Known
known_of p env signals values = record { signals = p.signals; env = env; num = num p env; needed = needed p; signal = signal_wire p signals; value = expr_wire p values }

-- each expression's wire has the bits of its integer, where those of signals that they need are there
abbrev pub AllFollow : Wires → Pooled → List ℤ → (signals values : ℕ → List ℕ) → Type 0
AllFollow wires p env signals values =
    (e : ExprId) → e.0 < length p.exprs → Follows wires (known_of p env signals values) (needed p e.0) (expr_wire p values e.0) (num p env e.0)
