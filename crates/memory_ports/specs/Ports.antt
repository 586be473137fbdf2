-- The signals of a memory's ports, and what stands for them in a pool. (Amaranth standard library reference, Memory arrays: an
-- address names every row, data have the memory's shape, a write port has an enable bit for each granule, and the enable of a
-- clocked read port begins at 1. How signals are named: docs/RULES.md.)
use Rattle.std.specs.Prelude.{◌≡◌, ℕ, zero, suc, ◌+◌, ◌/◌, ◌^◌, ◌==◌, nat_le, nat_lt, ◌||◌, Bool, false, if◌then◌else◌, List, [], ◌∷◌, ◌++◌, length, ℤ, pos, Option, Some, None, codes}
use Rattle.std.specs.Fmt.{decimal}
use Rattle.shape_rules.specs.Forms.{Form, unsigned}
use Rattle.design_ir.specs.declared.signal.Sig.{Sig}
use Rattle.design_ir.specs.declared.expr.Expr.{Expr}
use Rattle.design_ir.specs.declared.expr.Expr.TheVariants as expr
use Rattle.design_ir.specs.Pools.{Pooled}
use Rattle.design_ir.specs.PoolRules.{signal_bits, signal_added, expr_added}

-- ---- widths

-- the least width from w on that has so many numbers, and the last of so many widths where no one before has
unfoldable pub least_width : (widths w count : ℕ) → ℕ
least_width zero w count = w
least_width (suc widths) w count = if nat_le count (2 ^ w) then w else least_width widths (w + 1) count

-- The width of the range of so many rows, of which there are 65,536 at most.
abbrev pub address_width : ℕ → ℕ
address_width depth = least_width 16 0 depth

-- the bits of a row for which one bit of an enable stands: those that are given, or all of them
abbrev pub granule : ℕ → Option ℕ → ℕ
granule width None = width
granule width (Some g) = g

-- one enable bit for each granule, and one where the whole row is one
abbrev pub enable_width : ℕ → ℕ → ℕ
enable_width width g = if g == width then 1 else width / g

-- ---- signals

-- `w` or `r`, the number of the port and the member
abbrev pub port_name : List ℕ → ℕ → List ℕ → List ℕ
port_name kind number member = kind ++ (decimal number ++ member)

abbrev pub port_signal : List ℕ → ℕ → List ℕ → Form → ℤ → Sig
port_signal kind number member shape init = record { name = port_name kind number member; shape = shape; init = init; reset_less = false }

-- the address and the data of a port
abbrev pub address_signal : List ℕ → ℕ → ℕ → Sig
address_signal kind number depth = port_signal kind number (codes "_addr") (unsigned (address_width depth)) (pos 0)

abbrev pub data_signal : List ℕ → ℕ → Form → Sig
data_signal kind number shape = port_signal kind number (codes "_data") shape (pos 0)

-- the enable of a write port, with so many bits, and that of a clocked read port
abbrev pub write_enable : ℕ → ℕ → Sig
write_enable number bits = port_signal (codes "w") number (codes "_en") (unsigned bits) (pos 0)

abbrev pub read_enable : ℕ → Sig
read_enable number = port_signal (codes "r") number (codes "_en") (unsigned 1) (pos 1)

-- ---- what a pool gets

-- a signal more at the end, and the expression that is this signal
abbrev pub with_signal : Pooled → Sig → Pooled
with_signal q x = expr_added (signal_added q x) (expr.Sig (record { 0 = length q.signals }))

-- and so for each of these
abbrev pub with_signals : Pooled → List Sig → Pooled
with_signals q [] = q
with_signals q (x ∷ xs) = with_signals (with_signal q x) xs

-- with these signals and an expression for each there would be too many signals, bits or expressions
abbrev pub is_over : Pooled → List Sig → Bool
is_over q xs = nat_lt 16384 (length q.signals + length xs) || (nat_lt 262144 (signal_bits q.signals + signal_bits xs) || nat_lt 262144 (length q.exprs + length xs))

-- what is left where one of these does not fit: those before it stay
abbrev pub filled : Pooled → List Sig → Pooled
filled q [] = q
filled q (x ∷ xs) = if is_over q (x ∷ []) then q else filled (with_signal q x) xs

-- a pool that has grown at its end
pub record IsGrown (q q' : Pooled) : Type 0 where
  pub more_signals : List Sig
  pub more_exprs : List Expr
  pub signals : q'.signals ≡ q.signals ++ more_signals
  pub exprs : q'.exprs ≡ q.exprs ++ more_exprs
