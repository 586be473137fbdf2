-- Where the bits of a signal come from: from bits of expressions.
use Rattle.std.specs.Prelude.{◌≡◌, ℕ, suc, ◌+◌, ◌<◌, if◌then◌else◌, List, [], ◌∷◌, ◌++◌, length, slice_get, ℤ, Some, Contains}
use Rattle.amh_bits.specs.Patterns.{pattern, nat_bit}
use Rattle.shape_rules.specs.Forms.{unsigned}
use Rattle.shape_rules.specs.Operators.{is_zero}
use Rattle.design_ir.specs.declared.ids.ExprId.{ExprId}
use Rattle.design_ir.specs.Pools.{Pooled}
use Rattle.design_ir.specs.Values.{form, num}
use Rattle.design_ir.specs.Targets.{Bit}
use Rattle.design_ir.specs.Needed.{needed, needed_whole, extended}
use Rattle.design_ir.specs.Circuits.{FitsSignals}
use Rattle.flat_design.specs.declared.sources.Source.{Source}
use Rattle.flat_design.specs.Growing.{IsReadable}

-- the bit of the expression where the signals have these numbers
abbrev pub source_bit : Pooled → List ℤ → Source → ℕ
source_bit p env x = nat_bit (pattern (form p x.expr.0).width (num p env x.expr.0)) x.bit

abbrev pub source_needs : Pooled → Source → List Bit
source_needs p x = needed p x.expr.0 x.bit

-- a bit of an expression that statements may read
pub record IsSource (p : Pooled) (x : Source) : Type 0 where
  pub readable : IsReadable p x.expr
  pub inside : x.bit < (form p x.expr.0).width

-- an expression of so many bits, each of which is the source at its place and needs no more
pub record IsJoined (p : Pooled) (sources : List Source) (e : ExprId) : Type 0 where
  pub readable : IsReadable p e
  pub shape : form p e.0 ≡ unsigned (length sources)
  pub bits : (env : List ℤ) (j : ℕ) (x : Source) → slice_get sources j ≡ Some x → source_bit p env (record { expr = e; bit = j }) ≡ source_bit p env x
  pub needs : (j : ℕ) (x : Source) (c : Bit) → slice_get sources j ≡ Some x → Contains (needed p e.0 j) c → Contains (source_needs p x) c

-- the new source where the guard is not 0, else the old one; it needs the guard and both
pub record IsChosen (p : Pooled) (guard : ExprId) (new old x : Source) : Type 0 where
  pub source : IsSource p x
  pub bit : (env : List ℤ) → source_bit p env x ≡ (if is_zero (num p env guard.0) then source_bit p env old else source_bit p env new)
  pub needs : (c : Bit) → Contains (source_needs p x) c → Contains (needed_whole p guard ++ source_needs p new ++ source_needs p old) c

-- so at each place
abbrev pub AreChosen : Pooled → ExprId → List Source → List Source → List Source → Type 0
AreChosen p guard [] [] [] = Unit {0}
AreChosen p guard (new ∷ news) (old ∷ olds) (x ∷ xs) = IsChosen p guard new old x × AreChosen p guard news olds xs
AreChosen p guard news olds xs = ⊥

-- the bits of a value from one on: past its end its sign, or 0
pub record IsExtension (p : Pooled) (value : ExprId) (from : ℕ) (i : ℕ) (x : Source) : Type 0 where
  pub source : IsSource p x
  pub bit : (env : List ℤ) → FitsSignals p env → source_bit p env x ≡ nat_bit (pattern (from + suc i) (num p env value.0)) (from + i)
  pub needs : (c : Bit) → Contains (source_needs p x) c → Contains (extended (form p value.0) (needed p value.0) (from + i)) c

pub record AreExtensions (p : Pooled) (value : ExprId) (from width : ℕ) (xs : List Source) : Type 0 where
  pub size : length xs ≡ width
  pub each : (i : ℕ) (x : Source) → slice_get xs i ≡ Some x → IsExtension p value from i x
