-- Expressions that tell whether a statement is carried out.
use Rattle.std.specs.Prelude.{◌≡◌, ◌==◌, nat_le, Bool, true, false, not, if◌then◌else◌, List, ℤ, unsigned_abs, Option, Some, None, Contains}
use Rattle.std.specs.List.{list_all, flat_map}
use Rattle.shape_rules.specs.Forms.{unsigned}
use Rattle.shape_rules.specs.Operators.{is_zero}
use Rattle.design_ir.specs.declared.ids.ExprId.{ExprId}
use Rattle.design_ir.specs.Pools.{Pooled}
use Rattle.design_ir.specs.Values.{form, num}
use Rattle.design_ir.specs.Targets.{Bit}
use Rattle.design_ir.specs.Needed.{needed_whole}
use Rattle.design_ir.specs.Circuits.{FitsSignals}
use Rattle.flat_design.specs.declared.writes.Test.{Test}
use Rattle.flat_design.specs.Growing.{IsReadable}

-- an expression of one bit that statements may read
pub record IsOneBit (p : Pooled) (e : ExprId) : Type 0 where
  pub readable : IsReadable p e
  pub shape : form p e.0 ≡ unsigned 1

-- one bit that is 1 exactly where the test of the environment holds, and that needs no more than these bits
pub record IsActiveBit (p : Pooled) (holds : List ℤ → Bool) (bits : List Bit) (e : ExprId) : Type 0 where
  pub readable : IsReadable p e
  pub shape : form p e.0 ≡ unsigned 1
  pub value : (env : List ℤ) → FitsSignals p env → not (is_zero (num p env e.0)) ≡ holds env
  pub needs : (c : Bit) → Contains (needed_whole p e) c → Contains bits c

-- the same; none stands for what is always carried out
abbrev pub IsActive : Pooled → (List ℤ → Bool) → List Bit → Option ExprId → Type 0
IsActive p holds bits None = (env : List ℤ) → FitsSignals p env → holds env ≡ true
IsActive p holds bits (Some e) = IsActiveBit p holds bits e

-- ---- tests of offsets and indices

-- the index has this number, or where it stands for all from there on, no smaller one
abbrev pub test_holds : Pooled → List ℤ → Test → Bool
test_holds p env t = if t.and_above then nat_le t.number (unsigned_abs (num p env t.index.0)) else unsigned_abs (num p env t.index.0) == t.number

abbrev pub tests_hold : Pooled → List Test → List ℤ → Bool
tests_hold p tests env = list_all (test_holds p env) tests

-- what tests need
abbrev pub tests_need : Pooled → List Test → List Bit
tests_need p tests = flat_map (λ (t : Test). needed_whole p t.index) tests

-- the index of the test is an expression without a sign that statements may read
pub record IsTest (p : Pooled) (t : Test) : Type 0 where
  pub readable : IsReadable p t.index
  pub plain : (form p t.index.0).signed ≡ false
