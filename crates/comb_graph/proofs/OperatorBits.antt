-- The bits that are needed decide what an operator gives.
use Rattle.std.specs.Prelude.{◌≡◌, refl, ℕ, suc, ◌-◌, ◌<◌, ◌^◌, Bool, true, false, if◌then◌else◌, List, ◌++◌, ℤ, pos, negsuc, ◌-ℤ◌}
use Rattle.std.specs.List.{AllByRecursion}
use Rattle.std.proofs.Common.{sym, ◌∙◌, ap, arith}
use Rattle.std.proofs.lemmas.Int.{ints}
use Rattle.amh_bits.specs.Patterns.{IsOf, int_bit}
use Rattle.amh_bits.proofs.BitsOf.{int_bit_not, int_bit_and, int_bit_or, int_bit_xor, nat_bit_turned}
use Rattle.shape_rules.specs.Forms.{Form, unsigned}
use Rattle.shape_rules.specs.Operators.{form_of, integer_of, turned}
use Rattle.shape_rules.specs.Rows.{operand_count}
use Rattle.shape_rules.specs.declared.op.Op.{Op}
use Rattle.shape_rules.specs.declared.op.Op.TheVariants.{Not, And, Or, Xor}
use Rattle.design_ir.specs.Targets.{Bit}
use Rattle.design_ir.specs.Needed.{extended, every, is_bitwise}
use Rattle.comb_graph.proofs.Decided.{IsDecided, all_left, all_right, whole_same, extended_same}

-- ---- each bit turned

int_bit-turned : (s : Bool) (w : ℕ) (x : ℤ) (i : ℕ) → IsOf s w x → i < w → int_bit (turned (record { width = w; signed = s }) x) i ≡ 1 - int_bit x i
int_bit-turned true w x i f h = int_bit_not x i
int_bit-turned false w (pos n) i f h =
    let e : pos (2 ^ w - 1) -ℤ pos n ≡ pos (2 ^ w - suc n) = omega (arith, ints) in
    ap (λ u. int_bit u i) e ∙ nat_bit_turned n w i h f
int_bit-turned false w (negsuc n) i f h = absurd f

module _ (P : Bit → Type 0) where
  not_same : (f : Form) (bits : ℕ → List Bit) (x y : ℤ) (k : ℕ) → IsDecided P f bits x y → k < f.width → int_bit x k ≡ int_bit y k → int_bit (turned f x) k ≡ int_bit (turned f y) k
  not_same f bits x y k d h same =
      int_bit-turned f.signed f.width x k d.left h ∙ ap (λ b. 1 - b) same ∙ sym (int_bit-turned f.signed f.width y k d.right h)

  -- ---- one operand

  pub unary_same : (op : Op) (f : Form) (bits : ℕ → List Bit) (x y : ℤ) (k : ℕ) → operand_count op ≡ 1 → IsDecided P f bits x y → k < (form_of op f (unsigned 0)).width
      → AllByRecursion P (if is_bitwise op then bits k else every f bits) → int_bit (integer_of op f x (unsigned 0) (pos 0)) k ≡ int_bit (integer_of op f y (unsigned 0) (pos 0)) k
  unary_same Not f bits x y k one d h all = not_same f bits x y k d h (d.same k h all)
  unary_same And f bits x y k one d h all = absurd (omega (arith, one))
  unary_same Or f bits x y k one d h all = absurd (omega (arith, one))
  unary_same Xor f bits x y k one d h all = absurd (omega (arith, one))
  unary_same op f bits x y k one d h all = ap (λ z. int_bit (integer_of op f z (unsigned 0) (pos 0)) k) (whole_same P f bits x y d all)

  -- ---- two operands

  module _ (f g : Form) (left right : ℕ → List Bit) (x y z w : ℤ) (k : ℕ) (d : IsDecided P f left x y) (e : IsDecided P g right z w) where
    first_same : AllByRecursion P (extended f left k ++ extended g right k) → int_bit x k ≡ int_bit y k
    first_same all = extended_same P f left x y k d (all_left P (extended f left k) (extended g right k) all)

    second_same : AllByRecursion P (extended f left k ++ extended g right k) → int_bit z k ≡ int_bit w k
    second_same all = extended_same P g right z w k e (all_right P (extended f left k) (extended g right k) all)

    pub binary_same : (op : Op) → k < (form_of op f g).width → AllByRecursion P (if is_bitwise op then extended f left k ++ extended g right k else every f left ++ every g right)
        → int_bit (integer_of op f x g z) k ≡ int_bit (integer_of op f y g w) k
    binary_same Not h all = not_same f left x y k d h (first_same all)
    binary_same And h all = rw (int_bit_and x z k, int_bit_and y w k, first_same all, second_same all) refl
    binary_same Or h all = rw (int_bit_or x z k, int_bit_or y w k, first_same all, second_same all) refl
    binary_same Xor h all = rw (int_bit_xor x z k, int_bit_xor y w k, first_same all, second_same all) refl
    binary_same op h all =
        ap (λ n. int_bit (integer_of op f n g z) k) (whole_same P f left x y d (all_left P (every f left) (every g right) all))
        ∙ ap (λ n. int_bit (integer_of op f y g n) k) (whole_same P g right z w e (all_right P (every f left) (every g right) all))
