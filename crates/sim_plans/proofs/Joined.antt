-- The patterns of the last expressions of a list, one above the other.
use Rattle.std.specs.Prelude.{◌≡◌, ℕ, zero, suc, ◌+◌, ◌*◌, ◌^◌, ◌<◌, ◌≤◌, List, [], ◌∷◌, length, drop, ℤ}
use Rattle.std.proofs.Common.{sym, ◌∙◌, ap, arith, get_or}
use Rattle.std.proofs.Math.Nat.{mul_comm}
use Rattle.std.proofs.Math.Seq.{drop-cons}
use Rattle.amh_bits.specs.Patterns.{pattern}
use Rattle.shape_rules.specs.Forms.{Form}
use Rattle.design_ir.specs.declared.ids.ExprId.{ExprId}
use Rattle.design_ir.specs.Values.{joined, total_width}

pub dropped : {A : Type 0} (xs : List A) (i : ℕ) (d x : A) → i < length xs → x ≡ get_or xs i d → drop i xs ≡ x ∷ drop (suc i) xs
dropped xs i d x h is = drop-cons xs i d h ∙ ap (λ y. y ∷ drop (suc i) xs) (sym is)

module _ (forms : ℕ → Form) where
  pub total_dropped : (i : ℕ) (es : List ExprId) → total_width forms (drop i es) ≤ total_width forms es
  total_dropped zero es = omega arith
  total_dropped (suc i) [] = omega arith
  total_dropped (suc i) (e ∷ es) = omega (arith, total_dropped i es)

  pub total_turn : (es all : List ExprId) (i left width : ℕ) (d : ExprId) (shape : Form) → all ≡ es → suc i ≡ left → left ≤ length es → shape ≡ forms (get_or all i d).0 → width ≡ total_width forms (drop left es) → shape.width + width ≡ total_width forms (drop i es)
  total_turn es all i left width d shape same next le of rest =
      let e : ExprId = get_or all i d in
      let here = dropped es i d e (omega (arith, next, le)) (ap (λ xs. get_or xs i d) same) in
      ap (λ (f : Form). f.width + width) of
      ∙ ap (λ n. (forms e.0).width + n) (rest ∙ ap (λ n. total_width forms (drop n es)) (sym next))
      ∙ sym (ap (total_width forms) here)

  pub joined_turn : (nums : ℕ → ℤ) (es all : List ExprId) (i left bits low : ℕ) (d : ExprId) (shape : Form) (n : ℤ) → all ≡ es → suc i ≡ left → left ≤ length es → shape ≡ forms (get_or all i d).0 → n ≡ nums (get_or all i d).0 → low ≡ pattern shape.width n → bits ≡ joined forms nums (drop left es) → bits * 2 ^ shape.width + low ≡ joined forms nums (drop i es)
  joined_turn nums es all i left bits low d shape n same next le of value is rest =
      let e : ExprId = get_or all i d in
      let here = dropped es i d e (omega (arith, next, le)) (ap (λ xs. get_or xs i d) same) in
      let more : bits ≡ joined forms nums (drop (suc i) es) = rest ∙ ap (λ m. joined forms nums (drop m es)) (sym next) in
      let first : low ≡ pattern (forms e.0).width (nums e.0) = is ∙ ap (λ (f : Form). pattern f.width n) of ∙ ap (pattern (forms e.0).width) value in
      ap (λ (f : Form). bits * 2 ^ f.width + low) of
      ∙ omega (arith, mul_comm bits (2 ^ (forms e.0).width))
      ∙ ap (λ b. b + 2 ^ (forms e.0).width * bits) first
      ∙ ap (λ b. pattern (forms e.0).width (nums e.0) + 2 ^ (forms e.0).width * b) more
      ∙ sym (ap (joined forms nums) here)
