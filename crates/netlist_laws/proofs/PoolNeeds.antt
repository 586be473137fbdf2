-- What a bit of an expression needs is given by what the bits of the expressions that it names need.
use Rattle.std.proofs.Common.{◌≡◌, ℕ, ◌+◌, ◌-◌, ◌<◌, List, [], ◌∷◌, ◌++◌, cond, refl}
use Rattle.std.specs.Prelude.{Some, slice_get, nat_lt}
use Rattle.std.specs.List.{flat_map}
use Rattle.shape_rules.specs.Forms.{Form}
use Rattle.design_ir.specs.declared.ids.ExprId.{ExprId}
use Rattle.design_ir.specs.declared.expr.Expr.{Expr}
use Rattle.design_ir.specs.declared.expr.Expr.TheVariants as expr
use Rattle.design_ir.specs.Named.{named, AllBelow}
use Rattle.design_ir.specs.Pools.{Pooled}
use Rattle.design_ir.specs.PoolRules.{IsPool}
use Rattle.design_ir.specs.Targets.{Bit}
use Rattle.design_ir.specs.Needed.{extended, every, is_bitwise, joined_bits, bits_step, needed}
use Rattle.design_ir.specs.Values.{form}
use Rattle.design_ir.proofs.Answers.{LooksBelow}
use Rattle.design_ir.proofs.Equations.{answer_at, standing}

module _ (forms : ℕ → Form) (n : ℕ) (f g : ℕ → ℕ → List Bit) (same : (j : ℕ) → j < n → f j ≡ g j) where
  joined_same : (es : List ExprId) (k : ℕ) → AllBelow n es → joined_bits forms f es k ≡ joined_bits forms g es k
  joined_same [] k h = refl
  joined_same (e ∷ es) k h = λ i. cond (nat_lt k (forms e.0).width) (same e.0 h.0 i k) (joined_same es (k - (forms e.0).width) h.1 i)

  items_same : (es : List ExprId) → AllBelow n es → flat_map (λ (e : ExprId). every (forms e.0) (f e.0)) es ≡ flat_map (λ (e : ExprId). every (forms e.0) (g e.0)) es
  items_same [] h = refl
  items_same (e ∷ es) h = λ i. every (forms e.0) (same e.0 h.0 i) ++ items_same es h.1 i

  bit_same : (e : Expr) (k : ℕ) → AllBelow n (named e) → bits_step forms f e k ≡ bits_step forms g e k
  bit_same (expr.Const x s) k h = refl
  bit_same (expr.Sig s) k h = refl
  bit_same (expr.Unary o a) k h = λ i. cond (is_bitwise o) (same a.0 h.0 i k) (every (forms a.0) (same a.0 h.0 i))
  bit_same (expr.Binary o a b) k h = λ i.
      cond (is_bitwise o) (extended (forms a.0) (same a.0 h.0 i) k ++ extended (forms b.0) (same b.0 h.1.0 i) k) (every (forms a.0) (same a.0 h.0 i) ++ every (forms b.0) (same b.0 h.1.0 i))
  bit_same (expr.Mux s a b) k h = λ i. every (forms s.0) (same s.0 h.0 i) ++ extended (forms a.0) (same a.0 h.1.0 i) k ++ extended (forms b.0) (same b.0 h.1.1.0 i) k
  bit_same (expr.Slice a low width) k h = λ i. same a.0 h.0 i (low + k)
  bit_same (expr.Cat es) k h = joined_same es k h
  bit_same (expr.Part a offset width stride) k h = λ i. every (forms a.0) (same a.0 h.0 i) ++ every (forms offset.0) (same offset.0 h.1.0 i)
  bit_same (expr.Pick index es) k h = λ i. every (forms index.0) (same index.0 h.0 i) ++ items_same es h.1 i
  bit_same (expr.Cast a signed) k h = λ i. same a.0 h.0 i k
  bit_same (expr.Matches a patterns) k h = λ i. every (forms a.0) (same a.0 h.0 i)
  bit_same (expr.Reset domain place) k h = refl

bits_look : (forms : ℕ → Form) (n : ℕ) (e : Expr) → AllBelow n (named e) → LooksBelow (bits_step forms) n e
bits_look forms n e h f g same = λ i k. bit_same forms n f g same e k h i

pub needed_is : (p : Pooled) (k : ℕ) (e : Expr) → IsPool p → slice_get p.exprs k ≡ Some e → needed p k ≡ bits_step (form p) (needed p) e
unfolding needed
needed_is p k e h is = answer_at (λ j. []) (bits_step (form p)) p.exprs k e is (bits_look (form p) k e (standing p k e h is).names)
