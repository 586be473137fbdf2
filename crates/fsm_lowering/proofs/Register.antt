-- What a pool with a machine's register takes.
use Rattle.std.proofs.Common.{◌≡◌, ℕ, ◌+◌, ◌-◌, ◌^◌, ◌<◌, [], ◌∷◌, Some, slice_get, bit_and, ◌∙◌, arith, lt_trans, lit<}
use Rattle.std.proofs.lemmas.Nat.{and_mask}
use Rattle.std.proofs.Math.Nat.{mod-eq_of_lt}
use Rattle.std.proofs.lemmas.Option.{slice_get_within}
use Rattle.design_ir.specs.declared.ids.ExprId.{ExprId}
use Rattle.design_ir.specs.declared.expr.Expr.{Expr}
use Rattle.design_ir.specs.declared.expr.Expr.TheVariants.{Matches}
use Rattle.design_ir.specs.Pools.{Pooled}
use Rattle.design_ir.specs.PoolRules.{IsAskable}
use Rattle.fsm_lowering.specs.Machines.{number_pattern, state_number}
use Rattle.fsm_lowering.proofs.Widths.{range_width-has}

number_masked : (n : ℕ) → n < 256 → bit_and n (2 ^ 128 - 1) ≡ n
number_masked n small = and_mask n 128 ∙ mod-eq_of_lt (lt_trans small (lit< tt))

pub in_state-askable : (q : Pooled) (r : ExprId) (x : Expr) (n : ℕ) → slice_get q.exprs r.0 ≡ Some x → n < 256 → IsAskable q (Matches r (number_pattern n ∷ []))
in_state-askable q r x n there small = record { names = (slice_get_within q.exprs r.0 x there, tt); parts = (number_masked n small, tt) }

pub state_number-askable : (q : Pooled) (n : ℕ) → n < 256 → IsAskable q (state_number n)
state_number-askable q n small = let wide = range_width-has (n + 1) (omega arith) in record { names = tt; parts = omega (arith, wide) }
