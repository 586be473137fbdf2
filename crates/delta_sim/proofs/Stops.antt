-- What an accepted expression keeps to.
use Rattle.std.specs.Prelude.{◌≡◌, refl, ℕ, ◌≤◌, Bool, true, false, Some, None}
use Rattle.std.proofs.Common.{◌∙◌, ap, arith, ⊎_elim}
use Rattle.std.proofs.lemmas.Bool.{cond_below, cases_lt}
use Rattle.shape_rules.specs.Forms.{Form, unsigned}
use Rattle.shape_rules.specs.Stops.{IsTaken, is_bad_operand, widest}
use Rattle.shape_rules.specs.declared.op.Op.{Op}
use Rattle.shape_rules.specs.declared.op.Op.TheVariants.{Add, Sub, Neg, Mul, Div, Mod, Abs, Not, And, Or, Xor, Eq, Ne, Lt, Le, Gt, Ge, Any, All, Parity, Shl, Shr}
use Rattle.design_ir.specs.declared.refusal.PoolStop.TheVariants.{Width}
use Rattle.design_ir.specs.PoolRules.{shape_stop}

-- nothing stops it: no operand is refused, and it is narrow
pub narrow : (bad : Bool) (w : ℕ) → shape_stop bad w ≡ None → (bad ≡ false) × (w ≤ 128)
narrow true w e = cc
narrow false w e =
    (refl, ⊎_elim (λ lt. let none : Some Width ≡ None = cond_below 128 w (Some Width) None lt ∙ e in cc) (λ ge. ge) (cases_lt 128 w))

pub taken : (op : Op) (a b : Form) → shape_stop (is_bad_operand op b) (widest op a b) ≡ None → IsTaken op a b
taken op a b e =
    let h = narrow (is_bad_operand op b) (widest op a b) e in
    record { operand = h.0; result = omega (arith, h.1); work = omega (arith, h.1) }

-- an operand without bits has no sign
no_sign : (op : Op) → is_bad_operand op (unsigned 0) ≡ false
no_sign Add = refl
no_sign Sub = refl
no_sign Neg = refl
no_sign Mul = refl
no_sign Div = refl
no_sign Mod = refl
no_sign Abs = refl
no_sign Not = refl
no_sign And = refl
no_sign Or = refl
no_sign Xor = refl
no_sign Eq = refl
no_sign Ne = refl
no_sign Lt = refl
no_sign Le = refl
no_sign Gt = refl
no_sign Ge = refl
no_sign Any = refl
no_sign All = refl
no_sign Parity = refl
no_sign Shl = refl
no_sign Shr = refl

pub taken_alone : (op : Op) (a : Form) → shape_stop false (widest op a (unsigned 0)) ≡ None → IsTaken op a (unsigned 0)
taken_alone op a e =
    taken op a (unsigned 0) (ap (λ b. shape_stop b (widest op a (unsigned 0))) (no_sign op) ∙ e)
