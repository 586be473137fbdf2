-- What a value of the program means as an expression stands in the pool with what it brings.
use Rattle.std.proofs.Common.{◌≡◌, ℕ, ◌+◌, ◌<◌, refl, Bool, true, false, List, [], ◌∷◌, length, Option, option_map, Some, None, Ok, Err, arith, nat_lt}
use Rattle.std.specs.Prelude.{if◌then◌else◌, IfSome, IfOk, slice_get, ℤ}
use Rattle.std.proofs.lemmas.List.{length-append}
use Rattle.py_values.specs.declared.val.Val.{Val}
use Rattle.py_values.specs.declared.val.Val.TheVariants as val
use Rattle.py_values.specs.Numbers.{number_of}
use Rattle.py_frames.specs.declared.request.Cause.TheVariants.{Limit}
use Rattle.design_ir.specs.declared.ids.ExprId.{ExprId}
use Rattle.design_ir.specs.declared.expr.Expr.{Expr}
use Rattle.design_ir.specs.declared.expr.Expr.TheVariants as expr
use Rattle.design_ir.specs.Pools.{Pooled}
use Rattle.amh_things.specs.declared.thing.Thing.{Thing}
use Rattle.amh_things.specs.declared.thing.Thing.TheVariants as thing
use Rattle.amh_things.specs.declared.thing.Member.{Member}
use Rattle.amh_things.specs.declared.operand.Operand.{Operand}
use Rattle.amh_things.specs.declared.operand.Operand.TheVariants as operand
use Rattle.amh_things.specs.Things.{held_expr, shown_member}
use Rattle.amh_things.specs.Operands.{operand_of, thing_operand, held_operand, member_operand, number_operand}
use Rattle.amh_things.specs.Meant.{operand_meant, expr_meant}
use Rattle.amh_things.specs.Plans.{grown_by}
use Rattle.amh_things.specs.Held.{IsHeld, AreHeld}
use Rattle.amh_things.proofs.PutLaws.{held_expr_below}

pub record IsMeant (p : Pooled) (x : ExprId × List Expr) : Type 0 where
  pub there : x.0.0 < length p.exprs + length x.1

abbrev IsThere : Pooled → Operand → Type 0
IsThere p (operand.Held e f) = e.0 < length p.exprs
IsThere p (operand.Number n f) = Unit {0}

operand_there : (p : Pooled) (ts : List Thing) (v : Val) → AreHeld (length p.exprs) ts → IfSome (operand_of p ts v) (IsThere p)
operand_there p ts (val.Hw h) held = by_expr (held_expr (slice_get ts h.0)) (λ e is. held_expr_below (length p.exprs) ts h.0 e held is)
  where
    by_member : (m : Option Member) → IfSome (option_map member_operand m) (IsThere p)
    by_member None = tt
    by_member (Some m) = tt

    by_expr : (o : Option ExprId) → ((e : ExprId) → o ≡ Some e → e.0 < length p.exprs) → IfSome (thing_operand (option_map (held_operand p) o) (shown_member (slice_get ts h.0))) (IsThere p)
    by_expr None f = by_member (shown_member (slice_get ts h.0))
    by_expr (Some e) f = f e refl
operand_there p ts v held = by_number (number_of v)
  where
    by_number : (o : Option ℤ) → IfSome (option_map number_operand o) (IsThere p)
    by_number None = tt
    by_number (Some n) = tt

pub expr_there : (p : Pooled) (ts : List Thing) (v : Val) → AreHeld (length p.exprs) ts → IfOk (expr_meant p ts v) (IsMeant p)
expr_there p ts v held = by_operand (operand_of p ts v) (operand_there p ts v held)
  where
    by_room : (b : Bool) (x : ExprId × List Expr) → IsMeant p x → IfOk (if b then Err Limit else Ok x) (IsMeant p)
    by_room true x h = tt
    by_room false x h = h

    by_operand : (o : Option Operand) → IfSome o (IsThere p) → IfOk (operand_meant p o) (IsMeant p)
    by_operand None h = tt
    by_operand (Some (operand.Held e f)) h = by_room (nat_lt 262144 (length p.exprs + 0)) (e, []) record { there = omega (arith, h) }
    by_operand (Some (operand.Number n f)) h = by_room (nat_lt 262144 (length p.exprs + 1)) (record { 0 = length p.exprs }, expr.Const n f ∷ []) record { there = omega arith }

-- ---- what is held stands in a pool that grows

held_longer : (n k : ℕ) (t : Thing) → IsHeld n t → IsHeld (n + k) t
held_longer n k (thing.Value e) h = omega (arith, h)
held_longer n k (thing.Method x e y) h = omega (arith, h)
held_longer n k (thing.Numbered x e) h = omega (arith, h)
held_longer n k (thing.View x e) h = omega (arith, h)
held_longer n k (thing.Layout x) h = tt
held_longer n k (thing.Enumeration x) h = tt
held_longer n k (thing.Member x) h = h
held_longer n k (thing.Name x) h = tt
held_longer n k (thing.Shape x) h = tt
held_longer n k (thing.Array x) h = tt
held_longer n k (thing.Kept x) h = tt

all_longer : (n k : ℕ) (ts : List Thing) → AreHeld n ts → AreHeld (n + k) ts
all_longer n k [] h = tt
all_longer n k (t ∷ ts) h = (held_longer n k t h.0, all_longer n k ts h.1)

pub held_grown : (p : Pooled) (es : List Expr) (ts : List Thing) → AreHeld (length p.exprs) ts → AreHeld (length (grown_by p es).exprs) ts
held_grown p es ts h = rw (length-append p.exprs es) (all_longer (length p.exprs) (length es) ts h)
