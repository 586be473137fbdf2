-- A pool takes what is drafted for it, one expression after the other.
use Rattle.std.specs.Prelude.{◌≡◌, refl, ℕ, zero, suc, ◌+◌, ◌<◌, nat_le, List, [], ◌∷◌, ◌++◌, length, slice_get, Option, Some, None}
use Rattle.std.proofs.Common.{ap, arith, append_assoc, length-append, append-nil}
use Rattle.std.proofs.lemmas.Bool.Decides.{nat_tests}
use Rattle.shape_rules.specs.Forms.{unsigned}
use Rattle.design_ir.specs.declared.expr.Expr.{Expr}
use Rattle.design_ir.specs.declared.refusal.PoolStop.{PoolStop}
use Rattle.design_ir.specs.declared.refusal.PoolStop.TheVariants as pool_stop
use Rattle.design_ir.specs.Pools.{Pooled}
use Rattle.design_ir.specs.PoolRules.{IsAskable, shape_stop, bad_operand, greatest_width, limit_where, expr_refusal, expr_added, IsRefusal}
use Rattle.design_ir.specs.Values.{form, form_step}
use Rattle.design_ir.proofs.Answers.{answers_append}
use Rattle.amh_things.specs.Plans.{AreDrafted, IsDrafted, grown_by}
use Rattle.amh_things.specs.declared.plan.Plan.{Plan}
use Rattle.design_ir.specs.declared.ids.ExprId.{ExprId}
use Rattle.amh_things.specs.declared.thing.Thing.{Thing}
use Rattle.amh_things.specs.declared.thing.Thing.TheVariants as thing
use Rattle.amh_things.specs.declared.thing.Method.{Method}
use Rattle.amh_things.specs.declared.thing.Member.{Member}
use Rattle.amh_things.specs.Things.{bare_expr, held_expr, held_method, shown_member}
use Rattle.amh_things.specs.Held.{IsNumber, IsHeld, AreHeld}
use Rattle.amh_things.proofs.Drafts.{forms_length}

pub askable : (p : Pooled) (e : Expr) (es : List Expr) → AreDrafted p (e ∷ es) → IsAskable p e
unfolding form
askable p e es h = record { names = rw (forms_length p) at h.0.names; parts = h.0.parts }

shaped : (p : Pooled) (e : Expr) (es : List Expr) → AreDrafted p (e ∷ es) → shape_stop (bad_operand (form p) e) (greatest_width p.signals (form p) e) ≡ None
unfolding form
shaped p e es h = h.0.accepted

room : (n : ℕ) → n < 262144 → limit_where (nat_le 262144 n) ≡ None
room n h = grind (arith, nat_tests)

pub not_refused : (p : Pooled) (e : Expr) (es : List Expr) → AreDrafted p (e ∷ es) → length p.exprs < 262144 → expr_refusal p e ≡ None
not_refused p e es h few = rw (shaped p e es h) (room (length p.exprs) few)

pub next_drafted : (p : Pooled) (e : Expr) (es : List Expr) → AreDrafted p (e ∷ es) → AreDrafted (expr_added p e) es
next_drafted p e es h = rw (answers_append (unsigned 0) (form_step p.signals) [] p.exprs (e ∷ [])) h.1

pub grown_more : (p : Pooled) (e : Expr) (es : List Expr) → grown_by (expr_added p e) es ≡ grown_by p (e ∷ es)
grown_more p e es = ap (λ (all : List Expr). record p { exprs = all }) (append_assoc p.exprs (e ∷ []) es)

pub length_added : (p : Pooled) (e : Expr) → length (expr_added p e).exprs ≡ length p.exprs + 1
length_added p e = omega (arith, length-append p.exprs (e ∷ []))

pub grown_none : (p : Pooled) → grown_by p [] ≡ p
grown_none p = ap (λ (all : List Expr). record p { exprs = all }) (append-nil p.exprs)

pub only_memory : (owed : Option PoolStop) (stop : PoolStop) → owed ≡ None → IsRefusal owed stop → stop ≡ pool_stop.NoMemory
only_memory owed pool_stop.Width none h = cc
only_memory owed pool_stop.BadOperand none h = cc
only_memory owed pool_stop.Limit none h = cc
only_memory owed pool_stop.NoMemory none h = refl

-- ---- things

-- what things stand for is below the number that holds of all of them
pub held_expr_below : (n : ℕ) (things : List Thing) (i : ℕ) (e : ExprId) → AreHeld n things → held_expr (slice_get things i) ≡ Some e → e.0 < n
held_expr_below n [] i e h is = cc
held_expr_below n (thing.Value x ∷ xs) zero e h is = let same : x ≡ e = cc in rw (← same) h.0
held_expr_below n (thing.Numbered of x ∷ xs) zero e h is = let same : x ≡ e = cc in rw (← same) h.0
held_expr_below n (thing.View of x ∷ xs) zero e h is = let same : x ≡ e = cc in rw (← same) h.0
held_expr_below n (thing.Layout x ∷ xs) zero e h is = cc
held_expr_below n (thing.Enumeration x ∷ xs) zero e h is = cc
held_expr_below n (thing.Member x ∷ xs) zero e h is = cc
held_expr_below n (thing.Name x ∷ xs) zero e h is = cc
held_expr_below n (thing.Shape x ∷ xs) zero e h is = cc
held_expr_below n (thing.Array x ∷ xs) zero e h is = cc
held_expr_below n (thing.Method of x m ∷ xs) zero e h is = cc
held_expr_below n (thing.Kept x ∷ xs) zero e h is = cc
held_expr_below n (x ∷ xs) (suc i) e h is = held_expr_below n xs i e h.1 is

pub bare_expr_below : (n : ℕ) (things : List Thing) (i : ℕ) (e : ExprId) → AreHeld n things → bare_expr (slice_get things i) ≡ Some e → e.0 < n
bare_expr_below n [] i e h is = cc
bare_expr_below n (thing.Value x ∷ xs) zero e h is = let same : x ≡ e = cc in rw (← same) h.0
bare_expr_below n (thing.Numbered of x ∷ xs) zero e h is = let same : x ≡ e = cc in rw (← same) h.0
bare_expr_below n (thing.View of x ∷ xs) zero e h is = cc
bare_expr_below n (thing.Layout x ∷ xs) zero e h is = cc
bare_expr_below n (thing.Enumeration x ∷ xs) zero e h is = cc
bare_expr_below n (thing.Member x ∷ xs) zero e h is = cc
bare_expr_below n (thing.Name x ∷ xs) zero e h is = cc
bare_expr_below n (thing.Shape x ∷ xs) zero e h is = cc
bare_expr_below n (thing.Array x ∷ xs) zero e h is = cc
bare_expr_below n (thing.Method of x m ∷ xs) zero e h is = cc
bare_expr_below n (thing.Kept x ∷ xs) zero e h is = cc
bare_expr_below n (x ∷ xs) (suc i) e h is = bare_expr_below n xs i e h.1 is

pub held_method_below : (n : ℕ) (things : List Thing) (i : ℕ) (r : ExprId × Method) → AreHeld n things → held_method (slice_get things i) ≡ Some r → r.0.0 < n
held_method_below n [] i r h is = cc
held_method_below n (thing.Value x ∷ xs) zero r h is = cc
held_method_below n (thing.Numbered of x ∷ xs) zero r h is = cc
held_method_below n (thing.View of x ∷ xs) zero r h is = cc
held_method_below n (thing.Layout x ∷ xs) zero r h is = cc
held_method_below n (thing.Enumeration x ∷ xs) zero r h is = cc
held_method_below n (thing.Member x ∷ xs) zero r h is = cc
held_method_below n (thing.Name x ∷ xs) zero r h is = cc
held_method_below n (thing.Shape x ∷ xs) zero r h is = cc
held_method_below n (thing.Array x ∷ xs) zero r h is = cc
held_method_below n (thing.Method of x m ∷ xs) zero r h is = let same : (x, m) ≡ r = cc in rw (← same) h.0
held_method_below n (thing.Kept x ∷ xs) zero r h is = cc
held_method_below n (x ∷ xs) (suc i) r h is = held_method_below n xs i r h.1 is

-- the number of a member is one of its shape
pub member_number : (n : ℕ) (things : List Thing) (i : ℕ) (m : Member) → AreHeld n things → shown_member (slice_get things i) ≡ Some m → IsNumber m
member_number n [] i m h is = cc
member_number n (thing.Member x ∷ xs) zero m h is = let same : x ≡ m = cc in rw (← same) h.0
member_number n (thing.Value x ∷ xs) zero m h is = cc
member_number n (thing.Numbered of x ∷ xs) zero m h is = cc
member_number n (thing.View of x ∷ xs) zero m h is = cc
member_number n (thing.Layout x ∷ xs) zero m h is = cc
member_number n (thing.Enumeration x ∷ xs) zero m h is = cc
member_number n (thing.Name x ∷ xs) zero m h is = cc
member_number n (thing.Shape x ∷ xs) zero m h is = cc
member_number n (thing.Array x ∷ xs) zero m h is = cc
member_number n (thing.Method of x k ∷ xs) zero m h is = cc
member_number n (thing.Kept x ∷ xs) zero m h is = cc
member_number n (x ∷ xs) (suc i) m h is = member_number n xs i m h.1 is

held_longer : (n k : ℕ) (t : Thing) → IsHeld n t → IsHeld (n + k) t
held_longer n k (thing.Value e) h = omega (arith, h)
held_longer n k (thing.Method of e m) h = omega (arith, h)
held_longer n k (thing.Numbered of e) h = omega (arith, h)
held_longer n k (thing.View of e) h = omega (arith, h)
held_longer n k (thing.Layout x) h = tt
held_longer n k (thing.Enumeration x) h = tt
held_longer n k (thing.Member m) h = h
held_longer n k (thing.Name x) h = tt
held_longer n k (thing.Shape x) h = tt
held_longer n k (thing.Array x) h = tt
held_longer n k (thing.Kept x) h = tt

held_both : (n k : ℕ) (things more : List Thing) → AreHeld n things → AreHeld (n + k) more → AreHeld (n + k) (things ++ more)
held_both n k [] more h g = g
held_both n k (t ∷ things) more h g = (held_longer n k t h.0, held_both n k things more h.1 g)

-- behind a plan that is carried out, each thing stands for an expression that is there
pub held_behind : (p : Pooled) (things : List Thing) (plan : Plan) → AreHeld (length p.exprs) things → IsDrafted p plan → AreHeld (length (grown_by p plan.exprs).exprs) (things ++ plan.things)
held_behind p things plan h d =
    let count : length (p.exprs ++ plan.exprs) ≡ length p.exprs + length plan.exprs = length-append p.exprs plan.exprs in
    rw count (held_both (length p.exprs) (length plan.exprs) things plan.things h d.things)
