-- A signal that is made before its shape is known, and settled later.
use Rattle.std.specs.Prelude.{◌≡◌, ℕ, zero, suc, ◌+◌, ◌<◌, nat_lt, ◌==◌, Bool, true, false, if◌then◌else◌, List, [], ◌∷◌, length, slice_get, ℤ, Option, Some}
use Rattle.std.specs.List.{list_any}
use Rattle.shape_rules.specs.Forms.{Form}
use Rattle.design_ir.specs.declared.ids.ExprId.{ExprId}
use Rattle.design_ir.specs.declared.signal.Sig.{Sig}
use Rattle.design_ir.specs.declared.expr.Expr as expr
use Rattle.design_ir.specs.declared.expr.Expr.{Expr}
use Rattle.design_ir.specs.declared.expr.Expr.TheVariants.{Matches}
use Rattle.design_ir.specs.declared.refusal.PoolStop.{PoolStop}
use Rattle.design_ir.specs.Named.{named}
use Rattle.design_ir.specs.Pools.{Pooled}
use Rattle.design_ir.specs.PoolRules.{limit_where, signal_bits}
use Rattle.design_ir.specs.Values.{signal_form}

-- the expression is this signal
abbrev pub is_signal : ℕ → Expr → Bool
is_signal s (expr.TheVariants.Sig t) = t.0 == s
is_signal s e = false

abbrev pub is_match : Expr → Bool
is_match (Matches a patterns) = true
is_match e = false

-- the expression names the one at this place
abbrev pub names_place : Expr → ℕ → Bool
names_place e k = list_any (λ (a : ExprId). a.0 == k) (named e)

-- the signal has no bits yet, and whatever stands over it is a `Matches`
pub record IsUnsettled (p : Pooled) (s : ℕ) : Type 0 where
  pub there : s < length p.signals
  pub empty : (signal_form p.signals s).width ≡ 0
  pub over : (k j : ℕ) (e x : Expr) → slice_get p.exprs k ≡ Some e → slice_get p.exprs j ≡ Some x → is_signal s x ≡ true → names_place e j ≡ true → is_match e ≡ true

-- the signal with a shape and an init, and the same name
abbrev pub settled_at : List Sig → ℕ → Form → ℤ → List Sig
settled_at [] s f n = []
settled_at (x ∷ xs) zero f n = record x { shape = f; init = n } ∷ xs
settled_at (x ∷ xs) (suc s) f n = x ∷ settled_at xs s f n

abbrev pub signal_settled : Pooled → ℕ → Form → ℤ → Pooled
signal_settled p s f n = record p { signals = settled_at p.signals s f n }

-- the bits of all signals would be too many
abbrev pub settle_refusal : Pooled → ℕ → Option PoolStop
settle_refusal p width = limit_where (nat_lt 262144 (signal_bits p.signals + width))

-- the shapes of expressions where this signal has another
abbrev pub reshaped : ℕ → Form → List Expr → List Form → List Form
reshaped s f [] forms = forms
reshaped s f (e ∷ es) [] = []
reshaped s f (e ∷ es) (g ∷ gs) = (if is_signal s e then f else g) ∷ reshaped s f es gs
