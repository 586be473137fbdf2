-- The writes of a target, by those of the targets that it names.
use Rattle.std.specs.Prelude.{◌≡◌, refl, ℕ, ◌+◌, ◌-◌, min, nat_le, ◌==◌, ◌&&◌, if◌then◌else◌, List, [], ◌∷◌, ◌++◌, map, length, slice_get, Some}
use Rattle.std.specs.List.{flat_map, filter_map, enumerate_from}
use Rattle.std.proofs.Common.{ap}
use Rattle.shape_rules.specs.Forms.{Form}
use Rattle.design_ir.specs.declared.ids.ExprId.{ExprId}
use Rattle.design_ir.specs.declared.expr.Expr.{Expr}
use Rattle.design_ir.specs.declared.expr.Expr.TheVariants as expr
use Rattle.design_ir.specs.Named.{named}
use Rattle.design_ir.specs.Pools.{Pooled}
use Rattle.design_ir.specs.PoolRules.{IsPool}
use Rattle.design_ir.specs.Values.{form, signal_form}
use Rattle.design_ir.specs.Targets.{Numbers, numbers}
use Rattle.design_ir.proofs.Congruence.{AreSame, same_below}
use Rattle.design_ir.proofs.Equations.{standing, answer_at}
use Rattle.flat_design.specs.declared.writes.Write.{Write}
use Rattle.flat_design.specs.Writes.{cut, raised, tested, is_number, is_no_less, writes_of_all, parts_at, item_at, writes_step, writes}

joined_same : (forms : ℕ → Form) (f g : ℕ → List Write) (low : ℕ) (es : List ExprId) → AreSame f g es → writes_of_all forms f low es ≡ writes_of_all forms g low es
joined_same forms f g low [] h = refl
joined_same forms f g low (e ∷ es) h = λ i. map (raised low) (h.0 i) ++ joined_same forms f g (low + (forms e.0).width) es h.1 i

item_same : (n : Numbers) (index : ExprId) (last : ℕ) (f g : ℕ → List Write) (i : ℕ) (e : ExprId) → f e.0 ≡ g e.0 → item_at n index last f (i, e) ≡ item_at n index last g (i, e)
item_same n index last f g i e h =
    ap (λ ws. if nat_le (min n.least last) i && nat_le i n.greatest then map (tested n (if i == last then is_no_less index i else is_number index i)) ws else []) h

items_same : (n : Numbers) (index : ExprId) (last : ℕ) (f g : ℕ → List Write) (i : ℕ) (es : List ExprId) → AreSame f g es → flat_map (item_at n index last f) (enumerate_from i es) ≡ flat_map (item_at n index last g) (enumerate_from i es)
items_same n index last f g i [] h = refl
items_same n index last f g i (e ∷ es) h = λ j. item_same n index last f g i e h.0 j ++ items_same n index last f g (i + 1) es h.1 j

step_same : (sig_form forms : ℕ → Form) (nums : ℕ → Numbers) (f g : ℕ → List Write) (e : Expr) → AreSame f g (named e) → writes_step sig_form forms nums f e ≡ writes_step sig_form forms nums g e
step_same sig_form forms nums f g (expr.Sig s) h = refl
step_same sig_form forms nums f g (expr.Slice a low width) h = ap (filter_map (cut low width)) h.0
step_same sig_form forms nums f g (expr.Cat es) h = joined_same forms f g 0 es h
step_same sig_form forms nums f g (expr.Part a offset width stride) h = ap (parts_at (nums offset.0) offset (forms a.0).width width stride) h.0
step_same sig_form forms nums f g (expr.Pick index es) h = items_same (nums index.0) index (length es - 1) f g 0 es h.1
step_same sig_form forms nums f g (expr.Cast a signed) h = h.0
step_same sig_form forms nums f g (expr.Const n s) h = refl
step_same sig_form forms nums f g (expr.Unary o a) h = refl
step_same sig_form forms nums f g (expr.Binary o a b) h = refl
step_same sig_form forms nums f g (expr.Mux s a b) h = refl
step_same sig_form forms nums f g (expr.Matches a patterns) h = refl
step_same sig_form forms nums f g (expr.Reset domain place) h = refl

pub writes_is : (p : Pooled) (k : ℕ) (e : Expr) → IsPool p → slice_get p.exprs k ≡ Some e → writes p k ≡ writes_step (signal_form p.signals) (form p) (numbers p) (writes p) e
unfolding writes
writes_is p k e h is =
    let names = (standing p k e h is).names in
    answer_at [] (writes_step (signal_form p.signals) (form p) (numbers p)) p.exprs k e is (λ f g same. step_same (signal_form p.signals) (form p) (numbers p) f g e (same_below f g k (named e) same names))
