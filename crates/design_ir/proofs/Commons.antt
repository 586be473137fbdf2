-- The shape of all of several expressions is no narrower than that of some of them.
use Rattle.std.specs.Prelude.{◌≡◌, refl, ℕ, ◌+◌, ◌<◌, ◌≤◌, Bool, true, false, List, [], ◌∷◌, Some, None}
use Rattle.std.proofs.Common.{sym, ◌∙◌, arith, ⊎_elim, length, drop, get_or}
use Rattle.std.proofs.lemmas.List.{at_drop_more}
use Rattle.std.proofs.lemmas.Bool.{cond_below, cond_above, cases_lt}
use Rattle.shape_rules.specs.Forms.{Form, common, common_width}
use Rattle.design_ir.specs.declared.ids.ExprId.{ExprId}
use Rattle.design_ir.specs.declared.refusal.PoolStop.{PoolStop}
use Rattle.design_ir.specs.declared.refusal.PoolStop.TheVariants.{Width}
use Rattle.design_ir.specs.PoolRules.{shape_stop}
use Rattle.design_ir.specs.Values.{common_with}

left_fits : (s t : Bool) (a b : ℕ) → a ≤ common_width s t a b
left_fits false false a b = omega arith
left_fits false true a b = omega arith
left_fits true false a b = omega arith
left_fits true true a b = omega arith

pub common_with_grows : (form : ℕ → Form) (f : Form) (es : List ExprId) → f.width ≤ (common_with form f es).width
common_with_grows form f [] = omega arith
common_with_grows form f (e ∷ es) =
    omega (arith, left_fits f.signed (form e.0).signed f.width (form e.0).width, common_with_grows form (common f (form e.0)) es)

-- a width that stops goes on to stop where it grows
stop_wider : (v w : ℕ) (stop : PoolStop) → v ≤ w → shape_stop false v ≡ Some stop → shape_stop false w ≡ Some stop
stop_wider v w stop h e =
    ⊎_elim
    (λ lt. sym (cond_below 128 w (Some Width) None (omega (arith, h, lt))) ∙ cond_below 128 v (Some Width) None lt ∙ e)
    (λ ge. let none : None ≡ Some stop = cond_above 128 v (Some Width) None None ge refl ∙ e in cc)
    (cases_lt 128 v)

pub stop_grows : (form : ℕ → Form) (f : Form) (es : List ExprId) (stop : PoolStop) → shape_stop false f.width ≡ Some stop → shape_stop false (common_with form f es).width ≡ Some stop
stop_grows form f es stop e = stop_wider f.width (common_with form f es).width stop (common_with_grows form f es) e

-- where the next of several expressions stops it, so do all of them
pub stop_at : (form : ℕ → Form) (f : Form) (es : List ExprId) (i : ℕ) (e : ExprId) (g total : Form) (stop : PoolStop) → i < length es → common_with form f (drop i es) ≡ total → g ≡ form (get_or es i e).0 → shape_stop false (common f g).width ≡ Some stop → shape_stop false total.width ≡ Some stop
stop_at form f es i e g total stop h all here no_more =
    let rest : common_with form f (drop i es) ≡ common_with form (common f (form (get_or es i e).0)) (drop (i + 1) es) = at_drop_more (common_with form f) es i e h in
    rw (← all, rest, ← here) (stop_grows form (common f g) (drop (i + 1) es) stop no_more)
