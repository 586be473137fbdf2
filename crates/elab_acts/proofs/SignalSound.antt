-- What is held stays sound where a signal is made.
use Rattle.std.proofs.Common.{◌≡◌, refl, Bool, true, false, cond, [], ◌∷◌, length, arith}
use Rattle.std.proofs.lemmas.List.{length-append}
use Rattle.lists.specs.Names.{IsName}
use Rattle.py_frames.specs.declared.request.Cause.TheVariants.{Limit}
use Rattle.design_ir.specs.declared.signal.Sig.{Sig}
use Rattle.design_ir.specs.declared.expr.Expr.{Expr}
use Rattle.design_ir.specs.declared.expr.Expr.TheVariants as expr
use Rattle.amh_things.specs.declared.thing.Reading.{Reading}
use Rattle.amh_things.specs.Things.{read_as}
use Rattle.elab_store.specs.Stores.{Held, Answered, refused, thing_given}
use Rattle.elab_store.specs.Sound.{IsSound}
use Rattle.elab_components.specs.Signals.{with_signal}
use Rattle.elab_acts.proofs.GrownLaws.{pool_grown, things_grown, read_held}

-- the answer where no count is passed
abbrev pub unlimited : Reading → Sig → Held → Answered
unlimited r x h = thing_given (read_as r (record { 0 = length h.pool.exprs })) (with_signal x h)

pub unlimited_sound : (r : Reading) (x : Sig) (h : Held) → IsName x.name → IsSound h → IsSound (unlimited r x h).held
unlimited_sound r x h name s =
    let e : Expr = expr.Sig (record { 0 = length h.pool.signals }) in
    things_grown (with_signal x h) (read_as r (record { 0 = length h.pool.exprs }) ∷ [])
    (pool_grown h (with_signal x h).pool (x ∷ []) (e ∷ []) s refl refl (name, tt))
    (read_held (length (with_signal x h).pool.exprs) r (record { 0 = length h.pool.exprs }) (omega (arith, length-append h.pool.exprs (e ∷ []))), tt)

pub limited_sound : (b : Bool) (r : Reading) (x : Sig) (h : Held) → IsName x.name → IsSound h → IsSound (cond b (refused Limit h) (unlimited r x h)).held
limited_sound true r x h name s = s
limited_sound false r x h name s = unlimited_sound r x h name s
