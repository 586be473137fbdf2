use Rattle.std.proofs.Common.{◌≡◌, ◌∙◌, ◌<◌, ◌≤◌, List, true, false, Some, length, slice_get, sym, ap, subst, arith}
use Rattle.design_ir.specs.declared.expr.Expr.{Expr}
use Rattle.design_ir.specs.Pools.{Pooled}
use Rattle.design_ir.specs.Placing.{reset_placed}
use Rattle.design_ir.specs.Values.{signal_form}
use Rattle.shape_rules.specs.Forms.{unsigned}
use Rattle.clock_domains.specs.Placing.{placed_signal}
use Rattle.clock_domains.proofs.PlacedLaws.{placed_length, reset_bit}
use Rattle.clock_domains.proofs.PlacingLaws.{has_holder, placed_first, placed_stays, placed_turns, placed_last, turn_get, turn_is, up_to}
use Rattle.clock_domains.proofs.placing.place_resets.Goals as goal
use Rattle.clock_domains.proofs.placing.place_resets.Goals.{in-Some, in_default}

pub loop-k-init : goal.loop-k-init
loop-k-init c =
    let q = c.args.pool.now in
    sym (ap (λ (es : List Expr). record q { exprs = es }) (placed_first c.args.domains.now (has_holder c.args.holders.now) q.exprs))

pub placed_signal-requires-clause-there : goal.placed_signal-requires-clause-there
placed_signal-requires-clause-there c =
    let q = c.args.pool.now in
    let ds = c.args.domains.now in
    let size : length c.loop-k.pool.exprs ≡ length q.exprs = ap (λ (p : Pooled). length p.exprs) c.loop-k.invariant ∙ placed_length ds (up_to ds (has_holder c.args.holders.now) c.loop-k.k) 0 q.exprs in
    omega (arith, size, c.loop-k-test.true, c.count-k-end.ensures.value)

pub placed_signal-requires-clause-size : goal.placed_signal-requires-clause-size
placed_signal-requires-clause-size c =
    let q = c.args.pool.now in
    let ds = c.args.domains.now in
    let size : length c.loop-k.pool.exprs ≡ length q.exprs = ap (λ (p : Pooled). length p.exprs) c.loop-k.invariant ∙ placed_length ds (up_to ds (has_holder c.args.holders.now) c.loop-k.k) 0 q.exprs in
    c.requires.size ∙ sym size

pub place_reset-requires-clause-there : goal.place_reset-requires-clause-there
place_reset-requires-clause-there c =
    let q = c.args.pool.now in
    let ds = c.args.domains.now in
    let holders = c.args.holders.now in
    let k = c.loop-k.k in
    let s = c.in-Some.s in
    let is = sym (ap (λ (p : Pooled). placed_signal ds (has_holder holders k) (slice_get p.exprs k)) c.loop-k.invariant) ∙ sym c.placed_signal.ensures ∙ c.in-Some.is in
    let turn = turn_is ds (has_holder holders) q.exprs k s is in
    let bit = reset_bit q ds turn.signal.domain s c.requires.domains turn.signal.signal in
    subst (λ (p : Pooled). s.0 < length p.signals) (sym c.loop-k.invariant) bit.there

pub place_reset-requires-clause-bit : goal.place_reset-requires-clause-bit
place_reset-requires-clause-bit c =
    let q = c.args.pool.now in
    let ds = c.args.domains.now in
    let holders = c.args.holders.now in
    let k = c.loop-k.k in
    let s = c.in-Some.s in
    let is = sym (ap (λ (p : Pooled). placed_signal ds (has_holder holders k) (slice_get p.exprs k)) c.loop-k.invariant) ∙ sym c.placed_signal.ensures ∙ c.in-Some.is in
    let turn = turn_is ds (has_holder holders) q.exprs k s is in
    let bit = reset_bit q ds turn.signal.domain s c.requires.domains turn.signal.signal in
    subst (λ (p : Pooled). signal_form p.signals s.0 ≡ unsigned 1) (sym c.loop-k.invariant) bit.form

pub loop-k-preserved : goal.loop-k-preserved
loop-k-preserved c =
    let q = c.args.pool.now in
    let ds = c.args.domains.now in
    let holders = c.args.holders.now in
    let k = c.loop-k.k in
    let inv = c.loop-k.invariant in
    let told = sym (ap (λ (p : Pooled). placed_signal ds (has_holder holders k) (slice_get p.exprs k)) inv) ∙ sym c.placed_signal.ensures in
    elim c.match-placed_signal.branch [
      | in-Some w ↦
          let turn = turn_is ds (has_holder holders) q.exprs k w.in-Some.s (told ∙ w.in-Some.is) in
          w.pool-is ∙ w.place_reset.ensures ∙ ap (λ (p : Pooled). reset_placed p k w.in-Some.s) inv
          ∙ ap (λ (es : List Expr). record q { exprs = es }) (placed_turns ds (has_holder holders) q.exprs k w.in-Some.s turn)
      | in_default w ↦ w.pool-is ∙ inv ∙ ap (λ (es : List Expr). record q { exprs = es }) (placed_stays ds (has_holder holders) q.exprs k (told ∙ w.in_default.is))
    ]

pub place_reset-requires-clause-reset : goal.place_reset-requires-clause-reset
place_reset-requires-clause-reset c =
    let q = c.args.pool.now in
    let ds = c.args.domains.now in
    let holders = c.args.holders.now in
    let k = c.loop-k.k in
    let s = c.in-Some.s in
    let inv = c.loop-k.invariant in
    let is = sym (ap (λ (p : Pooled). placed_signal ds (has_holder holders k) (slice_get p.exprs k)) inv) ∙ sym c.placed_signal.ensures ∙ c.in-Some.is in
    let turn = turn_is ds (has_holder holders) q.exprs k s is in
    record {
      domain = turn.signal.domain;
      place = turn.signal.place;
      stands = ap (λ (p : Pooled). slice_get p.exprs k) inv ∙ turn_get ds (has_holder holders) q.exprs k ∙ turn.stands ∙ ap Some turn.signal.reset;
    }

pub returns : goal.returns
returns c =
    let q = c.args.pool.now in
    let past : length q.exprs ≤ c.loop-k.k = omega (arith, c.loop-k-test.false, c.count-k-end.ensures.value) in
    c.loop-k.invariant ∙ ap (λ (es : List Expr). record q { exprs = es }) (placed_last c.args.domains.now (has_holder c.args.holders.now) q.exprs c.loop-k.k past)
