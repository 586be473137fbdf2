use Rattle.std.proofs.Common.{◌≡◌, ◌∙◌, ◌<◌, ◌+◌, true, false, length, is_some, sym, ap, arith}
use Rattle.std.specs.BTreeMap.{get_by_text}
use Rattle.fragment_walks.specs.Held.{held_resets, is_within}
use Rattle.fragment_walks.specs.Holders.{all_roots}
use Rattle.clock_domains.specs.Resolved.{reset_refusal}
use Rattle.clock_domains.proofs.PlacingLaws.{calls_all, calls_to, held_is, refusal_held, refusal_other, refusal_told, stop_owed}
use Rattle.clock_domains.proofs.placing.no_missing_reset.Goals as goal
use Rattle.clock_domains.proofs.placing.no_missing_reset.Goals.{then-is_some+in_default, else-is_some}

pub returns-in-Some-clause-refused : goal.returns-in-Some-clause-refused
returns-in-Some-clause-refused g c =
    let q = c.args.pool.now in
    let roots = all_roots g.roots in
    let ds = c.args.definitions.now in
    let k = c.loop-k.k in
    let e = c.at.result.now in
    let low : k < length q.exprs = omega (arith, c.loop-k-test.true, c.count-k-end.ensures.value) in
    let here : is_within q roots k ≡ true = sym (held_is q g.roots c.args.holders.now k c.requires.0 low) ∙ sym c.is_some.ensures ∙ c.if-is_some.true in
    let told = refusal_held ds (get_by_text c.in_ok-lacking.lacking) q roots k e c.in_ok-lacking.ensures c.at.ensures here c.loop-k.invariant ∙ sym c.place_stop.ensures ∙ c.in-Some.is in
    stop_owed (get_by_text c.in_ok-lacking.lacking) e (reset_refusal ds (held_resets q roots)) c.in-Some.stop (sym c.place_stop.ensures ∙ c.in-Some.is) (refusal_told ds q roots (k + 1) c.in-Some.stop (omega (arith, low)) told)

pub loop-k-preserved : goal.loop-k-preserved
loop-k-preserved g c =
    let q = c.args.pool.now in
    let roots = all_roots g.roots in
    let ds = c.args.definitions.now in
    let k = c.loop-k.k in
    let low : k < length q.exprs = omega (arith, c.loop-k-test.true, c.count-k-end.ensures.value) in
    let held = held_is q g.roots c.args.holders.now k c.requires.0 low in
    elim c.if-is_some.branch [
      | then-is_some+in_default w ↦
          refusal_held ds (get_by_text c.in_ok-lacking.lacking) q roots k w.at.result.now c.in_ok-lacking.ensures w.at.ensures (sym held ∙ sym c.is_some.ensures ∙ w.if-is_some.true) c.loop-k.invariant ∙ sym w.place_stop.ensures ∙ w.in_default.is
      | else-is_some w ↦ refusal_other ds q roots k (sym held ∙ sym c.is_some.ensures ∙ w.if-is_some.false) c.loop-k.invariant
    ]

pub returns-clause-accepted : goal.returns-clause-accepted
returns-clause-accepted g c =
    let q = c.args.pool.now in
    let roots = all_roots g.roots in
    let ds = c.args.definitions.now in
    let end : c.loop-k.k ≡ length q.exprs = omega (arith, c.loop-k-test.false, c.loop-k.auto.k-end, c.count-k-end.ensures.value) in
    sym (ap (reset_refusal ds) (ap (calls_to q roots) end ∙ calls_all q roots)) ∙ c.loop-k.invariant
