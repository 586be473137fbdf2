use Rattle.std.proofs.Common.{◌≡◌, ◌∙◌, ◌+◌, Bool, false, take, sym, subst}
use Rattle.std.specs.BTreeMap.{get_by_text}
use Rattle.lib_wiring.specs.declared.leaf.WireStop.{WireStop}
use Rattle.lib_wiring.specs.declared.leaf.WireStop.TheVariants.{Unconnectable}
use Rattle.lib_wiring.specs.Wiring.{all_meet, first_leaves}
use Rattle.lib_wiring.specs.Places.{AreLinked, IsApart}
use Rattle.lib_wiring.proofs.LinkSteps.{first_looked_up, linked_past, linked_more, apart}
use Rattle.lib_wiring.proofs.wires.link_all.Goals as goal
use Rattle.lib_wiring.proofs.wires.link_all.Goals.{then-is_first+in-Ok+in_ok-add, else-is_first}

is_apart : (met : Bool) (stop : WireStop) → stop ≡ Unconnectable → met ≡ false → IsApart met stop
is_apart met stop e h = subst (IsApart met) (sym e) h

pub returns-in-Err-clause-apart : goal.returns-in-Err-clause-apart
returns-in-Err-clause-apart c =
    let sigs = c.args.pool.now.signals in
    is_apart (all_meet sigs (first_leaves c.args.first.now) c.args.second.now) c.in-Err.stop c.in-Err.ensures.0
    (apart sigs c.args.first.now c.args.second.now (get_by_text c.args.firsts.now) c.as_str.result.now c.loop-i.i c.index-first-i.result c.requires.firsts (sym c.if-is_first.true ∙ c.is_first.ensures) c.as_str.ensures c.index-first-i.is c.in-Err.ensures.1)

pub loop-i-preserved : goal.loop-i-preserved
loop-i-preserved c =
    let sigs = c.args.pool.now.signals in
    let first = c.args.first.now in
    let second = c.args.second.now in
    let i = c.loop-i.i in
    let x = c.index-first-i.result in
    let counts = first_looked_up first (get_by_text c.args.firsts.now) c.as_str.result.now i x c.is_first.result c.requires.firsts c.is_first.ensures c.as_str.ensures c.loop-i-test.true c.index-first-i.is in
    elim c.if-is_first.branch [
      | then-is_first+in-Ok+in_ok-add w ↦
          subst (AreLinked sigs (first_leaves (take (i + 1) first)) second) (sym (w.links-is ∙ w.in_ok-add.ensures.ok))
          (linked_more sigs first second c.loop-i.links i x w.in-Ok.link c.loop-i-test.true c.index-first-i.is (sym w.if-is_first.true ∙ counts) w.in-Ok.ensures c.loop-i.invariant)
      | else-is_first w ↦
          subst (AreLinked sigs (first_leaves (take (i + 1) first)) second) (sym w.links-is) (linked_past sigs first second c.loop-i.links i x c.loop-i-test.true c.index-first-i.is (sym w.if-is_first.false ∙ counts) c.loop-i.invariant)
    ]
