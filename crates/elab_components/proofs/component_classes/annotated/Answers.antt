use Rattle.std.proofs.Common.{◌∙◌, ◌<◌, sym, ap, arith, true, length, drop, map, string_bytes}
use Rattle.std.proofs.lemmas.List.{at_drop_all, length-drop, length-map}
use Rattle.elab_components.specs.ComponentClasses.{annotated, behind_members}
use Rattle.elab_components.proofs.ComponentLaws.{annotated_short}
use Rattle.elab_components.proofs.component_classes.annotated.Goals as goal

pub returns-then-i-vals : goal.returns-then-i-vals
returns-then-i-vals c =
    let s = c.args.store.now in
    let i = c.loop-i.i in
    let names = map string_bytes (drop i c.args.names.now) in
    let some : 0 < length names = simp (length-map, length-drop) (omega arith) in
    sym (ap (behind_members true c.loop-i.members)
    (at_drop_all (λ vs. annotated s vs names) c.args.vals.now i (omega arith) ∙ annotated_short s names some))
    ∙ c.loop-i.invariant
