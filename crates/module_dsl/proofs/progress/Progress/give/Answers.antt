use Rattle.std.proofs.Common.{◌≡◌, ◌+◌, false, length, map, refl, sym, ap, ◌∙◌, arith}
use Rattle.std.proofs.lemmas.List.{length-map, with_items_is}
use Rattle.std.specs.Vec.{with_items}
use Rattle.module_dsl.specs.declared.progress.Progress.{Progress}
use Rattle.module_dsl.specs.Blocks.{Open}
use Rattle.module_dsl.specs.Progress.{touched, with_side}
use Rattle.module_dsl.proofs.ProgressSteps.{given-is}
use Rattle.module_dsl.proofs.progress.Progress.give.Goals as goal

pub returns-clause-given : goal.returns-clause-given
returns-clause-given c = λ b g h i e count.
    let p = c.args.self.now in
    let depth : c.len.result ≡ length b.around = omega (arith, ap length h.open_blocks, length-map b.around (λ (o : Open). o.block), p.blocks.ok, c.len.ensures) in
    let sides : c.touch.new.sides ≡ map (touched g.side (length b.around)) (with_side g.side p.sides.items) =
    c.touch.ensures ∙ ap (λ n. map (touched c.args.side.now n) c.as_mut_slice.result.now) depth ∙ ap (map (touched c.args.side.now (length b.around))) (c.as_mut_slice.ensures.value ∙ c.in_ok-with_side.ensures.added)
    ∙ ap (λ s. map (touched s (length b.around)) (with_side s p.sides.items)) (sym e) in
    let p' : Progress = record { sides = with_items c.with_side.new.sides c.touch.new.sides; blocks = p.blocks; goes_on = false; statements = p.statements + c.args.added } in
    let written : p'.sides.items ≡ c.touch.new.sides = with_items_is c.with_side.new.sides c.touch.new.sides (omega (arith, ap length c.touch.ensures, length-map c.as_mut_slice.result.now (touched c.args.side.now c.len.result), ap length c.as_mut_slice.ensures.value, c.with_side.new.sides.ok.0)) in
    given-is b g h.proper i p p' h (written ∙ sides) refl refl (sym count)
