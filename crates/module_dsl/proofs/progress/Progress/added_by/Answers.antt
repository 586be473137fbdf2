use Rattle.std.proofs.Common.{◌≡◌, length, sym, ap, ◌∙◌, arith}
use Rattle.std.proofs.lemmas.List.{length-map}
use Rattle.module_dsl.specs.Blocks.{Open}
use Rattle.module_dsl.specs.Progress.{kept_reach}
use Rattle.module_dsl.proofs.ProgressSteps.{added-is}
use Rattle.module_dsl.proofs.progress.Progress.added_by.Goals as goal

pub returns : goal.returns
returns c = λ b g h i e.
    let p = c.args.self.now in
    let known : length p.blocks.items ≡ length b.around = ap length h.open_blocks ∙ length-map b.around (λ (o : Open). o.block) in
    let depth : c.len-depth.result ≡ length b.around = omega (arith, known, p.blocks.ok, c.len-depth.ensures) in
    let reaches : c.reach_of.result ≡ kept_reach g.side p.sides.items = c.reach_of.ensures ∙ ap (λ xs. kept_reach c.args.side.now xs) c.as_slice.ensures.value ∙ ap (λ s. kept_reach s p.sides.items) (sym e) in
    omega (arith, added-is b g p c.reach_of.result h i reaches, depth, c.min-reach.ensures)
