use Rattle.std.proofs.Common.{◌≡◌, ◌≤◌, ◌*◌, ◌∙◌, ap, sym, subst}
use Rattle.shape_rules.specs.Forms.{unsigned}
use Rattle.design_ir.specs.Rows.{granules}
use Rattle.sim_plans.proofs.Granules.{fill, narrow_of}
use Rattle.sim_plans.proofs.written.written.Goals as goal

pub to_bits-requires : goal.to_bits-requires
to_bits-requires c =
    let d = c.args.design.now in
    let w = c.args.w.now in
    subst (λ n. n ≤ 128) (sym c.granules-count.ensures) (narrow_of d c.count.ensures.rules (unsigned (granules c.args.m.now w)) w.enable c.requires.port.enable)

pub enabled-mask-requires-clause-narrow : goal.enabled-mask-requires-clause-narrow
enabled-mask-requires-clause-narrow c =
    let d = c.args.design.now in
    let m = c.args.m.now in
    let w = c.args.w.now in
    let all : w.granularity * c.granules-count.result ≡ m.shape.width = ap (λ n. w.granularity * n) c.granules-count.ensures ∙ fill m w c.requires.port.granularity in
    subst (λ n. n ≤ 128) (sym all) (narrow_of d c.count.ensures.rules m.shape w.word c.requires.port.word)
