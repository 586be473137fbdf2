use Rattle.std.proofs.Common.{◌||◌, ◌<◌, length, ap, sym, ◌∙◌, subst}
use Rattle.std.specs.List.{AllByRecursion, flat_map}
use Rattle.design_ir.specs.Circuits.{is_among}
use Rattle.design_ir.specs.Targets.{target_signals}
use Rattle.fragment_walks.specs.Marks.{is_marked}
use Rattle.fragment_walks.specs.Reads.{block_targets}
use Rattle.fragment_walks.proofs.Markings.{marked_at}
use Rattle.clock_domains.proofs.DriverLaws.{driven_flat}
use Rattle.domain_transforms.proofs.DrivenLaws.{size_after, targets_low}
use Rattle.domain_transforms.proofs.driven.driven_marks.Goals as goal

pub returns-clause-size : goal.returns-clause-size
returns-clause-size c = size_after (flat_map (target_signals c.args.pool.now) (block_targets c.args.body.now)) c.in_ok-marks.marks.items c.mark_block.new.marks.items c.mark_block.ensures c.in_ok-marks.ensures.size

pub returns-clause-each : goal.returns-clause-each
returns-clause-each c = λ s.
    let q = c.args.pool.now in
    let ns = flat_map (target_signals q) (block_targets c.args.body.now) in
    let low : AllByRecursion (λ n. n < length c.in_ok-marks.marks.items) ns = subst (λ m. AllByRecursion (λ n. n < m) ns) (sym c.in_ok-marks.ensures.size) (targets_low q (block_targets c.args.body.now) c.count.ensures.rules) in
    ap (λ ms. is_marked ms s) c.mark_block.ensures ∙ marked_at ns c.in_ok-marks.marks.items s low ∙ ap (λ b. b || is_among ns s) (c.in_ok-marks.ensures.each s) ∙ ap (λ ss. is_among ss s) (sym (driven_flat q c.args.body.now))
