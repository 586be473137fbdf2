use Rattle.std.proofs.Common.{◌<◌, ◌++◌, ◌∙◌, length, ap, sym, subst}
use Rattle.std.specs.List.{AllByRecursion, flat_map}
use Rattle.design_ir.specs.declared.domain.Domain.{Domain}
use Rattle.fragment_walks.proofs.Lists.{all_joined}
use Rattle.fragment_walks.proofs.Markings.{length_marked}
use Rattle.clock_domains.specs.Resolvable.{top_inputs}
use Rattle.clock_domains.specs.Resolved.{domain_inputs}
use Rattle.clock_domains.proofs.PortLaws.{domains_low, inputs_low, marking_both, marking_flag, small_inputs}
use Rattle.clock_domains.proofs.ports.mark_design_inputs.Goals as goal

pub mark_domains-requires : goal.mark_domains-requires
mark_domains-requires c =
    subst (λ n. AllByRecursion (λ (d : Domain). AllByRecursion (λ s. s < n) (domain_inputs d)) c.args.domains.now) (sym c.in_ok-marks.ensures.size)
    (domains_low c.args.pool.now 16384 c.args.domains.now c.count.ensures.rules.few_signals c.requires.domains)

pub mark_members-requires-clause-size : goal.mark_members-requires-clause-size
mark_members-requires-clause-size c = ap length c.mark_domains.ensures ∙ length_marked (flat_map domain_inputs c.args.domains.now) c.in_ok-marks.marks.items ∙ c.in_ok-marks.ensures.size

pub returns : goal.returns
returns c =
    let q = c.args.pool.now in
    let ds = c.args.domains.now in
    let own = flat_map domain_inputs ds in
    let inputs = top_inputs c.args.top.now in
    let old = c.in_ok-marks.marks.items in
    let new = c.mark_members.new.marks.items in
    let few = c.count.ensures.rules.few_signals in
    let low = all_joined (λ s. s < 16384) own inputs (small_inputs 16384 ds (domains_low q 16384 ds few c.requires.domains)) (inputs_low q c.args.top.now few c.requires.top) in
    marking_flag old (own ++ inputs) new c.in_ok-marks.ensures.size c.in_ok-marks.ensures.each low (marking_both own inputs old c.mark_domains.new.marks.items new c.mark_domains.ensures c.mark_members.ensures)
